use Rattle.std.proofs.Common.{refl}
use Rattle.kms_page.specs.Page.{page_from}
use Rattle.kms_page.proofs.WalkLaws.{all_pages}
use Rattle.kms_page.proofs.laws.pages_are_the_list.Goals as goal

pub returns : goal.returns
unfolding page_from
returns c n enough = all_pages c.args.places.now (page_from c.args.places.now) c.args.query.now (λ offset. refl) n enough
