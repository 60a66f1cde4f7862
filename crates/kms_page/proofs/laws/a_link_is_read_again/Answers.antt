use Rattle.kms_page.proofs.LinkLaws.{link_again}
use Rattle.kms_page.proofs.laws.a_link_is_read_again.Goals as goal

pub returns : goal.returns
returns c = link_again c.args.listing c.args.text.now c.args.query.now c.args.offset c.requires.read c.requires.offset_in_range
