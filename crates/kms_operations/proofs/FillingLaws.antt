-- A page that is filled row by row.
use Rattle.std.proofs.Common.{Bool, List, All}
use Rattle.std.specs.Prelude.{drop, filter}
use Rattle.std.specs.List.{AllByRecursion}
use Rattle.std.proofs.lemmas.List.Elements.{All-drop, All-filter, All-from_recursion, All-take}
use Rattle.kms_page.specs.declared.query.Query.{Query}
use Rattle.kms_model.specs.Lists.{cut}

-- what holds of all rows holds of those on a page
pub all_cut : {X : Type 0} (P : X → Type 0) (test : X → Bool) (query : Query) (rows : List X) → AllByRecursion P rows → All P (cut query (filter test rows))
all_cut P test query rows each =
    All-take P query.limit (drop query.offset (filter test rows)) (All-drop P query.offset (filter test rows) (All-filter test P rows (All-from_recursion P rows each)))
