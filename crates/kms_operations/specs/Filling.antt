-- Pages that are filled row by row.
use Rattle.std.specs.Prelude.{◌≡◌, ℕ, ◌-◌, ◌&&◌, nat_le, nat_lt, Bool, List, length, filter}
use Rattle.kms_page.specs.declared.query.Query.{Query}
use Rattle.kms_model.specs.Lists.{cut}

-- a row before which so many are shown stands on the page
abbrev pub is_on_page : Query → (before : ℕ) → Bool
is_on_page query before = nat_le query.offset before && nat_lt (before - query.offset) query.limit

-- the page holds those of the rows that pass and stand on it, and so many pass in all
pub record IsFilled {X : Type 0} (test : X → Bool) (query : Query) (rows page : List X) (total : ℕ) : Type 0 where
  pub cut : page ≡ cut query (filter test rows)
  pub count : total ≡ length (filter test rows)
