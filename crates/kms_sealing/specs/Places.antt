-- The keys of a project among all wrapped keys.
use Rattle.std.specs.Prelude.{◌≡◌, ℕ, ◌≤◌, Bool, List, Some}
use Rattle.std.specs.List.{AllByRecursion, list_any}
use Rattle.std.specs.Str.{bytes_eq}
use Rattle.kms_record.specs.declared.key.WrappedKey.{WrappedKey}
use Rattle.kms_kept.specs.Kept.{key_of}

-- the project has a key
abbrev pub has_key : (project : List ℕ) → List WrappedKey → Bool
has_key project rows = list_any (λ (row : WrappedKey). bytes_eq project row.project) rows

-- This is the project's key of the greatest number.
pub record IsLatest (project : List ℕ) (rows : List WrappedKey) (latest : WrappedKey) : Type 0 where
  pub there : key_of project latest.number rows ≡ Some latest
  pub greatest : AllByRecursion (λ (row : WrappedKey). project ≡ row.project → row.number ≤ latest.number) rows
