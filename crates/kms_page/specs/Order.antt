-- The order of secrets by a query's keys.
use Rattle.std.specs.Prelude.{ℕ, Bool, true, false, List, [], ◌∷◌}
use Rattle.std.specs.Option.{option_cmp}
use Rattle.std.specs.List.{slice_get}
use Rattle.std.specs.Cmp.Lexicographic.{slice_cmp}
use Rattle.std.specs.declared.cmp.Ordering.{Ordering}
use Rattle.std.specs.declared.cmp.Ordering.TheVariants.{Equal}
use Rattle.std.specs.Ordering.{nat_cmp, then_cmp, flip_args}
use Rattle.kms_world.specs.SecretKind.{word_of}
use Rattle.kms_world.specs.declared.secret.SecretRow.{SecretRow}
use Rattle.kms_page.specs.declared.sorts.SortKey.{SortKey}
use Rattle.kms_page.specs.declared.sorts.SortKey.TheVariants.{Name, Alg, Bits, Mode, SecretType, Created, Updated, Expiration}

-- texts go by their bytes
abbrev pub text_cmp : List ℕ → List ℕ → Ordering
text_cmp = slice_cmp nat_cmp

-- two secrets by one key; absent values come first
abbrev pub key_cmp : SortKey → SecretRow → SecretRow → Ordering
key_cmp Name a b = option_cmp text_cmp a.name b.name
key_cmp Alg a b = option_cmp text_cmp a.algorithm b.algorithm
key_cmp Bits a b = option_cmp nat_cmp a.bit_length b.bit_length
key_cmp Mode a b = option_cmp text_cmp a.mode b.mode
key_cmp SecretType a b = text_cmp (word_of a.kind) (word_of b.kind)
key_cmp Created a b = nat_cmp a.created b.created
key_cmp Updated a b = nat_cmp a.updated b.updated
key_cmp Expiration a b = option_cmp nat_cmp a.expiration b.expiration

-- true is descending
abbrev pub sort_cmp : SortKey × Bool → SecretRow → SecretRow → Ordering
sort_cmp (key, false) = key_cmp key
sort_cmp (key, true) = flip_args (key_cmp key)

-- by the first key that tells them apart
abbrev pub row_cmp : List (SortKey × Bool) → SecretRow → SecretRow → Ordering
row_cmp [] a b = Equal
row_cmp (sort ∷ sorts) a b = then_cmp (sort_cmp sort) (row_cmp sorts) a b

-- two places by their rows
abbrev pub place_cmp : List SecretRow → List (SortKey × Bool) → ℕ → ℕ → Ordering
place_cmp rows sorts p q = option_cmp (row_cmp sorts) (slice_get rows p) (slice_get rows q)
