-- The order of secrets is a total order.
use Rattle.std.proofs.Common.{Bool, true, false, List, [], ◌∷◌, refl}
use Rattle.std.specs.Cmp.{IsTotalOrder}
use Rattle.std.specs.Cmp.Lexicographic.{options_total}
use Rattle.std.specs.List.{slice_get}
use Rattle.std.proofs.lemmas.Cmp.{nat_cmp_total, nat_list_cmp_total, on_total, then_total, back_total}
use Rattle.kms_world.specs.SecretKind.{word_of}
use Rattle.kms_world.specs.declared.secret.SecretRow.{SecretRow}
use Rattle.kms_page.specs.declared.sorts.SortKey.{SortKey}
use Rattle.kms_page.specs.declared.sorts.SortKey.TheVariants.{Name, Alg, Bits, Mode, SecretType, Created, Updated, Expiration}
use Rattle.kms_page.specs.Order.{key_cmp, sort_cmp, row_cmp, place_cmp}

key_total : (key : SortKey) → IsTotalOrder (key_cmp key)
key_total Name = on_total (λ (r : SecretRow). r.name) (options_total nat_list_cmp_total)
key_total Alg = on_total (λ (r : SecretRow). r.algorithm) (options_total nat_list_cmp_total)
key_total Bits = on_total (λ (r : SecretRow). r.bit_length) (options_total nat_cmp_total)
key_total Mode = on_total (λ (r : SecretRow). r.mode) (options_total nat_list_cmp_total)
key_total SecretType = on_total (λ (r : SecretRow). word_of r.kind) nat_list_cmp_total
key_total Created = on_total (λ (r : SecretRow). r.created) nat_cmp_total
key_total Updated = on_total (λ (r : SecretRow). r.updated) nat_cmp_total
key_total Expiration = on_total (λ (r : SecretRow). r.expiration) (options_total nat_cmp_total)

sort_total : (sort : SortKey × Bool) → IsTotalOrder (sort_cmp sort)
sort_total (key, false) = key_total key
sort_total (key, true) = back_total (key_total key)

row_total : (sorts : List (SortKey × Bool)) → IsTotalOrder (row_cmp sorts)
row_total [] = record { antisymm = λ x y. refl; trans = λ x y z p q. p; congr = λ x y z p. refl }
row_total (sort ∷ sorts) = then_total (sort_total sort) (row_total sorts)

pub place_total : (rows : List SecretRow) (sorts : List (SortKey × Bool)) → IsTotalOrder (place_cmp rows sorts)
place_total rows sorts = on_total (slice_get rows) (options_total (row_total sorts))
