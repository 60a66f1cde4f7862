-- Metadata hold no float, so that their text is known.
use Rattle.std.proofs.Common.{◌≡◌, ℕ, List, [], ◌∷◌, Bool, true, false, ◌||◌, refl}
use Rattle.std.proofs.lemmas.Bool.{true≢false}
use Rattle.std.specs.Cmp.Lexicographic.{slice_cmp}
use Rattle.std.specs.Ordering.{nat_cmp, match_ordering}
use Rattle.std.specs.declared.cmp.Ordering.{Ordering}
use Rattle.std.specs.declared.cmp.Ordering.TheVariants.{Less, Equal, Greater}
use Rattle.serde_json.specs.Data.{Data, string, Members, no_members, member, put}
use Rattle.serde_json.specs.Written.{has_float, members_have_float}
use Rattle.kms_json.specs.Metadata.{with_pairs, metadata_data}

chosen : (o : Ordering) (a b c : Members) → members_have_float a ≡ false → members_have_float b ≡ false → members_have_float c ≡ false
    → members_have_float (match_ordering o a b c) ≡ false
chosen Less a b c x y z = x
chosen Equal a b c x y z = y
chosen Greater a b c x y z = z

or_false : (a b : Bool) → (a || b) ≡ false → (a ≡ false) × (b ≡ false)
or_false false b h = (refl, h)
or_false true b h = absurd (true≢false h)

no_float_put : (k : List ℕ) (d : Data) (ms : Members) → has_float d ≡ false → members_have_float ms ≡ false → members_have_float (put k d ms) ≡ false
no_float_put k d no_members p h = rw p refl
no_float_put k d (member l e ms) p h =
    let parts = or_false (has_float e) (members_have_float ms) h in
    chosen (slice_cmp nat_cmp k l) (member k d (member l e ms)) (member l d ms) (member l e (put k d ms))
    (rw p h) (rw p parts.1) (rw parts.0 (no_float_put k d ms p parts.1))

no_float_pairs : (ms : Members) (pairs : List (List ℕ × List ℕ)) → members_have_float ms ≡ false → members_have_float (with_pairs ms pairs) ≡ false
no_float_pairs ms [] h = h
no_float_pairs ms (p ∷ pairs) h = no_float_pairs (put p.0 (string p.1) ms) pairs (no_float_put p.0 (string p.1) ms refl h)

pub no_float_metadata : (pairs : List (List ℕ × List ℕ)) → has_float (metadata_data pairs) ≡ false
no_float_metadata pairs = rw (no_float_pairs no_members pairs refl) refl
