-- The set of the names that were taken.
use denote.Ref.{Bor}
use Rattle.std.proofs.Common.{◌≡◌, ℕ, Bool, true, false, cond, ◌||◌, if◌then◌else◌, List, [], ◌∷◌, ◌++◌, bytes_eq, refl, sym, ap, subst, ◌∙◌}
use Rattle.std.specs.BTreeSet.{BTreeSet, Updates}
use Rattle.std.specs.Cmp.Lexicographic.{slice_cmp}
use Rattle.std.specs.Ordering.{nat_cmp}
use Rattle.std.proofs.lemmas.List.Folds.{list_any-append}
use Rattle.std.proofs.lemmas.Map.Text.{is_eq-slice_cmp}
use Rattle.std.proofs.lemmas.Slice.Eq.{bytes_eq-Decides}
use Rattle.kms_policy.specs.Policy.{is_among}
use Rattle.kms_policy.specs.Users.{has_text, HasNames, with_name}

either : (a b : Bool) → cond a true b ≡ (a || b)
either true b = refl
either false b = refl

-- one text more in the set
pub one_text : (old new : BTreeSet (Bor (List ℕ))) (text : Bor (List ℕ)) → Updates (λ x y. slice_cmp nat_cmp x.now y.now) old new text true → (q : List ℕ) → has_text new q ≡ (bytes_eq text.now q || has_text old q)
one_text old new text updates q =
    updates.0 (record { ref_ptr = text.ref_ptr; now = q })
    ∙ ap (λ (b : Bool). cond b true (has_text old q)) (is_eq-slice_cmp text.now q)
    ∙ either (bytes_eq text.now q) (has_text old q)

-- a name that is among them stays so, whatever is asked
still : (names : List (List ℕ)) (text q : List ℕ) (same : Bool) → bytes_eq text q ≡ same → is_among text names ≡ true → (same || is_among q names) ≡ is_among q names
still names text q true e there =
    sym (subst (λ (w : List ℕ). is_among w names ≡ true) ((bytes_eq-Decides text q).0 e) there)
still names text q false e there = refl

turned : (a b : Bool) → (a || b) ≡ (b || (a || false))
turned true true = refl
turned true false = refl
turned false true = refl
turned false false = refl

grown : (names : List (List ℕ)) (text q : List ℕ) (there : Bool) → is_among text names ≡ there → (bytes_eq text q || is_among q names) ≡ is_among q (if there then names else names ++ text ∷ [])
grown names text q true there = still names text q (bytes_eq text q) refl there
grown names text q false there =
    turned (bytes_eq text q) (is_among q names)
    ∙ sym (list_any-append (λ n. bytes_eq n q) names (text ∷ []))

-- the set has one name more, as the names have
pub HasNames-more : (old new : BTreeSet (Bor (List ℕ))) (names : List (List ℕ)) (text : List ℕ) → HasNames old names → ((q : List ℕ) → has_text new q ≡ (bytes_eq text q || has_text old q)) → HasNames new (with_name names text)
HasNames-more old new names text had seen q =
    seen q ∙ ap (λ (b : Bool). bytes_eq text q || b) (had q) ∙ grown names text q (is_among text names) refl
