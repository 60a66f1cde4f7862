-- No key stands twice exactly where the pairs in the order of their keys ascend.
use Rattle.std.proofs.Common.{◌≡◌, ℕ, Bool, true, false, not, ◌||◌, ◌&&◌, List, [], ◌∷◌, refl, sym, ap, subst, map, if◌then◌else◌, Some, None, ◌∙◌, inl, inr}
use Rattle.std.specs.Cmp.{IsTotalOrder}
use Rattle.std.specs.Cmp.Lexicographic.{slice_cmp}
use Rattle.std.specs.Ordering.{nat_cmp, is_lt, is_gt, is_eq, ordering_reverse}
use Rattle.std.specs.Str.{bytes_eq}
use Rattle.std.specs.declared.cmp.Ordering.{Ordering}
use Rattle.std.specs.declared.cmp.Ordering.TheVariants.{Less, Equal, Greater}
use Rattle.std.proofs.lemmas.Bool.{cases_Bool, both_ways, false_from_ne_true}
use Rattle.std.proofs.lemmas.Cmp.{nat_list_cmp_total, on_total}
use Rattle.std.proofs.lemmas.Map.Text.{is_eq-slice_cmp}
use Rattle.std.proofs.lemmas.Slice.Eq.{bytes_eq-Decides}
use Rattle.kms_world.specs.Pairs.{is_below}
use Rattle.kms_secret.specs.Ascending.{ascend, if_ascending}
use Rattle.kms_secret.specs.Metadata.{key_cmp, by_key, lowered, has_key, have_own_keys, kept}
use Rattle.kms_secret.specs.Sorted.{put, sorted}
use Rattle.kms_secret.proofs.SortedLaws.{IsLow, Rises, rises}

pub total : IsTotalOrder key_cmp
total = on_total (λ (p : List ℕ × List ℕ). p.0) nat_list_cmp_total

lt : List ℕ × List ℕ → List ℕ × List ℕ → Bool
lt x y = is_lt (key_cmp x y)

-- ---- which keys there are

swap : (a b c : Bool) → (a || (b || c)) ≡ (b || (a || c))
swap true true c = refl
swap true false c = refl
swap false b c = refl

put_has : (key : List ℕ) (p : List ℕ × List ℕ) (ys : List (List ℕ × List ℕ)) → has_key key (put key_cmp p ys) ≡ (bytes_eq key p.0 || has_key key ys)
put_has key p [] = refl
put_has key p (y ∷ ys) = elim (cases_Bool (is_gt (key_cmp p y))) [
  | inl gt ↦ rw gt (ap (λ (b : Bool). bytes_eq key y.0 || b) (put_has key p ys) ∙ swap (bytes_eq key y.0) (bytes_eq key p.0) (has_key key ys))
  | inr over ↦ rw over refl
]

sorted_has : (key : List ℕ) (ps : List (List ℕ × List ℕ)) → has_key key (sorted key_cmp ps) ≡ has_key key ps
sorted_has key [] = refl
sorted_has key (p ∷ ps) =
    put_has key p (sorted key_cmp ps) ∙ ap (λ (b : Bool). bytes_eq key p.0 || b) (sorted_has key ps)

-- ---- one pair more

-- the order of two keys says whether they are equal
same_by : (p y : List ℕ × List ℕ) (o : Ordering) → key_cmp p y ≡ o → bytes_eq p.0 y.0 ≡ is_eq o
same_by p y o e = sym (is_eq-slice_cmp p.0 y.0) ∙ ap is_eq e

no_key : (p y z : List ℕ × List ℕ) → key_cmp p y ≡ Less → is_lt (key_cmp z y) ≡ false → bytes_eq p.0 z.0 ≡ false
no_key p y z less over =
    false_from_ne_true (bytes_eq p.0 z.0)
    (λ same. both_ways (is_lt (key_cmp z y)) over
    (subst (λ (k : List ℕ). is_lt (slice_cmp nat_cmp k y.0) ≡ true) ((bytes_eq-Decides p.0 z.0).0 same) (ap is_lt less)))

-- what is below the least has another key than all
no_keys : (p y : List ℕ × List ℕ) (zs : List (List ℕ × List ℕ)) → key_cmp p y ≡ Less → IsLow (λ a b. is_lt (key_cmp a b)) y zs → has_key p.0 zs ≡ false
no_keys p y [] less low = refl
no_keys p y (z ∷ zs) less low = rw (no_key p y z less low.0) (no_keys p y zs less low.1)

-- the first of some comes after a pair
follows : List ℕ × List ℕ → List (List ℕ × List ℕ) → Bool
follows y [] = true
follows y (z ∷ zs) = is_below y.0 z.0

ascend_cons : (y : List ℕ × List ℕ) (zs : List (List ℕ × List ℕ)) → ascend (y ∷ zs) ≡ (follows y zs && ascend zs)
unfolding follows
ascend_cons y [] = refl
ascend_cons y (z ∷ zs) = refl

below_up : (y p z : List ℕ × List ℕ) (o : Ordering) → key_cmp y p ≡ Less → key_cmp p z ≡ o → is_gt o ≡ false → is_below y.0 z.0 ≡ true
below_up y p z Less less e up = ap is_lt (total.trans y p z less e)
below_up y p z Equal less e up =
    subst (λ (k : List ℕ). is_lt (slice_cmp nat_cmp y.0 k) ≡ true) ((bytes_eq-Decides p.0 z.0).0 (same_by p z Equal e)) (ap is_lt less)
below_up y p z Greater less e up = cc

same_follows : (y p : List ℕ × List ℕ) (zs : List (List ℕ × List ℕ)) → key_cmp y p ≡ Less → follows y (put key_cmp p zs) ≡ follows y zs
unfolding follows
same_follows y p [] less = ap is_lt less
same_follows y p (z ∷ zs) less = elim (cases_Bool (is_gt (key_cmp p z))) [
  | inl gt ↦ rw gt refl
  | inr over ↦ rw over (ap is_lt less ∙ sym (below_up y p z (key_cmp p z) less refl over))
]

between : (a b c : Bool) → (a && (b && c)) ≡ (b && (a && c))
between true b c = refl
between false true c = refl
between false false c = refl

put_by : (p y : List ℕ × List ℕ) (ys : List (List ℕ × List ℕ)) (o : Ordering) → key_cmp p y ≡ o → IsLow (λ a b. is_lt (key_cmp a b)) y ys
    → ascend (put key_cmp p ys) ≡ (not (has_key p.0 ys) && ascend ys)
    → ascend (put key_cmp p (y ∷ ys)) ≡ (not (has_key p.0 (y ∷ ys)) && ascend (y ∷ ys))
put_by p y ys Less e low rest = rw (e, same_by p y Less e, no_keys p y ys e low) (ap (λ (b : Bool). b && ascend (y ∷ ys)) (ap is_lt e))
put_by p y ys Equal e low rest = rw (e, same_by p y Equal e) (ap (λ (b : Bool). b && ascend (y ∷ ys)) (ap is_lt e))
put_by p y ys Greater e low rest =
    let less : key_cmp y p ≡ Less = total.antisymm y p ∙ ap ordering_reverse e in
    rw (e, same_by p y Greater e)
    (ascend_cons y (put key_cmp p ys)
    ∙ ap (λ (b : Bool). follows y (put key_cmp p ys) && b) rest
    ∙ ap (λ (b : Bool). b && (not (has_key p.0 ys) && ascend ys)) (same_follows y p ys less)
    ∙ between (follows y ys) (not (has_key p.0 ys)) (ascend ys)
    ∙ ap (λ (b : Bool). not (has_key p.0 ys) && b) (sym (ascend_cons y ys)))

ascend_put : (p : List ℕ × List ℕ) (ys : List (List ℕ × List ℕ)) → Rises (λ a b. is_lt (key_cmp a b)) ys → ascend (put key_cmp p ys) ≡ (not (has_key p.0 ys) && ascend ys)
ascend_put p [] r = refl
ascend_put p (y ∷ ys) r = put_by p y ys (key_cmp p y) refl r.0 (ascend_put p ys r.1)

pub ascend_sorted : (ps : List (List ℕ × List ℕ)) → ascend (sorted key_cmp ps) ≡ have_own_keys ps
ascend_sorted [] = refl
ascend_sorted (p ∷ ps) =
    ascend_put p (sorted key_cmp ps) (rises key_cmp total ps) ∙ rw (sorted_has p.0 ps, ascend_sorted ps) refl

-- pairs in their order that ascend are those that are kept
pub kept_is : (pairs : List (List ℕ × List ℕ)) → if_ascending (by_key (map lowered pairs)) ≡ kept pairs
kept_is pairs =
    ap (λ (b : Bool). if b then Some (by_key (map lowered pairs)) else None) (ascend_sorted (map lowered pairs))
