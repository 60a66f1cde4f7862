-- Names without repeats, as they grow by one name.
use Rattle.std.proofs.Common.{◌≡◌, ℕ, ◌≤◌, Bool, true, false, ◌||◌, if◌then◌else◌, List, [], ◌∷◌, ◌++◌, length, bytes_eq, Contains, refl, sym, ap, subst, ◌∙◌, arith, append_assoc, append-nil, length-append, le_trans, le_refl}
use Rattle.std.proofs.lemmas.Bool.{false_from_ne_true, both_ways}
use Rattle.std.proofs.lemmas.List.Elements.{filter-append}
use Rattle.std.proofs.lemmas.List.Folds.{list_any_at}
use Rattle.std.proofs.lemmas.Slice.Eq.{bytes_eq-Decides}
use Rattle.kms_policy.specs.Acl.{without, without_repeats}
use Rattle.kms_policy.specs.Policy.{is_among}
use Rattle.kms_policy.specs.Users.{with_name}

-- a name that isn't found isn't there
pub not_among : (name : List ℕ) (names : List (List ℕ)) → is_among name names ≡ false → ¬ Contains names name
not_among name names h found =
    both_ways _ h
    (list_any_at (λ n. bytes_eq n name) names found.0 name found.1 ((bytes_eq-Decides _ _).1 found.2))

bytes_eq_sym : (a b : List ℕ) (r : Bool) → bytes_eq a b ≡ r → bytes_eq b a ≡ r
bytes_eq_sym a b true h = (bytes_eq-Decides b a).1 (sym ((bytes_eq-Decides a b).0 h))
bytes_eq_sym a b false h =
    false_from_ne_true (bytes_eq b a)
    (λ e. both_ways _ h ((bytes_eq-Decides a b).1 (sym ((bytes_eq-Decides b a).0 e))))

among_next : (x y z : List ℕ) (names : List (List ℕ)) (same : Bool) → bytes_eq y x ≡ false → bytes_eq z y ≡ same → is_among x (without y names) ≡ is_among x names → is_among x (without y (z ∷ names)) ≡ is_among x (z ∷ names)
among_next x y z names true h e rest =
    let zy : z ≡ y = (bytes_eq-Decides z y).0 e in
    let zx : bytes_eq z x ≡ false = subst (λ (w : List ℕ). bytes_eq w x ≡ false) (sym zy) h in
    rw (e, zx) rest
among_next x y z names false h e rest = rw e (ap (λ (v : Bool). bytes_eq z x || v) rest)

-- the names without y still have x, where x isn't y
among_others : (x y : List ℕ) (names : List (List ℕ)) → bytes_eq y x ≡ false → is_among x (without y names) ≡ is_among x names
among_others x y [] h = refl
among_others x y (z ∷ names) h = among_next x y z names (bytes_eq z y) h refl (among_others x y names h)

-- y stands in front of names, from which it is dropped; then x comes behind them
behind : (x y : List ℕ) (names : List (List ℕ)) (same there : Bool) → bytes_eq y x ≡ same → is_among x names ≡ there → (y ∷ without y (with_name names x)) ≡ with_name (y ∷ without y names) x
behind x y names true true e t = rw (e, t) refl
behind x y names true false e t = rw (e, t, filter-append, bytes_eq_sym y x true e, append-nil) refl
behind x y names false true e t = rw (e, t, among_others x y names e, t) refl
behind x y names false false e t =
    rw (e, t, among_others x y names e, t, filter-append, bytes_eq_sym y x false e) refl

-- names without repeats, with one name more
pub without_repeats-push : (names : List (List ℕ)) (x : List ℕ) → without_repeats (names ++ x ∷ []) ≡ with_name (without_repeats names) x
without_repeats-push [] x = refl
without_repeats-push (y ∷ names) x =
    ap (λ (rest : List (List ℕ)). y ∷ without y rest) (without_repeats-push names x)
    ∙ behind x y (without_repeats names) (bytes_eq y x) (is_among x (without_repeats names)) refl refl

grown : (names : List (List ℕ)) (x : List ℕ) (there : Bool) → length names ≤ length (if there then names else names ++ x ∷ [])
grown names x true = le_refl _
grown names x false = omega (arith, length-append names (x ∷ []))

-- fewer texts leave no more names
pub length-more : (front more : List (List ℕ)) → length (without_repeats front) ≤ length (without_repeats (front ++ more))
length-more front [] = rw append-nil (le_refl _)
length-more front (x ∷ more) =
    let here : length (without_repeats front) ≤ length (without_repeats (front ++ x ∷ [])) =
    rw without_repeats-push (grown (without_repeats front) x (is_among x (without_repeats front))) in
    let rest : length (without_repeats (front ++ x ∷ [])) ≤ length (without_repeats ((front ++ x ∷ []) ++ more)) =
    length-more (front ++ x ∷ []) more in
    le_trans here (rw append_assoc at rest)
