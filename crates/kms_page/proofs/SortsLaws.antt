-- The pieces of a parameter `sort`, taken one after the other.
use Rattle.std.proofs.Common.{◌≡◌, ℕ, Bool, true, false, ◌||◌, cond, if◌then◌else◌, List, [], ◌∷◌, ◌++◌, Option, Some, None, refl, sym, ap, ◌∙◌, append_assoc}
use Rattle.std.specs.Option.{option_and_then}
use Rattle.std.specs.List.{list_any}
use Rattle.std.specs.Str.{bytes_eq}
use Rattle.std.proofs.lemmas.Cmp.{nat_list_eq_equiv}
use Rattle.std.proofs.lemmas.List.{append-nil}
use Rattle.std.proofs.lemmas.List.Folds.{list_any-append}
use Rattle.kms_page.specs.declared.sorts.SortKey.{SortKey}
use Rattle.kms_page.specs.NewSort.{new_sort}
use Rattle.kms_page.specs.Sorts.{word_of, sort_of, has_key, before, sorts_from}

-- what the pieces add to the sorts in front of them
abbrev pub behind : List (SortKey × Bool) → List (List ℕ) → Option (List (SortKey × Bool))
behind earlier [] = Some earlier
behind earlier (piece ∷ pieces) =
    option_and_then (λ sort. behind (earlier ++ sort ∷ []) pieces) (new_sort earlier piece)

-- sorts behind others, which haven't their keys
abbrev joined : List (SortKey × Bool) → List (SortKey × Bool) → Option (List (SortKey × Bool))
joined earlier sorts = if list_any (λ s. has_key s.0 earlier) sorts then None else Some (earlier ++ sorts)

regroup : (a b c d : Bool) → ((a || (b || false)) || (c || d)) ≡ ((a || c) || (b || d))
regroup true b c d = refl
regroup false true true d = refl
regroup false true false d = refl
regroup false false c d = refl

same_word : (s t : SortKey × Bool) → bytes_eq (word_of s.0) (word_of t.0) ≡ bytes_eq (word_of t.0) (word_of s.0)
same_word s t = nat_list_eq_equiv.symm (word_of s.0) (word_of t.0)

clash_push : (earlier : List (SortKey × Bool)) (s : SortKey × Bool) (sorts : List (SortKey × Bool)) → list_any (λ t. has_key t.0 (earlier ++ s ∷ [])) sorts ≡ (list_any (λ t. has_key t.0 earlier) sorts || has_key s.0 sorts)
clash_push earlier s [] = refl
clash_push earlier s (t ∷ sorts) =
    rw (list_any-append (λ u. bytes_eq (word_of u.0) (word_of t.0)) earlier (s ∷ []), clash_push earlier s sorts, same_word s t)
    (regroup (has_key t.0 earlier) (bytes_eq (word_of t.0) (word_of s.0)) (list_any (λ u. has_key u.0 earlier) sorts) (has_key s.0 sorts))

table : {A : Type 0} (a b c : Bool) (x y : Option A) → x ≡ y → cond a None (cond (c || b) None x) ≡ cond b None (cond (a || c) None y)
table true true c x y e = refl
table true false c x y e = refl
table false true true x y e = refl
table false true false x y e = refl
table false false true x y e = refl
table false false false x y e = e

over_cond : {A B : Type 0} (f : A → Option B) (b : Bool) (x : A) → option_and_then f (cond b None (Some x)) ≡ cond b None (f x)
over_cond f true x = refl
over_cond f false x = refl

none_both : {A : Type 0} (b : Bool) → ◌≡◌ {A = Option A} (cond b None None) None
none_both true = refl
none_both false = refl

more : (earlier : List (SortKey × Bool)) (s : SortKey × Bool) (rest : Option (List (SortKey × Bool))) → cond (has_key s.0 earlier) None (option_and_then (joined (earlier ++ s ∷ [])) rest) ≡ option_and_then (joined earlier) (option_and_then (before s) rest)
more earlier s None = none_both (has_key s.0 earlier)
more earlier s (Some sorts) =
    ap (λ (b : Bool). cond (has_key s.0 earlier) None (cond b None (Some ((earlier ++ s ∷ []) ++ sorts)))) (clash_push earlier s sorts)
    ∙ table (has_key s.0 earlier) (has_key s.0 sorts) (list_any (λ t. has_key t.0 earlier) sorts) _ (Some (earlier ++ s ∷ sorts)) (ap Some (append_assoc earlier (s ∷ []) sorts))
    ∙ sym (over_cond (joined earlier) (has_key s.0 sorts) (s ∷ sorts))

step : (earlier : List (SortKey × Bool)) (pieces : List (List ℕ)) (sort : Option (SortKey × Bool)) → ((e : List (SortKey × Bool)) → behind e pieces ≡ option_and_then (joined e) (sorts_from pieces)) → option_and_then (λ s. behind (earlier ++ s ∷ []) pieces) (option_and_then (λ s. if has_key s.0 earlier then None else Some s) sort) ≡ option_and_then (joined earlier) (option_and_then (λ s. option_and_then (before s) (sorts_from pieces)) sort)
step earlier pieces None same = refl
step earlier pieces (Some s) same =
    over_cond (λ t. behind (earlier ++ t ∷ []) pieces) (has_key s.0 earlier) s
    ∙ ap (λ (o : Option (List (SortKey × Bool))). cond (has_key s.0 earlier) None o) (same (earlier ++ s ∷ []))
    ∙ more earlier s (sorts_from pieces)

behind_is : (pieces : List (List ℕ)) (earlier : List (SortKey × Bool)) → behind earlier pieces ≡ option_and_then (joined earlier) (sorts_from pieces)
behind_is [] earlier = ap Some (sym (append-nil earlier))
behind_is (piece ∷ pieces) earlier = step earlier pieces (sort_of piece) (behind_is pieces)

none_clashes : (sorts : List (SortKey × Bool)) → list_any (λ s. has_key s.0 []) sorts ≡ false
none_clashes [] = refl
none_clashes (s ∷ sorts) = none_clashes sorts

joined_none : (rest : Option (List (SortKey × Bool))) → option_and_then (joined []) rest ≡ rest
joined_none None = refl
joined_none (Some sorts) = rw (none_clashes sorts) refl

pub behind_none : (pieces : List (List ℕ)) → behind [] pieces ≡ sorts_from pieces
behind_none pieces = behind_is pieces [] ∙ joined_none (sorts_from pieces)
