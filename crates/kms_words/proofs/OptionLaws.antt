-- The words, one after the other.
use Rattle.std.proofs.Common.{◌≡◌, ◌≢◌, ℕ, ◌+◌, ◌<◌, ◌≤◌, List, [], ◌∷◌, ◌++◌, length, get_or, drop, nat_eq, Bool, true, false, cond, Option, Some, None, MatchOption, option_map, refl, sym, ap, ◌∙◌, codes}
use Rattle.std.specs.Prelude.{map, String}
use Rattle.std.specs.Borrow.{Bor}
use Rattle.std.specs.Option.{option_and_then}
use Rattle.std.specs.String.{string_bytes}
use Rattle.std.specs.Str.Pattern.{FindsTextPrefix, StripsPrefix}
use Rattle.std.specs.declared.alloc.Global.{Global}
use Rattle.std.proofs.lemmas.List.{drop_more, drop_all}
use Rattle.std.proofs.lemmas.Bool.{eqb-true, eq-eqb}
use Rattle.kms_words.specs.declared.options.Name.{Name}
use Rattle.kms_words.specs.Options.{Text, Options, State, past, put_option, with_named, step, steps}

some_same : {A : Type 0} (x y : A) → Some x ≡ Some y → x ≡ y
some_same x y e = cc

same-head : (x y : ℕ) → nat_eq x y ≡ true → x ≡ y
same-head x y e = eqb-true x y e

refl-head : (x : ℕ) → nat_eq x x ≡ true
refl-head x = eq-eqb x x refl

past-is : (n rest : Text) → past n (n ++ rest) ≡ Some rest
unfolding past
past-is [] rest = refl
past-is (x ∷ n) rest = rw (refl-head x) (past-is n rest)

pub past-sound : (n s rest : Text) → past n s ≡ Some rest → s ≡ n ++ rest
unfolding past
past-sound [] s rest e = some_same s rest e
past-sound (x ∷ n) [] rest e = absurd (cc)
past-sound (x ∷ n) (y ∷ s) rest e = at (λ h. past-sound n s rest h) (nat_eq x y) refl e
  where
    at : (past n s ≡ Some rest → s ≡ n ++ rest) → (t : Bool) → nat_eq x y ≡ t → cond t (past n s) None ≡ Some rest → y ∷ s ≡ x ∷ (n ++ rest)
    at shorter true same h = let head = same-head x y same in let tail = shorter h in cc
    at shorter false same h = absurd (cc)

past-lacks : (n s : Text) → ((rest : Text) → s ≢ n ++ rest) → past n s ≡ None
past-lacks n s lacks = at (past n s) refl
  where
    at : (o : Option Text) → past n s ≡ o → past n s ≡ None
    at None e = e
    at (Some rest) e = absurd (lacks rest (past-sound n s rest e))

-- the clause of `strip_prefix`
pub after-is : (r : Option (Bor Text)) (n s : Text) → MatchOption r (FindsTextPrefix n s None) (λ x. StripsPrefix (FindsTextPrefix n) s x.now) → option_map (λ x. x.now) r ≡ past n s
after-is None n s lacks = sym (past-lacks n s lacks)
after-is (Some x) n s (k, finds, is, len) =
    let text : s ≡ n ++ x.now = finds.1 ∙ ap (λ t. n ++ t) (sym is) in
    sym (ap (past n) text ∙ past-is n x.now)

pub rest-joined : (o : Options) (name : Name) (rest value : Text) → past (codes "=") rest ≡ Some value → with_named o (Some (name, rest)) ≡ put_option name value o
unfolding past
rest-joined o name [] value e = absurd (cc)
rest-joined o name (b ∷ v) value e =
    elim (nat_eq 61 b) as (λ t. cond t (Some v) None ≡ Some value → cond t (put_option name v o) None ≡ put_option name value o)
    [ true ↦ λ h. ap (λ x. put_option name x o) (some_same v value h) | false ↦ λ h. absurd (cc) ] e

pub rest-unjoined : (o : Options) (name : Name) (rest : Text) → nat_eq (length rest) 0 ≡ false → past (codes "=") rest ≡ None → with_named o (Some (name, rest)) ≡ None
unfolding past
rest-unjoined o name [] some e = absurd (cc)
rest-unjoined o name (b ∷ v) some e =
    elim (nat_eq 61 b) as (λ t. cond t (Some v) None ≡ None → cond t (put_option name v o) None ≡ None)
    [ true ↦ λ h. absurd (cc) | false ↦ λ h. refl ] e

abbrev pub texts : List (String Global) → List Text
texts words = map string_bytes words

pub steps-next : (s t : State) (words : List (String Global)) (i : ℕ) (d : String Global) → i < length words → step s (string_bytes (get_or words i d)) ≡ Some t
    → steps s (texts (drop i words)) ≡ steps t (texts (drop (i + 1) words))
unfolding steps
steps-next s t words i d below e =
    ap (λ ws. steps s (texts ws)) (drop_more words i d below) ∙ ap (option_and_then (λ u. steps u (texts (drop (i + 1) words)))) e

pub steps-stuck : (s : State) (words : List (String Global)) (i : ℕ) (d : String Global) → i < length words → step s (string_bytes (get_or words i d)) ≡ None
    → steps s (texts (drop i words)) ≡ None
unfolding steps
steps-stuck s words i d below e =
    ap (λ ws. steps s (texts ws)) (drop_more words i d below) ∙ ap (option_and_then (λ u. steps u (texts (drop (i + 1) words)))) e

pub steps-end : (s : State) (words : List (String Global)) (i : ℕ) → length words ≤ i → steps s (texts (drop i words)) ≡ Some s
unfolding steps
steps-end s words i over = ap (λ ws. steps s (texts ws)) (drop_all i words over)
