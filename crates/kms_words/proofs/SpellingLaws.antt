-- Words are read as the options that they spell.
use Rattle.std.proofs.Common.{◌≡◌, ◌⊎◌, inl, inr, ℕ, List, [], ◌∷◌, ◌++◌, nat_eq, Bool, true, false, cond, Option, Some, None, option_map, refl, ap, sym, ◌∙◌, codes}
use Rattle.std.specs.Option.{option_and_then, option_or}
use Rattle.std.proofs.lemmas.List.{append-nil}
use Rattle.std.proofs.lemmas.Bool.{eqb-true}
use Rattle.kms_words.specs.Options.{Text, Options, State, dashed, past, named, if_named, put, put_option, read_option, with_named, steps, complete}
use Rattle.kms_words.specs.Spelled.{AreSpelled}
use Rattle.kms_words.specs.declared.options.Name.{Name}
use Rattle.kms_words.specs.declared.options.Name.TheVariants as name
use Rattle.kms_words.proofs.OptionLaws.{past-sound}
use Rattle.kms_words.proofs.GivenLaws.{Given, puts}

-- ---- the option that a word begins with

named-is : (n : Name) (rest : Text) → named (dashed n ++ rest) ≡ Some (n, rest)
unfolding named past
named-is name.Store rest = refl
named-is name.Keys rest = refl
named-is name.Endpoint rest = refl

named-alone : (n : Name) → named (dashed n) ≡ Some (n, [])
named-alone n = ap named (sym (append-nil (dashed n))) ∙ named-is n []

same-pair : (x y : Name × Text) → Some x ≡ Some y → x ≡ y
same-pair x y e = cc

if-named-sound : (m n : Name) (word rest : Text) → if_named m word ≡ Some (n, rest) → word ≡ dashed n ++ rest
if-named-sound m n word rest e = at (past (dashed m) word) refl e
  where
    at : (o : Option Text) → past (dashed m) word ≡ o → option_map {U = Name × Text} (λ r. (m, r)) o ≡ Some (n, rest) → word ≡ dashed n ++ rest
    at None q h = absurd (cc)
    at (Some r) q h = past-sound (dashed m) word r q ∙ ap (λ (p : Name × Text). dashed p.0 ++ p.1) (same-pair (m, r) (n, rest) h)

either : (a b : Option (Name × Text)) (x : Name × Text) → option_or a b ≡ Some x → (a ≡ Some x) ⊎ (b ≡ Some x)
either None b x e = inr e
either (Some y) b x e = inl e

named-sound : (word rest : Text) (n : Name) → named word ≡ Some (n, rest) → word ≡ dashed n ++ rest
unfolding named
named-sound word rest n e = first (either (if_named name.Store word) others (n, rest) e)
  where
    others : Option (Name × Text)
    others = option_or (if_named name.Keys word) (if_named name.Endpoint word)

    second : (if_named name.Keys word ≡ Some (n, rest)) ⊎ (if_named name.Endpoint word ≡ Some (n, rest)) → word ≡ dashed n ++ rest
    second (inl h) = if-named-sound name.Keys n word rest h
    second (inr h) = if-named-sound name.Endpoint n word rest h

    first : (if_named name.Store word ≡ Some (n, rest)) ⊎ (others ≡ Some (n, rest)) → word ≡ dashed n ++ rest
    first (inl h) = if-named-sound name.Store n word rest h
    first (inr h) = second (either (if_named name.Keys word) (if_named name.Endpoint word) (n, rest) h)

-- ---- all words

abbrev pub from : Option Name → Options → State
from w o = record { waiting = w; options = o }

-- what the words give in the end, from a state or from none
abbrev pub ends : List Text → Option State → Option Options
ends words s = option_and_then complete (option_and_then (λ t. steps t words) s)

-- such words give these options
abbrev pub Gives : List Text → Options → Options → Type 0
Gives words o p = (given : Given) × AreSpelled given words × (puts given o ≡ Some p)

-- an option that waits has its value in the first word
abbrev pub GivesFrom : Option Name → List Text → Options → Options → Type 0
GivesFrom None words o p = Gives words o p
GivesFrom (Some n) words o p = (value : Text) × (rest : List Text) × (words ≡ value ∷ rest) × (given : Given) × AreSpelled given rest × (puts ((n, value) ∷ given) o ≡ Some p)

abbrev pub IsSound : List Text → Type 0
IsSound words = (w : Option Name) (o p : Options) → option_and_then complete (steps (from w o) words) ≡ Some p → GivesFrom w words o p

put-sound : (words : List Text) (n : Name) (v : Text) (o p : Options) → IsSound words → ends words (put_option n v o) ≡ Some p
    → (given : Given) × AreSpelled given words × (puts ((n, v) ∷ given) o ≡ Some p)
put-sound words n v o p shorter e = at (put n v o) refl e
  where
    at : (r : Option Options) → put n v o ≡ r → ends words (option_and_then read_option r) ≡ Some p
        → (given : Given) × AreSpelled given words × (option_and_then (puts given) (put n v o) ≡ Some p)
    at None q h = absurd (cc)
    at (Some next) q h = let read = shorter None next p h in (read.0, read.1, ap (option_and_then (puts read.0)) q ∙ read.2)

word-sound : (word : Text) (words : List Text) (o p : Options) → IsSound words → ends words (with_named o (named word)) ≡ Some p → Gives (word ∷ words) o p
word-sound word words o p shorter e = at (named word) refl e
  where
    joined : (n : Name) (b : ℕ) (v : Text) → named word ≡ Some (n, b ∷ v) → (t : Bool) → nat_eq 61 b ≡ t → ends words (cond t (put_option n v o) None) ≡ Some p → Gives (word ∷ words) o p
    joined n b v q false same h = absurd (cc)
    joined n b v q true same h =
        let (given, spelled, put) = put-sound words n v o p shorter h in
        let spelling : word ≡ dashed n ++ (61 ∷ v) = named-sound word (b ∷ v) n q ∙ ap (λ c. dashed n ++ (c ∷ v)) (sym (eqb-true 61 b same)) in
        ((n, v) ∷ given, (words, inr (ap (λ w. w ∷ words) spelling), spelled), put)

    at : (f : Option (Name × Text)) → named word ≡ f → ends words (with_named o f) ≡ Some p → Gives (word ∷ words) o p
    at None q h = absurd (cc)
    at (Some (n, [])) q h =
        let (value, rest, is, given, spelled, put) = shorter (Some n) o p h in
        let spelling : word ≡ dashed n = named-sound word [] n q ∙ append-nil (dashed n) in
        ((n, value) ∷ given, (rest, inl (ap (λ w. w ∷ words) spelling ∙ ap (λ ws. dashed n ∷ ws) is), spelled), put)
    at (Some (n, b ∷ v)) q h = joined n b v q (nat_eq 61 b) refl h

-- what is read is spelled
pub reads-spelled : (words : List Text) → IsSound words
unfolding steps
reads-spelled [] None o p e = ([], refl, e)
reads-spelled [] (Some n) o p e = absurd (cc)
reads-spelled (word ∷ words) None o p e = word-sound word words o p (reads-spelled words) e
reads-spelled (word ∷ words) (Some n) o p e =
    let (given, spelled, put) = put-sound words n word o p (reads-spelled words) e in (word, words, refl, given, spelled, put)

put-read : (given : Given) (words : List Text) (n : Name) (v : Text) (o p : Options)
    → ((next : Options) → puts given next ≡ Some p → option_and_then complete (steps (from None next) words) ≡ Some p)
    → puts ((n, v) ∷ given) o ≡ Some p → ends words (put_option n v o) ≡ Some p
put-read given words n v o p shorter e = at (put n v o) e
  where
    at : (r : Option Options) → option_and_then (puts given) r ≡ Some p → ends words (option_and_then read_option r) ≡ Some p
    at None h = absurd (cc)
    at (Some next) h = shorter next h

-- what is spelled is read
pub spelled-reads : (given : Given) (words : List Text) (o p : Options) → AreSpelled given words → puts given o ≡ Some p → option_and_then complete (steps (from None o) words) ≡ Some p
unfolding steps
spelled-reads [] words o p none e = ap (λ ws. option_and_then complete (steps (from None o) ws)) none ∙ e
spelled-reads ((n, v) ∷ given) words o p (rest, form, spelled) e = at (put-read given rest n v o p (λ next h. spelled-reads given rest next p spelled h) e) form
  where
    at : ends rest (put_option n v o) ≡ Some p → (words ≡ dashed n ∷ v ∷ rest) ⊎ (words ≡ (dashed n ++ (codes "=" ++ v)) ∷ rest) → option_and_then complete (steps (from None o) words) ≡ Some p
    at read (inl is) = ap (λ ws. option_and_then complete (steps (from None o) ws)) is ∙ ap (λ f. ends (v ∷ rest) (with_named o f)) (named-alone n) ∙ read
    at read (inr is) = ap (λ ws. option_and_then complete (steps (from None o) ws)) is ∙ ap (λ f. ends rest (with_named o f)) (named-is n (61 ∷ v)) ∙ read
