-- Options that are put one after the other, and the values that they have then.
use Rattle.std.proofs.Common.{◌≡◌, List, [], ◌∷◌, ◌++◌, Bool, true, false, Option, Some, None, refl, ap, sym, ◌∙◌}
use Rattle.std.specs.Prelude.{is_some, not, ◌&&◌, if◌then◌else◌}
use Rattle.std.specs.Option.{option_and_then}
use Rattle.std.proofs.lemmas.List.{append-nil}
use Rattle.kms_words.specs.Options.{Text, Options, value_of, with_value, put, is_value}
use Rattle.kms_words.specs.Spelled.{AreValues, values_of}
use Rattle.kms_words.specs.declared.options.Name.{Name}
use Rattle.kms_words.specs.declared.options.Name.TheVariants as name

abbrev pub Given : Type 0
Given = List (Name × Text)

-- the options after those of a list were put
abbrev pub puts : Given → Options → Option Options
puts [] o = Some o
puts ((n, v) ∷ given) o = option_and_then (puts given) (put n v o)

abbrev pub listed : Option Text → List Text
listed None = []
listed (Some v) = v ∷ []

-- the values from before and those that are given are the values after
abbrev pub HasValues : Given → Options → Options → Type 0
HasValues given o p = (n : Name) → listed (value_of n o) ++ values_of n given ≡ listed (value_of n p)

pub same_some : {A : Type 0} (x y : A) → Some x ≡ Some y → x ≡ y
same_some x y e = cc

listed_same : (x y : Option Text) → listed x ≡ listed y → x ≡ y
listed_same None None e = refl
listed_same None (Some b) e = absurd (cc)
listed_same (Some a) None e = absurd (cc)
listed_same (Some a) (Some b) e = cc

-- an option that is put has no value before, and this one after
put_first : (n : Name) (v : Text) (given : Given) (o p : Options) → value_of n o ≡ None → HasValues given (with_value n v o) p → HasValues ((n, v) ∷ given) o p
put_first name.Store v given o p none has name.Store = ap (λ x. listed x ++ (v ∷ values_of name.Store given)) none ∙ has name.Store
put_first name.Store v given o p none has name.Keys = has name.Keys
put_first name.Store v given o p none has name.Endpoint = has name.Endpoint
put_first name.Keys v given o p none has name.Store = has name.Store
put_first name.Keys v given o p none has name.Keys = ap (λ x. listed x ++ (v ∷ values_of name.Keys given)) none ∙ has name.Keys
put_first name.Keys v given o p none has name.Endpoint = has name.Endpoint
put_first name.Endpoint v given o p none has name.Store = has name.Store
put_first name.Endpoint v given o p none has name.Keys = has name.Keys
put_first name.Endpoint v given o p none has name.Endpoint = ap (λ x. listed x ++ (v ∷ values_of name.Endpoint given)) none ∙ has name.Endpoint

first_put : (n : Name) (v : Text) (given : Given) (o p : Options) → value_of n o ≡ None → HasValues ((n, v) ∷ given) o p → HasValues given (with_value n v o) p
first_put name.Store v given o p none has name.Store = sym (ap (λ x. listed x ++ (v ∷ values_of name.Store given)) none) ∙ has name.Store
first_put name.Store v given o p none has name.Keys = has name.Keys
first_put name.Store v given o p none has name.Endpoint = has name.Endpoint
first_put name.Keys v given o p none has name.Store = has name.Store
first_put name.Keys v given o p none has name.Keys = sym (ap (λ x. listed x ++ (v ∷ values_of name.Keys given)) none) ∙ has name.Keys
first_put name.Keys v given o p none has name.Endpoint = has name.Endpoint
first_put name.Endpoint v given o p none has name.Store = has name.Store
first_put name.Endpoint v given o p none has name.Keys = has name.Keys
first_put name.Endpoint v given o p none has name.Endpoint = sym (ap (λ x. listed x ++ (v ∷ values_of name.Endpoint given)) none) ∙ has name.Endpoint

none_before : (x y : Option Text) (v : Text) (vs : List Text) → listed x ++ (v ∷ vs) ≡ listed y → x ≡ None
none_before None y v vs e = refl
none_before (Some a) None v vs e = absurd (cc)
none_before (Some a) (Some b) v vs e = absurd (cc)

own : (n : Name) (v : Text) (given : Given) (o p : Options) → HasValues ((n, v) ∷ given) o p → listed (value_of n o) ++ (v ∷ values_of n given) ≡ listed (value_of n p)
own name.Store v given o p has = has name.Store
own name.Keys v given o p has = has name.Keys
own name.Endpoint v given o p has = has name.Endpoint

put_is : (n : Name) (v : Text) (o : Options) → is_value v ≡ true → value_of n o ≡ None → put n v o ≡ Some (with_value n v o)
put_is n v o good none = ap (λ t. if t && not (is_some (value_of n o)) then Some (with_value n v o) else None) good
    ∙ ap (λ x. if not (is_some x) then Some (with_value n v o) else None) none

-- what is put are good values, and there are no others
pub put_values : (given : Given) (o p : Options) → puts given o ≡ Some p → AreValues given × HasValues given o p
put_values [] o p e = (tt, λ n. append-nil (listed (value_of n o)) ∙ ap (λ x. listed (value_of n x)) (same_some o p e))
put_values ((n, v) ∷ given) o p e = at (put_values given (with_value n v o) p) (is_value v) refl (value_of n o) refl e
  where
    at : (puts given (with_value n v o) ≡ Some p → AreValues given × HasValues given (with_value n v o) p) → (t : Bool) → is_value v ≡ t → (x : Option Text) → value_of n o ≡ x
        → option_and_then (puts given) (if t && not (is_some x) then Some (with_value n v o) else None) ≡ Some p → AreValues ((n, v) ∷ given) × HasValues ((n, v) ∷ given) o p
    at shorter false good x none e = absurd (cc)
    at shorter true good (Some y) none e = absurd (cc)
    at shorter true good None none e = let rest = shorter e in ((good, rest.0), put_first n v given o p none rest.1)

-- and good values, no two of one option, are put
pub values_put : (given : Given) (o p : Options) → AreValues given → HasValues given o p → puts given o ≡ Some p
values_put [] o p good has = ap Some same
  where
    one : (n : Name) → value_of n o ≡ value_of n p
    one n = listed_same (value_of n o) (value_of n p) (sym (append-nil (listed (value_of n o))) ∙ has n)

    same : o ≡ p
    same = λ i. record { store = one name.Store i; keys = one name.Keys i; endpoint = one name.Endpoint i }
values_put ((n, v) ∷ given) o p (good, rest) has =
    let none : value_of n o ≡ None = none_before (value_of n o) (value_of n p) v (values_of n given) (own n v given o p has) in
    ap (option_and_then (puts given)) (put_is n v o good none) ∙ values_put given (with_value n v o) p rest (first_put n v given o p none has)
