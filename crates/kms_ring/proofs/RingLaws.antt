-- What a ring of master keys unwraps.
use Rattle.std.proofs.Common.{◌≡◌, ℕ, ◌+◌, ◌<◌, ◌≤◌, List, [], ◌∷◌, ◌++◌, length, take, drop, get_or, sym, ap, subst, ◌∙◌}
use Rattle.std.proofs.lemmas.List.{take_all, take_more, drop_more, take-append-drop}
use Rattle.kms_fernet.specs.Wrapped.{Unwraps, IsNotWrapped}
use Rattle.kms_ring.specs.Ring.{IsUnwrapped, IsUnderNone}
use Rattle.kms_ring.proofs.KeyFileLaws.{all_push}

-- the first so many of the keys don't open it
abbrev pub NoneOf : (masters : List (List ℕ)) → (wrapped : List ℕ) → (count : ℕ) → Type 0
NoneOf masters wrapped count = IsUnderNone (take count masters) wrapped

pub none_more : (masters : List (List ℕ)) (wrapped master : List ℕ) (i : ℕ) → i < length masters → master ≡ get_or masters i master → NoneOf masters wrapped i → IsNotWrapped master wrapped → NoneOf masters wrapped (i + 1)
none_more masters wrapped master i lt is none not =
    subst (λ (l : List (List ℕ)). IsUnderNone l wrapped) (sym (take_more masters i master lt ∙ ap (λ (m : List ℕ). take i masters ++ m ∷ []) (sym is)))
    (all_push (λ m. IsNotWrapped m wrapped) (take i masters) master none not)

pub none_at_all : (masters : List (List ℕ)) (wrapped : List ℕ) (i : ℕ) → length masters ≤ i → NoneOf masters wrapped i → IsUnderNone masters wrapped
none_at_all masters wrapped i le none = subst (λ (l : List (List ℕ)). IsUnderNone l wrapped) (take_all i masters le) none

pub here : (masters : List (List ℕ)) (wrapped master key : List ℕ) (i : ℕ) → i < length masters → master ≡ get_or masters i master → NoneOf masters wrapped i → Unwraps master wrapped key → IsUnwrapped masters wrapped key
here masters wrapped master key i lt is none opens = record {
  before = take i masters;
  master = master;
  after = drop (i + 1) masters;
  among = sym (take-append-drop i masters) ∙ ap (λ (l : List (List ℕ)). take i masters ++ l) (drop_more masters i master lt ∙ ap (λ (m : List ℕ). m ∷ drop (i + 1) masters) (sym is));
  not_before = none;
  opens = opens;
}
