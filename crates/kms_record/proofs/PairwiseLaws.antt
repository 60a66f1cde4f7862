-- Lists of which each value passes a test with each one after it.
use Rattle.std.proofs.Common.{◌≡◌, ℕ, zero, suc, ◌+◌, ◌-◌, ◌<◌, ◌≤◌, Bool, true, false, ◌&&◌, cond, List, [], ◌∷◌, ◌++◌, length, get_or, Option, Some, None, refl, sym, ap, ◌∙◌, append_assoc, arith, inl, inr, ◌⊎◌}
use Rattle.std.specs.List.{list_all, AllByRecursion}
use Rattle.std.proofs.lemmas.List.Folds.{list_all-append}
use Rattle.std.proofs.lemmas.List.{append-nil}
use Rattle.kms_record.specs.declared.read_error.ReadError.{ReadError}
use Rattle.kms_record.specs.declared.read_error.ReadError.TheVariants as errors
use Rattle.kms_record.specs.Reading.{◌>>=◌, Read, Fails, many, pairwise}
use Rattle.kms_record.proofs.FieldLaws.{both_true}

-- ---- two facts of each value

pub parted : {A : Type 0} (P Q : A → Type 0) (xs : List A) → AllByRecursion (λ x. P x × Q x) xs → AllByRecursion P xs × AllByRecursion Q xs
parted {A} P Q [] each = (tt, tt)
parted {A} P Q (x ∷ xs) each = let rest = parted P Q xs each.1 in ((each.0.0, rest.0), (each.0.1, rest.1))

pub joined : {A : Type 0} (P Q : A → Type 0) (xs : List A) → AllByRecursion P xs × AllByRecursion Q xs → AllByRecursion (λ x. P x × Q x) xs
joined {A} P Q [] each = tt
joined {A} P Q (x ∷ xs) each = ((each.0.0, each.1.0), joined P Q xs (each.0.1, each.1.1))

pub all_push : {A : Type 0} (P : A → Type 0) (xs : List A) (x : A) → AllByRecursion P xs → P x → AllByRecursion P (xs ++ x ∷ [])
all_push {A} P [] x each last = (last, tt)
all_push {A} P (y ∷ ys) x each last = (each.0, all_push P ys x each.1 last)

pub all_at : {A : Type 0} (P : A → Type 0) (xs : List A) (i : ℕ) (d : A) → AllByRecursion P xs → i < length xs → P (get_or xs i d)
all_at {A} P [] i d each lt = absurd (omega (arith, lt))
all_at {A} P (x ∷ xs) zero d each lt = each.0
all_at {A} P (x ∷ xs) (suc i) d each lt = all_at P xs i d each.1 (omega (arith, lt))

-- ---- by places

pub passes_at : {A : Type 0} (test : A → Bool) (xs : List A) (i : ℕ) (d : A) → list_all test xs ≡ true → i < length xs → test (get_or xs i d) ≡ true
passes_at {A} test [] i d h lt = absurd (omega (arith, lt))
passes_at {A} test (x ∷ xs) zero d h lt = (both_true (test x) (list_all test xs) h).0
passes_at {A} test (x ∷ xs) (suc i) d h lt = passes_at test xs i d (both_true (test x) (list_all test xs) h).1 (omega (arith, lt))

pub pairwise_at : {A : Type 0} (test : A → A → Bool) (xs : List A) (i j : ℕ) (d : A) → pairwise test xs ≡ true → i < j → j < length xs → test (get_or xs i d) (get_or xs j d) ≡ true
pairwise_at {A} test [] i j d h lt within = absurd (omega (arith, within))
pairwise_at {A} test (x ∷ xs) i zero d h lt within = absurd (omega (arith, lt))
pairwise_at {A} test (x ∷ xs) zero (suc j) d h lt within = passes_at (test x) xs j d (both_true (list_all (test x) xs) (pairwise test xs) h).0 (omega (arith, within))
pairwise_at {A} test (x ∷ xs) (suc i) (suc j) d h lt within = pairwise_at test xs i j d (both_true (list_all (test x) xs) (pairwise test xs) h).1 (omega (arith, lt)) (omega (arith, within))

all_from_places : {A : Type 0} (test : A → Bool) (xs : List A) (d : A) → ((i : ℕ) → i < length xs → test (get_or xs i d) ≡ true) → list_all test xs ≡ true
all_from_places {A} test [] d each = refl
all_from_places {A} test (x ∷ xs) d each =
    let first : test x ≡ true = each 0 (omega arith) in
    rw (first, all_from_places test xs d (λ i lt. each (suc i) (omega (arith, lt)))) refl

pub pairwise_from_places : {A : Type 0} (test : A → A → Bool) (xs : List A) → ((i j : ℕ) (d : A) → i < j → j < length xs → test (get_or xs i d) (get_or xs j d) ≡ true) → pairwise test xs ≡ true
pairwise_from_places {A} test [] each = refl
pairwise_from_places {A} test (x ∷ xs) each =
    let first : list_all (test x) xs ≡ true = all_from_places (test x) xs x (λ i lt. each 0 (suc i) x (omega arith) (omega (arith, lt))) in
    rw (first, pairwise_from_places test xs (λ i j d lt within. each (suc i) (suc j) d (omega (arith, lt)) (omega (arith, within)))) refl

-- ---- one more value

and_true : (a b : Bool) → a ≡ true → b ≡ true → (a && b) ≡ true
and_true a b p q = rw (p, q) refl

pub pairwise_push : {A : Type 0} (test : A → A → Bool) (xs : List A) (y : A) → pairwise test xs ≡ true → list_all (λ x. test x y) xs ≡ true → pairwise test (xs ++ y ∷ []) ≡ true
pairwise_push {A} test [] y h k = refl
pairwise_push {A} test (x ∷ xs) y h k =
    let a = both_true (list_all (test x) xs) (pairwise test xs) h in
    let b = both_true (test x y) (list_all (λ x. test x y) xs) k in
    let last : list_all (test x) (y ∷ []) ≡ true = and_true (test x y) true b.0 refl in
    and_true (list_all (test x) (xs ++ y ∷ [])) (pairwise test (xs ++ y ∷ []))
    (list_all-append (test x) xs (y ∷ []) ∙ and_true (list_all (test x) xs) (list_all (test x) (y ∷ [])) a.0 last)
    (pairwise_push test xs y a.1 b.1)

-- a list that goes on after a value that fails is refused
and_false : (a : Bool) → (a && false) ≡ false
and_false true = refl
and_false false = refl

fails_at_one : (a b : Bool) → (a && b) ≡ false → (a ≡ false) ⊎ (b ≡ false)
fails_at_one true b e = inr e
fails_at_one false b e = inl refl

pub pairwise_fails : {A : Type 0} (test : A → A → Bool) (xs : List A) (y : A) (ys : List A) → list_all (λ x. test x y) xs ≡ false → pairwise test (xs ++ y ∷ ys) ≡ false
pairwise_fails {A} test [] y ys h = absurd cc
pairwise_fails {A} test (x ∷ xs) y ys h =
    elim (fails_at_one (test x y) (list_all (λ x. test x y) xs) h) [
      | inl first ↦
          let e : list_all (test x) (xs ++ y ∷ ys) ≡ false = list_all-append (test x) xs (y ∷ ys) ∙ rw first (and_false (list_all (test x) xs)) in
          rw e refl
      | inr others ↦ rw (pairwise_fails test xs y ys others) (and_false (list_all (test x) (xs ++ y ∷ ys)))
    ]

-- ---- reading so many values of which each passes with those before it

abbrev pub tested : {A : Type 0} → (A → A → Bool) → List A → Option (List A × List ℕ) → Option (List A × List ℕ)
tested {A} test front read = read >>= λ x. cond (pairwise test (front ++ x.0)) (Some (front ++ x.0, x.1)) None

pub tested_begins : {A : Type 0} (test : A → A → Bool) (read : Option (List A × List ℕ)) → tested test [] read ≡ (read >>= λ x. cond (pairwise test x.0) (Some x) None)
tested_begins {A} test (Some x) = refl
tested_begins {A} test None = refl

tested_regroup : {A : Type 0} (test : A → A → Bool) (front : List A) (x : A) (read : Option (List A × List ℕ)) → tested test front (read >>= λ y. Some (x ∷ y.0, y.1)) ≡ tested test (front ++ x ∷ []) read
tested_regroup {A} test front x (Some y) =
    let e : front ++ (x ∷ y.0) ≡ (front ++ x ∷ []) ++ y.0 = simp append_assoc in
    ap (λ (xs : List A). cond (pairwise test xs) (Some (xs, y.1)) None) e
tested_regroup {A} test front x None = refl

tested_next : {A : Type 0} (test : A → A → Bool) (read : Read A) (front : List A) (count i : ℕ) (bytes : List ℕ) (x : A) (after : List ℕ) → i < count → read bytes ≡ Some (x, after)
    → tested test front (many read (count - i) bytes) ≡ tested test (front ++ x ∷ []) (many read (count - (i + 1)) after)
unfolding many
tested_next {A} test read front count i bytes x after lt h =
    let k : count - i ≡ suc (count - (i + 1)) = omega arith in
    rw (k, h) (tested_regroup test front x (many read (count - (i + 1)) after))

-- the values read so far pass, and with those that are still read they are all
pub record IsTested {A : Type 0} (test : A → A → Bool) (read : Read A) (front : List A) (left : ℕ) (bytes : List ℕ) (total : Option (List A × List ℕ)) : Type 0 where
  pub passes : pairwise test front ≡ true
  pub so_far : tested test front (many read left bytes) ≡ total

pub tested_goes_on : {A : Type 0} (test : A → A → Bool) (read : Read A) (front : List A) (count i : ℕ) (bytes : List ℕ) (x : A) (after : List ℕ) (total : Option (List A × List ℕ)) → i < count → read bytes ≡ Some (x, after)
    → list_all (λ y. test y x) front ≡ true → IsTested test read front (count - i) bytes total → IsTested test read (front ++ x ∷ []) (count - (i + 1)) after total
tested_goes_on {A} test read front count i bytes x after total lt h all t = record {
  passes = pairwise_push test front x t.passes all;
  so_far = sym (tested_next test read front count i bytes x after lt h) ∙ t.so_far;
}

tested_none : {A : Type 0} (test : A → A → Bool) (front : List A) (x : A) (read : Option (List A × List ℕ)) → list_all (λ y. test y x) front ≡ false → tested test (front ++ x ∷ []) read ≡ None
tested_none {A} test front x None fails = refl
tested_none {A} test front x (Some y) fails =
    let e : front ++ (x ∷ y.0) ≡ (front ++ x ∷ []) ++ y.0 = simp append_assoc in
    let f : pairwise test ((front ++ x ∷ []) ++ y.0) ≡ false = ap (pairwise test) (sym e) ∙ pairwise_fails test front x y.0 fails in
    rw f refl

pub tested_refuses : {A : Type 0} (test : A → A → Bool) (read : Read A) (front : List A) (count i : ℕ) (bytes : List ℕ) (x : A) (after : List ℕ) (total : Option (List A × List ℕ)) → i < count → read bytes ≡ Some (x, after)
    → list_all (λ y. test y x) front ≡ false → IsTested test read front (count - i) bytes total → total ≡ None
tested_refuses {A} test read front count i bytes x after total lt h fails t =
    sym t.so_far ∙ tested_next test read front count i bytes x after lt h ∙ tested_none test front x (many read (count - (i + 1)) after) fails

tested_off : {A : Type 0} (test : A → A → Bool) (read : Read A) (front : List A) (count i : ℕ) (bytes : List ℕ) → i < count → read bytes ≡ None → tested test front (many read (count - i) bytes) ≡ None
unfolding many
tested_off {A} test read front count i bytes lt h = let k : count - i ≡ suc (count - (i + 1)) = omega arith in rw (k, h) refl

pub tested_ends : {A : Type 0} (test : A → A → Bool) (read : Read A) (e : ReadError) (front : List A) (count i : ℕ) (bytes : List ℕ) (total : Option (List A × List ℕ)) → i < count → Fails e (read bytes)
    → IsTested test read front (count - i) bytes total → Fails e total
tested_ends {A} test read errors.NoMemory front count i bytes total lt h t = tt
tested_ends {A} test read errors.Malformed front count i bytes total lt h t = sym t.so_far ∙ tested_off test read front count i bytes lt h

pub tested_is_done : {A : Type 0} (test : A → A → Bool) (read : Read A) (front : List A) (count i : ℕ) (bytes : List ℕ) (total : Option (List A × List ℕ)) → count ≤ i → IsTested test read front (count - i) bytes total → total ≡ Some (front, bytes)
unfolding many
tested_is_done {A} test read front count i bytes total le t =
    let k : count - i ≡ 0 = omega arith in
    let same : front ++ [] ≡ front = append-nil front in
    let one : tested test front (many read (count - i) bytes) ≡ Some (front, bytes) = rw (k, same, t.passes) refl in
    sym t.so_far ∙ one
