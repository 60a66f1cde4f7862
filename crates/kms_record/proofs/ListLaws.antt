-- The readers of lists and of alternatives are exact.
use Rattle.std.proofs.Common.{◌≡◌, ℕ, zero, suc, ◌<◌, ◌≤◌, true, false, cond, eqb, leb, List, [], ◌∷◌, ◌++◌, length, Some, None, refl, ap, subst, ◌∙◌, append_assoc, arith, inl, inr}
use Rattle.std.specs.List.{flat_map, AllByRecursion}
use Rattle.std.proofs.lemmas.Bool.{eqb-true, leb-true, le-leb}
use Rattle.std.proofs.lemmas.List.Concat.{flat_map-cons}
use Rattle.kms_record.specs.Fields.{u8_bytes, list_bytes}
use Rattle.kms_record.specs.Reading.{◌>>=◌, Read, byte_at, many, list_count_at, list_at, chosen_at, alternatives_at, nothing_at, made_of}
use Rattle.kms_record.proofs.Codec.{IsBytes, IsBytes-rest, bind_some, not_refused, some_is, Takes, Takes-then, IsCodec, refitted, passing_codec}
use Rattle.kms_record.proofs.FieldLaws.{chosen}

-- ---- so many values

record TakesMany {A : Type 0} (spell : A → List ℕ) (F : A → Type 0) (n : ℕ) (bytes : List ℕ) (x : List A × List ℕ) : Type 0 where
  takes : Takes bytes (flat_map spell x.0) x.1
  count : length x.0 ≡ n
  each : AllByRecursion F x.0

many_take : {A : Type 0} (spell : A → List ℕ) (F : A → Type 0) (read : Read A) → IsCodec spell F read → (n : ℕ) (bytes : List ℕ) (x : List A × List ℕ) → IsBytes bytes → many read n bytes ≡ Some x → TakesMany spell F n bytes x
unfolding many
many_take {A} spell F read codec zero bytes x fits e =
    let made : List A × List ℕ = ([], bytes) in
    subst (λ (y : List A × List ℕ). TakesMany spell F 0 bytes y) (some_is made x e) (record { takes = record { parts = refl; rest_fits = fits }; count = refl; each = tt })
many_take {A} spell F read codec (suc n) bytes x fits e =
    let a = bind_some (read bytes) (λ first. many read n first.1 >>= λ others. Some (first.0 ∷ others.0, others.1)) x e in
    let b = bind_some (many read n a.0.1) (λ others. Some (a.0.0 ∷ others.0, others.1)) x a.2 in
    let first = codec.takes bytes a.0 fits a.1 in
    let second = many_take spell F read codec n a.0.1 b.0 first.0.rest_fits b.1 in
    let both = Takes-then bytes (spell a.0.0) a.0.1 (flat_map spell b.0.0) b.0.1 first.0 second.takes in
    let made : List A × List ℕ = (a.0.0 ∷ b.0.0, b.0.1) in
    subst (λ (y : List A × List ℕ). TakesMany spell F (suc n) bytes y) (some_is made x b.2)
    (record { takes = rw flat_map-cons both; count = ap suc second.count; each = (first.1, second.each) })

many_again : {A : Type 0} (spell : A → List ℕ) (F : A → Type 0) (read : Read A) → IsCodec spell F read → (xs : List A) (rest : List ℕ) → AllByRecursion F xs → many read (length xs) (flat_map spell xs ++ rest) ≡ Some (xs, rest)
unfolding many
many_again {A} spell F read codec [] rest each = refl
many_again {A} spell F read codec (x ∷ xs) rest each =
    let regrouped : flat_map spell (x ∷ xs) ++ rest ≡ spell x ++ (flat_map spell xs ++ rest) = ap (λ (t : List ℕ). t ++ rest) (flat_map-cons spell x xs) ∙ append_assoc (spell x) (flat_map spell xs) rest in
    ap (many read (suc (length xs))) regrouped ∙ rw (codec.again x (flat_map spell xs ++ rest) each.0, many_again spell F read codec xs rest each.1) refl

-- ---- a count, and so many values

abbrev pub counted : {A : Type 0} → Read ℕ → Read A → Read (List A)
counted {A} number read bytes = number bytes >>= λ count. many read count.0 count.1

abbrev pub counted_bytes : {A : Type 0} → (ℕ → List ℕ) → (A → List ℕ) → List A → List ℕ
counted_bytes {A} count spell xs = count (length xs) ++ flat_map spell xs

pub counted_codec : {A : Type 0} {count : ℕ → List ℕ} {limit : ℕ} {number : Read ℕ} {spell : A → List ℕ} {F : A → Type 0} {read : Read A} → IsCodec count (λ n. n < limit) number → IsCodec spell F read
    → IsCodec (counted_bytes count spell) (λ xs. (length xs < limit) × AllByRecursion F xs) (counted number read)
counted_codec {A} {count} {limit} {number} {spell} {F} {read} counts codec = record {
  takes = λ bytes x fits e.
      let a = bind_some (number bytes) (λ n. many read n.0 n.1) x e in
      let n = counts.takes bytes a.0 fits a.1 in
      let t = many_take spell F read codec a.0.0 a.0.1 x n.0.rest_fits a.2 in
      let both = Takes-then bytes (count a.0.0) a.0.1 (flat_map spell x.0) x.1 n.0 t.takes in
      (rw t.count both, (omega (arith, t.count, n.1), t.each));
  again = λ xs rest f.
      let regrouped : (count (length xs) ++ flat_map spell xs) ++ rest ≡ count (length xs) ++ (flat_map spell xs ++ rest) = append_assoc (count (length xs)) (flat_map spell xs) rest in
      ap (counted number read) regrouped ∙ rw (counts.again (length xs) (flat_map spell xs ++ rest) f.0) (many_again spell F read codec xs rest f.1);
}

not_none : (n : ℕ) → 1 ≤ n → eqb n 0 ≡ false
not_none n h = elim (eqb n 0) as (λ b. eqb n 0 ≡ b → b ≡ false) [ true ↦ λ e. absurd (omega (arith, eqb-true _ _ e)) | false ↦ λ e. refl ] refl

at_least_one : (n m : ℕ) → eqb n 0 ≡ false → m ≡ n → 1 ≤ m
at_least_one n m h e = grind (arith, e)

-- the count isn't 0
abbrev pub some_counted : {A : Type 0} → Read ℕ → Read A → Read (List A)
some_counted {A} number read bytes = number bytes >>= λ count. cond (eqb count.0 0) None (many read count.0 count.1)

pub some_counted_codec : {A : Type 0} {count : ℕ → List ℕ} {limit : ℕ} {number : Read ℕ} {spell : A → List ℕ} {F : A → Type 0} {read : Read A} → IsCodec count (λ n. n < limit) number → IsCodec spell F read
    → IsCodec (counted_bytes count spell) (λ xs. (1 ≤ length xs) × ((length xs < limit) × AllByRecursion F xs)) (some_counted number read)
some_counted_codec {A} {count} {limit} {number} {spell} {F} {read} counts codec = record {
  takes = λ bytes x fits e.
      let a = bind_some (number bytes) (λ n. cond (eqb n.0 0) None (many read n.0 n.1)) x e in
      let g = not_refused (eqb a.0.0 0) (many read a.0.0 a.0.1) x a.2 in
      let n = counts.takes bytes a.0 fits a.1 in
      let t = many_take spell F read codec a.0.0 a.0.1 x n.0.rest_fits g.1 in
      let both = Takes-then bytes (count a.0.0) a.0.1 (flat_map spell x.0) x.1 n.0 t.takes in
      (rw t.count both, (at_least_one a.0.0 (length x.0) g.0 t.count, (omega (arith, t.count, n.1), t.each)));
  again = λ xs rest f.
      let regrouped : (count (length xs) ++ flat_map spell xs) ++ rest ≡ count (length xs) ++ (flat_map spell xs ++ rest) = append_assoc (count (length xs)) (flat_map spell xs) rest in
      ap (some_counted number read) regrouped ∙ rw (counts.again (length xs) (flat_map spell xs ++ rest) f.1.0, not_none (length xs) f.0) (many_again spell F read codec xs rest f.1.1);
}

-- ---- lists of at most 100 values

byte_takes : (bytes : List ℕ) (x : ℕ × List ℕ) → IsBytes bytes → byte_at bytes ≡ Some x → Takes bytes (u8_bytes x.0) x.1 × Unit {0}
unfolding u8_bytes byte_at
byte_takes [] x fits e = absurd cc
byte_takes (b ∷ bytes) x fits e =
    let made : ℕ × List ℕ = (b, bytes) in
    subst (λ (y : ℕ × List ℕ). Takes (b ∷ bytes) (y.0 ∷ []) y.1 × Unit {0}) (some_is made x e) (record { parts = refl; rest_fits = IsBytes-rest b bytes fits }, tt)

byte_codec : IsCodec u8_bytes (λ n. Unit {0}) byte_at
unfolding u8_bytes byte_at
byte_codec = record { takes = byte_takes; again = λ n rest f. refl }

list_count_codec : IsCodec u8_bytes (λ n. n < 101) list_count_at
list_count_codec = refitted (passing_codec (λ n. leb n 100) byte_codec) (λ n f. omega (arith, leb-true n 100 f.1)) (λ n lt. (tt, le-leb _ _ (omega (arith, lt))))

pub list_codec : {A : Type 0} {spell : A → List ℕ} {F : A → Type 0} {read : Read A} → IsCodec spell F read → IsCodec (list_bytes spell) (λ xs. (length xs ≤ 100) × AllByRecursion F xs) (list_at read)
unfolding list_at
list_codec {A} {spell} {F} {read} codec = refitted (counted_codec list_count_codec codec) (λ xs f. (omega (arith, f.0), f.1)) (λ xs f. (omega (arith, f.0), f.1))

-- ---- alternatives

-- an alternative's reader reads what stands after its number
pub record IsAlternative {A : Type 0} (spell : A → List ℕ) (F : A → Type 0) (alternative : ℕ × Read A) : Type 0 where
  pub takes : (bytes : List ℕ) (x : A × List ℕ) → IsBytes bytes → alternative.1 bytes ≡ Some x → Takes (alternative.0 ∷ bytes) (spell x.0) x.1 × F x.0

chosen_takes : {A : Type 0} (spell : A → List ℕ) (F : A → Type 0) (alternatives : List (ℕ × Read A)) → AllByRecursion (IsAlternative spell F) alternatives
    → (n : ℕ) (bytes : List ℕ) (x : A × List ℕ) → IsBytes bytes → chosen_at n alternatives bytes ≡ Some x → Takes (n ∷ bytes) (spell x.0) x.1 × F x.0
chosen_takes {A} spell F [] each n bytes x fits e = absurd cc
chosen_takes {A} spell F (first ∷ others) each n bytes x fits e =
    elim (chosen (eqb n first.0) (first.1 bytes) (chosen_at n others bytes) x e) [
      | inl h ↦ let is : n ≡ first.0 = eqb-true _ _ h.0 in rw is (each.0.takes bytes x fits h.1)
      | inr h ↦ chosen_takes spell F others each.1 n bytes x fits h.1
    ]

alternatives_take : {A : Type 0} (spell : A → List ℕ) (F : A → Type 0) (alternatives : List (ℕ × Read A)) → AllByRecursion (IsAlternative spell F) alternatives
    → (bytes : List ℕ) (x : A × List ℕ) → IsBytes bytes → alternatives_at alternatives bytes ≡ Some x → Takes bytes (spell x.0) x.1 × F x.0
unfolding alternatives_at byte_at
alternatives_take {A} spell F alternatives each [] x fits e = absurd cc
alternatives_take {A} spell F alternatives each (b ∷ bytes) x fits e = chosen_takes spell F alternatives each b bytes x (IsBytes-rest b bytes fits) e

pub alternatives_codec : {A : Type 0} {spell : A → List ℕ} {F : A → Type 0} (alternatives : List (ℕ × Read A)) → AllByRecursion (IsAlternative spell F) alternatives
    → ((x : A) (rest : List ℕ) → F x → alternatives_at alternatives (spell x ++ rest) ≡ Some (x, rest)) → IsCodec spell F (alternatives_at alternatives)
alternatives_codec {A} {spell} {F} alternatives each again = record { takes = alternatives_take spell F alternatives each; again = again }

-- what is made of another value is an alternative
pub made_alternative : {A B : Type 0} {spell : A → List ℕ} {F : A → Type 0} {read : Read B} {inner : B → List ℕ} {G : B → Type 0} (n : ℕ) (make : B → A) → IsCodec inner G read
    → ((b : B) → spell (make b) ≡ n ∷ inner b) → ((b : B) → G b → F (make b)) → IsAlternative spell F (n, made_of make read)
made_alternative {A} {B} {spell} {F} {read} {inner} {G} n make codec same fits_too = record {
  takes = λ bytes x fits e.
      let a = bind_some (read bytes) (λ y. Some (make y.0, y.1)) x e in
      let t = codec.takes bytes a.0 fits a.1 in
      let made : A × List ℕ = (make a.0.0, a.0.1) in
      subst (λ (y : A × List ℕ). Takes (n ∷ bytes) (spell y.0) y.1 × F y.0) (some_is made x a.2)
      (record { parts = rw (same a.0.0) (ap (λ (w : List ℕ). n ∷ w) t.0.parts); rest_fits = t.0.rest_fits }, fits_too a.0.0 t.1);
}

-- so is a value that is spelled with nothing after the number
pub plain_alternative : {A : Type 0} {spell : A → List ℕ} {F : A → Type 0} (n : ℕ) (value : A) → spell value ≡ n ∷ [] → F value → IsAlternative spell F (n, nothing_at value)
plain_alternative {A} {spell} {F} n value same fits_too = record {
  takes = λ bytes x fits e.
      let made : A × List ℕ = (value, bytes) in
      subst (λ (y : A × List ℕ). Takes (n ∷ bytes) (spell y.0) y.1 × F y.0) (some_is made x e)
      (record { parts = rw same refl; rest_fits = fits }, fits_too);
}
