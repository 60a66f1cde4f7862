-- A reader is exact for a spelling: what it reads is spelled so, and what is spelled so it reads, whatever follows.
use Rattle.std.proofs.Common.{◌≡◌, ℕ, suc, ◌+◌, ◌<◌, Bool, true, false, cond, List, ◌∷◌, ◌++◌, get_or, take, drop, Option, Some, None, refl, sym, ap, subst, ◌∙◌, append_assoc, arith, inl, inr}
use Rattle.std.proofs.lemmas.Bool.{cases_lt}
use Rattle.std.proofs.lemmas.List.{get_or-drop, get_or-take, get_or_past, length-take}
use Rattle.kms_record.specs.Reading.{◌>>=◌, Read, passing, both, made_of}

abbrev pub IsBytes : List ℕ → Type 0
IsBytes bytes = (i : ℕ) → get_or bytes i 0 < 256

pub IsBytes-drop : (n : ℕ) (bytes : List ℕ) → IsBytes bytes → IsBytes (drop n bytes)
IsBytes-drop n bytes h i = rw get_or-drop (h (n + i))

pub IsBytes-take : (n : ℕ) (bytes : List ℕ) → IsBytes bytes → IsBytes (take n bytes)
IsBytes-take n bytes h i =
    elim (cases_lt i n) [
      | inl lt ↦ rw (get_or-take n bytes i 0 lt) (h i)
      | inr le ↦ rw (get_or_past (take n bytes) i 0 (omega (arith, length-take n bytes))) (omega arith)
    ]

pub IsBytes-rest : (b : ℕ) (bytes : List ℕ) → IsBytes (b ∷ bytes) → IsBytes bytes
IsBytes-rest b bytes h i = h (suc i)

-- the value of a step that read something
pub bind_some : {A B : Type 0} (o : Option A) (f : A → Option B) (y : B) → (o >>= f) ≡ Some y → (x : A) × (o ≡ Some x) × (f x ≡ Some y)
bind_some (Some x) f y e = (x, refl, e)
bind_some None f y e = absurd cc

-- a test that was passed, or wasn't to be
pub passed : {A : Type 0} (b : Bool) (x y : A) → cond b (Some x) None ≡ Some y → (b ≡ true) × (x ≡ y)
passed true x y e = (refl, cc)
passed false x y e = absurd cc

pub not_refused : {A : Type 0} (b : Bool) (o : Option A) (y : A) → cond b None o ≡ Some y → (b ≡ false) × (o ≡ Some y)
not_refused true o y e = absurd cc
not_refused false o y e = (refl, e)

abbrev pub found : {A : Type 0} → A → Option A
found x = Some x

pub some_is : {A : Type 0} (x y : A) → found x ≡ found y → x ≡ y
some_is x y e = cc

-- what a reader took from the front
pub record Takes (bytes text rest : List ℕ) : Type 0 where
  pub parts : bytes ≡ text ++ rest
  pub rest_fits : IsBytes rest

pub Takes-then : (a x b y c : List ℕ) → Takes a x b → Takes b y c → Takes a (x ++ y) c
Takes-then a x b y c p q = record { parts = p.parts ∙ ap (λ (t : List ℕ). x ++ t) q.parts ∙ sym (append_assoc x y c); rest_fits = q.rest_fits }

pub record IsCodec {A : Type 0} (spell : A → List ℕ) (Fits : A → Type 0) (read : Read A) : Type 0 where
  pub takes : (bytes : List ℕ) (x : A × List ℕ) → IsBytes bytes → read bytes ≡ Some x → Takes bytes (spell x.0) x.1 × Fits x.0
  pub again : (x : A) (rest : List ℕ) → Fits x → read (spell x ++ rest) ≡ Some (x, rest)

-- the same under another name of what fits, and of the spelling
pub refitted : {A : Type 0} {spell : A → List ℕ} {F G : A → Type 0} {read : Read A} → IsCodec spell F read → ((x : A) → F x → G x) → ((x : A) → G x → F x) → IsCodec spell G read
refitted {A} {spell} {F} {G} {read} codec to from = record {
  takes = λ bytes x fits e. let t = codec.takes bytes x fits e in (t.0, to x.0 t.1);
  again = λ x rest g. codec.again x rest (from x g);
}

pub respelled : {A : Type 0} {spell other : A → List ℕ} {F : A → Type 0} {read : Read A} → IsCodec spell F read → ((x : A) → spell x ≡ other x) → IsCodec other F read
respelled {A} {spell} {other} {F} {read} codec same = record {
  takes = λ bytes x fits e. let t = codec.takes bytes x fits e in (subst (λ (s : List ℕ). Takes bytes s x.1) (same x.0) t.0, t.1);
  again = λ x rest f. subst (λ (s : List ℕ). read (s ++ rest) ≡ Some (x, rest)) (same x) (codec.again x rest f);
}

-- a value that passes a test
pub passing_codec : {A : Type 0} {spell : A → List ℕ} {F : A → Type 0} {read : Read A} (test : A → Bool) → IsCodec spell F read → IsCodec spell (λ x. F x × (test x ≡ true)) (passing test read)
passing_codec {A} {spell} {F} {read} test codec = record {
  takes = λ bytes x fits e.
      let a = bind_some (read bytes) (λ y. cond (test y.0) (Some y) None) x e in
      let g = passed (test a.0.0) a.0 x a.2 in
      let t = codec.takes bytes a.0 fits a.1 in
      subst (λ (y : A × List ℕ). Takes bytes (spell y.0) y.1 × (F y.0 × (test y.0 ≡ true))) g.1 (t.0, (t.1, g.0));
  again = λ x rest f. rw (codec.again x rest f.0, f.1) refl;
}

-- one value, and another after it
pub both_codec : {A B : Type 0} {s : A → List ℕ} {t : B → List ℕ} {F : A → Type 0} {G : B → Type 0} {first : Read A} {second : Read B} → IsCodec s F first → IsCodec t G second → IsCodec (λ p. s p.0 ++ t p.1) (λ p. F p.0 × G p.1) (both first second)
both_codec {A} {B} {s} {t} {F} {G} {first} {second} one two = record {
  takes = λ bytes x fits e.
      let a = bind_some (first bytes) (λ y. second y.1 >>= λ z. Some ((y.0, z.0), z.1)) x e in
      let b = bind_some (second a.0.1) (λ z. Some ((a.0.0, z.0), z.1)) x a.2 in
      let p = one.takes bytes a.0 fits a.1 in
      let q = two.takes a.0.1 b.0 p.0.rest_fits b.1 in
      let made : (A × B) × List ℕ = ((a.0.0, b.0.0), b.0.1) in
      subst (λ (y : (A × B) × List ℕ). Takes bytes (s y.0.0 ++ t y.0.1) y.1 × (F y.0.0 × G y.0.1)) (some_is made x b.2)
      (Takes-then bytes (s a.0.0) a.0.1 (t b.0.0) b.0.1 p.0 q.0, (p.1, q.1));
  again = λ x rest f.
      let regrouped : (s x.0 ++ t x.1) ++ rest ≡ s x.0 ++ (t x.1 ++ rest) = append_assoc (s x.0) (t x.1) rest in
      ap (both first second) regrouped ∙ rw (one.again x.0 (t x.1 ++ rest) f.0, two.again x.1 rest f.1) refl;
}

-- a value made of another, and taken apart again
pub made_codec : {A B : Type 0} {spell : A → List ℕ} {F : A → Type 0} {read : Read A} (make : A → B) (parts : B → A) → ((a : A) → parts (make a) ≡ a) → ((b : B) → make (parts b) ≡ b) → IsCodec spell F read → IsCodec (λ b. spell (parts b)) (λ b. F (parts b)) (made_of make read)
made_codec {A} {B} {spell} {F} {read} make parts back again codec = record {
  takes = λ bytes x fits e.
      let a = bind_some (read bytes) (λ y. Some (make y.0, y.1)) x e in
      let t = codec.takes bytes a.0 fits a.1 in
      let made : B × List ℕ = (make a.0.0, a.0.1) in
      let whole : Takes bytes (spell (parts (make a.0.0))) a.0.1 × F (parts (make a.0.0)) = rw (back a.0.0) t in
      subst (λ (y : B × List ℕ). Takes bytes (spell (parts y.0)) y.1 × F (parts y.0)) (some_is made x a.2) whole;
  again = λ x rest f. rw (codec.again (parts x) rest f, again x) refl;
}

-- no spelling begins another
pub one_reading : {A : Type 0} {spell : A → List ℕ} {F : A → Type 0} {read : Read A} → IsCodec spell F read → (a b : A) (x y : List ℕ) → F a → F b → spell a ++ x ≡ spell b ++ y → (a ≡ b) × (x ≡ y)
one_reading {A} {spell} {F} {read} codec a b x y f g same =
    let p : A × List ℕ = (a, x) in
    let q : A × List ℕ = (b, y) in
    let e : p ≡ q = some_is p q (sym (codec.again a x f) ∙ ap read same ∙ codec.again b y g) in
    (ap (λ (z : A × List ℕ). z.0) e, ap (λ (z : A × List ℕ). z.1) e)
