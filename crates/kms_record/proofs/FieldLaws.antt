-- The readers of fields are exact.
use Rattle.std.proofs.Common.{◌≡◌, ℕ, ◌^◌, ◌<◌, ◌≤◌, Bool, true, false, ◌&&◌, cond, ltb, leb, eqb, List, [], ◌∷◌, ◌++◌, length, take, drop, Option, Some, None, refl, sym, ap, subst, ◌∙◌, append_assoc, arith, IsUtf8, inl, inr, ◌⊎◌}
use Rattle.std.specs.Prelude.{IfSome}
use Rattle.std.specs.Int.{Width, w16, w32, w64, byte_len, from_be_bytes, to_be_bytes}
use Rattle.std.specs.Str.{is_utf8}
use Rattle.std.proofs.lemmas.Bool.{eqb-true, ltb-false, le-ltb, ltb-true, leb-true, le-leb}
use Rattle.std.proofs.lemmas.List.{take_at, drop_at, take-append-drop, length-append, length-take}
use Rattle.std.proofs.lemmas.Nat.{be_bytes_2, be_bytes_4, be_bytes_8, from_be_bytes-to_be_bytes_2, from_be_bytes-to_be_bytes_4, from_be_bytes-to_be_bytes_8}
use Rattle.std.proofs.lemmas.Str.{IsUtf8-from_is_utf8, is_utf8-from_IsUtf8}
use Rattle.kms_world.specs.Name.{is_name}
use Rattle.kms_world.specs.Times.{end_of_times}
use Rattle.kms_record.specs.Fields.{u16_bytes, u32_bytes, u64_bytes, text_bytes, option_bytes, token_bytes, mark_bytes, IsShort, IsBitLength, IsToken}
use Rattle.kms_record.specs.Reading.{◌>>=◌, Read, taken, byte_at, number_at, id_at, time_at, bit_length_at, text_at, short_text_at, long_text_at, token_at, name_at, mark_at, option_at}
use Rattle.kms_record.proofs.Codec.{IsBytes, IsBytes-drop, IsBytes-take, IsBytes-rest, bind_some, passed, not_refused, found, some_is, Takes, Takes-then, IsCodec, refitted, passing_codec}

pub both_true : (a b : Bool) → (a && b) ≡ true → (a ≡ true) × (b ≡ true)
both_true true b h = (refl, h)
both_true false b h = absurd cc

-- ---- so many bytes

record TakesSome (n : ℕ) (bytes text rest : List ℕ) : Type 0 where
  takes : Takes bytes text rest
  many : length text ≡ n
  fits : IsBytes text

some_taken : (n : ℕ) (bytes : List ℕ) (x : List ℕ × List ℕ) → IsBytes bytes → taken n bytes ≡ Some x → TakesSome n bytes x.0 x.1
unfolding taken
some_taken n bytes x fits e =
    let g = not_refused (ltb (length bytes) n) (Some (take n bytes, drop n bytes)) x e in
    let long : n ≤ length bytes = ltb-false _ _ g.0 in
    let made : List ℕ × List ℕ = (take n bytes, drop n bytes) in
    subst (λ (y : List ℕ × List ℕ). TakesSome n bytes y.0 y.1) (some_is made x g.1) (record {
      takes = record { parts = sym (take-append-drop n bytes); rest_fits = IsBytes-drop n bytes fits };
      many = omega (arith, length-take n bytes);
      fits = IsBytes-take n bytes fits;
    })

taken_again : (n : ℕ) (text rest : List ℕ) → length text ≡ n → taken n (text ++ rest) ≡ Some (text, rest)
unfolding taken
taken_again n text rest len =
    let long : ltb (length (text ++ rest)) n ≡ false = le-ltb _ _ (omega (arith, length-append text rest)) in
    rw (long, take_at text rest n len, drop_at text rest n len) refl

-- ---- numbers

record IsWide (w : Width) (limit : ℕ) : Type 0 where
  len : (n : ℕ) → length (to_be_bytes w n) ≡ byte_len w
  back : (bytes : List ℕ) → length bytes ≡ byte_len w → IsBytes bytes → to_be_bytes w (from_be_bytes w bytes) ≡ bytes
  again : (n : ℕ) → n < limit → from_be_bytes w (to_be_bytes w n) ≡ n
  below : (bytes : List ℕ) → IsBytes bytes → from_be_bytes w bytes < limit

wide16 : IsWide w16 (2 ^ 16)
wide16 = record {
  len = λ n. refl;
  back = λ bytes len fits. be_bytes_2 bytes _ len fits refl;
  again = λ n lt. from_be_bytes-to_be_bytes_2 n lt;
  below = λ bytes fits. omega (arith, fits 0, fits 1);
}

wide32 : IsWide w32 (2 ^ 32)
wide32 = record {
  len = λ n. refl;
  back = λ bytes len fits. be_bytes_4 bytes _ len fits refl;
  again = λ n lt. from_be_bytes-to_be_bytes_4 n lt;
  below = λ bytes fits. omega (arith, fits 0, fits 1, fits 2, fits 3);
}

wide64 : IsWide w64 (2 ^ 64)
wide64 = record {
  len = λ n. refl;
  back = λ bytes len fits. be_bytes_8 bytes _ len fits refl;
  again = λ n lt. from_be_bytes-to_be_bytes_8 n lt;
  below = λ bytes fits. omega (arith, fits 0, fits 1, fits 2, fits 3, fits 4, fits 5, fits 6, fits 7);
}

number_codec : (w : Width) (limit : ℕ) → IsWide w limit → IsCodec (to_be_bytes w) (λ n. n < limit) (number_at w)
unfolding number_at
number_codec w limit wide = record {
  takes = λ bytes x fits e.
      let a = bind_some (taken (byte_len w) bytes) (λ n. Some (from_be_bytes w n.0, n.1)) x e in
      let t = some_taken (byte_len w) bytes a.0 fits a.1 in
      let made : ℕ × List ℕ = (from_be_bytes w a.0.0, a.0.1) in
      let spelled : Takes bytes (to_be_bytes w (from_be_bytes w a.0.0)) a.0.1 = rw (wide.back a.0.0 t.many t.fits) t.takes in
      subst (λ (y : ℕ × List ℕ). Takes bytes (to_be_bytes w y.0) y.1 × (y.0 < limit)) (some_is made x a.2) (spelled, wide.below a.0.0 t.fits);
  again = λ n rest lt. rw (taken_again (byte_len w) (to_be_bytes w n) rest (wide.len n), wide.again n lt) refl;
}

pub u16_codec : IsCodec u16_bytes (λ n. n < 2 ^ 16) (number_at w16)
unfolding u16_bytes
u16_codec = number_codec w16 (2 ^ 16) wide16

pub u32_codec : IsCodec u32_bytes (λ n. n < 2 ^ 32) (number_at w32)
unfolding u32_bytes
u32_codec = number_codec w32 (2 ^ 32) wide32

pub u64_codec : IsCodec u64_bytes (λ n. n < 2 ^ 64) (number_at w64)
unfolding u64_bytes
u64_codec = number_codec w64 (2 ^ 64) wide64

pub id_codec : IsCodec u64_bytes (λ n. n < 2 ^ 62) id_at
id_codec = refitted (passing_codec (λ n. ltb n (2 ^ 62)) u64_codec) (λ n f. ltb-true _ _ f.1) (λ n lt. (omega arith, le-leb _ _ lt))

pub time_codec : IsCodec u64_bytes (λ n. n < end_of_times) time_at
time_codec = refitted (passing_codec (λ n. ltb n end_of_times) u64_codec) (λ n f. ltb-true _ _ f.1) (λ n lt. (omega arith, le-leb _ _ lt))

pub bit_length_codec : IsCodec u16_bytes IsBitLength bit_length_at
bit_length_codec = refitted (passing_codec (λ n. leb 1 n && leb n 32767) u16_codec)
    (λ n f. let b = both_true (leb 1 n) (leb n 32767) f.1 in (leb-true _ _ b.0, leb-true _ _ b.1))
    (λ n b. (omega (arith, b.1), rw (le-leb _ _ b.0, le-leb _ _ b.1) refl))

-- ---- texts

text_codec : IsCodec text_bytes (λ t. length t < 2 ^ 16) text_at
unfolding text_bytes text_at
text_codec = record {
  takes = λ bytes x fits e.
      let a = bind_some (number_at w16 bytes) (λ n. taken n.0 n.1) x e in
      let n = u16_codec.takes bytes a.0 fits a.1 in
      let t = some_taken a.0.0 a.0.1 x n.0.rest_fits a.2 in
      let both = Takes-then bytes (u16_bytes a.0.0) a.0.1 x.0 x.1 n.0 t.takes in
      (rw t.many both, omega (arith, t.many, n.1));
  again = λ t rest lt.
      let regrouped : (u16_bytes (length t) ++ t) ++ rest ≡ u16_bytes (length t) ++ (t ++ rest) = append_assoc (u16_bytes (length t)) t rest in
      ap text_at regrouped ∙ rw (u16_codec.again (length t) (t ++ rest) lt) (taken_again (length t) t rest refl);
}

pub short_text_codec : IsCodec text_bytes (λ t. IsShort t × IsUtf8 t) short_text_at
short_text_codec = refitted (passing_codec (λ t. leb (length t) 255 && is_utf8 t) text_codec)
    (λ t f. let b = both_true (leb (length t) 255) (is_utf8 t) f.1 in (leb-true _ _ b.0, IsUtf8-from_is_utf8 t b.1))
    (λ t b. (omega (arith, b.0), rw (le-leb _ _ b.0, is_utf8-from_IsUtf8 t b.1) refl))

pub name_is_short : (t : List ℕ) → is_name t ≡ true → length t ≤ 64
name_is_short t h = leb-true _ _ (both_true _ _ (both_true _ _ h).0).1

name_codec : IsCodec text_bytes (λ t. is_name t ≡ true) name_at
name_codec = refitted (passing_codec is_name text_codec) (λ t f. f.1) (λ t h. (omega (arith, name_is_short t h), h))

pub short_name_codec : IsCodec text_bytes (λ t. (length t ≤ 64) × (is_name t ≡ true)) name_at
short_name_codec = refitted name_codec (λ t h. (name_is_short t h, h)) (λ t h. h.1)

-- ---- tokens and wrapped keys

pub taken_codec : (n : ℕ) → IsCodec (λ t. t) (λ t. length t ≡ n) (taken n)
taken_codec n = record {
  takes = λ bytes x fits e. let t = some_taken n bytes x fits e in (t.takes, t.many);
  again = λ t rest len. taken_again n t rest len;
}

long_text_codec : IsCodec token_bytes (λ t. length t < 2 ^ 32) long_text_at
unfolding token_bytes long_text_at
long_text_codec = record {
  takes = λ bytes x fits e.
      let a = bind_some (number_at w32 bytes) (λ n. taken n.0 n.1) x e in
      let n = u32_codec.takes bytes a.0 fits a.1 in
      let t = some_taken a.0.0 a.0.1 x n.0.rest_fits a.2 in
      let both = Takes-then bytes (u32_bytes a.0.0) a.0.1 x.0 x.1 n.0 t.takes in
      (rw t.many both, omega (arith, t.many, n.1));
  again = λ t rest lt.
      let regrouped : (u32_bytes (length t) ++ t) ++ rest ≡ u32_bytes (length t) ++ (t ++ rest) = append_assoc (u32_bytes (length t)) t rest in
      ap long_text_at regrouped ∙ rw (u32_codec.again (length t) (t ++ rest) lt) (taken_again (length t) t rest refl);
}

pub token_codec : IsCodec token_bytes IsToken token_at
token_codec = refitted (passing_codec (λ t. leb 100 (length t) && leb (length t) 26764) long_text_codec)
    (λ t f. let b = both_true (leb 100 (length t)) (leb (length t) 26764) f.1 in (leb-true _ _ b.0, leb-true _ _ b.1))
    (λ t b. (omega (arith, b.1), rw (le-leb _ _ b.0, le-leb _ _ b.1) refl))

-- ---- marks and optional values

-- either the first, or the others
pub chosen : {A : Type 0} (b : Bool) (o p : Option A) (x : A) → cond b o p ≡ Some x → ((b ≡ true) × (o ≡ Some x)) ⊎ ((b ≡ false) × (p ≡ Some x))
chosen true o p x e = inl (refl, e)
chosen false o p x e = inr (refl, e)

-- a mark is 0 or 1
mark_found : (b : ℕ) (bytes : List ℕ) (x : Bool × List ℕ) → mark_at (b ∷ bytes) ≡ Some x → ((b ≡ 0) × ((false, bytes) ≡ x)) ⊎ ((b ≡ 1) × ((true, bytes) ≡ x))
unfolding mark_at byte_at
mark_found b bytes x e =
    let without : Bool × List ℕ = (false, bytes) in
    let with : Bool × List ℕ = (true, bytes) in
    elim (chosen (eqb b 0) (Some without) (cond (eqb b 1) (Some with) None) x e) [
      | inl h ↦ inl (eqb-true _ _ h.0, some_is without x h.1)
      | inr h ↦ let g = passed (eqb b 1) with x h.1 in inr (eqb-true _ _ g.0, g.1)
    ]

no_mark : (x : Bool × List ℕ) → mark_at [] ≡ Some x → ⊥
unfolding mark_at byte_at
no_mark x e = cc

record IsOption {A : Type 0} (spell : A → List ℕ) (F : A → Type 0) (bytes : List ℕ) (x : Option A × List ℕ) : Type 0 where
  takes : Takes bytes (option_bytes spell x.0) x.1
  fits : IfSome x.0 F

option_takes : {A : Type 0} (spell : A → List ℕ) (F : A → Type 0) (read : Read A) → IsCodec spell F read → (bytes : List ℕ) (x : Option A × List ℕ) → IsBytes bytes → option_at read bytes ≡ Some x → IsOption spell F bytes x
unfolding option_at
option_takes {A} spell F read codec [] x fits e = let m = bind_some (mark_at []) (λ mark. cond mark.0 (read mark.1 >>= λ y. Some (Some y.0, y.1)) (Some (None, mark.1))) x e in absurd (no_mark m.0 m.1)
option_takes {A} spell F read codec (b ∷ bytes) x fits e =
    let rest_fits = IsBytes-rest b bytes fits in
    let k : Bool × List ℕ → Option (Option A × List ℕ) = λ mark. cond mark.0 (read mark.1 >>= λ y. Some (Some y.0, y.1)) (Some (None, mark.1)) in
    let m = bind_some (mark_at (b ∷ bytes)) k x e in
    elim (mark_found b bytes m.0 m.1) [
      | inl h ↦
          let made : Option A × List ℕ = (None, bytes) in
          let e2 : found made ≡ found x = ap k h.1 ∙ m.2 in
          subst (λ (y : Option A × List ℕ). IsOption spell F (b ∷ bytes) y) (some_is made x e2)
          (record { takes = record { parts = ap (λ (n : ℕ). n ∷ bytes) h.0; rest_fits = rest_fits }; fits = tt })
      | inr h ↦
          let e2 : (read bytes >>= λ y. Some (Some y.0, y.1)) ≡ Some x = ap k h.1 ∙ m.2 in
          let a = bind_some (read bytes) (λ y. Some (Some y.0, y.1)) x e2 in
          let t = codec.takes bytes a.0 rest_fits a.1 in
          let made : Option A × List ℕ = (Some a.0.0, a.0.1) in
          subst (λ (y : Option A × List ℕ). IsOption spell F (b ∷ bytes) y) (some_is made x a.2)
          (record { takes = record { parts = ap (λ (n : ℕ). n ∷ bytes) h.0 ∙ ap (λ (w : List ℕ). 1 ∷ w) t.0.parts; rest_fits = t.0.rest_fits }; fits = t.1 })
    ]

option_again : {A : Type 0} (spell : A → List ℕ) (F : A → Type 0) (read : Read A) → IsCodec spell F read → (o : Option A) (rest : List ℕ) → IfSome o F → option_at read (option_bytes spell o ++ rest) ≡ Some (o, rest)
unfolding option_at mark_at byte_at
option_again {A} spell F read codec None rest f = refl
option_again {A} spell F read codec (Some x) rest f = rw (codec.again x rest f) refl

pub option_codec : {A : Type 0} {spell : A → List ℕ} {F : A → Type 0} {read : Read A} → IsCodec spell F read → IsCodec (option_bytes spell) (λ o. IfSome o F) (option_at read)
option_codec {A} {spell} {F} {read} codec = record {
  takes = λ bytes x fits e. let t = option_takes spell F read codec bytes x fits e in (t.takes, t.fits);
  again = option_again spell F read codec;
}

pub optional_text_codec : IsCodec (option_bytes text_bytes) (λ o. IfSome o IsShort × IfSome o IsUtf8) (option_at short_text_at)
optional_text_codec = refitted (option_codec short_text_codec) parted joined
  where
    parted : (o : Option (List ℕ)) → IfSome o (λ t. IsShort t × IsUtf8 t) → IfSome o IsShort × IfSome o IsUtf8
    parted None h = (tt, tt)
    parted (Some t) h = h

    joined : (o : Option (List ℕ)) → IfSome o IsShort × IfSome o IsUtf8 → IfSome o (λ t. IsShort t × IsUtf8 t)
    joined None h = tt
    joined (Some t) h = h

mark_takes : (bytes : List ℕ) (x : Bool × List ℕ) → IsBytes bytes → mark_at bytes ≡ Some x → Takes bytes (mark_bytes x.0) x.1 × Unit {0}
unfolding mark_bytes
mark_takes [] x fits e = absurd (no_mark x e)
mark_takes (b ∷ bytes) x fits e =
    let rest_fits = IsBytes-rest b bytes fits in
    elim (mark_found b bytes x e) [
      | inl h ↦ subst (λ (y : Bool × List ℕ). Takes (b ∷ bytes) (mark_bytes y.0) y.1 × Unit {0}) h.1 (record { parts = ap (λ (n : ℕ). n ∷ bytes) h.0; rest_fits = rest_fits }, tt)
      | inr h ↦ subst (λ (y : Bool × List ℕ). Takes (b ∷ bytes) (mark_bytes y.0) y.1 × Unit {0}) h.1 (record { parts = ap (λ (n : ℕ). n ∷ bytes) h.0; rest_fits = rest_fits }, tt)
    ]

mark_again : (b : Bool) (rest : List ℕ) → Unit {0} → mark_at (mark_bytes b ++ rest) ≡ Some (b, rest)
unfolding mark_bytes mark_at byte_at
mark_again true rest f = refl
mark_again false rest f = refl

pub mark_codec : IsCodec mark_bytes (λ b. Unit {0}) mark_at
mark_codec = record { takes = mark_takes; again = mark_again }
