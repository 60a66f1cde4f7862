-- What a window shows after one piece and another is what it shows after both at once.
use Rattle.std.proofs.Common.{◌≡◌, ℕ, zero, suc, ◌+◌, ◌-◌, ◌≤◌, ◌<◌, List, [], ◌∷◌, ◌++◌, length, get_or, take, drop, refl, sym, ap, ◌∙◌, append_assoc, arith, length-append, length-drop, min, inl, inr}
use Rattle.std.proofs.lemmas.Bool.{cases_lt}
use Rattle.std.proofs.lemmas.List.{append-nil, take_all, drop_all, length-take, length-take-le, take_more}
use Rattle.std.proofs.lemmas.Slice.{take-put_mid}
use borrow.Rule.Slice.PartMut.{put_mid}
use Rattle.std.specs.List.{flat_map, AllByRecursion}
use Rattle.std.proofs.lemmas.List.Concat.{flat_map-cons, flat_map-append}
use Rattle.kms_record.specs.Window.{Shown, shown_in, shown}
use Rattle.kms_record.proofs.PairwiseLaws.{all_push}

made : (m n : ℕ) (a b : List ℕ) → m ≡ n → a ≡ b → (let x : Shown = record { unseen = m; bytes = a } in let y : Shown = record { unseen = n; bytes = b } in x ≡ y)
made m n a b p q = cc

drop-append : (n : ℕ) (a b : List ℕ) → drop n (a ++ b) ≡ drop n a ++ drop (n - length a) b
drop-append zero a b = let e : 0 - length a ≡ 0 = omega arith in rw e refl
drop-append (suc n) [] b = let e : suc n - 0 ≡ suc n = omega arith in rw e refl
drop-append (suc n) (x ∷ a) b = let e : suc n - suc (length a) ≡ n - length a = omega arith in rw e (drop-append n a b)

take-append : (n : ℕ) (a b : List ℕ) → take n (a ++ b) ≡ take n a ++ take (n - length a) b
take-append zero a b = let e : 0 - length a ≡ 0 = omega arith in rw e refl
take-append (suc n) [] b = let e : suc n - 0 ≡ suc n = omega arith in rw e refl
take-append (suc n) (x ∷ a) b = let e : suc n - suc (length a) ≡ n - length a = omega arith in rw e (ap (λ (l : List ℕ). x ∷ l) (take-append n a b))

both_shown : (n : ℕ) (s : Shown) (a b : List ℕ) → shown_in n (shown_in n s a) b ≡ shown_in n s (a ++ b)
both_shown n s a b =
    let x : List ℕ = s.bytes in
    let m : ℕ = n - length x in
    let first : List ℕ = drop s.unseen a in
    let second : List ℕ = drop (s.unseen - length a) b in
    let left : n - length (x ++ take m first) ≡ m - length first = omega (arith, length-append x (take m first), length-take m first) in
    made (s.unseen - length a - length b) (s.unseen - length (a ++ b)) ((x ++ take m first) ++ take (n - length (x ++ take m first)) second) (x ++ take m (drop s.unseen (a ++ b)))
    (omega (arith, length-append a b))
    (rw left (append_assoc x (take m first) (take (m - length first) second) ∙ ap (λ (l : List ℕ). x ++ l) (sym (take-append m first second) ∙ ap (take m) (sym (drop-append s.unseen a b)))))

pub shown_twice : (s : Shown) (a b : List ℕ) → shown (shown s a) b ≡ shown s (a ++ b)
unfolding shown
shown_twice s a b = both_shown 1024 s a b

take-min : (m : ℕ) (b : List ℕ) → take (min (length b) m) b ≡ take m b
take-min m b =
    elim (cases_lt m (length b)) [
      | inl lt ↦ let e : min (length b) m ≡ m = omega (arith, lt) in rw e refl
      | inr le ↦ let e : min (length b) m ≡ length b = omega (arith, le) in rw e (take_all (length b) b (omega arith) ∙ sym (take_all m b le))
    ]

drop-min : (m : ℕ) (b : List ℕ) → drop (min m (length b)) b ≡ drop m b
drop-min m b =
    elim (cases_lt m (length b)) [
      | inl lt ↦ let e : min m (length b) ≡ m = omega (arith, lt) in rw e refl
      | inr le ↦ let e : min m (length b) ≡ length b = omega (arith, le) in rw e (drop_all (length b) b (omega arith) ∙ sym (drop_all m b le))
    ]

-- what is put into the free part of a window, of which the bytes after those that go unseen are cut
pub put_shows : (n unseen count passed more k : ℕ) (bytes piece ys : List ℕ) → count ≤ n → length bytes ≡ n → passed ≡ min unseen (length piece)
    → more ≡ min (length (take (length piece - passed) (drop passed piece))) (n - count) → ys ≡ take more (take (length piece - passed) (drop passed piece))
    → (let now : Shown = record { unseen = unseen - passed; bytes = take (count + more) (put_mid count k bytes ys) } in now ≡ shown_in n (record { unseen = unseen; bytes = take count bytes }) piece)
put_shows n unseen count passed more k bytes piece ys le len p m y =
    let seen : List ℕ = take (length piece - passed) (drop passed piece) in
    let same : seen ≡ drop unseen piece = take_all (length piece - passed) (drop passed piece) (omega (arith, length-drop passed piece)) ∙ rw p (drop-min unseen piece) in
    let front : length (take count bytes) ≡ count = length-take-le count bytes (omega (arith, le, len)) in
    let part : ys ≡ take (n - count) seen = y ∙ rw m (take-min (n - count) seen) in
    let long : length ys ≡ more = rw y (omega (arith, length-take more seen, m)) in
    made (unseen - passed) (unseen - length piece) (take (count + more) (put_mid count k bytes ys)) (take count bytes ++ take (n - length (take count bytes)) (drop unseen piece)) (omega (arith, p))
    (take-put_mid count k bytes ys (count + more) (omega (arith, long)) (omega (arith, le, len)) ∙ rw front (ap (λ (l : List ℕ). take count bytes ++ l) (part ∙ ap (take (n - count)) same)))

-- nothing changes where nothing is written
pub shown_none : (s : Shown) → shown s [] ≡ s
unfolding shown
shown_none s =
    let e : s.unseen - 0 ≡ s.unseen = omega arith in
    let none : drop s.unseen (let l : List ℕ = [] in l) ≡ [] = drop_all s.unseen [] (omega arith) in
    rw (e, none) (made s.unseen s.unseen (s.bytes ++ take (1024 - length s.bytes) []) s.bytes refl (ap (λ (l : List ℕ). s.bytes ++ l) (take_all (1024 - length s.bytes) [] (omega arith)) ∙ append-nil s.bytes))

-- ---- a loop that writes one value after the other

-- what is written so far, and what each value written so far has
pub record IsWritten {A : Type 0} (spell : A → List ℕ) (P : A → Type 0) (before now : Shown) (xs : List A) : Type 0 where
  pub spelled : now ≡ shown before (flat_map spell xs)
  pub each : AllByRecursion P xs

pub none_written : {A : Type 0} (spell : A → List ℕ) (P : A → Type 0) (now : Shown) → IsWritten spell P now now []
none_written {A} spell P now = record { spelled = sym (shown_none now); each = tt }

pub one_more_written : {A : Type 0} (spell : A → List ℕ) (P : A → Type 0) (before now next : Shown) (xs : List A) (i : ℕ) (x : A) → i < length xs → x ≡ get_or xs i x → IsWritten spell P before now (take i xs)
    → next ≡ shown now (spell x) → P x → IsWritten spell P before next (take (i + 1) xs)
one_more_written {A} spell P before now next xs i x lt is so_far more has =
    let grown : take (i + 1) xs ≡ take i xs ++ x ∷ [] = take_more xs i x lt ∙ ap (λ (z : A). take i xs ++ z ∷ []) (sym is) in
    let one : flat_map spell (x ∷ []) ≡ spell x = flat_map-cons spell x [] ∙ append-nil (spell x) in
    let all : flat_map spell (take i xs ++ x ∷ []) ≡ flat_map spell (take i xs) ++ spell x = flat_map-append spell (take i xs) (x ∷ []) ∙ ap (λ (l : List ℕ). flat_map spell (take i xs) ++ l) one in
    rw grown (record {
      spelled = more ∙ ap (λ (s : Shown). shown s (spell x)) so_far.spelled ∙ shown_twice before (flat_map spell (take i xs)) (spell x) ∙ ap (shown before) (sym all);
      each = all_push P (take i xs) x so_far.each has;
    })

-- ---- a spelling that goes out a window at a time

-- how many bytes passed, of those that were to go unseen
pub passed_count : (s t : Shown) (bytes : List ℕ) (most : ℕ) → t ≡ shown s bytes → s.unseen ≡ most → length bytes ≤ most → most - t.unseen ≡ length bytes
unfolding shown
passed_count s t bytes most is from le = rw is (omega (arith, from, le))

pub window_of : (from : ℕ) (bytes : List ℕ) (s t : Shown) → s ≡ record { unseen = from; bytes = [] } → t ≡ shown s bytes → t.bytes ≡ take 1024 (drop from bytes)
unfolding shown
window_of from bytes s t begin is = rw (is, begin) refl

take-cut : (m : ℕ) (b : List ℕ) → take (length (take m b)) b ≡ take m b
take-cut m b = let e : length (take m b) ≡ min (length b) m = omega (arith, length-take m b) in rw e (take-min m b)

take-window : (from m : ℕ) (bytes : List ℕ) → take from bytes ++ take m (drop from bytes) ≡ take (from + length (take m (drop from bytes))) bytes
take-window zero m bytes = let e : 0 + length (take m bytes) ≡ length (take m bytes) = omega arith in rw e (sym (take-cut m bytes))
take-window (suc from) m [] = take_all m [] (omega arith) ∙ sym (take_all (suc from + length (take m [])) [] (omega arith))
take-window (suc from) m (x ∷ bytes) =
    let e : suc from + length (take m (drop from bytes)) ≡ suc (from + length (take m (drop from bytes))) = omega arith in
    rw e (ap (λ (l : List ℕ). x ∷ l) (take-window from m bytes))

-- what went out so far
pub record IsOut (before now : List ℕ) (from : ℕ) (bytes : List ℕ) : Type 0 where
  pub spelled : now ≡ before ++ take from bytes
  pub within : from ≤ length bytes

pub window_goes_out : (before now next : List ℕ) (from : ℕ) (bytes piece : List ℕ) → IsOut before now from bytes → piece ≡ take 1024 (drop from bytes) → next ≡ now ++ piece → IsOut before next (from + length piece) bytes
window_goes_out before now next from bytes piece out is more =
    record {
      spelled = more ∙ ap (λ (l : List ℕ). l ++ piece) out.spelled ∙ append_assoc before (take from bytes) piece ∙ ap (λ (l : List ℕ). before ++ l) (rw is (take-window from 1024 bytes));
      within = rw is (omega (arith, length-take 1024 (drop from bytes), length-drop from bytes, out.within));
    }

pub window_is_some : (from : ℕ) (bytes piece : List ℕ) → from < length bytes → piece ≡ take 1024 (drop from bytes) → 0 < length piece
window_is_some from bytes piece lt is = rw is (omega (arith, length-take 1024 (drop from bytes), length-drop from bytes, lt))

pub all_out : (before now : List ℕ) (from : ℕ) (bytes : List ℕ) → length bytes ≤ from → IsOut before now from bytes → now ≡ before ++ bytes
all_out before now from bytes le out = out.spelled ∙ ap (λ (l : List ℕ). before ++ l) (take_all from bytes le)

pub none_out : (before bytes : List ℕ) → IsOut before before 0 bytes
none_out before bytes = record { spelled = sym (append-nil before); within = omega arith }
