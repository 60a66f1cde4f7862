-- A key file is read line by line.
use denote.Ref.{Bor}
use Rattle.std.proofs.Common.{◌≡◌, ℕ, ◌+◌, ◌-◌, ◌<◌, ◌≤◌, Bool, true, false, cond, List, [], ◌∷◌, ◌++◌, length, take, drop, get_or, map, Option, Some, None, refl, sym, ap, subst, ◌∙◌, arith, append-nil, length-append}
use Rattle.std.specs.Prelude.{nat_lt, position}
use Rattle.std.specs.List.{AllByRecursion, IsDistinct, slice_split, position_or_len, before_first, after_first}
use Rattle.std.specs.Str.{bytes_eq}
use Rattle.std.proofs.lemmas.Bool.{ltb-true, ltb-false}
use Rattle.std.proofs.lemmas.List.{take_all, length-drop, length-take-le, map-append, append_assoc}
use Rattle.std.proofs.lemmas.List.Elements.{recursion_from_All}
use Rattle.std.proofs.lemmas.List.Splits.{slice_split_none, slice_split_first}
use Rattle.std.proofs.lemmas.List.Sums.{split_at_first, fails_before_first, passes_at_first}
use Rattle.std.proofs.lemmas.Slice.Eq.{bytes_eq-Decides}
use Rattle.kms_aes.specs.Cipher.{IsBytes}
use Rattle.kms_fernet.specs.Key.{base64url, IsKeyText}
use Rattle.kms_ring.specs.KeyFile.{is_line_feed, lines_of, StandsFirst, AreKeys, IsKeyFile, StandsAt, AddsKey, IsBadNext, IsBadLine}
use Rattle.kms_ring.specs.declared.bad_line.BadLine.{BadLine}

-- ---- lines

pub line_here : (rest : List ℕ) (end : ℕ) → end ≡ position_or_len is_line_feed rest → end < length rest
    → slice_split is_line_feed rest ≡ take end rest ∷ slice_split is_line_feed (take (length rest - (end + 1)) (drop (end + 1) rest))
line_here rest end at lt =
    let all : take (length rest - (end + 1)) (drop (end + 1) rest) ≡ drop (end + 1) rest = take_all (length rest - (end + 1)) (drop (end + 1) rest) (omega (arith, length-drop (end + 1) rest)) in
    let split = slice_split_first is_line_feed rest 0 (subst (λ (n : ℕ). n < length rest) at lt) in
    split
    ∙ ap (λ (n : ℕ). take n rest ∷ slice_split is_line_feed (drop (n + 1) rest)) (sym at)
    ∙ ap (λ (l : List ℕ). take end rest ∷ slice_split is_line_feed l) (sym all)

pub line_last : (rest : List ℕ) (end : ℕ) → end ≡ position_or_len is_line_feed rest → length rest ≤ end → slice_split is_line_feed rest ≡ rest ∷ []
line_last rest end at le = slice_split_none is_line_feed rest (λ k d lt. fails_before_first is_line_feed rest k d (omega (arith, at, le, lt)))

-- ---- keys

pub all_push : {A : Type 0} (P : A → Type 0) (xs : List A) (x : A) → AllByRecursion P xs → P x → AllByRecursion P (xs ++ x ∷ [])
all_push {A} P [] x each last = (last, tt)
all_push {A} P (y ∷ ys) x each last = (each.0, all_push P ys x each.1 last)

distinct_push : (keys : List (List ℕ)) (key : List ℕ) → IsDistinct bytes_eq keys → AllByRecursion (λ other. bytes_eq other key ≡ false) keys → IsDistinct bytes_eq (keys ++ key ∷ [])
unfolding IsDistinct
distinct_push [] key distinct new = (tt, tt)
distinct_push (x ∷ keys) key distinct new = (all_push (λ y. bytes_eq x y ≡ false) keys key distinct.0 new.0, distinct_push keys key distinct.1 new.1)

by_position : {A : Type 0} (p : A → Bool) (xs : List A) (b : Bool) → nat_lt (position_or_len p xs) (length xs) ≡ b → position p xs ≡ cond b (Some (position_or_len p xs)) None
by_position {A} p xs b e = ap (λ (c : Bool). cond c (Some (position_or_len p xs)) None) e

pub new_key : (key : List ℕ) (keys : List (List ℕ)) → None ≡ position (λ other. bytes_eq other key) keys → AllByRecursion (λ other. bytes_eq other key ≡ false) keys
new_key key keys none = by (nat_lt (position_or_len test keys) (length keys)) refl
  where
    test : List ℕ → Bool
    test other = bytes_eq other key

    by : (b : Bool) → nat_lt (position_or_len test keys) (length keys) ≡ b → AllByRecursion (λ other. bytes_eq other key ≡ false) keys
    by true e = let some : None ≡ Some (position_or_len test keys) = none ∙ by_position test keys true e in absurd (cc)
    by false e = recursion_from_All (λ other. test other ≡ false) keys (λ k d lt. fails_before_first test keys k d (omega (arith, lt, ltb-false _ _ e)))

pub old_key : (key : List ℕ) (keys : List (List ℕ)) (place : ℕ) → Some place ≡ position (λ other. bytes_eq other key) keys → StandsAt key (place + 1) keys
old_key key keys place some = by (nat_lt (position_or_len test keys) (length keys)) refl
  where
    test : List ℕ → Bool
    test other = bytes_eq other key

    at : ℕ
    at = position_or_len test keys

    by : (b : Bool) → nat_lt at (length keys) ≡ b → StandsAt key (place + 1) keys
    by false e = let none : Some place ≡ None = some ∙ by_position test keys false e in absurd (cc)
    by true e =
        let lt : at < length keys = ltb-true at (length keys) e in
        let here : Some place ≡ Some at = some ∙ by_position test keys true e in
        let same : place ≡ at = cc in
        let is : get_or keys at key ≡ key = (bytes_eq-Decides (get_or keys at key) key).0 (passes_at_first test keys key lt) in
        record {
          before = before_first test keys;
          after = after_first test keys;
          there = split_at_first test keys key lt ∙ ap (λ (k : List ℕ). before_first test keys ++ k ∷ after_first test keys) is;
          at = omega (arith, same, front lt);
        }
      where
        front : at < length keys → length (before_first test keys) ≡ at
        front lt = length-take-le (position_or_len test keys) keys (omega (arith, lt))

pub adds_key : (keys after : List (List ℕ)) (line key : List ℕ) → AreKeys keys → length keys < 16 → IsKeyText line key → None ≡ position (λ other. bytes_eq other key) keys → after ≡ keys ++ key ∷ [] → AddsKey keys line after
adds_key keys after line key good few text none is =
    let more : AreKeys (keys ++ key ∷ []) = record {
      few = omega (arith, few, length-append keys (key ∷ []));
      each = all_push (IsBytes 32) keys key good.each text.fits;
      distinct = distinct_push keys key good.distinct (new_key key keys none);
    } in
    (subst AreKeys (sym is) more, key, text.spelled, is)

-- ---- the file

-- so far the text has the lines of these keys, and this is left
pub record Reads (text : List ℕ) (keys : List (List ℕ)) (rest : List ℕ) : Type 0 where
  pub good : AreKeys keys
  pub lines : lines_of text ≡ map base64url keys ++ slice_split is_line_feed rest

with_key : (text : List ℕ) (keys after : List (List ℕ)) (line : List ℕ) (others : List (List ℕ)) → (a : AddsKey keys line after) → lines_of text ≡ map base64url keys ++ line ∷ others → lines_of text ≡ map base64url after ++ others
with_key text keys after line others a lines =
    lines
    ∙ ap (λ (l : List ℕ). map base64url keys ++ l ∷ others) a.2
    ∙ sym (append_assoc (map base64url keys) (base64url a.1 ∷ []) others)
    ∙ ap (λ (l : List (List ℕ)). l ++ others) (sym (map-append base64url keys (a.1 ∷ [])))
    ∙ ap (λ (ks : List (List ℕ)). map base64url ks ++ others) (sym a.3)

pub reads_on : (text : List ℕ) (keys after : List (List ℕ)) (rest line : List ℕ) (behind : Bor (List ℕ)) → Reads text keys rest → StandsFirst rest line (Some behind) → AddsKey keys line after → Reads text after behind.now
reads_on text keys after rest line behind r first a = record {
  good = a.0;
  lines = with_key text keys after line (slice_split is_line_feed behind.now) a (r.lines ∙ ap (λ (l : List (List ℕ)). map base64url keys ++ l) first);
}

pub reads_all : (text : List ℕ) (keys after : List (List ℕ)) (rest line : List ℕ) → Reads text keys rest → StandsFirst rest line None → AddsKey keys line after → IsKeyFile text after
reads_all text keys after rest line r first a = record {
  good = a.0;
  lines = with_key text keys after line [] a (r.lines ∙ ap (λ (l : List (List ℕ)). map base64url keys ++ l) first) ∙ append-nil (map base64url after);
}

pub stops_at : (text : List ℕ) (keys : List (List ℕ)) (rest line : List ℕ) (behind : Option (Bor (List ℕ))) (bad : BadLine) → Reads text keys rest → StandsFirst rest line behind → IsBadNext keys line bad → IsBadLine text bad
stops_at text keys rest line None bad r first next = record {
  keys = keys;
  line = line;
  after = [];
  good = r.good;
  lines = r.lines ∙ ap (λ (l : List (List ℕ)). map base64url keys ++ l) first;
  next = next;
}
stops_at text keys rest line (Some behind) bad r first next = record {
  keys = keys;
  line = line;
  after = slice_split is_line_feed behind.now;
  good = r.good;
  lines = r.lines ∙ ap (λ (l : List (List ℕ)). map base64url keys ++ l) first;
  next = next;
}

pub begins : (text rest : List ℕ) (keys : List (List ℕ)) → keys ≡ [] → lines_of text ≡ slice_split is_line_feed rest → Reads text keys rest
unfolding IsDistinct
begins text rest keys none lines = rw none (record { good = record { few = omega arith; each = tt; distinct = tt }; lines = lines })

-- a list with a key behind others isn't empty
pub is_some : (keys after : List (List ℕ)) (line : List ℕ) → AddsKey keys line after → 0 < length after
is_some keys after line a = omega (arith, ap length a.3, length-append keys (a.1 ∷ []))
