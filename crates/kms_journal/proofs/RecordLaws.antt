-- Records depend on what stands before the first mark that isn't set, and on that mark.
use Rattle.std.proofs.Common.{◌≡◌, ℕ, zero, suc, ◌+◌, ◌≤◌, ◌<◌, List, [], ◌∷◌, ◌++◌, length, take, drop, refl, sym, ◌∙◌, ap, subst, arith, Bool, true, false, cond, append_assoc, length-append, length-drop, take-append-drop}
use Rattle.std.specs.Int.{w32, from_be_bytes}
use Rattle.std.proofs.lemmas.List.{drop-append-le, take-append-le, drop_at, length-take-le, drop-take, take-take}
use Rattle.std.proofs.lemmas.Bool.{lt-ltb, ltb-true, false≢true}
use Rattle.kms_journal.specs.Standing.{Records, is_set, record_len, record_in, is_record_whole, stopped, with_item, next_record, records_from}

-- any count that is large enough gives the same
pub same_count : (n m place : ℕ) (rest : List ℕ) → length rest ≤ n → length rest ≤ m → records_from n place rest ≡ records_from m place rest
unfolding records_from
same_count zero zero place rest a b = refl
same_count zero (suc m) place [] a b = refl
same_count zero (suc m) place (x ∷ rest) a b = absurd (omega arith)
same_count (suc n) zero place [] a b = refl
same_count (suc n) zero place (x ∷ rest) a b = absurd (omega arith)
same_count (suc n) (suc m) place rest a b =
    ap (next_record place rest)
    (same_count n m (place + 5 + record_len rest) (drop (5 + record_len rest) rest)
    (omega (arith, length-drop (5 + record_len rest) rest, a)) (omega (arith, length-drop (5 + record_len rest) rest, b)))

-- a mark that isn't set ends them
pub clear_stops : (n place : ℕ) (rest : List ℕ) → is_set rest ≡ false → records_from n place rest ≡ stopped place true
unfolding records_from
clear_stops zero place rest clear = refl
clear_stops (suc n) place rest clear = ap (λ (b : Bool). cond b (cond (is_record_whole rest) (with_item place (record_in rest) (records_from n (place + 5 + record_len rest) (drop (5 + record_len rest) rest))) (stopped place false)) (stopped place true)) clear

pub next_set : (place : ℕ) (rest : List ℕ) (more : Records) → is_set rest ≡ true → is_record_whole rest ≡ true → next_record place rest more ≡ with_item place (record_in rest) more
next_set place rest more o w =
    ap (λ (b : Bool). cond b (cond (is_record_whole rest) (with_item place (record_in rest) more) (stopped place false)) (stopped place true)) o
    ∙ ap (λ (b : Bool). cond b (with_item place (record_in rest) more) (stopped place false)) w

pub next_broken : (place : ℕ) (rest : List ℕ) (more : Records) → is_set rest ≡ true → is_record_whole rest ≡ false → next_record place rest more ≡ stopped place false
next_broken place rest more o w =
    ap (λ (b : Bool). cond b (cond (is_record_whole rest) (with_item place (record_in rest) more) (stopped place false)) (stopped place true)) o
    ∙ ap (λ (b : Bool). cond b (with_item place (record_in rest) more) (stopped place false)) w

pub next_clear : (place : ℕ) (rest : List ℕ) (more : Records) → is_set rest ≡ false → next_record place rest more ≡ stopped place true
next_clear place rest more o = ap (λ (b : Bool). cond b (cond (is_record_whole rest) (with_item place (record_in rest) more) (stopped place false)) (stopped place true)) o

-- a record: its mark, the length and the body, whatever stands behind it
module _ (c : List ℕ) (n : ℕ) (size : length c ≡ 5 + n) (len : record_len c ≡ n) where
  pub len_is : (x : List ℕ) → record_len (c ++ x) ≡ n
  len_is x =
      ap (λ (l : List ℕ). from_be_bytes w32 (take 4 l)) (drop-append-le 1 c x (omega (arith, size)))
      ∙ ap (from_be_bytes w32) (take-append-le 4 (drop 1 c) x (omega (arith, size, length-drop 1 c))) ∙ len

  pub set_is : (x : List ℕ) → is_set (c ++ x) ≡ is_set c
  set_is x = go c size
    where
      go : (c : List ℕ) → length c ≡ 5 + n → is_set (c ++ x) ≡ is_set c
      go [] e = absurd (omega arith)
      go (a ∷ []) e = absurd (omega arith)
      go (a ∷ b ∷ c) e = refl

  pub whole_is : (x : List ℕ) → 0 < length x → is_record_whole (c ++ x) ≡ true
  whole_is x some = lt-ltb (5 + record_len (c ++ x)) (length (c ++ x)) (omega (arith, len_is x, size, length-append c x, some))

  pub item_is : (x : List ℕ) → record_in (c ++ x) ≡ record_in c
  item_is x =
      ap (λ (k : ℕ). take k (drop 5 (c ++ x))) (len_is x ∙ sym len)
      ∙ ap (take (record_len c)) (drop-append-le 5 c x (omega (arith, size)))
      ∙ take-append-le (record_len c) (drop 5 c) x (omega (arith, size, len, length-drop 5 c))

  pub one_record : (m place : ℕ) (x : List ℕ) → is_set c ≡ true → 0 < length x → records_from (suc m) place (c ++ x) ≡ with_item place (record_in c) (records_from m (place + 5 + n) x)
  unfolding records_from
  one_record m place x set some =
      let more = records_from m (place + 5 + record_len (c ++ x)) (drop (5 + record_len (c ++ x)) (c ++ x)) in
      let more_is : more ≡ records_from m (place + 5 + n) x =
      ap (λ (k : ℕ). records_from m (place + 5 + k) (drop (5 + k) (c ++ x))) (len_is x) ∙ ap (records_from m (place + 5 + n)) (drop_at c x (5 + n) size) in
      next_set place (c ++ x) more (set_is x ∙ set) (whole_is x some)
      ∙ ap (λ (b : List ℕ). with_item place b more) (item_is x)
      ∙ ap (with_item place (record_in c)) more_is

abbrev pub joined : List (ℕ × List ℕ) → Records → Records
joined items r = record { items = items ++ r.items; stop = r.stop; is_whole = r.is_whole }

-- what stands before the mark at which the records_from stop, so that others can stand behind it
pub record Front (place : ℕ) (rest : List ℕ) (q : Records) : Type 0 where
  pub front : List ℕ
  pub back : List ℕ
  pub split : rest ≡ front ++ back
  pub some : 0 < length back
  pub clear : is_set back ≡ false
  pub stop_is : q.stop ≡ place + length front
  pub again : (tail : List ℕ) (m m' : ℕ) → 0 < length tail → length (front ++ tail) ≤ m → length tail ≤ m' → records_from m place (front ++ tail) ≡ joined q.items (records_from m' q.stop tail)

again_more : (c : List ℕ) (n place : ℕ) (front : List ℕ) (more : Records) → length c ≡ 5 + n → record_len c ≡ n → is_set c ≡ true
    → ((tail : List ℕ) (m m' : ℕ) → 0 < length tail → length (front ++ tail) ≤ m → length tail ≤ m' → records_from m (place + 5 + n) (front ++ tail) ≡ joined more.items (records_from m' more.stop tail))
    → (tail : List ℕ) (m m' : ℕ) → 0 < length tail → length ((c ++ front) ++ tail) ≤ m → length tail ≤ m'
    → records_from m place ((c ++ front) ++ tail) ≡ joined ((place, record_in c) ∷ more.items) (records_from m' more.stop tail)
again_more c n place front more size len set inner tail zero m' some le le' = absurd (omega (arith, length-append (c ++ front) tail, some))
again_more c n place front more size len set inner tail (suc m) m' some le le' =
    ap (records_from (suc m) place) (append_assoc c front tail)
    ∙ one_record c n size len m place (front ++ tail) set (omega (arith, length-append front tail, some))
    ∙ ap (with_item place (record_in c)) (inner tail m m' some (omega (arith, le, length-append (c ++ front) tail, length-append c front, length-append front tail, size)) le')

first_bytes : (n : ℕ) (rest : List ℕ) → take 4 (drop 1 (take (5 + n) rest)) ≡ take 4 (drop 1 rest)
first_bytes n rest =
    let five : 5 + n ≡ 1 + (4 + n) = omega arith in
    ap (λ (k : ℕ). take 4 (drop 1 (take k rest))) five ∙ ap (take 4) (drop-take 1 (4 + n) rest) ∙ take-take 4 (4 + n) (drop 1 rest) (omega arith)

-- the front of what follows a record is the front with the record before it
more_front : (place : ℕ) (rest : List ℕ) (more : Records) → is_set rest ≡ true → is_record_whole rest ≡ true
    → Front (place + 5 + record_len rest) (drop (5 + record_len rest) rest) more → Front place rest (with_item place (record_in rest) more)
more_front place rest more set whole f =
    let n = record_len rest in
    let long : 5 + n < length rest = ltb-true (5 + record_len rest) (length rest) whole in
    let c = take (5 + n) rest in
    let parts : c ++ drop (5 + n) rest ≡ rest = take-append-drop (5 + n) rest in
    let size : length c ≡ 5 + n = length-take-le (5 + n) rest (omega (arith, long)) in
    let len : record_len c ≡ n = ap (from_be_bytes w32) (first_bytes n rest) in
    let set_c : is_set c ≡ true = sym (set_is c n size len (drop (5 + n) rest)) ∙ ap is_set parts ∙ set in
    let same_item : record_in c ≡ record_in rest = sym (item_is c n size len (drop (5 + n) rest)) ∙ ap record_in parts in
    record {
      front = c ++ f.front;
      back = f.back;
      split = sym parts ∙ ap (λ (l : List ℕ). c ++ l) f.split ∙ sym (append_assoc c f.front f.back);
      some = f.some;
      clear = f.clear;
      stop_is = omega (arith, f.stop_is, length-append c f.front, size);
      again = λ tail m m' some le le'.
          again_more c n place f.front more size len set_c f.again tail m m' some le le'
          ∙ ap (λ (b : List ℕ). joined ((place, b) ∷ more.items) (records_from m' more.stop tail)) same_item;
    }

clear_front : (place : ℕ) (rest : List ℕ) → 0 < length rest → is_set rest ≡ false → Front place rest (stopped place true)
clear_front place rest some clear = record {
  front = [];
  back = rest;
  split = refl;
  some = some;
  clear = clear;
  stop_is = omega arith;
  again = λ tail m m' tail_some le le'. same_count m m' place tail le le';
}

-- the front of a rest by what its first mark is, from the front of what follows
by_mark : (place : ℕ) (rest : List ℕ) (more : Records) (o w : Bool) → is_set rest ≡ o → is_record_whole rest ≡ w → 0 < length rest
    → (next_record place rest more).is_whole ≡ true
    → (5 + record_len rest < length rest → more.is_whole ≡ true → Front (place + 5 + record_len rest) (drop (5 + record_len rest) rest) more)
    → Front place rest (next_record place rest more)
by_mark place rest more false w is_o is_w some whole inner = subst (Front place rest) (sym (next_clear place rest more is_o)) (clear_front place rest some is_o)
by_mark place rest more true false is_o is_w some whole inner = absurd (false≢true (sym (ap (λ (r : Records). r.is_whole) (next_broken place rest more is_o is_w)) ∙ whole))
by_mark place rest more true true is_o is_w some whole inner =
    let is = next_set place rest more is_o is_w in
    let long : 5 + record_len rest < length rest = ltb-true (5 + record_len rest) (length rest) is_w in
    subst (Front place rest) (sym is) (more_front place rest more is_o is_w (inner long (sym (ap (λ (r : Records). r.is_whole) is) ∙ whole)))

pub front_of : (n place : ℕ) (rest : List ℕ) → 0 < length rest → length rest ≤ n → (records_from n place rest).is_whole ≡ true → Front place rest (records_from n place rest)
unfolding records_from
front_of zero place rest some le whole = absurd (omega arith)
front_of (suc n) place rest some le whole =
    by_mark place rest (records_from n (place + 5 + record_len rest) (drop (5 + record_len rest) rest)) (is_set rest) (is_record_whole rest) refl refl some whole
    (λ long inner_whole. front_of n (place + 5 + record_len rest) (drop (5 + record_len rest) rest) (omega (arith, long, length-drop (5 + record_len rest) rest)) (omega (arith, le, length-drop (5 + record_len rest) rest)) inner_whole)
