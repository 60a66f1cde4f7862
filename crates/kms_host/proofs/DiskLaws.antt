-- What may be left of a file after a write and after a cut, and what a call on one file does to each.
use Rattle.std.proofs.Common.{◌≡◌, ◌≢◌, inl, inr, ⊎_elim, ℕ, ◌+◌, ◌-◌, ◌≤◌, ◌<◌, max, List, ◌++◌, length, get_or, take, drop, refl, sym, ◌∙◌, ap, arith, eq-eqb, length-append, length-drop, cond, Bool}
use Rattle.std.specs.Prelude.{nat_eq}
use Rattle.std.proofs.lemmas.List.{ext_get_or, get_or-take, get_or-drop, length-take, length-take-le, get_or_append_left, get_or-append_right, take_all}
use Rattle.std.proofs.lemmas.Bool.Decides.{eqb_tells}
use Rattle.kms_host.specs.History.{History, then_call}
use Rattle.kms_host.specs.Disk.{Disk, at_rest, put, after_write, after_cut, after_call, disk, MayLeave, Torn, Cut}
use Rattle.kms_host.specs.declared.call.Call.TheVariants.{OnFile}
use Rattle.kms_host.specs.declared.call.FileCall.{FileCall}

-- with nothing pending a stop leaves what a read gives, and nothing else
pub only_image : (bytes image : List ℕ) → MayLeave (at_rest bytes) image → image ≡ bytes
only_image bytes image left =
    let same : length image ≡ length bytes = omega (arith, left.no_shorter, left.no_longer) in
    ext_get_or 0 image bytes same (λ k lt. left.stays k lt (omega (arith, same, lt)) tt)

pub is_image : (bytes : List ℕ) → MayLeave (at_rest bytes) bytes
is_image bytes = record { no_shorter = omega arith; no_longer = omega arith; stays = λ k lt lt' out. refl }

-- what one write adds
pub torn_write : (bytes : List ℕ) (at : ℕ) (piece after image : List ℕ) → at ≤ length bytes → MayLeave (after_write (at_rest bytes) at piece after) image → Torn at (length piece) bytes image
torn_write bytes at piece after image le left = record {
  before = ext_get_or 0 (take at image) (take at bytes) (omega (arith, length-take at image, length-take at bytes, left.no_shorter))
      (λ k lt.
      let low : k < at = omega (arith, lt, length-take at image) in
      get_or-take at image k 0 low ∙ left.stays k (omega (arith, low, left.no_shorter)) (omega (arith, low)) (inl low, tt) ∙ sym (get_or-take at bytes k 0 low));
  after = ext_get_or 0 (drop (at + length piece) image) (drop (at + length piece) bytes)
      (omega (arith, length-drop (at + length piece) image, length-drop (at + length piece) bytes, left.no_shorter, left.no_longer))
      (λ k lt.
      let high : at + length piece + k < length image = omega (arith, lt, length-drop (at + length piece) image) in
      let here : at + length piece + k < length bytes = omega (arith, high, left.no_longer) in
      get_or-drop (at + length piece) image k 0 ∙ left.stays (at + length piece + k) high here (inr (omega arith), tt) ∙ sym (get_or-drop (at + length piece) bytes k 0));
  no_shorter = left.no_shorter;
  no_longer = left.no_longer;
}

pub torn_nothing : (at n : ℕ) (bytes : List ℕ) → Torn at n bytes bytes
torn_nothing at n bytes = record { before = refl; after = refl; no_shorter = omega arith; no_longer = omega arith }

-- what one cut adds
pub torn_cut : (bytes : List ℕ) (size : ℕ) (after image : List ℕ) → size ≤ length bytes → MayLeave (after_cut (at_rest bytes) size after) image → Cut size bytes image
torn_cut bytes size after image le left = record {
  no_shorter = omega (arith, le, left.no_shorter);
  front = ext_get_or 0 image (take (length image) bytes) (omega (arith, length-take (length image) bytes, left.no_longer))
      (λ k lt. left.stays k lt (omega (arith, lt, left.no_longer)) tt ∙ sym (get_or-take (length image) bytes k 0 lt));
}

pub cut_nothing : (size : ℕ) (bytes : List ℕ) → size ≤ length bytes → Cut size bytes bytes
cut_nothing size bytes le = record { no_shorter = le; front = sym (take_all (length bytes) bytes (omega arith)) }

-- what might be left before a write might be left after it
pub write_keeps : (d : Disk) (at : ℕ) (piece after image : List ℕ) → MayLeave d image → MayLeave (after_write d at piece after) image
write_keeps d at piece after image left = record {
  no_shorter = left.no_shorter;
  no_longer = omega (arith, left.no_longer);
  stays = λ k lt lt' out. left.stays k lt lt' out.1;
}

pub cut_keeps : (d : Disk) (size : ℕ) (after image : List ℕ) → MayLeave d image → MayLeave (after_cut d size after) image
cut_keeps d size after image left = record { no_shorter = omega (arith, left.no_shorter); no_longer = left.no_longer; stays = left.stays }

pub length-put : (bytes : List ℕ) (at : ℕ) (piece : List ℕ) → at ≤ length bytes → length (put bytes at piece) ≡ max (length bytes) (at + length piece)
length-put bytes at piece le =
    omega (arith, length-append (take at bytes ++ piece) (drop (at + length piece) bytes), length-append (take at bytes) piece, length-take at bytes, length-drop (at + length piece) bytes)

put_before : (bytes : List ℕ) (at : ℕ) (piece : List ℕ) (k : ℕ) → at ≤ length bytes → k < at → get_or (put bytes at piece) k 0 ≡ get_or bytes k 0
put_before bytes at piece k le low =
    let size : length (take at bytes) ≡ at = length-take-le at bytes le in
    let front : get_or (put bytes at piece) k 0 ≡ get_or (take at bytes ++ piece) k 0 =
    get_or_append_left (take at bytes ++ piece) (drop (at + length piece) bytes) 0 k (omega (arith, size, length-append (take at bytes) piece, low)) in
    let first : get_or (take at bytes ++ piece) k 0 ≡ get_or (take at bytes) k 0 = get_or_append_left (take at bytes) piece 0 k (omega (arith, size, low)) in
    front ∙ first ∙ get_or-take at bytes k 0 low

put_behind : (bytes : List ℕ) (at : ℕ) (piece : List ℕ) (k : ℕ) → at ≤ length bytes → at + length piece ≤ k → get_or (put bytes at piece) k 0 ≡ get_or bytes k 0
put_behind bytes at piece k le high =
    let size : length (take at bytes ++ piece) ≡ at + length piece = omega (arith, length-append (take at bytes) piece, length-take-le at bytes le) in
    let back : get_or (put bytes at piece) k 0 ≡ get_or (drop (at + length piece) bytes) (k - (at + length piece)) 0 =
    get_or-append_right (take at bytes ++ piece) (drop (at + length piece) bytes) (at + length piece) k 0 size high in
    let at_k : at + length piece + (k - (at + length piece)) ≡ k = omega (arith, high) in
    back ∙ get_or-drop (at + length piece) bytes (k - (at + length piece)) 0 ∙ ap (λ (n : ℕ). get_or bytes n 0) at_k

-- the file as it reads is one of its images, and a write or a cut that was done keeps that
pub write_reads : (d : Disk) (at : ℕ) (piece after : List ℕ) → at ≤ length d.reads → MayLeave d d.reads → MayLeave (after_write d at piece after) (put d.reads at piece)
write_reads d at piece after le left = record {
  no_shorter = omega (arith, length-put d.reads at piece le, left.no_shorter);
  no_longer = omega (arith, length-put d.reads at piece le, left.no_longer);
  stays = λ k lt lt' out. ⊎_elim
      (λ low. put_before d.reads at piece k le low ∙ left.stays k (omega (arith, le, low)) lt' out.1)
      (λ high. put_behind d.reads at piece k le high ∙ left.stays k (omega (arith, lt, high, length-put d.reads at piece le)) lt' out.1)
      out.0;
}

pub cut_reads : (d : Disk) (size : ℕ) (after : List ℕ) → size ≤ length d.reads → MayLeave d d.reads → MayLeave (after_cut d size after) (take size d.reads)
cut_reads d size after le left = record {
  no_shorter = omega (arith, length-take size d.reads, left.no_shorter, le);
  no_longer = omega (arith, length-take size d.reads, left.no_longer, le);
  stays = λ k lt lt' out.
      let low : k < size = omega (arith, lt, length-take size d.reads) in
      get_or-take size d.reads k 0 low ∙ left.stays k (omega (arith, low, le)) lt' out;
}

-- What a call on a file does to that file, and to the other one.

same_file : {A : Type 0} (f : ℕ) (x y : A) → cond (nat_eq f f) x y ≡ x
same_file f x y = ap (λ (b : Bool). cond b x y) (eq-eqb f f refl)

other_file : {A : Type 0} (f g : ℕ) (x y : A) → f ≢ g → cond (nat_eq f g) x y ≡ y
other_file f g x y ne = elim (eqb_tells f g) [ inl p ↦ absurd (ne p.1) | inr p ↦ ap (λ (b : Bool). cond b x y) p.0 ]

pub disk_there : (h : History) (f : ℕ) (c : FileCall) → disk f (then_call h (OnFile f c)) ≡ after_call (disk f h) c
disk_there h f c = same_file f _ _

pub disk_elsewhere : (h : History) (f g : ℕ) (c : FileCall) → f ≢ g → disk g (then_call h (OnFile f c)) ≡ disk g h
disk_elsewhere h f g c ne = other_file f g _ _ ne

-- a call that leaves its file as it was leaves each file so
pub disk_same : (h : History) (f g : ℕ) (c : FileCall) → ((d : Disk) → after_call d c ≡ d) → disk g (then_call h (OnFile f c)) ≡ disk g h
disk_same h f g c same = elim (eqb_tells f g) [
  | inl p ↦ ap (λ (b : Bool). cond b (after_call (disk g h) c) (disk g h)) p.0 ∙ same (disk g h)
  | inr p ↦ ap (λ (b : Bool). cond b (after_call (disk g h) c) (disk g h)) p.0
]
