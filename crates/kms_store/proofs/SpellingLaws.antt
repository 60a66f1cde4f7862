-- Bytes that are given piece by piece.
use Rattle.std.proofs.Common.{◌≡◌, ℕ, ◌+◌, ◌-◌, ◌≤◌, List, ◌++◌, length, take, drop, min, sym, ap, ◌∙◌, arith, length-append, length-drop, append_assoc, take-add, drop-drop}
use Rattle.std.proofs.lemmas.List.{take_at, drop_at, take-append-drop, take-append-le, length-take-le}
use borrow.Rule.Slice.PartMut.{put_mid}

-- the part of a spelling that is given, and what is left of it
pub part_given : (bytes room new rest : List ℕ) (from n : ℕ) → n ≡ min (length room) (length bytes - from) → new ≡ take n (drop from bytes) ++ drop n room
    → take n new ++ (drop (from + n) bytes ++ rest) ≡ drop from bytes ++ rest
part_given bytes room new rest from n n_is new_is =
    let size : length (take n (drop from bytes)) ≡ n = length-take-le n (drop from bytes) (omega (arith, n_is, length-drop from bytes)) in
    ap (λ (l : List ℕ). l ++ (drop (from + n) bytes ++ rest)) (ap (take n) new_is ∙ take_at (take n (drop from bytes)) (drop n room) n size)
    ∙ sym (append_assoc (take n (drop from bytes)) (drop (from + n) bytes) rest)
    ∙ ap (λ (l : List ℕ). (take n (drop from bytes) ++ l) ++ rest) (sym (drop-drop n from bytes))
    ∙ ap (λ (l : List ℕ). l ++ rest) (take-append-drop n (drop from bytes))

-- one part more in the room
pub more_given : (all old new room part : List ℕ) (at n k : ℕ) → take at room ++ old ≡ all → at ≤ length room → n ≤ length part → take n part ++ new ≡ old → take (at + n) (put_mid at k room part) ++ new ≡ all
more_given all old new room part at n k given le fits more =
    let front : length (take at room) ≡ at = length-take-le at room le in
    let tail : List ℕ = part ++ drop k (drop at room) in
    let taken : take (at + n) (take at room ++ tail) ≡ take at room ++ take n part =
    take-add at n (take at room ++ tail)
    ∙ ap (λ (l : List ℕ). l ++ take n (drop at (take at room ++ tail))) (take_at (take at room) tail at front)
    ∙ ap (λ (l : List ℕ). take at room ++ take n l) (drop_at (take at room) tail at front)
    ∙ ap (λ (l : List ℕ). take at room ++ l) (take-append-le n part (drop k (drop at room)) fits) in
    ap (λ (l : List ℕ). l ++ new) taken
    ∙ append_assoc (take at room) (take n part) new
    ∙ ap (λ (l : List ℕ). take at room ++ l) more
    ∙ given

pub length-put : (room part : List ℕ) (at : ℕ) → at ≤ length room → length part ≡ length room - at → length (put_mid at (length room - at) room part) ≡ length room
length-put room part at le size =
    omega (arith, length-append (take at room) (part ++ drop (length room - at) (drop at room)), length-append part (drop (length room - at) (drop at room)), length-take-le at room le, length-drop (length room - at) (drop at room), length-drop at room, size)
