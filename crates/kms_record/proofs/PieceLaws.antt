-- A spelling that is copied out a window at a time.
use Rattle.std.proofs.Common.{◌≡◌, ℕ, ◌+◌, ◌-◌, ◌≤◌, ◌<◌, List, ◌++◌, length, take, drop, min, Option, Some, None, refl, sym, ap, ◌∙◌, arith, length-drop, append_assoc, take-add, drop-drop}
use Rattle.std.proofs.lemmas.List.{take_at, drop_at, take-take, length-take, length-take-le}
use borrow.Rule.Slice.PartMut.{put_mid}
use Rattle.kms_record.specs.declared.base.BaseChange.{BaseChange}
use Rattle.kms_record.specs.declared.change.Change.{Change}
use Rattle.kms_record.specs.Base.{as_change, bytes_of, base_bytes, IsPutInRange, IsBaseInRange}
use Rattle.kms_record.proofs.SizeLaws.{change_is_short, most_is_few}

put_is_short : (o : Option Change) → IsPutInRange o → length (bytes_of o) < 65536
put_is_short None r = absurd r
put_is_short (Some change) r = omega (arith, change_is_short change r, most_is_few change)

pub base_is_short : (change : BaseChange) → IsBaseInRange change → length (base_bytes change) < 65536
base_is_short change r = put_is_short (as_change change) r

-- the room has the first bytes, and after them what it had
pub record IsCopied (bytes before now : List ℕ) (at count : ℕ) : Type 0 where
  pub copied : now ≡ take at bytes ++ drop at before
  pub within : at ≤ count

pub none_copied : (bytes before : List ℕ) (count : ℕ) → IsCopied bytes before before 0 count
none_copied bytes before count = record { copied = refl; within = omega arith }

-- what of a window is copied
pub window_part : (from at more : ℕ) (bytes piece : List ℕ) → piece ≡ take 1024 (drop (from + at) bytes) → more ≤ length piece → take more piece ≡ take more (drop at (drop from bytes))
window_part from at more bytes piece is le =
    let most : more ≤ 1024 = omega (arith, le, ap length is, length-take 1024 (drop (from + at) bytes)) in
    rw is (take-take more 1024 (drop (from + at) bytes) most ∙ ap (take more) (sym (drop-drop at from bytes)))

pub more_copied : (bytes before now part : List ℕ) (at more count k : ℕ) → IsCopied bytes before now at count → part ≡ take more (drop at bytes) → at + more ≤ count → count ≤ length bytes → count ≤ length before → k ≡ more
    → IsCopied bytes before (put_mid at k now part) (at + more) count
more_copied bytes before now part at more count k c is le fits room k_is =
    let front : length (take at bytes) ≡ at = length-take-le at bytes (omega (arith, le, fits)) in
    let first : take at now ≡ take at bytes = rw c.copied (take_at (take at bytes) (drop at before) at front) in
    let rest : drop at now ≡ drop at before = rw c.copied (drop_at (take at bytes) (drop at before) at front) in
    let tail : drop k (drop at now) ≡ drop (at + more) before = ap (drop k) rest ∙ drop-drop k at before ∙ ap (λ (n : ℕ). drop (at + n) before) k_is in
    let parts : put_mid at k now part ≡ take at bytes ++ (take more (drop at bytes) ++ drop (at + more) before) =
    ap (λ (l : List ℕ). l ++ (part ++ drop k (drop at now))) first ∙ ap (λ (l : List ℕ). take at bytes ++ (l ++ drop k (drop at now))) is ∙ ap (λ (l : List ℕ). take at bytes ++ (take more (drop at bytes) ++ l)) tail in
    record {
      copied = parts ∙ sym (append_assoc (take at bytes) (take more (drop at bytes)) (drop (at + more) before)) ∙ ap (λ (l : List ℕ). l ++ drop (at + more) before) (sym (take-add at more bytes));
      within = le;
    }

-- a window that isn't after the end has some bytes
pub window_has_some : (from at more count len : ℕ) (bytes piece : List ℕ) → piece ≡ take 1024 (drop (from + at) bytes) → count ≤ length bytes - from → at < count → more ≡ min (length piece) (count - at) → 0 < more
window_has_some from at more count len bytes piece is le lt m =
    omega (arith, le, lt, m, ap length is, length-take 1024 (drop (from + at) bytes), length-drop (from + at) bytes)
