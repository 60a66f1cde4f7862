-- What a buffer holds once it read on.
use Rattle.std.proofs.Common.{◌≡◌, ℕ, ◌+◌, ◌-◌, ◌≤◌, List, ◌++◌, length, take, drop, sym, ◌∙◌, ap, arith, length-drop, append_assoc}
use Rattle.std.proofs.lemmas.List.{take_at, take-take, take-append-le, drop-take, append-nil, length-take-le}
use Rattle.kms_journal.proofs.RepairLaws.{take_past}

-- what was held stands at the front now
moved : (bytes copied : List ℕ) (used count : ℕ) → used ≤ count → count ≤ length bytes → copied ≡ take 0 bytes ++ take (count - used) (drop used bytes) ++ drop (0 + (count - used)) bytes → take (count - used) copied ≡ drop used (take count bytes)
moved bytes copied used count le within is =
    let held = count - used in
    let size : count ≡ used + held = omega (arith, le) in
    let front : length (take held (drop used bytes)) ≡ held = length-take-le held (drop used bytes) (omega (arith, le, within, length-drop used bytes)) in
    ap (take held) is ∙ take_at (take held (drop used bytes)) _ held front
    ∙ sym (drop-take used held bytes) ∙ ap (λ (k : ℕ). drop used (take k bytes)) (sym size)

pub filled : (bytes copied d room rest : List ℕ) (used count n len : ℕ) → used ≤ count → count ≤ length bytes → copied ≡ take 0 bytes ++ take (count - used) (drop used bytes) ++ drop (0 + (count - used)) bytes → d ≡ copied → length d ≡ len
    → (count - used) + length room ≡ len → n ≤ length room
    → take ((count - used) + n) (take len ((take (count - used) d ++ (room ++ drop (length d - (count - used)) (drop (count - used) d))) ++ rest)) ≡ drop used (take count bytes) ++ take n room
filled bytes copied d room rest used count n len le within is same size fits low =
    let held = count - used in
    let k = length d - held in
    let tail = room ++ drop k (drop held d) in
    let front : length (take held d) ≡ held = length-take-le held d (omega (arith, size, fits)) in
    take-take (held + n) len ((take held d ++ tail) ++ rest) (omega (arith, fits, low))
    ∙ ap (take (held + n)) (append_assoc (take held d) tail rest)
    ∙ take_past (take held d) (tail ++ rest) (held + n) n (omega (arith, front))
    ∙ ap (λ (l : List ℕ). take held d ++ take n l) (append_assoc room (drop k (drop held d)) rest)
    ∙ ap (λ (l : List ℕ). take held d ++ l) (take-append-le n room (drop k (drop held d) ++ rest) low)
    ∙ ap (λ (l : List ℕ). take held l ++ take n room) same
    ∙ ap (λ (l : List ℕ). l ++ take n room) (moved bytes copied used count le within is)

-- where nothing came
pub not_filled : (bytes copied d room rest : List ℕ) (used count len : ℕ) → used ≤ count → count ≤ length bytes → copied ≡ take 0 bytes ++ take (count - used) (drop used bytes) ++ drop (0 + (count - used)) bytes → d ≡ copied → length d ≡ len
    → (count - used) + length room ≡ len
    → take (count - used) (take len ((take (count - used) d ++ (room ++ drop (length d - (count - used)) (drop (count - used) d))) ++ rest)) ≡ drop used (take count bytes)
not_filled bytes copied d room rest used count len le within is same size fits =
    ap (λ (k : ℕ). take k (take len ((take (count - used) d ++ (room ++ drop (length d - (count - used)) (drop (count - used) d))) ++ rest))) (omega arith)
    ∙ filled bytes copied d room rest used count 0 len le within is same size fits (omega arith)
    ∙ append-nil (drop used (take count bytes))
