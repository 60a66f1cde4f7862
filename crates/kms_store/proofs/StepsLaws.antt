-- How many steps records have, and a count of them that stops at its end.
use Rattle.std.proofs.Common.{◌≡◌, ℕ, ◌+◌, ◌-◌, ◌^◌, ◌<◌, ◌≤◌, min, List, length, drop, take, refl, ap, subst, arith, length-append}
use Rattle.std.proofs.lemmas.List.{drop_all}
use Rattle.std.proofs.lemmas.Nat.{from_be_bytes-to_be_bytes_4}
use Rattle.std.specs.Int.{w32, from_be_bytes}
use Rattle.kms_record.specs.declared.change.Change.{Change}
use Rattle.kms_record.specs.Fields.{u32_bytes}
use Rattle.kms_record.specs.Grammar.{IsRecord, step_bytes}
use Rattle.std.specs.List.{flat_map}
use Rattle.kms_store.specs.Checkpoint.{IsCountOf}
use Rattle.kms_store.specs.Stands.{HaveSteps}

length-u32 : (n : ℕ) → length (u32_bytes n) ≡ 4
unfolding u32_bytes
length-u32 n = refl

-- a record has four bytes
pub record_has_four : (bytes : List ℕ) (steps : List (List Change)) → IsRecord bytes steps → 4 ≤ length bytes
record_has_four bytes steps is =
    omega (arith, ap length is.spelled, length-append (u32_bytes (length steps)) (flat_map step_bytes steps), length-u32 (length steps))

-- after the last record there are no steps
pub all_counted : (items : List (ℕ × List ℕ)) (i m count n : ℕ) → length items ≤ i → HaveSteps (drop i items) m → min (count + m) (2 ^ 64 - 1) ≡ min n (2 ^ 64 - 1) → count ≤ 2 ^ 64 - 1 → IsCountOf count n
all_counted items i m count n le left same fits =
    let none : m ≡ 0 = subst (λ (l : List (ℕ × List ℕ)). HaveSteps l m) (drop_all i items le) left in
    omega (arith, none, same, fits)

-- one step more is counted
pub one_more : (count n : ℕ) → IsCountOf count n → IsCountOf (min (count + 1) (2 ^ 64 - 1)) (n + 1)
one_more count n is = omega (arith, is)

-- a count below its end is exact
pub exact : (count n : ℕ) → IsCountOf count n → count < 2 ^ 63 → count ≡ n
exact count n is lt = omega (arith, is, lt)

-- the number in its first four bytes is that of its steps
pub record_says : (bytes : List ℕ) (steps : List (List Change)) → IsRecord bytes steps → from_be_bytes w32 (take 4 bytes) ≡ length steps
unfolding u32_bytes
record_says bytes steps is = rw is.spelled (from_be_bytes-to_be_bytes_4 (length steps) is.admitted.few)
