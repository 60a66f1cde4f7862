-- A snapshot begins with the number of its changes.
use Rattle.std.proofs.Common.{◌≡◌, ℕ, ◌+◌, List, ◌++◌, length, refl, arith, length-append}
use Rattle.std.specs.Int.{w64, to_be_bytes}
use Rattle.std.specs.List.{flat_map}
use Rattle.kms_record.specs.declared.change.Change.{Change}
use Rattle.kms_record.specs.Fields.{u64_bytes}
use Rattle.kms_record.specs.Grammar.{change_bytes, snapshot_bytes}

length-u64 : (n : ℕ) → length (u64_bytes n) ≡ 8
unfolding u64_bytes
length-u64 n = refl

pub length-snapshot : (changes : List Change) → length (snapshot_bytes changes) ≡ 8 + length (flat_map change_bytes changes)
length-snapshot changes = omega (arith, length-append (u64_bytes (length changes)) (flat_map change_bytes changes), length-u64 (length changes))

pub snapshot_is : (changes : List Change) (n : ℕ) (head rest : List ℕ) → n ≡ length changes → head ≡ to_be_bytes w64 n → rest ≡ flat_map change_bytes changes → head ++ rest ≡ snapshot_bytes changes
unfolding u64_bytes
snapshot_is changes n head rest n_is head_is rest_is = rw (head_is, n_is, rest_is) refl
