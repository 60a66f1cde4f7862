-- The buffer of staged steps.
use Rattle.std.specs.Prelude.{◌≡◌, ◌+◌, ◌≤◌, ◌<◌, ◌^◌, length, drop, vec_len, vec_capacity}
use Rattle.kms_store.specs.Staged.{Staging}
use Rattle.kms_store.specs.declared.staged.Staged.TheInside.{Inside}

abbrev pub staging_in : Inside → Staging
staging_in s = record { count = s.count; steps = drop 8 s.buffer.items; reserved = s.piece }

-- There are eight bytes before the steps, each of which has at least one, and room for the step that is reserved and a commit
-- mark.
pub record IsBuffer (s : Inside) : Type 0 where
  pub head : 8 ≤ length s.buffer.items
  pub few : s.count + 8 ≤ length s.buffer.items
  pub none : s.count ≡ 0 → length s.buffer.items ≡ 8
  pub short : length s.buffer.items + length s.piece < 2 ^ 27 + 8
  pub space : vec_len s.buffer + length s.piece + 1 ≤ vec_capacity s.buffer
