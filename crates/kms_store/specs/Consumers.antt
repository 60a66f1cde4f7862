-- Consumers, and how many each container has.
use Rattle.std.specs.Prelude.{◌≡◌, ℕ, ◌+◌, ◌≤◌, List, length, filter, nat_lt, vec_len, vec_capacity}
use Rattle.std.specs.Global.{Vec}
use Rattle.kms_world.specs.Id.{is_id}
use Rattle.kms_world.specs.declared.id.Id.{Id}
use Rattle.kms_world.specs.declared.container.ConsumerRow.{ConsumerRow}
use Rattle.kms_store.specs.Tally.{number_in, Ascend}
use Rattle.kms_store.specs.declared.tally.Entry.{Entry}

-- so many of the rows are of this container
abbrev pub count_on : (container : Id) → List ConsumerRow → ℕ
count_on container rows = length (filter (λ r. is_id container r.container) rows)

-- the entries say how many consumers each container has, and there is memory for so many more of both
pub record AreCountedOn (on : Vec (Entry Id)) (rows : Vec ConsumerRow) (spare : ℕ) : Type 0 where
  pub ascend : Ascend (λ a b. nat_lt a.0 b.0) on.items
  pub each : (container : Id) → number_in is_id container on.items ≡ count_on container rows.items
  pub on_fit : vec_len on + spare ≤ vec_capacity on
  pub rows_fit : vec_len rows + spare ≤ vec_capacity rows
