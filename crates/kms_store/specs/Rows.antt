-- Rows in tables.
use Rattle.std.specs.Prelude.{ℕ, ◌+◌, ◌<◌, ◌≤◌, ◌^◌, vec_len, vec_capacity}
use Rattle.kms_world.specs.State.{State}
use Rattle.kms_kept.specs.Kept.{Kept, secret_ids, container_ids, order_ids}
use Rattle.kms_kept.specs.KeyNumbers.{KeysAscend}
use Rattle.kms_kept.specs.Once.{Pairwise, HaveOtherTargets, HaveOtherProjects}
use Rattle.kms_store.specs.Table.{Rises}
use Rattle.kms_store.specs.declared.rows.Rows.{Rows}

-- what the rows keep
abbrev pub kept_in : Rows → Kept
kept_in r = record {
  state = record {
    tag = r.tag;
    ids = r.ids;
    secrets = r.secrets.items;
    containers = r.containers.items;
    consumers = r.consumers.items;
    orders = r.orders.items;
    acls = r.acls.items;
    quotas = r.quotas.items;
  };
  keys = r.keys.items;
}

-- The tag and the number of ids are in range, ids rise in the tables that have ids, a target has one access
-- list and a project one row of quotas, and the keys stand by project and number.
pub record AreOrdered (r : Rows) : Type 0 where
  pub tag : r.tag < 2 ^ 60
  pub ids : r.ids ≤ 2 ^ 62
  pub secrets : Rises (secret_ids (kept_in r).state)
  pub containers : Rises (container_ids (kept_in r).state)
  pub orders : Rises (order_ids (kept_in r).state)
  pub acls : Pairwise HaveOtherTargets r.acls.items
  pub quotas : Pairwise HaveOtherProjects r.quotas.items
  pub keys : KeysAscend r.keys.items

-- each table has memory for so many rows more
pub record HasSpace (n : ℕ) (r : Rows) : Type 0 where
  pub secrets : n ≤ r.secrets.spare
  pub containers : n ≤ r.containers.spare
  pub consumers : n ≤ r.consumers.spare
  pub orders : n ≤ r.orders.spare
  pub acls : n ≤ r.acls.spare
  pub quotas : n ≤ r.quotas.spare
  pub keys : vec_len r.keys + n ≤ vec_capacity r.keys

-- one change takes at most one place of those for which there is memory
abbrev pub LeavesSpace : (old new : Rows) → Type 0
LeavesSpace old new = (n : ℕ) → HasSpace (n + 1) old → HasSpace n new

-- what is kept, in another state
abbrev pub with_state : State → Kept → Kept
with_state state kept = record { state = state; keys = kept.keys }
