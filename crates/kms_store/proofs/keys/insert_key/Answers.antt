use Rattle.std.proofs.Common.{◌∙◌}
use Rattle.kms_store.proofs.keys.insert_key.Goals as goal

pub returns-clause-items : goal.returns-clause-items
returns-clause-items c = c.insert_reserved.ensures.items ∙ (rw c.deref.ensures.value at c.key_place-at.ensures.place)
