use Rattle.kms_serve.proofs.OpeningLaws.{opened_with_keys, no_keys, open_read, named_read, is_read}
use Rattle.kms_serve.proofs.open.open_store.Goals as goal

pub returns-in-Ok-clause-opens : goal.returns-in-Ok-clause-opens
returns-in-Ok-clause-opens g c = opened_with_keys c.args.key_file.now c.args.store.now c.in-Ok.ring c.open_under.result c.in-Ok.ensures.told c.open_under.ensures.opens

pub returns-in-Err-clause-opens : goal.returns-in-Err-clause-opens
returns-in-Err-clause-opens g c = no_keys c.args.key_file.now c.args.store.now c.in-Err.fault c.key_refusal.result c.key_refusal.ensures c.in-Err.ensures.told

pub open_under-requires-clause-store : goal.open_under-requires-clause-store
open_under-requires-clause-store g c = named_read c.args.store.now c.requires.store c.in-Ok.ensures.told (is_read c.args.key_file.now c.in-Ok.ring)

pub open_under-requires-clause-line : goal.open_under-requires-clause-line
open_under-requires-clause-line g c = open_read c.requires.line c.in-Ok.ensures.told (is_read c.args.key_file.now c.in-Ok.ring)
