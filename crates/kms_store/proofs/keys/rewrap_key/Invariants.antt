use Rattle.std.proofs.Common.{◌≡◌}
use Rattle.std.specs.Prelude.{if◌then◌else◌}
use Rattle.kms_kept.specs.Kept.{is_key}
use Rattle.kms_record.specs.declared.key.WrappedKey.{WrappedKey}
use Rattle.kms_store.proofs.EditLaws.{mapped}
use Rattle.kms_store.proofs.keys.rewrap_key.Given as goal

-- those before the index are wrapped anew
abbrev pub invariant-loop-key : goal.invariant-loop-key
invariant-loop-key l =
    l.keys ≡ mapped (λ (key : WrappedKey). if is_key l.with.project l.with.number key then record key { wrapped = l.with.wrapped } else key) l.key-index l.initial.keys
