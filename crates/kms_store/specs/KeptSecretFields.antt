-- A secret with the number of its token's key.
use Rattle.std.specs.Prelude.{◌≡◌, None}
use Rattle.kms_world.specs.declared.secret.SecretRow.{SecretRow}
use Rattle.kms_kept.specs.Snapshot.{sealed_row}
use Rattle.kms_store.specs.declared.kept_secret.KeptSecret.TheInside.{Inside}

abbrev pub kept_row : Inside → SecretRow
kept_row k = sealed_row k.number k.row

-- where there is no payload the number is 0
abbrev pub IsNumbered : Inside → Type 0
IsNumbered k = k.row.payload ≡ None → k.number ≡ 0
