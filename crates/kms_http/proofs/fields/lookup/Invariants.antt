use Rattle.std.proofs.Common.{◌≡◌, take}
use Rattle.kms_http.specs.Fields.{values_of}
use Rattle.kms_http.proofs.FieldLaws.{listed}
use Rattle.kms_http.proofs.fields.lookup.Given as goal

abbrev pub invariant-loop-place : goal.invariant-loop-place
invariant-loop-place l = values_of l.name (take l.place l.fields) ≡ listed l.found
