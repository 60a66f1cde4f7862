use Rattle.std.proofs.Common.{◌≡◌, take, map, string_bytes}
use Rattle.kms_http.specs.Fields.{values_of}
use Rattle.kms_http.specs.Routing.{joined, value_text}
use Rattle.kms_http.proofs.JoinLaws.{has_none}
use Rattle.kms_http.proofs.head_parts.joined.Given as goal

abbrev pub invariant-loop-place : goal.invariant-loop-place
invariant-loop-place l = record {
  text : string_bytes l.text ≡ joined (map value_text (values_of l.name (take l.place l.fields)));
  first : l.is_first ≡ has_none (values_of l.name (take l.place l.fields));
}
