-- Media types of payloads, as they are written (Barbican API v1, payload_content_type; RFC 2046 sections 4.1.3 and 4.5.1).
use Rattle.std.specs.Prelude.{ℕ, List, codes}
use Rattle.kms_world.specs.declared.payload.Media.{Media}
use Rattle.kms_world.specs.declared.payload.Media.TheVariants.{TextPlain, OctetStream}

abbrev pub word_of : Media → List ℕ
word_of TextPlain = codes "text/plain"
word_of OctetStream = codes "application/octet-stream"
