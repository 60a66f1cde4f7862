-- A secret's metadata as objects (Barbican API v1, the responses to GET /v1/secrets/{uuid}/metadata and
-- /v1/secrets/{uuid}/metadata/{key}).
use Rattle.std.specs.Prelude.{ℕ, List, fold, codes}
use Rattle.serde_json.specs.Data.{Data, string, object, Members, member, no_members, put}

-- the pairs as members, which stand in the order of their keys' bytes
abbrev pub with_pairs : Members → List (List ℕ × List ℕ) → Members
with_pairs members pairs = fold (λ ms p. put p.0 (string p.1) ms) members pairs

abbrev pub pairs_data : List (List ℕ × List ℕ) → Data
pairs_data pairs = object (with_pairs no_members pairs)

abbrev pub metadata_data : List (List ℕ × List ℕ) → Data
metadata_data pairs = object (member (codes "metadata") (pairs_data pairs) no_members)

abbrev pub pair_data : (key value : List ℕ) → Data
pair_data key value = object (member (codes "key") (string key) (member (codes "value") (string value) no_members))
