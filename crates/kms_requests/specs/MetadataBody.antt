-- The body of a secret's metadata (Barbican API v1, PUT /v1/secrets/{uuid}/metadata): its pairs in the order of the keys'
-- bytes.
use Rattle.std.specs.Prelude.{ℕ, List, [], ◌∷◌, Option, Some, None, Ok, Err}
use Rattle.serde_json.specs.Data.{Data, null, boolean, number, string, array, object, Members, no_members, member}
use Rattle.kms_world.specs.declared.body.MetadataBody.{MetadataBody}
use Rattle.kms_world.specs.declared.refusal.Field.{Field}
use Rattle.kms_world.specs.declared.refusal.Field.TheVariants.{Metadata}
use Rattle.kms_world.specs.declared.refusal.Refusal.TheVariants.{BadBody}
use Rattle.kms_requests.specs.Body.{Said, body_object}
use Rattle.kms_requests.specs.Fields.{◌>>=◌, said_map, optional_object}

abbrev pub Pairs : Type 0
Pairs = List (List ℕ × List ℕ)

-- a pair of texts: null is no text here
unfoldable pub pair_of : Field → List ℕ → Data → Said (List ℕ × List ℕ)
pair_of f k (string s) = Ok (k, s)
pair_of f k null = Err (BadBody f)
pair_of f k (boolean b) = Err (BadBody f)
pair_of f k (number n) = Err (BadBody f)
pair_of f k (array ds) = Err (BadBody f)
pair_of f k (object ns) = Err (BadBody f)

abbrev pub pair_texts : Field → Members → Said Pairs
pair_texts f no_members = Ok []
pair_texts f (member k d ms) = do
  first ← pair_of f k d
  said_map (λ others. first ∷ others) (pair_texts f ms)

abbrev pub pairs_of : Field → Data → Said Pairs
pairs_of f null = Err (BadBody f)
pairs_of f (boolean b) = Err (BadBody f)
pairs_of f (number n) = Err (BadBody f)
pairs_of f (string s) = Err (BadBody f)
pairs_of f (array ds) = Err (BadBody f)
pairs_of f (object ms) = pair_texts f ms

abbrev pub optional_pairs : Field → Option Data → Said (Option Pairs)
optional_pairs f None = Ok None
optional_pairs f (Some d) = said_map Some (pairs_of f d)

unfoldable pub metadata_of : Data → Said MetadataBody
metadata_of d = do
  given ← optional_object Metadata d
  metadata ← optional_pairs Metadata given
  Ok (record { metadata = metadata })

abbrev pub metadata_body : (content_type : Option (List ℕ)) → List ℕ → Said MetadataBody
metadata_body content_type bytes = do
  d ← body_object content_type bytes
  metadata_of d
