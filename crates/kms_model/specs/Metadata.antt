-- The operations on the metadata of secrets.
use Rattle.std.specs.Prelude.{ℕ, not, List, [], ◌∷◌, ◌++◌, length, filter, find, nat_lt, Option, option_and_then, Result, Ok}
use Rattle.std.specs.Str.{bytes_eq}
use Rattle.kms_secret.specs.Key.{key_of}
use Rattle.kms_secret.specs.Metadata.{checked_metadata, checked_pair, has_key}
use Rattle.kms_world.specs.Effect.{MetadataPut}
use Rattle.kms_world.specs.Pairs.{is_below}
use Rattle.kms_world.specs.State.{State}
use Rattle.kms_world.specs.declared.action.Action.TheVariants.{SecretGet, SecretWrite}
use Rattle.kms_world.specs.declared.answer.Answer.TheVariants.{Empty, Link, Metadata, Pair}
use Rattle.kms_world.specs.declared.answer.Link.TheVariants.{Metadata as MetadataLink}
use Rattle.kms_world.specs.declared.body.MetadataBody.{MetadataBody}
use Rattle.kms_world.specs.declared.body.PairBody.{PairBody}
use Rattle.kms_world.specs.declared.caller.Caller.{Caller}
use Rattle.kms_world.specs.declared.id.Id.{Id}
use Rattle.kms_world.specs.declared.refusal.Field.TheVariants.{Key, Metadata as MetadataField}
use Rattle.kms_world.specs.declared.refusal.Refusal.{Refusal}
use Rattle.kms_world.specs.declared.refusal.Refusal.TheVariants.{BadBody, Conflict}
use Rattle.kms_model.specs.Done.{Done, ◌>>=◌, only_if, there}
use Rattle.kms_model.specs.Secrets.{live_secret, secret_for}

-- the pair whose key this text names; a text that isn't of a key's form names none
abbrev pub pair_of : Option (List ℕ) → List (List ℕ × List ℕ) → Option (List ℕ × List ℕ)
pair_of text pairs = option_and_then (λ key. find (λ p. bytes_eq key p.0) pairs) (option_and_then key_of text)

-- the pairs with this one, in the place of the one with its key, if there is one
abbrev pub with_pair : List ℕ × List ℕ → List (List ℕ × List ℕ) → List (List ℕ × List ℕ)
with_pair pair pairs = filter (λ p. is_below p.0 pair.0) pairs ++ pair ∷ filter (λ p. is_below pair.0 p.0) pairs

-- the pairs but for the one with this key
abbrev pub without_key : List ℕ → List (List ℕ × List ℕ) → List (List ℕ × List ℕ)
without_key key pairs = filter (λ p. not (bytes_eq key p.0)) pairs

-- one pair more is taken with this key: there are fewer than 100, and none has it
abbrev pub may_add : List ℕ → List (List ℕ × List ℕ) → Result (Unit {0}) Refusal
may_add key pairs = do
  few ← only_if (nat_lt (length pairs) 100) (BadBody MetadataField)
  only_if (not (has_key key pairs)) Conflict

-- GET of a secret's metadata
abbrev pub metadata_shown : State → Caller → Option Id → ℕ → Result Done Refusal
metadata_shown s caller id t = do
  row ← secret_for s caller SecretGet (live_secret s id t)
  Ok (record { answer = Metadata row.metadata; effects = [] })

-- PUT of a secret's metadata: all pairs
abbrev pub metadata_put : State → Caller → Option Id → Result MetadataBody Refusal → ℕ → Result Done Refusal
metadata_put s caller id body t = do
  row ← secret_for s caller SecretWrite (live_secret s id t)
  given ← body
  pairs ← checked_metadata given
  Ok (record { answer = Link 201 MetadataLink row.id; effects = MetadataPut row.id t pairs ∷ [] })

-- POST of one pair, with a key that isn't there yet
abbrev pub pair_posted : State → Caller → Option Id → Result PairBody Refusal → ℕ → Result Done Refusal
pair_posted s caller id body t = do
  row ← secret_for s caller SecretWrite (live_secret s id t)
  given ← body
  pair ← checked_pair given
  more ← may_add pair.0 row.metadata
  Ok (record { answer = Pair 201 pair.0 pair.1; effects = MetadataPut row.id t (with_pair pair row.metadata) ∷ [] })

-- GET of one pair
abbrev pub pair_shown : State → Caller → Option Id → (key : Option (List ℕ)) → ℕ → Result Done Refusal
pair_shown s caller id key t = do
  row ← secret_for s caller SecretGet (live_secret s id t)
  pair ← there (pair_of key row.metadata)
  Ok (record { answer = Pair 200 pair.0 pair.1; effects = [] })

-- PUT of one pair, whose key is there
abbrev pub pair_put : State → Caller → Option Id → (key : Option (List ℕ)) → Result PairBody Refusal → ℕ → Result Done Refusal
pair_put s caller id key body t = do
  row ← secret_for s caller SecretWrite (live_secret s id t)
  old ← there (pair_of key row.metadata)
  given ← body
  pair ← checked_pair given
  same ← only_if (bytes_eq pair.0 old.0) (BadBody Key)
  Ok (record { answer = Pair 200 pair.0 pair.1; effects = MetadataPut row.id t (with_pair pair row.metadata) ∷ [] })

-- DELETE of one pair
abbrev pub pair_deleted : State → Caller → Option Id → (key : Option (List ℕ)) → ℕ → Result Done Refusal
pair_deleted s caller id key t = do
  row ← secret_for s caller SecretWrite (live_secret s id t)
  pair ← there (pair_of key row.metadata)
  Ok (record { answer = Empty 204; effects = MetadataPut row.id t (without_key pair.0 row.metadata) ∷ [] })
