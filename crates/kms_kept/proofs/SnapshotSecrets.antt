-- The secrets of a snapshot, each with its payload and its metadata, lead to those that are kept.
use Rattle.std.proofs.Common.{◌≡◌, ℕ, ◌<◌, true, false, List, [], ◌∷◌, ◌++◌, map, Option, Some, None, refl, sym, ap, subst, ◌∙◌, IfSome}
use Rattle.std.specs.Prelude.{◌&&◌, is_some, is_none}
use Rattle.std.specs.List.{AllByRecursion, flat_map}
use Rattle.std.proofs.lemmas.Bool.{eq-eqb}
use Rattle.kms_world.specs.Effect.{ids_with, with_payload, with_metadata}
use Rattle.kms_world.specs.Id.{id_number, id_at, is_id}
use Rattle.kms_world.specs.State.{State}
use Rattle.kms_world.specs.declared.id.Id.{Id}
use Rattle.kms_world.specs.declared.payload.Payload.{Payload}
use Rattle.kms_world.specs.declared.secret.SecretRow.{SecretRow}
use Rattle.kms_record.specs.declared.change.Change.TheVariants.{SecretPut, PayloadPut, MetadataPut}
use Rattle.kms_record.specs.declared.payload.PayloadPut.{PayloadPut as PayloadChange}
use Rattle.kms_record.specs.Base.{count_of, payload_put_of, metadata_put_of}
use Rattle.kms_record.specs.SecretPut.{row_of, put_of}
use Rattle.kms_kept.specs.Kept.{Kept, Base, applies, has, key_of, after_change, after_changes, secret_ids}
use Rattle.kms_kept.specs.OfGrammar.{IsSecret}
use Rattle.kms_kept.specs.Rising.{IsGiven, Rises}
use Rattle.kms_kept.specs.Sealed.{HasKey, IsUnderKey}
use Rattle.kms_kept.specs.Snapshot.{token_changes, payload_changes, metadata_changes, secret_changes}
use Rattle.kms_kept.proofs.BaseLaws.{none_given}
use Rattle.kms_kept.proofs.RisingLaws.{given_below}
use Rattle.kms_kept.proofs.SnapshotKeys.{first_state}
use Rattle.kms_kept.proofs.SnapshotParts.{all_mid, given_mid, below_mid, none_found, found_last, changed_last, others_by_id, of_ids, given_count, new_in_base, one_change, first_change, two_parts, built}

abbrev pub with_secrets : Kept → List SecretRow → Kept
with_secrets kept rows = (let s : State = record (first_state kept) { secrets = rows } in record { state = s; keys = kept.keys })

-- a row with this payload and this metadata
abbrev row_with : SecretRow → Option Payload → List (List ℕ × List ℕ) → SecretRow
row_with row payload metadata = record row { payload = payload; metadata = metadata }

module _ (kept : Kept) (front : List SecretRow) (row : SecretRow)
    (id : id_at kept.state.tag (count_of row.id) ≡ row.id)
    (given : IsGiven kept.state.tag kept.state.ids row.id)
    (below : AllByRecursion (λ (f : SecretRow). f.id.0 < row.id.0) front) where
  abbrev tag : ℕ
  tag = kept.state.tag

  abbrev here : Option Payload → List (List ℕ × List ℕ) → Kept
  here payload metadata = with_secrets kept (front ++ row_with row payload metadata ∷ [])

  count_below : count_of row.id < kept.state.ids
  count_below = given_count tag kept.state.ids (count_of row.id) (subst (IsGiven tag kept.state.ids) (sym id) given)

  others : AllByRecursion (λ (f : SecretRow). is_id (id_at tag (count_of row.id)) f.id ≡ false) front
  others = subst (λ (i : Id). AllByRecursion (λ (f : SecretRow). is_id i f.id ≡ false) front) (sym id) (others_by_id (λ (x : SecretRow). x.id) row.id front below)

  itself : is_id (id_at tag (count_of row.id)) row.id ≡ true
  itself = eq-eqb row.id.0 (id_at tag (count_of row.id)).0 (ap (λ (i : Id). i.0) (sym id))

  -- ---- its attributes

  bare : row_of tag (put_of (count_of row.id) row) ≡ row_with row None []
  bare = ap (λ (i : Id). let r : SecretRow = record row { id = i; payload = None; metadata = [] } in r) id

  attributes_put : after_change Base (SecretPut (put_of (count_of row.id) row)) (with_secrets kept front) ≡ Some (here None [])
  attributes_put =
      let s = (with_secrets kept front).state in
      let count = count_of row.id in
      let new = new_in_base s (secret_ids s) count count_below
      (of_ids (λ (x : SecretRow). x.id) (λ (i : Id). i.0 < id_number tag count) front (subst (λ (i : Id). AllByRecursion (λ (f : SecretRow). f.id.0 < i.0) front) (sym id) below))
      (ap is_some (none_found (λ (r : SecretRow). is_id (id_at tag count) r.id) front others)) refl refl in
      let ids : ids_with (id_at tag count) s ≡ s.ids = none_given s (id_at tag count) (given_below tag s.ids (id_at tag count) (subst (IsGiven tag s.ids) (sym id) given)) in
      one_change (SecretPut (put_of count row)) (with_secrets kept front) (here None []) new
      (ap (λ (n : ℕ). let t : State = record s { ids = n; secrets = front ++ row_of tag (put_of count row) ∷ [] } in let k : Kept = record { state = t; keys = kept.keys } in k) ids
      ∙ ap (λ (r : SecretRow). with_secrets kept (front ++ r ∷ [])) bare)

  -- ---- its payload

  payload_put : (payload : Payload) (number : ℕ) (token : List ℕ) → payload.bytes ≡ number ∷ token → is_some (key_of row.project number kept.keys) ≡ true
      → after_change Base (PayloadPut (payload_put_of row number (record payload { bytes = token }))) (here None []) ≡ Some (here (Some payload) [])
  payload_put payload number token is key =
      let put : PayloadChange = payload_put_of row number (record payload { bytes = token }) in
      let found = found_last (λ (r : SecretRow). is_id (id_at tag (count_of row.id)) r.id) front (row_with row None []) others itself in
      let fits : applies Base (PayloadPut put) (here None []) ≡ true =
      ap (λ (o : Option SecretRow). has o (λ r. is_none r.payload && is_some (key_of r.project number kept.keys))) found ∙ key in
      let sealed : Payload = record payload { bytes = number ∷ token } in
      let back : sealed ≡ payload = ap (λ (bytes : List ℕ). let p : Payload = record payload { bytes = bytes } in p) (sym is) in
      one_change (PayloadPut put) (here None []) (here (Some payload) []) fits
      (ap (with_secrets kept) (changed_last (λ (r : SecretRow). is_id (id_at tag (count_of row.id)) r.id) (with_payload row.updated sealed) front (row_with row None []) others itself)
      ∙ ap (λ (p : Payload). here (Some p) []) back)

  token_put : (payload : Payload) (sealed : List ℕ) → payload.bytes ≡ sealed → HasKey kept.keys row.project sealed → after_changes Base (token_changes row payload sealed) (here None []) ≡ Some (here (Some payload) [])
  token_put payload [] is key = absurd key
  token_put payload (number ∷ token) is key = first_change (PayloadPut (payload_put_of row number (record payload { bytes = token }))) [] (here None []) (here (Some payload) []) (Some (here (Some payload) [])) (payload_put payload number token is key) refl

  payload_built : (payload : Option Payload) → IfSome payload (λ p. HasKey kept.keys row.project p.bytes) → after_changes Base (payload_changes row payload) (here None []) ≡ Some (here payload [])
  payload_built None under = refl
  payload_built (Some payload) under = token_put payload payload.bytes refl under

  -- ---- its metadata

  metadata_put : (payload : Option Payload) → after_change Base (MetadataPut (metadata_put_of row)) (here payload []) ≡ Some (here payload row.metadata)
  metadata_put payload =
      let found = found_last (λ (r : SecretRow). is_id (id_at tag (count_of row.id)) r.id) front (row_with row payload []) others itself in
      one_change (MetadataPut (metadata_put_of row)) (here payload []) (here payload row.metadata) (ap is_some found)
      (ap (with_secrets kept) (changed_last (λ (r : SecretRow). is_id (id_at tag (count_of row.id)) r.id) (with_metadata row.updated row.metadata) front (row_with row payload []) others itself))

  metadata_built : (payload : Option Payload) (metadata : List (List ℕ × List ℕ)) → row.metadata ≡ metadata → after_changes Base (metadata_changes row metadata) (here payload []) ≡ Some (here payload row.metadata)
  metadata_built payload [] is = ap (λ (pairs : List (List ℕ × List ℕ)). let o : Option Kept = Some (here payload pairs) in o) (sym is)
  metadata_built payload (pair ∷ pairs) is = first_change (MetadataPut (metadata_put_of row)) [] (here payload []) (here payload row.metadata) (Some (here payload row.metadata)) (metadata_put payload) refl

  pub secret_built : IsUnderKey kept.keys row → after_changes Base (secret_changes row) (with_secrets kept front) ≡ Some (with_secrets kept (front ++ row ∷ []))
  secret_built under =
      first_change (SecretPut (put_of (count_of row.id) row)) (payload_changes row row.payload ++ metadata_changes row row.metadata) (with_secrets kept front) (here None []) (Some (with_secrets kept (front ++ row ∷ []))) attributes_put
      (two_parts (payload_changes row row.payload) (metadata_changes row row.metadata) (here None []) (here row.payload []) (with_secrets kept (front ++ row ∷ [])) (payload_built row.payload under) (metadata_built row.payload row.metadata refl))

module _ (kept : Kept) (rises : Rises kept.state.tag kept.state.ids (secret_ids kept.state)) (rows : AllByRecursion (IsSecret kept.state.tag) kept.state.secrets) (under : AllByRecursion (IsUnderKey kept.keys) kept.state.secrets) where
  secret_step : (front : List SecretRow) (row : SecretRow) (rest : List SecretRow) → kept.state.secrets ≡ front ++ row ∷ rest → after_changes Base (secret_changes row) (with_secrets kept front) ≡ Some (with_secrets kept (front ++ row ∷ []))
  secret_step front row rest is =
      let here = subst (λ (all : List SecretRow). Rises kept.state.tag kept.state.ids (map (λ (x : SecretRow). x.id) all)) is rises in
      let fits = all_mid (IsSecret kept.state.tag) front row rest (subst (AllByRecursion (IsSecret kept.state.tag)) is rows) in
      secret_built kept front row fits.id (given_mid (λ (x : SecretRow). x.id) kept.state.tag kept.state.ids front row rest here) (below_mid (λ (x : SecretRow). x.id) kept.state.tag kept.state.ids front row rest here)
      (all_mid (IsUnderKey kept.keys) front row rest (subst (AllByRecursion (IsUnderKey kept.keys)) is under))

  pub secrets_built : after_changes Base (flat_map secret_changes kept.state.secrets) (with_secrets kept []) ≡ Some (with_secrets kept kept.state.secrets)
  secrets_built = built secret_changes (with_secrets kept) kept.state.secrets secret_step
