-- What an operation comes to doesn't hang on the bytes of payloads.
use Rattle.std.proofs.Common.{◌≡◌, ℕ, suc, Bool, true, false, true≢false, List, [], ◌∷◌, map, length, Option, Some, None, Result, Ok, Err, ◌++◌, not, nat_lt, cond, refl, sym, ap, subst, ◌∙◌}
use Rattle.std.specs.Prelude.{filter, find, codes, is_none, is_some, option_map}
use Rattle.std.specs.List.{list_all, list_any}
use Rattle.std.specs.Str.{bytes_eq}
use Rattle.kms_box.specs.Container.{checked_container}
use Rattle.kms_box.specs.Member.{checked_member}
use Rattle.kms_box.specs.declared.container.NewContainer.{NewContainer}
use Rattle.kms_page.specs.Page.{page_of_list}
use Rattle.kms_page.specs.declared.listing.Listing.TheVariants as listing
use Rattle.kms_page.specs.declared.query.Query.{Query}
use Rattle.kms_policy.specs.Acl.{change_of}
use Rattle.kms_secret.specs.Payload.{checked_payload}
use Rattle.kms_world.specs.Effect as effects
use Rattle.kms_world.specs.Id.{is_id}
use Rattle.kms_world.specs.LookUp.{acl_of}
use Rattle.kms_world.specs.Secret.{attributes_of, without_bytes}
use Rattle.kms_world.specs.State.{State}
use Rattle.kms_world.specs.declared.action.Action.{Action}
use Rattle.kms_world.specs.declared.action.Action.TheVariants.{SecretList, SecretDecrypt, AclGet, AclWrite, ContainerCreate, ContainerWrite}
use Rattle.kms_world.specs.declared.answer.Answer.TheVariants as answers
use Rattle.kms_world.specs.declared.answer.Link.TheVariants.{Secret as SecretLink, Container as ContainerLink}
use Rattle.kms_world.specs.declared.answer.ListRows.TheVariants as list_rows
use Rattle.kms_world.specs.declared.body.ContainerBody.{ContainerBody}
use Rattle.kms_world.specs.declared.caller.Caller.{Caller}
use Rattle.kms_world.specs.declared.container.ContainerRow.{ContainerRow}
use Rattle.kms_world.specs.declared.id.Id.{Id}
use Rattle.kms_world.specs.declared.operation.AclKind.{AclKind}
use Rattle.kms_world.specs.declared.operation.AclKind.TheVariants as kinds
use Rattle.kms_world.specs.declared.operation.Op.{Op}
use Rattle.kms_world.specs.declared.operation.Op.TheVariants.{ListSecrets, PostContainer, PostMember, PostSecret, GetSecret, PutPayload, DeleteSecret, GetPayload, GetMetadata, PutMetadata, PostPair, GetPair, PutPair, DeletePair, GetAcl, PutAcl, PatchAcl, DeleteAcl}
use Rattle.kms_world.specs.declared.payload.Payload.{Payload}
use Rattle.kms_world.specs.declared.quota.QuotaKind.{QuotaKind}
use Rattle.kms_world.specs.declared.quota.QuotaKind.TheVariants.{Secrets, Orders, Containers, Consumers}
use Rattle.kms_world.specs.declared.refusal.Refusal.{Refusal}
use Rattle.kms_world.specs.declared.refusal.Field.TheVariants.{SecretRefs}
use Rattle.kms_world.specs.declared.refusal.Refusal.TheVariants.{BadBody, Conflict, IdsSpent, NoObject, NotAcceptable}
use Rattle.kms_world.specs.declared.reply.Media2.TheVariants.{Json}
use Rattle.kms_world.specs.declared.secret.SecretRow.{SecretRow}
use Rattle.kms_model.specs.Accept.{admits}
use Rattle.kms_model.specs.AccessLists.{link_of, list_dropped, list_patched, list_put, target_for}
use Rattle.kms_model.specs.Alike.{Alike, IsShownByBoth, hidden, hide, shows_payload}
use Rattle.kms_model.specs.Ask.{asked}
use Rattle.kms_model.specs.Containers.{any_container, container_for, container_wanted, is_generic, is_usable, names_secret, new_container, takes_member, with_members}
use Rattle.kms_model.specs.Counts.{count_of}
use Rattle.kms_model.specs.Done.{Done, ◌>>=◌, only_if, there}
use Rattle.kms_model.specs.Lists.{page_done, query_asked, secrets_done, secrets_shown, shows_secret}
use Rattle.kms_model.specs.Payloads.{payload_read, payload_shown, type_of, IsPayloadRead}
use Rattle.kms_model.specs.Permission.{granted}
use Rattle.kms_model.specs.Quotas.{below_limit, within_quota}
use Rattle.kms_model.specs.Secrets.{any_secret, has_id, if_passes, is_live, live_secret, new_secret, next_id, posted_effects, secret_for, secret_target, wanted}
use Rattle.kms_model.proofs.PageAlikeLaws.{filter_mapped, page_hidden}
use Rattle.kms_model.proofs.PayloadReading.{read_is}
use Rattle.kms_model.proofs.SecretLaws.{gave}

-- ---- look-ups

find_here : (test : SecretRow → Bool) (b : Bool) (row : SecretRow) (rows : List SecretRow) → test (hidden row) ≡ test row → test row ≡ b → find test (map hidden rows) ≡ option_map hidden (find test rows)
    → find test (map hidden (row ∷ rows)) ≡ option_map hidden (find test (row ∷ rows))
find_here test true row rows same is rest = rw (same, is) refl
find_here test false row rows same is rest = rw (same, is) rest

find_hidden : (test : SecretRow → Bool) → ((r : SecretRow) → test (hidden r) ≡ test r) → (rows : List SecretRow) → find test (map hidden rows) ≡ option_map hidden (find test rows)
find_hidden test same [] = refl
find_hidden test same (row ∷ rows) = find_here test (test row) row rows (same row) refl (find_hidden test same rows)

any_hidden : (s : State) (id : Option Id) → any_secret (hide s) id ≡ option_map hidden (any_secret s id)
any_hidden s None = refl
any_hidden s (Some id) = find_hidden (λ (r : SecretRow). is_id id r.id) (λ r. refl) s.secrets

passed_hidden : (test : SecretRow → Bool) → ((r : SecretRow) → test (hidden r) ≡ test r) → (found : Option SecretRow) → if_passes test (option_map hidden found) ≡ option_map hidden (if_passes test found)
passed_hidden test same None = refl
passed_hidden test same (Some row) = here (test row) (same row)
  where
    here : (b : Bool) → test (hidden row) ≡ b → cond (test (hidden row)) (Some (hidden row)) None ≡ option_map hidden (cond b (Some row) None)
    here true is = rw is refl
    here false is = rw is refl

abbrev lives : ℕ → SecretRow → Bool
lives t row = is_live t row.expiration

live_hidden : (s : State) (id : Option Id) (t : ℕ) → live_secret (hide s) id t ≡ option_map hidden (live_secret s id t)
live_hidden s id t = ap (if_passes (lives t)) (any_hidden s id) ∙ passed_hidden (lives t) (λ r. refl) (any_secret s id)

-- ---- a secret, and who may

abbrev seen : Result SecretRow Refusal → Result SecretRow Refusal
seen (Ok row) = Ok (hidden row)
seen (Err refusal) = Err refusal

may_hidden : (row : SecretRow) (may : Result (Unit {0}) Refusal) → (may >>= λ x. Ok (hidden row)) ≡ seen (may >>= λ x. Ok row)
may_hidden row (Ok x) = refl
may_hidden row (Err refusal) = refl

for_hidden : (s : State) (caller : Caller) (action : Action) (found : Option SecretRow) → secret_for (hide s) caller action (option_map hidden found) ≡ seen (secret_for s caller action found)
for_hidden s caller action None = refl
for_hidden s caller action (Some row) = may_hidden row (granted caller action (Some (secret_target s row)))

then_hidden : {B : Type 0} (r : Result SecretRow Refusal) (f g : SecretRow → Result B Refusal) → ((row : SecretRow) → g (hidden row) ≡ f row) → (seen r >>= g) ≡ (r >>= f)
then_hidden (Ok row) f g same = same row
then_hidden (Err refusal) f g same = refl

-- what comes after a look-up that sees no payload
on_live : {B : Type 0} (s : State) (caller : Caller) (action : Action) (id : Option Id) (t : ℕ) (f g : SecretRow → Result B Refusal) → ((row : SecretRow) → g (hidden row) ≡ f row)
    → (secret_for (hide s) caller action (live_secret (hide s) id t) >>= g) ≡ (secret_for s caller action (live_secret s id t) >>= f)
on_live s caller action id t f g same =
    ap (λ found. secret_for (hide s) caller action found >>= g) (live_hidden s id t) ∙ ap (λ r. r >>= g) (for_hidden s caller action (live_secret s id t))
    ∙ then_hidden (secret_for s caller action (live_secret s id t)) f g same

on_any : {B : Type 0} (s : State) (caller : Caller) (action : Action) (id : Option Id) (f g : SecretRow → Result B Refusal) → ((row : SecretRow) → g (hidden row) ≡ f row)
    → (secret_for (hide s) caller action (any_secret (hide s) id) >>= g) ≡ (secret_for s caller action (any_secret s id) >>= f)
on_any s caller action id f g same =
    ap (λ found. secret_for (hide s) caller action found >>= g) (any_hidden s id) ∙ ap (λ r. r >>= g) (for_hidden s caller action (any_secret s id))
    ∙ then_hidden (secret_for s caller action (any_secret s id)) f g same

-- ---- what is seen of a row

bytes_gone : (payload : Option Payload) → option_map without_bytes (option_map without_bytes payload) ≡ option_map without_bytes payload
bytes_gone None = refl
bytes_gone (Some payload) = refl

attributes_hidden : (row : SecretRow) → attributes_of (hidden row) ≡ attributes_of row
attributes_hidden row = ap (λ (p : Option Payload). let shown : SecretRow = record (attributes_of row) { payload = p } in shown) (bytes_gone row.payload)

none_hidden : (payload : Option Payload) → is_none (option_map without_bytes payload) ≡ is_none payload
none_hidden None = refl
none_hidden (Some payload) = refl

-- ---- counts

counted_here : (project : List ℕ) (b : Bool) (row : SecretRow) (rows : List SecretRow) → bytes_eq project row.project ≡ b → length (filter (λ (r : SecretRow). bytes_eq project r.project) (map hidden rows)) ≡ length (filter (λ (r : SecretRow). bytes_eq project r.project) rows)
    → length (filter (λ (r : SecretRow). bytes_eq project r.project) (map hidden (row ∷ rows))) ≡ length (filter (λ (r : SecretRow). bytes_eq project r.project) (row ∷ rows))
counted_here project true row rows is rest = rw is (ap suc rest)
counted_here project false row rows is rest = rw is rest

counted_hidden : (project : List ℕ) (rows : List SecretRow) → length (filter (λ (r : SecretRow). bytes_eq project r.project) (map hidden rows)) ≡ length (filter (λ (r : SecretRow). bytes_eq project r.project) rows)
counted_hidden project [] = refl
counted_hidden project (row ∷ rows) = counted_here project (bytes_eq project row.project) row rows refl (counted_hidden project rows)

count_hidden : (kind : QuotaKind) (project : List ℕ) (s : State) → count_of kind project (hide s) ≡ count_of kind project s
count_hidden Secrets project s = counted_hidden project s.secrets
count_hidden Orders project s = refl
count_hidden Containers project s = refl
count_hidden Consumers project s = refl

quota_hidden : (s : State) (project : List ℕ) (kind : QuotaKind) → within_quota (hide s) project kind ≡ within_quota s project kind
quota_hidden s project kind = ap (below_limit kind _) (count_hidden kind project s)

-- ---- access lists

target_hidden : (s : State) (caller : Caller) (action : Action) (kind : AclKind) (id : Option Id) (t : ℕ) → target_for (hide s) caller action kind id t ≡ target_for s caller action kind id t
target_hidden s caller action kinds.Secret id t = on_live s caller action id t _ _ (λ row. refl)
target_hidden s caller action kinds.Container id t = refl

-- ---- members of containers

then_same : {A B : Type 0} (r : Result A Refusal) (f g : A → Result B Refusal) → ((x : A) → f x ≡ g x) → (r >>= f) ≡ (r >>= g)
then_same (Ok x) f g same = same x
then_same (Err refusal) f g same = refl

some_hidden : (found : Option SecretRow) → is_some (option_map hidden found) ≡ is_some found
some_hidden None = refl
some_hidden (Some row) = refl

usable_hidden : (s : State) (caller : Caller) (t : ℕ) (member : Option (List ℕ) × Id) → is_usable (hide s) caller t member ≡ is_usable s caller t member
usable_hidden s caller t member =
    let own = λ (r : SecretRow). bytes_eq r.project caller.project in
    ap (λ found. is_some (if_passes own found)) (live_hidden s (Some member.1) t)
    ∙ ap is_some (passed_hidden own (λ r. refl) (live_secret s (Some member.1) t))
    ∙ some_hidden (if_passes own (live_secret s (Some member.1) t))

all_usable_hidden : (s : State) (caller : Caller) (t : ℕ) (members : List (Option (List ℕ) × Id)) → list_all (is_usable (hide s) caller t) members ≡ list_all (is_usable s caller t) members
all_usable_hidden s caller t [] = refl
all_usable_hidden s caller t (member ∷ members) = rw (usable_hidden s caller t member, all_usable_hidden s caller t members) refl

container_wanted_hidden : (s : State) (caller : Caller) (body : Result ContainerBody Refusal) (t : ℕ) → container_wanted (hide s) caller body t ≡ container_wanted s caller body t
container_wanted_hidden s caller body t =
    then_same (granted caller ContainerCreate None) _ _ (λ x. then_same body _ _ (λ given. then_same (checked_container given) _ _
    (λ new. ap (λ (usable : Bool). only_if usable NoObject >>= λ x. Ok new) (all_usable_hidden s caller t new.secrets))))

takes_hidden : (s : State) (caller : Caller) (row : ContainerRow) (member : Option (List ℕ) × Id) (t : ℕ) → takes_member (hide s) caller row member t ≡ takes_member s caller row member t
takes_hidden s caller row member t =
    ap (λ (usable : Bool). only_if (nat_lt (length row.secrets) 100) (BadBody SecretRefs) >>= λ x. only_if usable NoObject >>= λ y. only_if (is_generic row.kind) Conflict >>= λ z.
    only_if (not (list_any (names_secret member.1) row.secrets)) Conflict) (usable_hidden s caller t member)

-- ---- the list of secrets

shown_rows_hidden : (s : State) (caller : Caller) (t : ℕ) → secrets_shown (hide s) caller t ≡ map hidden (secrets_shown s caller t)
shown_rows_hidden s caller t = filter_mapped hidden (shows_secret (hide s) caller t) (shows_secret s caller t) (λ row. refl) s.secrets

all_attributes_hidden : (rows : List SecretRow) → map attributes_of (map hidden rows) ≡ map attributes_of rows
all_attributes_hidden [] = refl
all_attributes_hidden (row ∷ rows) = rw (attributes_hidden row, all_attributes_hidden rows) refl

page_done_hidden : (text : List ℕ) (rows : List SecretRow) (query : Query) → secrets_done text (page_of_list (map hidden rows) query) ≡ secrets_done text (page_of_list rows query)
page_done_hidden text rows query =
    ap (secrets_done text) (page_hidden rows query)
    ∙ ap (λ (shown : List SecretRow). page_done (codes "/secrets") text (list_rows.Secrets shown) (page_of_list rows query).1) (all_attributes_hidden (page_of_list rows query).0)

-- ---- every operation but the one that shows a payload

asked_hidden : (s : State) (caller : Caller) (op : Op) (t : ℕ) → shows_payload op ≡ false → asked (hide s) caller op t ≡ asked s caller op t
asked_hidden s caller (PostSecret body) t plain =
    ap (λ (room : Result (Unit {0}) Refusal). wanted caller body t >>= λ new. room >>= λ x. only_if (has_id s) IdsSpent >>= λ y.
    Ok (record { answer = answers.Link 201 SecretLink (next_id s); effects = posted_effects (new_secret s caller new t) t new.payload })) (quota_hidden s caller.project Secrets)
asked_hidden s caller (GetSecret id accept) t plain =
    on_live s caller _ id t _ _
    (λ row. ap (λ (shown : SecretRow). only_if (admits accept Json) NotAcceptable >>= λ x. Ok (record { answer = answers.Secret shown; effects = [] })) (attributes_hidden row))
asked_hidden s caller (PutPayload id put body) t plain =
    on_live s caller _ id t _ _
    (λ row. ap (λ (none : Bool). checked_payload put body >>= λ payload. only_if none Conflict >>= λ x. Ok (record { answer = answers.Empty 204; effects = effects.PayloadPut row.id t payload ∷ [] })) (none_hidden row.payload))
asked_hidden s caller (DeleteSecret id) t plain = on_any s caller _ id _ _ (λ row. refl)
asked_hidden s caller (GetPayload id accept) t plain = absurd (true≢false plain)
asked_hidden s caller (GetMetadata id) t plain = on_live s caller _ id t _ _ (λ row. refl)
asked_hidden s caller (PutMetadata id body) t plain = on_live s caller _ id t _ _ (λ row. refl)
asked_hidden s caller (PostPair id body) t plain = on_live s caller _ id t _ _ (λ row. refl)
asked_hidden s caller (GetPair id key) t plain = on_live s caller _ id t _ _ (λ row. refl)
asked_hidden s caller (PutPair id key body) t plain = on_live s caller _ id t _ _ (λ row. refl)
asked_hidden s caller (DeletePair id key) t plain = on_live s caller _ id t _ _ (λ row. refl)
asked_hidden s caller (GetAcl kind id) t plain =
    ap (λ (target : Result Id Refusal). target >>= λ i. Ok (record { answer = answers.Acl (acl_of i s.acls); effects = [] })) (target_hidden s caller AclGet kind id t)
asked_hidden s caller (PutAcl kind id body) t plain =
    ap (λ (target : Result Id Refusal). target >>= λ i. body >>= λ given. change_of given >>= λ change.
    Ok (record { answer = answers.Link 200 (link_of kind) i; effects = effects.AclPut (list_put i (acl_of i s.acls) change t) ∷ [] })) (target_hidden s caller AclWrite kind id t)
asked_hidden s caller (PatchAcl kind id body) t plain =
    ap (λ (target : Result Id Refusal). target >>= λ i. body >>= λ given. change_of given >>= λ change.
    Ok (record { answer = answers.Link 200 (link_of kind) i; effects = effects.AclPut (list_patched i (acl_of i s.acls) change t) ∷ [] })) (target_hidden s caller AclWrite kind id t)
asked_hidden s caller (DeleteAcl kind id) t plain =
    ap (λ (target : Result Id Refusal). target >>= λ i. Ok (record { answer = answers.Empty 200; effects = list_dropped i (acl_of i s.acls) })) (target_hidden s caller AclWrite kind id t)
asked_hidden s caller (ListSecrets text) t plain =
    then_same (granted caller SecretList None) _ _ (λ x. then_same (query_asked listing.Secrets text) _ _
    (λ query. ap (λ (rows : List SecretRow). Ok (secrets_done text (page_of_list rows query))) (shown_rows_hidden s caller t) ∙ ap Ok (page_done_hidden text (secrets_shown s caller t) query)))
asked_hidden s caller (PostContainer body) t plain =
    ap (λ (wanted : Result NewContainer Refusal). wanted >>= λ new. within_quota s caller.project Containers >>= λ x. only_if (has_id s) IdsSpent >>= λ y.
    Ok (record { answer = answers.Link 201 ContainerLink (next_id s); effects = effects.ContainerPut (new_container s caller new t) ∷ [] })) (container_wanted_hidden s caller body t)
asked_hidden s caller (PostMember id body) t plain =
    then_same (container_for s caller ContainerWrite (any_container s id)) _ _ (λ row. then_same body _ _ (λ given. then_same (checked_member given) _ _
    (λ member. ap (λ (takes : Result (Unit {0}) Refusal). takes >>= λ x.
    Ok (record { answer = answers.Link 201 ContainerLink row.id; effects = effects.ContainerPut (with_members (row.secrets ++ member ∷ []) t row) ∷ [] })) (takes_hidden s caller row member t))))
asked_hidden s caller op t plain = refl

pub asked_alike : (a b : State) (caller : Caller) (op : Op) (t : ℕ) → Alike a b → shows_payload op ≡ false → asked a caller op t ≡ asked b caller op t
asked_alike a b caller op t alike plain =
    sym (asked_hidden a caller op t plain) ∙ ap (λ (s : State). asked s caller op t) alike ∙ asked_hidden b caller op t plain

-- ---- the one that shows a payload

-- whether it is refused, and how
abbrev verdict : Result Done Refusal → Result (Unit {0}) Refusal
verdict (Ok done) = Ok tt
verdict (Err refusal) = Err refusal

taken_both : (taken : Bool) (a b : Done) → verdict (only_if taken NotAcceptable >>= λ x. Ok a) ≡ verdict (only_if taken NotAcceptable >>= λ x. Ok b)
taken_both true a b = refl
taken_both false a b = refl

-- the tests of a reading
abbrev reading : (accept : Option (List ℕ)) → Option Payload → Result Done Refusal
reading accept found = do
  payload ← there found
  taken ← only_if (admits accept (type_of payload.media)) NotAcceptable
  Ok (record { answer = answers.Payload payload; effects = [] })

read_both : (accept : Option (List ℕ)) (payload : Option Payload) → verdict (reading accept (option_map without_bytes payload)) ≡ verdict (reading accept payload)
read_both accept None = refl
read_both accept (Some payload) = taken_both (admits accept (type_of payload.media)) _ _

row_both : (r : Result SecretRow Refusal) (accept : Option (List ℕ)) → verdict (seen r >>= payload_read accept) ≡ verdict (r >>= payload_read accept)
row_both (Ok row) accept = read_both accept row.payload
row_both (Err refusal) accept = refl

shown_hidden : (s : State) (caller : Caller) (id : Option Id) (accept : Option (List ℕ)) (t : ℕ) → verdict (payload_shown (hide s) caller id accept t) ≡ verdict (payload_shown s caller id accept t)
shown_hidden s caller id accept t =
    ap (λ found. verdict (secret_for (hide s) caller SecretDecrypt found >>= payload_read accept)) (live_hidden s id t)
    ∙ ap (λ r. verdict (r >>= payload_read accept)) (for_hidden s caller SecretDecrypt (live_secret s id t))
    ∙ row_both (secret_for s caller SecretDecrypt (live_secret s id t)) accept

shown_alike : (a b : State) (caller : Caller) (id : Option Id) (accept : Option (List ℕ)) (t : ℕ) → Alike a b → verdict (payload_shown a caller id accept t) ≡ verdict (payload_shown b caller id accept t)
shown_alike a b caller id accept t alike =
    sym (shown_hidden a caller id accept t) ∙ ap (λ (s : State). verdict (payload_shown s caller id accept t)) alike ∙ shown_hidden b caller id accept t

refused_by : (r : Result Done Refusal) (refusal : Refusal) → verdict r ≡ Err refusal → r ≡ Err refusal
refused_by (Ok done) refusal e = absurd cc
refused_by (Err other) refusal e = cc

pub refused_alike : (a b : State) (caller : Caller) (op : Op) (t : ℕ) (refusal : Refusal) → Alike a b → asked a caller op t ≡ Err refusal → asked b caller op t ≡ Err refusal
refused_alike a b caller (GetPayload id accept) t refusal alike is =
    refused_by (payload_shown b caller id accept t) refusal (sym (shown_alike a b caller id accept t alike) ∙ ap verdict is)
refused_alike a b caller op t refusal alike is = sym (asked_alike a b caller op t alike refl) ∙ is

-- what was shown is the payload of the secret that was found
record IsShown (s : State) (id : Option Id) (accept : Option (List ℕ)) (t : ℕ) (done : Done) : Type 0 where
  row : SecretRow
  found : live_secret s id t ≡ Some row
  read : IsPayloadRead accept row done

same_row : (x y : SecretRow) → (let a : Result SecretRow Refusal = Ok x in let b : Result SecretRow Refusal = Ok y in a ≡ b) → x ≡ y
same_row x y e = cc

is_shown : (s : State) (caller : Caller) (id : Option Id) (accept : Option (List ℕ)) (t : ℕ) (done : Done) → payload_shown s caller id accept t ≡ Ok done → IsShown s id accept t done
is_shown s caller id accept t done is = by (live_secret s id t) refl is
  where
    by : (found : Option SecretRow) → live_secret s id t ≡ found → (secret_for s caller SecretDecrypt found >>= payload_read accept) ≡ Ok done → IsShown s id accept t done
    by None at e = absurd cc
    by (Some row) at e =
        let g = gave (secret_for s caller SecretDecrypt (Some row)) (payload_read accept) done e in
        let m = gave (granted caller SecretDecrypt (Some (secret_target s row))) _ g.0 g.1 in
        record { row = row; found = at; read = subst (λ (r : SecretRow). IsPayloadRead accept r done) (sym (same_row row g.0 m.2)) (read_is accept g.0 done g.2) }

given_by : (r : Result Done Refusal) → verdict r ≡ Ok tt → (done : Done) × (r ≡ Ok done)
given_by (Ok done) e = (done, refl)
given_by (Err refusal) e = absurd cc

hidden_same : (x y : SecretRow) (o p : Option SecretRow) → o ≡ Some x → p ≡ Some y → option_map hidden o ≡ option_map hidden p → hidden x ≡ hidden y
hidden_same x y o p e f same =
    let both : (let a : Option SecretRow = Some (hidden x) in let b : Option SecretRow = Some (hidden y) in a ≡ b) = ap (option_map hidden) (sym e) ∙ same ∙ ap (option_map hidden) f in
    some_same (hidden x) (hidden y) both
  where
    some_same : (x y : SecretRow) → (let a : Option SecretRow = Some x in let b : Option SecretRow = Some y in a ≡ b) → x ≡ y
    some_same x y e = cc

pub shown_by_both : (a b : State) (caller : Caller) (id : Option Id) (accept : Option (List ℕ)) (t : ℕ) (done : Done) → Alike a b → payload_shown a caller id accept t ≡ Ok done → IsShownByBoth a b caller id accept t done
shown_by_both a b caller id accept t done alike is =
    let here = is_shown a caller id accept t done is in
    let o = given_by (payload_shown b caller id accept t) (sym (shown_alike a b caller id accept t alike) ∙ ap verdict is) in
    let there_is = is_shown b caller id accept t o.0 o.1 in
    let same : option_map hidden (live_secret a id t) ≡ option_map hidden (live_secret b id t) = sym (live_hidden a id t) ∙ ap (λ (s : State). live_secret s id t) alike ∙ live_hidden b id t in
    record {
      row = here.row;
      found = here.found;
      read = here.read;
      other = there_is.row;
      also = there_is.found;
      alike = hidden_same here.row there_is.row (live_secret a id t) (live_secret b id t) here.found there_is.found same;
      other_done = o.0;
      other_read = there_is.read;
      shown = o.1;
    }
