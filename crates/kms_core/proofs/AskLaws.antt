-- Answers over what is kept are those over each state to which it opens.
use Rattle.std.proofs.Common.{◌≡◌, ℕ, true, false, List, [], ◌∷◌, map, Option, Some, None, refl, sym, ap, subst, ◌∙◌}
use Rattle.std.specs.Prelude.{option_map, Result, Ok, Err, IfOk}
use Rattle.std.specs.List.{AllZip, list_any}
use Rattle.kms_world.specs.Effect.{Effect, after_effects}
use Rattle.kms_world.specs.Effect as effects
use Rattle.kms_world.specs.Id.{id_at}
use Rattle.kms_world.specs.LookUp.{secret_of}
use Rattle.kms_world.specs.Secret.{without_bytes}
use Rattle.kms_world.specs.State.{State}
use Rattle.kms_world.specs.declared.answer.Answer.{Answer}
use Rattle.kms_world.specs.declared.answer.Answer.TheVariants as answers
use Rattle.kms_world.specs.declared.caller.Caller.{Caller}
use Rattle.kms_world.specs.declared.id.Id.{Id}
use Rattle.kms_world.specs.declared.operation.Op.{Op}
use Rattle.kms_world.specs.declared.operation.Op.TheVariants.{GetPayload}
use Rattle.kms_world.specs.declared.payload.Media.{Media}
use Rattle.kms_world.specs.declared.payload.Payload.{Payload}
use Rattle.kms_world.specs.declared.refusal.Refusal.{Refusal}
use Rattle.kms_world.specs.declared.secret.SecretRow.{SecretRow}
use Rattle.kms_record.specs.declared.key.WrappedKey.{WrappedKey}
use Rattle.kms_kept.specs.Kept.{Kept}
use Rattle.kms_model.specs.Alike.{Alike, hidden, shows_payload}
use Rattle.kms_model.specs.Ask.{answer_to, asked, puts_payload, state_after, stores}
use Rattle.kms_model.specs.Done.{Done, answer_by, effects_by, has_some}
use Rattle.kms_model.specs.Payloads.{is_payload_put, payload_shown}
use Rattle.kms_model.specs.Secrets.{is_live, live_secret}
use Rattle.kms_model.proofs.AlikeLaws.{asked_alike, refused_alike, shown_by_both}
use Rattle.kms_model.proofs.SecretLaws.{there_passed}
use Rattle.kms_opened.specs.Opened.{Opened, OpensPayload, OpensRow}
use Rattle.kms_opened.proofs.StateLaws.{found_there}
use Rattle.kms_operations.specs.Outcome.{done_of}
use Rattle.kms_operations.specs.Plan.{IsPlanOf, Plans, put_done, put_effects, with_secret}
use Rattle.kms_operations.specs.declared.outcome.Outcome.{Outcome}
use Rattle.kms_operations.specs.declared.outcome.Plan.{Plan}
use Rattle.kms_operations.specs.declared.outcome.Plan.TheVariants.{Makes, Puts, Shows}
use Rattle.kms_world.specs.declared.refusal.CheckFault.{CheckFault}
use Rattle.kms_world.specs.declared.refusal.CheckFault.TheVariants as faults
use Rattle.kms_operations.specs.declared.outcome.NewPayload.{NewPayload}
use Rattle.kms_record.specs.declared.secret_put.SecretPut.{SecretPut}
use Rattle.kms_sealing.specs.Opening.{IsOpen, PayloadOpens}
use Rattle.kms_core.specs.Showing.{IsShowable, ShowsPayload}
use Rattle.kms_core.specs.Steps.{Held, HasState}

-- ---- what is kept, and what it opens to, differ in the bytes of payloads alone

media_alike : (masters : List (List ℕ)) (keys : List WrappedKey) (project : List ℕ) (sealed plain : Option Payload) → OpensPayload masters keys project sealed plain → option_map without_bytes sealed ≡ option_map without_bytes plain
media_alike masters keys project None None opens = refl
media_alike masters keys project None (Some plain) opens = absurd opens
media_alike masters keys project (Some sealed) None opens = absurd opens
media_alike masters keys project (Some sealed) (Some plain) opens = ap (λ (m : Media). let p : Option Payload = Some (record { media = m; bytes = [] }) in p) (sym opens.0)

row_alike : (masters : List (List ℕ)) (keys : List WrappedKey) (sealed plain : SecretRow) → OpensRow masters keys sealed plain → hidden sealed ≡ hidden plain
row_alike masters keys sealed plain opens =
    ap (λ (p : Option Payload). let r : SecretRow = record sealed { payload = p } in r) (media_alike masters keys sealed.project sealed.payload plain.payload opens.payload)
    ∙ ap (λ (r : SecretRow). let s : SecretRow = record r { payload = option_map without_bytes plain.payload } in s) (sym opens.same)

rows_alike : (masters : List (List ℕ)) (keys : List WrappedKey) (xs ys : List SecretRow) → AllZip (OpensRow masters keys) xs ys → map hidden xs ≡ map hidden ys
rows_alike masters keys [] [] each = refl
rows_alike masters keys [] (y ∷ ys) each = absurd each
rows_alike masters keys (x ∷ xs) [] each = absurd each
rows_alike masters keys (x ∷ xs) (y ∷ ys) each =
    ap (λ (r : SecretRow). r ∷ map hidden xs) (row_alike masters keys x y each.0) ∙ ap (λ (rows : List SecretRow). hidden y ∷ rows) (rows_alike masters keys xs ys each.1)

pub alike_opened : (masters : List (List ℕ)) (kept : Kept) (s : State) → Opened masters kept s → Alike kept.state s
alike_opened masters kept s opened =
    ap (λ (rows : List SecretRow). let z : State = record kept.state { secrets = rows } in z) (rows_alike masters kept.keys kept.state.secrets s.secrets opened.secrets)
    ∙ ap (λ (z : State). let y : State = record z { secrets = map hidden s.secrets } in y) (sym opened.others)

-- ---- operations that show no payload, and refusals

pub same_done : (masters : List (List ℕ)) (kept : Kept) (caller : Caller) (op : Op) (t : ℕ) (done : Done) → asked kept.state caller op t ≡ Ok done → shows_payload op ≡ false → (s : State) → Opened masters kept s → asked s caller op t ≡ Ok done
same_done masters kept caller op t done is plain s opened = sym (asked_alike kept.state s caller op t (alike_opened masters kept s opened) plain) ∙ is

pub same_refusal : (masters : List (List ℕ)) (kept : Kept) (caller : Caller) (op : Op) (t : ℕ) (refusal : Refusal) → asked kept.state caller op t ≡ Err refusal → (s : State) → Opened masters kept s → asked s caller op t ≡ Err refusal
same_refusal masters kept caller op t refusal is s opened = refused_alike kept.state s caller op t refusal (alike_opened masters kept s opened) is

-- ---- the one that shows a payload

pub found_of : (s : State) (id : Id) (t : ℕ) (row : SecretRow) → live_secret s (Some id) t ≡ Some row → secret_of id s.secrets ≡ Some row
found_of s id t row is = (there_passed (λ (r : SecretRow). is_live t r.expiration) (secret_of id s.secrets) row is).found

some_same : {X : Type 0} (x y : X) (o : Option X) → o ≡ Some x → o ≡ Some y → x ≡ y
some_same x y o p q = cc

pub showable : (kept : Kept) (caller : Caller) (op : Op) (id : Id) (accept : Option (List ℕ)) (t : ℕ) (done : Done) → op ≡ GetPayload (Some id) accept → asked kept.state caller op t ≡ Ok done → IsShowable kept id
showable kept caller op id accept t done op_is is =
    let here : payload_shown kept.state caller (Some id) accept t ≡ Ok done = subst (λ (o : Op). asked kept.state caller o t ≡ Ok done) op_is is in
    let both = shown_by_both kept.state kept.state caller (Some id) accept t done refl here in
    record { row = both.row; found = found_of kept.state id t both.row both.found; sealed = both.read.payload; has = both.read.has }

done_is : (done : Done) (answer : Answer) → done.answer ≡ answer → done.effects ≡ [] → done ≡ record { answer = answer; effects = [] }
done_is done answer a e =
    ap (λ (x : Answer). let d : Done = record { answer = x; effects = done.effects } in d) a ∙ ap (λ (x : List Effect). let d : Done = record { answer = answer; effects = x } in d) e

pub shown_done : (engine : Held) (caller : Caller) (op : Op) (id : Id) (accept : Option (List ℕ)) (t : ℕ) (done : Done) (answer : Answer) → op ≡ GetPayload (Some id) accept → asked engine.store.stored.kept.state caller op t ≡ Ok done → ShowsPayload engine id answer
    → (s : State) → HasState engine s → asked s caller op t ≡ Ok (record { answer = answer; effects = [] })
shown_done engine caller op id accept t done answer op_is is shows s has =
    let kept = engine.store.stored.kept in
    let here : payload_shown kept.state caller (Some id) accept t ≡ Ok done = subst (λ (o : Op). asked kept.state caller o t ≡ Ok done) op_is is in
    let both = shown_by_both kept.state s caller (Some id) accept t done (alike_opened engine.masters kept s has) here in
    let found = found_there engine.masters kept s has id shows.row shows.found in
    let row : both.other ≡ found.row = some_same both.other found.row (secret_of id s.secrets) (found_of s id t both.other both.also) found.found in
    let plain : found.row.payload ≡ Some shows.plain = shows.only found.row.payload found.opens.payload in
    let other : both.other.payload ≡ Some shows.plain = ap (λ (r : SecretRow). r.payload) row ∙ plain in
    let payload : both.other_read.payload ≡ shows.plain = some_same both.other_read.payload shows.plain both.other.payload both.other_read.has other in
    let answered : both.other_done.answer ≡ answer = both.other_read.answer ∙ ap (λ (p : Payload). answers.Payload p) payload ∙ sym shows.is in
    let all : both.other_done ≡ record { answer = answer; effects = [] } = done_is both.other_done answer answered both.other_read.effects in
    subst (λ (o : Op). asked s caller o t ≡ Ok (record { answer = answer; effects = [] })) (sym op_is)
    (both.shown ∙ ap (λ (d : Done). let r : Result Done Refusal = Ok d in r) all)

-- what is kept opens, and so does the payload of each secret that is found in it
pub opens_there : (masters : List (List ℕ)) (kept a b : Kept) → IsOpen masters kept → a ≡ kept → b ≡ kept → (id : Id) (row : SecretRow) → Some row ≡ secret_of id a.state.secrets → PayloadOpens masters b.keys row
opens_there masters kept a b opened first second id row found =
    let f = found_there masters kept opened.0 opened.1 id row (sym (subst (λ (k : Kept). Some row ≡ secret_of id k.state.secrets) first found)) in
    subst (λ (k : Kept). PayloadOpens masters k.keys row) (sym second) (f.row.payload, f.opens.payload)

-- ---- answers one by one

pub ok_to : {T E : Type 0} (P Q : T → Type 0) (r : Result T E) → ((x : T) → P x → Q x) → IfOk r P → IfOk r Q
ok_to P Q (Ok x) step h = step x h
ok_to P Q (Err e) step h = tt

pub ok_both : {T E : Type 0} (P Q R : T → Type 0) (r : Result T E) → ((x : T) → P x → Q x → R x) → IfOk r P → IfOk r Q → IfOk r R
ok_both P Q R (Ok x) step p q = step x p q
ok_both P Q R (Err e) step p q = tt

module _ (s : State) (caller : Caller) (op : Op) (t : ℕ) (done : Done) (is : asked s caller op t ≡ Ok done) where
  pub answered : answer_to s caller op t ≡ done.answer
  answered = ap answer_by is

  pub left : state_after s caller op t ≡ after_effects done.effects s
  left = ap (λ (r : Result Done Refusal). after_effects (effects_by r) s) is

  pub stored : stores s caller op t ≡ has_some done.effects
  stored = ap (λ (r : Result Done Refusal). has_some (effects_by r)) is

  pub puts : puts_payload s caller op t ≡ list_any is_payload_put done.effects
  puts = ap (λ (r : Result Done Refusal). list_any is_payload_put (effects_by r)) is

module _ (s : State) (caller : Caller) (op : Op) (t : ℕ) (refusal : Refusal) (is : asked s caller op t ≡ Err refusal) where
  pub refused_answer : answer_to s caller op t ≡ answers.Refused refusal
  refused_answer = ap answer_by is

  pub refused_state : state_after s caller op t ≡ s
  refused_state = ap (λ (r : Result Done Refusal). after_effects (effects_by r) s) is

  pub refused_stores : stores s caller op t ≡ false
  refused_stores = ap (λ (r : Result Done Refusal). has_some (effects_by r)) is

-- ---- what a plan comes to

pub made_done : (engine : Held) (kept : Kept) (caller : Caller) (op : Op) (t : ℕ) (plan : Plan) (outcome : Outcome) → kept ≡ engine.store.stored.kept → plan ≡ Makes outcome → Plans kept.state (Ok plan) (asked kept.state caller op t) → IsPlanOf op plan
    → (s : State) → HasState engine s → asked s caller op t ≡ Ok (done_of engine.store.stored.kept.state.tag outcome)
made_done engine kept caller op t plan outcome same is plans own s has =
    let here = subst (λ (p : Plan). Plans kept.state (Ok p) (asked kept.state caller op t)) is plans in
    let there = subst (λ (k : Kept). asked k.state caller op t ≡ Ok (done_of k.state.tag outcome)) same here in
    same_done engine.masters engine.store.stored.kept caller op t (done_of engine.store.stored.kept.state.tag outcome) there (subst (IsPlanOf op) is own) s has

pub put_is : (engine : Held) (kept : Kept) (caller : Caller) (op : Op) (t : ℕ) (plan : Plan) (new : NewPayload) → kept ≡ engine.store.stored.kept → plan ≡ Puts new → Plans kept.state (Ok plan) (asked kept.state caller op t) → IsPlanOf op plan
    → (s : State) → HasState engine s → asked s caller op t ≡ Ok (put_done engine.store.stored.kept.state.tag new)
put_is engine kept caller op t plan new same is plans own s has =
    let here = subst (λ (p : Plan). Plans kept.state (Ok p) (asked kept.state caller op t)) is plans in
    let there = subst (λ (k : Kept). asked k.state caller op t ≡ Ok (put_done k.state.tag new)) same here in
    same_done engine.masters engine.store.stored.kept caller op t (put_done engine.store.stored.kept.state.tag new) there (subst (IsPlanOf op) is own) s has

pub plan_shows : (engine : Held) (kept : Kept) (caller : Caller) (op : Op) (t : ℕ) (plan : Plan) (id : Id) → kept ≡ engine.store.stored.kept → plan ≡ Shows id → Plans kept.state (Ok plan) (asked kept.state caller op t) → IsPlanOf op plan
    → IsShowable engine.store.stored.kept id
plan_shows engine kept caller op t plan id same is plans own =
    let here = subst (λ (p : Plan). Plans kept.state (Ok p) (asked kept.state caller op t)) is plans in
    let shows = subst (IsPlanOf op) is own in
    subst (λ (k : Kept). IsShowable k id) same (showable kept caller op id shows.0 t _ shows.1 here.1)

pub shown_is : (engine : Held) (kept : Kept) (caller : Caller) (op : Op) (t : ℕ) (plan : Plan) (id : Id) (answer : Answer) → kept ≡ engine.store.stored.kept → plan ≡ Shows id → Plans kept.state (Ok plan) (asked kept.state caller op t) → IsPlanOf op plan
    → ShowsPayload engine id answer → (s : State) → HasState engine s → asked s caller op t ≡ Ok (record { answer = answer; effects = [] })
shown_is engine kept caller op t plan id answer same is plans own shown s has =
    let here = subst (λ (p : Plan). Plans kept.state (Ok p) (asked kept.state caller op t)) is plans in
    let shows = subst (IsPlanOf op) is own in
    shown_done engine caller op id shows.0 t _ answer shows.1 (subst (λ (k : Kept). asked k.state caller op t ≡ Ok (record { answer = answers.Payload here.0; effects = [] })) same here.1) shown s has

pub refused_is : (engine : Held) (kept : Kept) (caller : Caller) (op : Op) (t : ℕ) (fault : CheckFault) (refusal : Refusal) → kept ≡ engine.store.stored.kept → fault ≡ faults.Refused refusal → Plans kept.state (Err fault) (asked kept.state caller op t)
    → (s : State) → HasState engine s → asked s caller op t ≡ Err refusal
refused_is engine kept caller op t fault refusal same is plans s has =
    let here = subst (λ (f : CheckFault). Plans kept.state (Err f) (asked kept.state caller op t)) is plans in
    same_refusal engine.masters engine.store.stored.kept caller op t refusal (subst (λ (k : Kept). asked k.state caller op t ≡ Err refusal) same here) s has

puts_last : (tag : ℕ) (secret : Option SecretPut) (id : Id) (t : ℕ) (payload : Payload) → list_any is_payload_put (with_secret tag secret (effects.PayloadPut id t payload ∷ [])) ≡ true
puts_last tag None id t payload = refl
puts_last tag (Some put) id t payload = refl

pub puts_one : (tag : ℕ) (new : NewPayload) → list_any is_payload_put (put_effects tag new) ≡ true
puts_one tag new = puts_last tag new.secret (id_at tag new.id) new.updated new.payload

has_last : (tag : ℕ) (secret : Option SecretPut) (id : Id) (t : ℕ) (payload : Payload) → has_some (with_secret tag secret (effects.PayloadPut id t payload ∷ [])) ≡ true
has_last tag None id t payload = refl
has_last tag (Some put) id t payload = refl

pub has_one : (tag : ℕ) (new : NewPayload) → has_some (put_effects tag new) ≡ true
has_one tag new = has_last tag new.secret (id_at tag new.id) new.updated new.payload
