-- A list of what was read, and what is still to be read.
use Rattle.std.specs.Prelude.{◌≡◌, ℕ, List, [], ◌∷◌, ◌++◌, Ok, Err, String, string_bytes}
use Rattle.std.specs.declared.alloc.Global.{Global}
use Rattle.std.proofs.Common.{refl, sym, ap}
use Rattle.std.proofs.lemmas.List.{append_assoc}
use Rattle.serde_json.specs.View.{view, items_view, members_view}
use Rattle.serde_json.specs.declared.value.Value.{Value}
use Rattle.kms_world.specs.declared.refusal.Field.{Field}
use Rattle.kms_requests.specs.Body.{Said}
use Rattle.kms_requests.specs.Fields.{said_map, text_item, texts_of}
use Rattle.kms_requests.specs.ContainerBody.{listed_of, members_of}
use Rattle.kms_requests.specs.MetadataBody.{Pairs, pair_of, pair_texts}
use Rattle.kms_world.specs.declared.body.MemberBody.{MemberBody}

one_more : {A : Type 0} (done : List A) (x : A) (r : Said (List A)) → said_map (λ (o : List A). done ++ o) (said_map (λ (o : List A). x ∷ o) r) ≡ said_map (λ (o : List A). (done ++ x ∷ []) ++ o) r
one_more done x (Ok o) = ap Ok (sym (append_assoc done (x ∷ []) o))
one_more done x (Err e) = refl

pub one_member : (f : Field) (done : List MemberBody) (v : Value) (m : MemberBody) (vs : List Value) → listed_of f (view v) ≡ Ok m
    → said_map (λ (o : List MemberBody). done ++ o) (members_of f (items_view (v ∷ vs))) ≡ said_map (λ (o : List MemberBody). (done ++ m ∷ []) ++ o) (members_of f (items_view vs))
one_member f done v m vs is = rw is (one_more done m (members_of f (items_view vs)))

pub one_text : (f : Field) (done : List (List ℕ)) (v : Value) (t : List ℕ) (vs : List Value) → text_item f (view v) ≡ Ok t
    → said_map (λ (o : List (List ℕ)). done ++ o) (texts_of f (items_view (v ∷ vs))) ≡ said_map (λ (o : List (List ℕ)). (done ++ t ∷ []) ++ o) (texts_of f (items_view vs))
one_text f done v t vs is = rw is (one_more done t (texts_of f (items_view vs)))

pub one_pair : (f : Field) (done : Pairs) (k : String Global) (v : Value) (p : List ℕ × List ℕ) (all es : List (String Global × Value))
    → all ≡ (k, v) ∷ es → pair_of f (string_bytes k) (view v) ≡ Ok p
    → said_map (λ (o : Pairs). done ++ o) (pair_texts f (members_view all)) ≡ said_map (λ (o : Pairs). (done ++ p ∷ []) ++ o) (pair_texts f (members_view es))
one_pair f done k v p all es steps is = rw (steps, is) (one_more done p (pair_texts f (members_view es)))
