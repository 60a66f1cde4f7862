-- Orders that are found, and changes of them that can be made.
use Rattle.std.proofs.Common.{◌≡◌, ℕ, ◌==◌, ◌^◌, true, Bool, Option, Some, None, All, refl, sym, ap, subst}
use Rattle.std.specs.Prelude.{IfSome, filter, is_some, nat_lt}
use Rattle.std.proofs.lemmas.Bool.{and_from, eq-eqb, le-leb, or_left, or_right}
use Rattle.std.proofs.lemmas.List.Elements.{All-weaker}
use Rattle.kms_kept.specs.Kept.{Kept, is_named_once, is_taken}
use Rattle.kms_kept.specs.OfGrammar.{IsOrder}
use Rattle.kms_kept.specs.Sound.{IsSound}
use Rattle.kms_model.proofs.SecretLaws.{one_id, found_passes}
use Rattle.kms_model.specs.Lists.{cut}
use Rattle.kms_page.specs.declared.query.Query.{Query}
use Rattle.kms_record.specs.Base.{count_of}
use Rattle.kms_record.specs.Order.{IsOrderPutInRange}
use Rattle.kms_record.specs.declared.change.Change.TheVariants.{OrderPut, Deleted}
use Rattle.kms_record.specs.declared.order.OrderPut as put_type
use Rattle.kms_record.specs.declared.order.OrderPutState.{OrderPutState}
use Rattle.kms_record.specs.declared.order.OrderPutState.TheVariants.{Pending}
use Rattle.kms_world.specs.Id.{is_id}
use Rattle.kms_world.specs.LookUp.{order_of}
use Rattle.kms_world.specs.Times.{IsTimelyOrder}
use Rattle.kms_world.specs.declared.id.Id.{Id}
use Rattle.kms_world.specs.declared.order.OrderRow.{OrderRow}
use Rattle.kms_operations.specs.Found.{IsKeptOrder}
use Rattle.kms_operations.specs.Outcome.{Fits}
use Rattle.kms_operations.proofs.FillingLaws.{all_cut}
use Rattle.kms_operations.proofs.FitLaws.{count_fits}
use Rattle.kms_operations.proofs.FoundLaws.{found_is, is_time}

kept_order : (kept : Kept) (id : Id) (row : OrderRow) → IsSound kept → Some row ≡ order_of id kept.state.orders → IsKeptOrder kept row
kept_order kept id row sound found =
    let test = λ (r : OrderRow). is_id id r.id in
    let named : row.id ≡ id = one_id id row.id (found_passes test kept.state.orders row (sym found)) in
    let is : IsOrder kept.state.tag row = subst (λ (x : Option OrderRow). IfSome x (IsOrder kept.state.tag)) (sym found) (found_is (IsOrder kept.state.tag) test kept.state.orders sound.grammar.orders) in
    record {
      id = ap (λ (r : OrderRow). r.id) is.put;
      here = subst (λ (i : Id). order_of i kept.state.orders ≡ Some row) (sym named) (sym found);
      is = is;
    }

pub order_if_any : (kept : Kept) (id : Id) (found : Option OrderRow) → IsSound kept → found ≡ order_of id kept.state.orders → IfSome found (IsKeptOrder kept)
order_if_any kept id None sound is = tt
order_if_any kept id (Some row) sound is = kept_order kept id row sound is

pub timely : (tag : ℕ) (row : OrderRow) → IsOrder tag row → IsTimelyOrder row
timely tag row is =
    let range = is.grammar.0 in
    record { created = range.created; updated = range.updated; expiration = is_time row.expiration range.expiration }

named_once : (kept : Kept) (order : ℕ) (state : OrderPutState) → state ≡ Pending → is_named_once kept.state order state ≡ true
named_once kept order state is = subst (λ (x : OrderPutState). is_named_once kept.state order x ≡ true) (sym is) refl

pub new_order_fits : (kept : Kept) (put : put_type.OrderPut) → IsOrderPutInRange put → put.id ≡ kept.state.ids → put.state ≡ Pending → Fits kept (OrderPut put)
new_order_fits kept put range next pending = record {
  range = range;
  rows = refl;
  applies = and_from _ _ (or_left _ _ (and_from (put.id == kept.state.ids) (nat_lt put.id (2 ^ 62)) (eq-eqb put.id kept.state.ids next) (le-leb _ _ range.id))) (named_once kept put.id put.state pending);
}

pub order_deletion_fits : (kept : Kept) (row : OrderRow) (n : ℕ) → IsKeptOrder kept row → n ≡ count_of row.id → Fits kept (Deleted n)
order_deletion_fits kept row n is same = subst (λ (m : ℕ). Fits kept (Deleted m)) (sym same) (record {
  range = count_fits row.id;
  rows = refl;
  applies = subst (λ (i : Id). is_taken kept.state i ≡ true) (sym is.id) (or_right _ _ (ap is_some is.here));
})

pub timely_page : (kept : Kept) (test : OrderRow → Bool) (query : Query) → IsSound kept → All IsTimelyOrder (cut query (filter test kept.state.orders))
timely_page kept test query sound =
    All-weaker (IsOrder kept.state.tag) IsTimelyOrder (timely kept.state.tag) (cut query (filter test kept.state.orders)) (all_cut (IsOrder kept.state.tag) test query kept.state.orders sound.grammar.orders)
