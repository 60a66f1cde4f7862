-- After `init` the same host can serve the store.
use Rattle.std.proofs.Common.{◌≡◌, inl, inr, ℕ, List, [], ◌∷◌, ◌++◌, Bool, false, Result, Ok, Err, refl, sym, ap, subst, ◌∙◌, arith}
use Rattle.std.specs.Prelude.{◌||◌, ◌==◌}
use Rattle.kms_host.specs.History.{History}
use Rattle.kms_host.specs.Line.{is_shut}
use Rattle.kms_host.specs.Moment.{then_calls}
use Rattle.kms_host.specs.Store.{apart_from_files, OnlyAttached}
use Rattle.kms_host.specs.declared.call.Call.{Call}
use Rattle.kms_host.specs.declared.call.Call.TheVariants.{Text, Listened, Came, Attached, Took, Gave, Shut, OnFile, Told, Drew}
use Rattle.kms_host.specs.declared.call.NameFault.{NameFault}
use Rattle.kms_host.proofs.LineLaws.{is_shut-append}
use Rattle.kms_host.proofs.Moments.{at_now, then_calls-calls}
use Rattle.kms_host.proofs.StoreLaws.{only_attached-append}
use Rattle.kms_serve.specs.Init.{naming, IsAlone, IsUnderWay, IsServedNext}

same_names : (store : List ℕ) (calls : List Call) → OnlyAttached store (apart_from_files calls) → OnlyAttached store calls
same_names store [] h = h
same_names store (Text name room bytes ∷ calls) h = same_names store calls h
same_names store (Listened address done ∷ calls) h = same_names store calls h
same_names store (Came next ∷ calls) h = same_names store calls h
same_names store (Attached name (Ok done) ∷ calls) h = (h.0, same_names store calls h.1)
same_names store (Attached name (Err fault) ∷ calls) h = same_names store calls h
same_names store (Took l room bytes ∷ calls) h = same_names store calls h
same_names store (Gave l piece went ∷ calls) h = same_names store calls h
same_names store (Shut l ∷ calls) h = same_names store calls h
same_names store (OnFile file c ∷ calls) h = same_names store calls h
same_names store (Told t ∷ calls) h = same_names store calls h
same_names store (Drew purpose bytes ∷ calls) h = same_names store calls h

same_shut : (calls : List Call) → is_shut 0 (apart_from_files calls) ≡ is_shut 0 calls
same_shut [] = refl
same_shut (Text name room bytes ∷ calls) = same_shut calls
same_shut (Listened address done ∷ calls) = same_shut calls
same_shut (Came next ∷ calls) = same_shut calls
same_shut (Attached name done ∷ calls) = same_shut calls
same_shut (Took l room bytes ∷ calls) = same_shut calls
same_shut (Gave l piece went ∷ calls) = same_shut calls
same_shut (Shut l ∷ calls) = ap (λ (b : Bool). (l == 0) || b) (same_shut calls)
same_shut (OnFile file c ∷ calls) = same_shut calls
same_shut (Told t ∷ calls) = same_shut calls
same_shut (Drew purpose bytes ∷ calls) = same_shut calls

named_once : (store : List ℕ) (done : Result (Unit {0}) NameFault) → OnlyAttached store (naming store done)
named_once store (Ok done) = (refl, tt)
named_once store (Err fault) = tt

alone_names : (store : List ℕ) (was : History) (apart : List Call) → IsAlone store was apart → OnlyAttached store apart
alone_names store was apart (inl e) = subst (OnlyAttached store) (sym e) tt
alone_names store was apart (inr (inl e)) = subst (OnlyAttached store) (sym e.1) (named_once store e.0)
alone_names store was apart (inr (inr e)) = subst (OnlyAttached store) (sym e.1.2) (refl, tt)

alone_open : (store : List ℕ) (was : History) (apart : List Call) → IsAlone store was apart → is_shut 0 apart ≡ false
alone_open store was apart (inl e) = ap (is_shut 0) e
alone_open store was apart (inr (inl e)) = ap (is_shut 0) e.1
alone_open store was apart (inr (inr e)) = ap (is_shut 0) e.1.2

pub served_next : IsServedNext
served_next store s was calls i can =
    let alone = (at_now (IsUnderWay store was) calls i.each).alone in
    let all : (then_calls was calls).calls ≡ calls ++ was.calls = then_calls-calls was calls in
    let unshut : is_shut 0 calls ≡ false = sym (same_shut calls) ∙ alone_open store was (apart_from_files calls) alone in
    record {
      named = subst (OnlyAttached store) (sym all) (only_attached-append store calls was.calls (same_names store calls (alone_names store was (apart_from_files calls) alone)) can.named);
      unshut = record {
        came = omega arith;
        not_shut = ap (is_shut 0) all ∙ is_shut-append 0 calls was.calls ∙ ap (λ (b : Bool). b || is_shut 0 was.calls) unshut ∙ can.unshut.not_shut;
      };
    }
