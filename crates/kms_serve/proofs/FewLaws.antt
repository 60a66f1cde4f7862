-- There are few settles and few syncs, at each moment of a run that meets the theorem.
use Rattle.std.proofs.Common.{List, [], arith, length, ℕ, ◌*◌, ◌+◌, ◌∷◌, ◌≤◌}
use Rattle.kms_host.proofs.Moments.{at_moment, each_from_moments}
use Rattle.kms_host.specs.Moment.{AtEach, by_moment}
use Rattle.kms_host.specs.Store.{syncs}
use Rattle.kms_host.specs.declared.call.Call.{Call}
use Rattle.kms_model.specs.Course.{Mark}
use Rattle.kms_serve.proofs.BatchLaws.{few_settles}
use Rattle.kms_serve.specs.Answered.{Answered}
use Rattle.kms_serve.specs.Batches.{settles}
use Rattle.kms_serve.specs.Events.{events}
use Rattle.kms_serve.specs.Renewals.{renewals}
use Rattle.kms_serve.specs.Replies.{steps_by}
use Rattle.kms_serve.specs.RunStart.{RunStart, history}
use Rattle.kms_serve.specs.Theorem.{Serves}
use Rattle.kms_serve.specs.declared.status.Status.{Status}

few_each : (b : RunStart) (ms : List Mark) (calls : List Call) → AtEach (Answered b ms) calls → AtEach (λ z. settles z ≤ steps_by b.first (events b.plan z) ms) calls
few_each b ms [] each = few_settles b ms [] each
few_each b ms (c ∷ calls) each = (few_settles b ms (c ∷ calls) each, few_each b ms calls each.1)

pub few_settles_then : (b : RunStart) (s : Status) (calls : List Call) → (run : Serves b s calls) → (moment : ℕ) → moment ≤ length calls
    → settles (by_moment moment calls) ≤ steps_by b.first (events b.plan (by_moment moment calls)) run.marks
few_settles_then b s calls run moment le =
    at_moment (λ z. settles z ≤ steps_by b.first (events b.plan z) run.marks) calls (few_each b run.marks calls (each_from_moments (Answered b run.marks) calls run.each)) moment le

pub few_syncs_then : (b : RunStart) (s : Status) (calls : List Call) → (run : Serves b s calls) → (moment : ℕ) → moment ≤ length calls
    → syncs (history b (by_moment moment calls)).calls ≤ syncs b.was.calls + 2 + 2 * steps_by b.first (events b.plan (by_moment moment calls)) run.marks + 3 * renewals (by_moment moment calls)
few_syncs_then b s calls run moment le = omega (arith, few_settles_then b s calls run moment le, (run.each moment le).few_syncs)
