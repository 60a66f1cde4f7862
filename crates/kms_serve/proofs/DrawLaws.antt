-- A run in which no draw failed has no mark that says so.
use Rattle.std.proofs.Common.{List, None, Some, [], ap, arith, drop, length, length-append, refl, suc, take, zero, ℕ, ◌++◌, ◌+◌, ◌∙◌, ◌∷◌, ◌≡◌, ◌≤◌}
use Rattle.std.proofs.lemmas.List.{take_all}
use Rattle.kms_host.specs.Random.{failed_draws}
use Rattle.kms_host.specs.declared.call.Call.{Call}
use Rattle.kms_host.specs.declared.call.Call.TheVariants.{Attached, Came, Drew, Gave, Listened, OnFile, Shut, Text, Told, Took}
use Rattle.kms_model.specs.Course.{Mark, draw_marks}
use Rattle.kms_model.specs.Course.Mark.{Draw, Memory, Unmarked}
use Rattle.kms_serve.specs.Events.{events, events_at}
use Rattle.kms_serve.specs.Marks.{AreMarks, FewDraws}
use Rattle.kms_serve.specs.RunStart.{RunStart}

draw_marks-append : (x y : List Mark) → draw_marks (x ++ y) ≡ draw_marks x + draw_marks y
draw_marks-append [] y = omega arith
draw_marks-append (Unmarked key ∷ x) y = draw_marks-append x y
draw_marks-append (Draw ∷ x) y = omega (arith, draw_marks-append x y)
draw_marks-append (Memory ∷ x) y = draw_marks-append x y

none_taken : (n : ℕ) → draw_marks (take n []) ≡ 0
none_taken zero = refl
none_taken (suc n) = refl

draws_taken : (m n : ℕ) (x : List Mark) → draw_marks (take (m + n) x) ≡ draw_marks (take m x) + draw_marks (take n (drop m x))
draws_taken zero n x = let e : 0 + n ≡ n = omega arith in ap (λ k. draw_marks (take k x)) e ∙ omega arith
draws_taken (suc m) n [] = omega (arith, none_taken n, none_taken (suc m + n))
draws_taken (suc m) n (a ∷ x) =
    let e : suc m + n ≡ suc (m + n) = omega arith in
    let long : draw_marks (take (suc m + n) (a ∷ x)) ≡ draw_marks (a ∷ take (m + n) x) = ap (λ k. draw_marks (take k (a ∷ x))) e in
    omega (arith, long, draw_marks-append (a ∷ []) (take (m + n) x), draw_marks-append (a ∷ []) (take m x), draws_taken m n x)

none_so_far : (b : RunStart) (marks : List Mark) (calls : List Call) → failed_draws calls ≡ 0 → FewDraws b marks 0 calls → draw_marks (take (length (events b.plan calls)) marks) ≤ 0
none_so_far b marks [] none few = omega arith
none_so_far b marks (Text name room bytes ∷ calls) none few = none_so_far b marks calls none few
none_so_far b marks (Attached name done ∷ calls) none few = none_so_far b marks calls none few
none_so_far b marks (Listened address done ∷ calls) none few = none_so_far b marks calls none few
none_so_far b marks (Came next ∷ calls) none few = none_so_far b marks calls none few
none_so_far b marks (Took line room bytes ∷ calls) none few = none_so_far b marks calls none few
none_so_far b marks (Gave line piece went ∷ calls) none few = none_so_far b marks calls none few
none_so_far b marks (Shut line ∷ calls) none few = none_so_far b marks calls none few
none_so_far b marks (OnFile file c ∷ calls) none few = none_so_far b marks calls none few
none_so_far b marks (Drew purpose (Some bytes) ∷ calls) none few = none_so_far b marks calls none few
none_so_far b marks (Drew purpose None ∷ calls) none few = absurd (omega (arith, none))
none_so_far b marks (Told t ∷ calls) none few =
    let before = events b.plan calls in
    let here = events_at b.plan b.plan.command before calls t in
    let old = none_so_far b marks calls none few.1 in
    let cut : draw_marks (take (length (before ++ here)) marks) ≡ draw_marks (take (length before) marks) + draw_marks (take (length here) (drop (length before) marks)) =
    ap (λ k. draw_marks (take k marks)) (length-append before here) ∙ draws_taken (length before) (length here) marks in
    omega (arith, old, cut, few.0)

pub no_draw_marks : (b : RunStart) (marks : List Mark) (calls : List Call) → failed_draws calls ≡ 0 → AreMarks b marks calls → draw_marks marks ≡ 0
no_draw_marks b marks calls none h =
    let few = none_so_far b marks calls none h.few in
    let all : take (length (events b.plan calls)) marks ≡ marks = ap (λ n. take n marks) h.marked ∙ take_all (length marks) marks (omega arith) in
    omega (arith, few, ap draw_marks all)
