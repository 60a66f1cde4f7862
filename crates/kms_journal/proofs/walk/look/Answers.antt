use Rattle.std.proofs.Common.{◌≡◌, ◌∙◌, ◌+◌, ◌-◌, ℕ, List, length, drop, sym, subst, arith, length-drop}
use Rattle.std.proofs.lemmas.Result.{err_from_is_err_and}
use Rattle.kms_host.specs.Disk.{reads}
use Rattle.kms_host.proofs.Moments.{tells_weaker}
use Rattle.kms_journal.specs.Ahead.{IsAhead}
use Rattle.kms_journal.proofs.AheadLaws.{ahead_skip, ahead_head}
use Rattle.kms_journal.proofs.walk.look.Goals as goal

pub returns-in_err-fill-clause-told : goal.returns-in_err-fill-clause-told
returns-in_err-fill-clause-told g c =
    let r = err_from_is_err_and c.from_residual.result c.from_residual.ensures.1 in
    rw (r.1)
    (tells_weaker _ c.in_err-fill.ensures.told (λ was now f. record { throughout = f.throughout; found = tt; ahead = tt }))

pub returns-clause-told : goal.returns-clause-told
returns-clause-told g c =
    tells_weaker _ c.in_ok-fill.ensures.told
    (λ was now f.
    record {
      throughout = f.throughout;
      found = λ long a.
          let rest = drop c.args.place (reads c.args.file was) in
          let left : length rest ≡ c.args.size - c.args.place = omega (arith, long, length-drop c.args.place (reads c.args.file was)) in
          c.next_in-next.ensures.told rest (sym left) (c.front.ensures ∙ ahead_head c.args.file c.args.place _ (c.args.size - c.args.place) c.fill.new.self was (f.ahead a) (sym left) c.min-needed.ensures (f.enough a));
      ahead = λ a. subst (λ (l : List ℕ). IsAhead c.args.file (c.args.place + 5) l was) (sym c.skip.ensures) (ahead_skip c.args.file c.args.place 5 c.fill.new.self was (f.ahead a));
    })
