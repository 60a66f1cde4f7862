use Rattle.std.proofs.Common.{◌≡◌, ◌∙◌, ◌+◌, ◌≤◌, ℕ, List, length, ap, sym, subst, arith}
use Rattle.std.proofs.lemmas.Result.{err_from_is_err_and}
use Rattle.kms_host.specs.Disk.{reads}
use Rattle.kms_host.proofs.Moments.{tells_then, known_with_told}
use Rattle.kms_journal.specs.Ahead.{IsAhead}
use Rattle.kms_journal.specs.Walk.{records_at, StopsAs}
use Rattle.kms_journal.specs.declared.chain.Chain.{Chain}
use Rattle.kms_journal.proofs.AheadLaws.{ahead_none, ahead_later}
use Rattle.kms_journal.proofs.ReadingLaws.{reading_then, attached_after, same_reads}
use Rattle.kms_journal.proofs.gather.read_chain.Goals as goal

chain_parts : (file tag ids steps : ℕ) {base b : List ℕ} {bodies d : List (ℕ × List ℕ)} → base ≡ b → bodies ≡ d
    → let x : Chain = record { file = file; tag = tag; ids = ids; steps = steps; base = base; bodies = bodies } in
    let y : Chain = record { file = file; tag = tag; ids = ids; steps = steps; base = b; bodies = d } in x ≡ y
chain_parts file tag ids steps {b = b} {bodies = bodies} e f =
    ap (λ (l : List ℕ). let x : Chain = record { file = file; tag = tag; ids = ids; steps = steps; base = l; bodies = bodies } in x) e
    ∙ ap (λ (l : List (ℕ × List ℕ)). let x : Chain = record { file = file; tag = tag; ids = ids; steps = steps; base = b; bodies = l } in x) f

pub gather-requires-clause-attached : goal.gather-requires-clause-attached
gather-requires-clause-attached g c = known_with_told _ c.requires.attached c.in_ok-base.ensures.told (λ was now a f. attached_after was now f.throughout a)

pub returns-in_err-bodies-clause-told : goal.returns-in_err-bodies-clause-told
returns-in_err-bodies-clause-told g c =
    let r = err_from_is_err_and c.from_residual-in_err-bodies.result c.from_residual-in_err-bodies.ensures.1 in
    rw (r.1)
    (tells_then _ c.in_ok-base.ensures.told c.in_err-bodies.ensures.told (λ was mid now one two. record { throughout = reading_then was mid now one.throughout two.throughout; found = tt }))

pub returns-clause-told : goal.returns-clause-told
returns-clause-told g c =
    let header = c.args.current.now.header in
    let file = header.file in
    let start = 50 + header.snapshot in
    let buffer = c.read_part.new.buffer in
    tells_then _ c.in_ok-base.ensures.told c.in_ok-bodies.ensures.told
    (λ was mid now one two. record {
      throughout = reading_then was mid now one.throughout two.throughout;
      found = λ long.
          let same = same_reads was mid one.throughout file in
          let within : start ≤ length (reads file was) = omega (arith, long, c.requires.within) in
          let none : IsAhead file 50 c.args.buffer.now was = ahead_none file 50 c.args.buffer.now was c.requires.buffer in
          let there : IsAhead file start buffer mid = ahead_later file start buffer was mid one.throughout (one.ahead none within) in
          let found = two.found (long ∙ ap length (sym same)) there in
          record {
            chain = chain_parts file header.tag header.ids header.steps (one.part none within) (found.items ∙ ap (λ (l : List ℕ). (records_at l start).items) same);
            stop = subst (λ (l : List ℕ). StopsAs l start c.in_ok-bodies.stop) same found.stop;
          };
    })
