use Rattle.std.proofs.Common.{rules, ◌≡◌, ◌+◌, ◌-◌, ◌∙◌, ◌++◌, List, ℕ, ◌≤◌, min, length, take, drop, sym, subst, ap, arith, length-drop}
use Rattle.std.proofs.lemmas.List.{length-take}
use Rattle.std.proofs.lemmas.Result.{err_from_is_err_and}
use Rattle.kms_host.proofs.Moments.{tells_weaker}
use Rattle.kms_host.specs.Disk.{reads}
use Rattle.kms_host.specs.History.{HasFirst}
use Rattle.kms_journal.specs.Ahead.{IsAhead}
use Rattle.kms_journal.proofs.AheadLaws.{ahead_more, enough_more}
use Rattle.kms_journal.proofs.BufferLaws.{filled}
use Rattle.kms_journal.proofs.ReadingLaws.{one_read}
use Rattle.kms_journal.proofs.buffer.Buffer.fill.Goals as goal

pub returns-in_err-count-clause-told : goal.returns-in_err-count-clause-told
returns-in_err-count-clause-told g c =
    let r = err_from_is_err_and c.from_residual.result c.from_residual.ensures.1 in
    rw (r.1)
    (tells_weaker _ c.in_err-count.ensures.told (λ was now told. record { throughout = one_read was now c.args.file _ _ _ told.0; ahead = tt; enough = tt }))

pub returns-clause-told : goal.returns-clause-told
returns-clause-told g c =
    let i = c.self.inside in
    let held = c.args.self.now in
    let room = c.read_at.new.room in
    let n = c.in_ok-count.count in
    let size : length held ≡ i.count - i.used =
    ap length (sym c.self.view_is) ∙ omega (arith, length-drop i.used (take i.count i.bytes.items), length-take i.count i.bytes.items, c.self.invariant) in
    let d = c.deref_mut.result.now in
    let len = c.copy_within.new.self.len in
    let low : i.used ≤ i.count = c.self.invariant.0 in
    let whole : length d ≡ len = c.deref_mut.ensures.len in
    let all : len ≡ 65536 = search rules in
    let sum : (i.count - i.used) + length room ≡ len = omega (arith, c.read_at.auto.room, c.self.invariant.1, all, whole, length-drop (i.count - i.used) d) in
    let fits : length held + length room ≡ 65536 = omega (arith, size, sum, all) in
    let view = filled i.bytes.items c.copy_within.new.self.items d room _ i.used i.count n len low (omega (arith, c.self.invariant.1, c.self.invariant.2)) c.copy_within.ensures.items c.deref_mut.ensures.value whole sum c.in_ok-count.ensures.bound in
    tells_weaker _ c.in_ok-count.ensures.told
    (λ was now told.
    let place : HasFirst (drop (c.args.place + length held) (reads c.args.file was)) room n = subst (λ (k : ℕ). HasFirst (drop (c.args.place + k) (reads c.args.file was)) room n) (sym size) told.1 in
    record {
      throughout = one_read was now c.args.file _ _ _ told.0;
      ahead = λ a. subst (λ (l : List ℕ). IsAhead c.args.file c.args.place l was) (sym (view ∙ ap (λ (l : List ℕ). l ++ take n room) c.self.view_is)) (ahead_more c.args.file c.args.place n held room was a place);
      enough = λ a. subst (λ (l : List ℕ). min c.args.needed (length (drop c.args.place (reads c.args.file was))) ≤ length l) (sym (view ∙ ap (λ (l : List ℕ). l ++ take n room) c.self.view_is)) (enough_more c.args.file c.args.place n c.args.needed held room was place fits c.requires.needed);
    })
