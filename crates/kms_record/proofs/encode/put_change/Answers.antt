use Rattle.std.proofs.Common.{◌≡◌, ◌∙◌, ◌<◌, ◌+◌, ◌-◌, arith, take, drop, length, ℕ, List}
use Rattle.kms_record.specs.Grammar.{change_bytes}
use Rattle.kms_record.proofs.WindowLaws.{window_of, window_goes_out, window_is_some}
use Rattle.kms_record.proofs.encode.put_change.Goals as goal

pub overflow_add-from : goal.overflow_add-from
overflow_add-from c =
    let bytes : List ℕ = change_bytes c.args.change.now in
    let piece : List ℕ = c.as_slice-piece.result.now in
    let is : piece ≡ take 1024 (drop c.loop-from.from bytes) = c.as_slice-piece.ensures.shown ∙ window_of c.loop-from.from bytes c.after-window.result c.write.new.out c.after-window.ensures c.write.ensures.spelled in
    let out = window_goes_out c.args.out.now c.loop-from.out c.push_all.new.self c.loop-from.from bytes piece c.loop-from.invariant is c.in_ok-push_all.ensures.ok in
    omega (arith, out.within, c.change_len-len.ensures.len)

pub loop-from-smaller : goal.loop-from-smaller
loop-from-smaller c =
    let bytes : List ℕ = change_bytes c.args.change.now in
    let piece : List ℕ = c.as_slice-piece.result.now in
    let is : piece ≡ take 1024 (drop c.loop-from.from bytes) = c.as_slice-piece.ensures.shown ∙ window_of c.loop-from.from bytes c.after-window.result c.write.new.out c.after-window.ensures c.write.ensures.spelled in
    let lt : c.loop-from.from < c.change_len-len.result = c.loop-from-test.true in
    let some : 0 < length piece = window_is_some c.loop-from.from bytes piece (omega (arith, lt, c.change_len-len.ensures.len)) is in
    smaller c.change_len-len.result c.loop-from.from (length piece) lt some
  where
    smaller : (n from k : ℕ) → from < n → 0 < k → n - (from + k) < n - from
    smaller n from k lt some = omega (arith, lt, some)

pub loop-from-preserved : goal.loop-from-preserved
loop-from-preserved c =
    let bytes : List ℕ = change_bytes c.args.change.now in
    let is : c.as_slice-piece.result.now ≡ take 1024 (drop c.loop-from.from bytes) = c.as_slice-piece.ensures.shown ∙ window_of c.loop-from.from bytes c.after-window.result c.write.new.out c.after-window.ensures c.write.ensures.spelled in
    window_goes_out c.args.out.now c.loop-from.out c.push_all.new.self c.loop-from.from bytes c.as_slice-piece.result.now c.loop-from.invariant is c.in_ok-push_all.ensures.ok
