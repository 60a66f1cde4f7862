use Rattle.std.proofs.Common.{◌≡◌, ◌∙◌, ◌<◌, ◌≤◌, ◌+◌, ◌-◌, arith, take, drop, length, ℕ, List, length-drop}
use Rattle.kms_record.specs.Base.{base_bytes}
use Rattle.kms_record.proofs.PieceLaws.{window_part, more_copied, window_has_some}
use Rattle.kms_record.proofs.WindowLaws.{window_of}
use Rattle.kms_record.proofs.piece.base_piece.Goals as goal

less : (count at more : ℕ) → at < count → 0 < more → count - (at + more) < count - at
less count at more lt some = omega (arith, lt, some)

pub loop-at-smaller : goal.loop-at-smaller
loop-at-smaller c =
    let bytes : List ℕ = base_bytes c.args.change.now in
    let is : c.as_slice-piece.result.now ≡ take 1024 (drop (c.args.from + c.loop-at.at) bytes) =
    c.as_slice-piece.ensures.shown ∙ window_of (c.args.from + c.loop-at.at) bytes c.after-window.result c.write.new.out c.after-window.ensures c.write.ensures.spelled in
    let le : c.min-count.result ≤ length bytes - c.args.from = omega (arith, c.min-count.ensures, c.base_len.ensures.len) in
    let some : 0 < c.min-more.result = window_has_some c.args.from c.loop-at.at c.min-more.result c.min-count.result 0 bytes c.as_slice-piece.result.now is le c.loop-at-test.true c.min-more.ensures in
    less c.min-count.result c.loop-at.at c.min-more.result c.loop-at-test.true some

pub loop-at-preserved : goal.loop-at-preserved
loop-at-preserved c =
    let bytes : List ℕ = base_bytes c.args.change.now in
    let piece : List ℕ = c.as_slice-piece.result.now in
    let is : piece ≡ take 1024 (drop (c.args.from + c.loop-at.at) bytes) =
    c.as_slice-piece.ensures.shown ∙ window_of (c.args.from + c.loop-at.at) bytes c.after-window.result c.write.new.out c.after-window.ensures c.write.ensures.spelled in
    let lt : c.loop-at.at < c.min-count.result = c.loop-at-test.true in
    let le : c.min-more.result ≤ length piece = omega (arith, c.min-more.ensures) in
    more_copied (drop c.args.from bytes) c.args.room.now c.loop-at.room c.copy_from_slice.new.self c.loop-at.at c.min-more.result c.min-count.result
    (c.loop-at.at + c.min-more.result - c.loop-at.at) c.loop-at.invariant
    (c.copy_from_slice.ensures.after ∙ window_part c.args.from c.loop-at.at c.min-more.result bytes piece is le)
    (omega (arith, c.min-more.ensures, lt))
    (omega (arith, c.min-count.ensures, c.base_len.ensures.len, length-drop c.args.from bytes))
    (omega (arith, c.min-count.ensures))
    (omega arith)
