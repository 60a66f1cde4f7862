use Rattle.std.proofs.Common.{◌≡◌, get_or, Some, None, refl, sym, ap, ◌∙◌, arith}
use Rattle.std.specs.Option.{option_and_then}
use Rattle.std.specs.String.{string_bytes}
use Rattle.kms_words.specs.Options.{step, steps, complete, options_in}
use Rattle.kms_words.specs.Views.{state_view}
use Rattle.kms_words.proofs.OptionLaws.{steps-next, steps-stuck, steps-end}
use Rattle.kms_words.proofs.options.options_in.Goals as goal

pub returns-in-None : goal.returns-in-None
unfolding options_in steps
returns-in-None c =
    let s = state_view c.loop-word.state in
    let words = c.args.words.now in
    let i = c.loop-word.word-index in
    let d = c.word-item.result in
    let stuck : step s (string_bytes (get_or words i d)) ≡ None =
    ap (λ w. step s (string_bytes w)) (sym c.word-item.is) ∙ ap (step s) (sym c.deref.ensures) ∙ sym c.in-None.ensures in
    sym (ap (option_and_then complete) (c.loop-word.invariant ∙ steps-stuck s words i d (omega arith) stuck))

pub loop-word-preserved : goal.loop-word-preserved
loop-word-preserved c =
    let s = state_view c.loop-word.state in
    let words = c.args.words.now in
    let i = c.loop-word.word-index in
    let d = c.word-item.result in
    let next : step s (string_bytes (get_or words i d)) ≡ Some (state_view c.in-Some.next) =
    ap (λ w. step s (string_bytes w)) (sym c.word-item.is) ∙ ap (step s) (sym c.deref.ensures) ∙ sym c.in-Some.ensures in
    c.loop-word.invariant ∙ steps-next s (state_view c.in-Some.next) words i d (omega arith) next

pub returns-in-Some-waiting : goal.returns-in-Some-waiting
unfolding options_in
returns-in-Some-waiting c =
    let s = state_view c.loop-word.state in
    let whole = c.loop-word.invariant ∙ steps-end s c.args.words.now c.loop-word.word-index (omega arith) in
    sym (ap (option_and_then complete) whole ∙ rw c.in-Some-waiting.is refl)

pub returns-in-None-waiting : goal.returns-in-None-waiting
unfolding options_in
returns-in-None-waiting c =
    let s = state_view c.loop-word.state in
    let whole = c.loop-word.invariant ∙ steps-end s c.args.words.now c.loop-word.word-index (omega arith) in
    sym (ap (option_and_then complete) whole ∙ rw c.in-None-waiting.is refl)
