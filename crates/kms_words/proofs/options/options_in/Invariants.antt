use Rattle.std.proofs.Common.{◌≡◌, drop}
use Rattle.std.specs.Prelude.{map}
use Rattle.std.specs.String.{string_bytes}
use Rattle.kms_words.specs.Options.{steps, start}
use Rattle.kms_words.specs.Views.{state_view}
use Rattle.kms_words.proofs.options.options_in.Given as goal

abbrev pub invariant-loop-word : goal.invariant-loop-word
invariant-loop-word l = steps start (map string_bytes l.words) ≡ steps (state_view l.state) (map string_bytes (drop l.word-index l.words))
