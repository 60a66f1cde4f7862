-- What the values of the code say, as texts.
use Rattle.std.specs.Prelude.{ℕ, List, Option, option_map, map, string_bytes, String}
use Rattle.std.specs.Borrow.{Bor}
use Rattle.std.specs.declared.alloc.Global.{Global}
use Rattle.kms_words.specs.Options as spec
use Rattle.kms_words.specs.Commands.{Pipe}
use Rattle.kms_words.specs.declared.commands.PipeWords.{PipeWords}
use Rattle.kms_words.specs.declared.options.Name.{Name}
use Rattle.kms_words.specs.declared.options.Options.{Options}
use Rattle.kms_words.specs.declared.options.State.{State}

abbrev pub texts : List (String Global) → List (List ℕ)
texts words = map string_bytes words

abbrev pub text_of : Option (Bor (List ℕ)) → Option (List ℕ)
text_of o = option_map (λ s. s.now) o

abbrev pub view : Options → spec.Options
view o = record { store = text_of o.store; keys = text_of o.keys; endpoint = text_of o.endpoint }

abbrev pub state_view : State → spec.State
state_view s = record { waiting = s.waiting; options = view s.options }

abbrev pub named_view : Name × Bor (List ℕ) → Name × List ℕ
named_view p = (p.0, p.1.now)

abbrev pub given_texts : PipeWords → Pipe
given_texts p = record { store = p.store.now; keys = p.keys.now; endpoint = p.endpoint.now }
