-- The messages of a stream one after the other, of which a line is served so many.
use Rattle.std.specs.Prelude.{ℕ, zero, suc, ◌+◌, List, Bool, true, ◌||◌, ◌==◌, Option, Some, None, if◌then◌else◌}
use Rattle.std.specs.Option.{option_and_then}
use Rattle.kms_http.specs.declared.served.Served.{Served}
use Rattle.kms_http.specs.declared.served.Served.TheVariants.{Asking, Unreadable}
use Rattle.kms_http.specs.Messages.{Front, front}
use Rattle.kms_http.specs.Messages.Front.{Whole, Bad, Part}

-- where a stream stands after so many messages, of which a line is served `most`: it goes on with these bytes; the
-- line is over, after a message that asked for it or the last that it is served; or its last message was none
pub data After : Type 0 where
  Going : (rest : List ℕ) → After
  Over : After
  Broken : After

-- after the message at the front of the bytes; `full` where it is the last that the line is served
abbrev pub after_front : (full : Bool) → Front → Option After
after_front full (Whole message rest) = Some (if message.close || full then Over else Going rest)
after_front full (Bad refusal) = Some Broken
after_front full Part = None

-- one message further
abbrev pub onward : (full : Bool) → After → Option After
onward full (Going rest) = after_front full (front rest)
onward full Over = None
onward full Broken = None

-- None where the stream hasn't so many messages. One that is no message counts as the last.
unfoldable pub after : (most n : ℕ) → List ℕ → Option After
after most zero bytes = Some (Going bytes)
after most (suc n) bytes = option_and_then (onward (n + 1 == most)) (after most n bytes)

-- what is served where the bytes have this at their front
abbrev pub served : Front → Option Served
served (Whole message rest) = Some (Asking message)
served (Bad refusal) = Some (Unreadable refusal)
served Part = None

abbrev pub served_next : After → Option Served
served_next (Going rest) = served (front rest)
served_next Over = None
served_next Broken = None

-- what is served as the nth, from 0
abbrev pub served_at : (most n : ℕ) → List ℕ → Option Served
served_at most n bytes = option_and_then served_next (after most n bytes)

-- the reply to the nth message is the line's last
abbrev pub is_last : (most n : ℕ) → Served → Bool
is_last most n (Unreadable refusal) = true
is_last most n (Asking message) = message.close || (n + 1 == most)
