-- What the reading of a front found.
use Rattle.std.specs.Prelude.{◌≡◌, ℕ, ◌+◌, ◌-◌, ◌≤◌, ◌<◌, List, ◌++◌, length, take, drop, map, None}
use Rattle.httparse.specs.Spans.{span_bytes, header_bytes}
use Rattle.httparse.specs.declared.spans.HeaderSpan.{HeaderSpan}
use Rattle.httparse.specs.declared.spans.RequestSpans.{RequestSpans}
use Rattle.kms_http.specs.HeadEnd.{head_len}
use Rattle.kms_http.specs.HeadEnd.{head_limit}
use Rattle.kms_http.specs.Messages.{Front, front}
use Rattle.kms_http.specs.Messages.Front.{Whole, Bad, Part}
use Rattle.kms_http.specs.declared.message.Head.{Head}
use Rattle.kms_http.specs.declared.message_front.Found.{Found}
use Rattle.kms_http.specs.declared.message_front.Found.TheVariants as found

-- the parts that spans cover
abbrev pub head_at : List ℕ → List HeaderSpan → RequestSpans → Head
head_at bytes headers spans = record {
  method = span_bytes bytes spans.method;
  target = span_bytes bytes spans.path;
  fields = map (header_bytes bytes) (take spans.headers headers);
}

-- a part stays one until there are so many bytes
abbrev pub IsWaiting : ℕ → List ℕ → Type 0
IsWaiting wanted bytes = (more : List ℕ) → length bytes + length more < wanted → front (bytes ++ more) ≡ Part

-- after a head of `at` bytes, where `f` says what the bytes after it make of it
abbrev pub IsFoundAfter : Found → ℕ → (List ℕ → Front) → List ℕ → Type 0
IsFoundAfter (found.Whole message used) at f rest =
    (f rest ≡ Whole message (drop (used - at) rest)) × (at ≤ used) × (used ≤ at + length rest)
IsFoundAfter (found.Bad refusal) at f rest = f rest ≡ Bad refusal
IsFoundAfter found.Headless at f rest = ⊥
IsFoundAfter (found.Part wanted) at f rest =
    (f rest ≡ Part) × ((more : List ℕ) → at + length rest + length more < wanted → f (rest ++ more) ≡ Part)

-- of a whole message, how many bytes it has; of a part, whether its head has no end yet, and else how many it wants
abbrev pub IsFound : Found → List ℕ → Type 0
IsFound (found.Whole message used) bytes =
    (front bytes ≡ Whole message (drop used bytes)) × (used ≤ length bytes)
IsFound (found.Bad refusal) bytes = front bytes ≡ Bad refusal
IsFound found.Headless bytes = (front bytes ≡ Part) × (length bytes < head_limit) × (head_len bytes ≡ None)
IsFound (found.Part wanted) bytes = (front bytes ≡ Part) × IsWaiting wanted bytes
