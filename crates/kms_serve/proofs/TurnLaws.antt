-- Each turn answers a message or takes a byte, and a line has no more of both than a bound.
use Rattle.std.proofs.Common.{◌≡◌, ℕ, ◌+◌, ◌*◌, ◌≤◌, ◌<◌, List, [], ◌++◌, length, take, drop, ap, ◌∙◌, arith, length-append, length-drop}
use Rattle.std.proofs.lemmas.List.{length-take-le}
use Rattle.kms_http.specs.Reading.{Reading}
use Rattle.kms_http.specs.Messages.{front}
use Rattle.kms_http.specs.Sizes.{longest}
use Rattle.kms_http.specs.Messages.Front.{Whole, Part}
use Rattle.kms_http.specs.declared.message.Message.{Message}
use Rattle.kms_serve.specs.Turns.{IsBounded, Progress}
use Rattle.kms_serve.specs.declared.serving.Serving.{Serving}
use Rattle.kms_http.proofs.MessageSizeLaws.{message-short, part-short}

-- bytes were fed to a reader that holds a part of a message
pub fed_more : (s t : Serving) (bytes : List ℕ) → t.count ≡ s.count → t.reader ≡ record { held = s.reader.held ++ bytes; passed = s.reader.passed }
    → 0 < length bytes → length bytes ≤ 65536 → front s.reader.held ≡ Part → IsBounded s → Progress s t
fed_more s t bytes count reader some fits part bounded =
    let held : length t.reader.held ≡ length s.reader.held + length bytes = ap (λ (r : Reading). length r.held) reader ∙ length-append s.reader.held bytes in
    let passed : t.reader.passed ≡ s.reader.passed = ap (λ (r : Reading). r.passed) reader in
    let short = part-short s.reader.held part in
    record {
      more = omega (arith, held, passed, count, some);
      bounded = record {
        few = omega (arith, count, bounded.few);
        passed = rw (passed, count) bounded.passed;
        held = omega (arith, held, short, fits);
      };
    }

-- what is left to be said of the messages after one was taken out
pub taken_passed : (s t : Serving) (m : Message) → front s.reader.held ≡ Whole m t.reader.held
    → t.reader.passed + length t.reader.held ≡ s.reader.passed + length s.reader.held → t.count ≡ s.count → IsBounded s
    → t.reader.passed ≤ (t.count + 1) * longest
taken_passed s t m whole place count bounded =
    let shorter = message-short s.reader.held m t.reader.held whole in
    let before : s.reader.passed ≤ t.count * 81920 = rw count bounded.passed in
    let sum : (t.count + 1) * 81920 ≡ t.count * 81920 + 81920 = omega arith in
    omega (arith, shorter.1, place, before, sum)

pub taken_held : (s t : Serving) (m : Message) → front s.reader.held ≡ Whole m t.reader.held → IsBounded s → length t.reader.held ≤ longest + 65536
taken_held s t m whole bounded =
    let shorter = message-short s.reader.held m t.reader.held whole in
    omega (arith, shorter.0, bounded.held)

-- before the first turn
pub bounded_first : (s : Serving) → s.reader ≡ record { held = []; passed = 0 } → s.count ≡ 0 → IsBounded s
bounded_first s reader count =
    let held : length s.reader.held ≡ 0 = ap (λ (r : Reading). length r.held) reader in
    let passed : s.reader.passed ≡ 0 = ap (λ (r : Reading). r.passed) reader in
    record { few = omega (arith, count); passed = omega (arith, passed); held = omega (arith, held) }

-- a buffer that was lent to a call and came back has its length
pub buffer_length : (len : ℕ) (lent items : List ℕ) → len ≡ length items → length lent ≡ length items → length items ≡ 65536
    → length (take len (lent ++ drop (length lent) items)) ≡ 65536
buffer_length len lent items count same size =
    length-take-le len (lent ++ drop (length lent) items) (omega (arith, count, same, size, length-append lent (drop (length lent) items), length-drop (length lent) items))
    ∙ omega (arith, count, size)
