use Rattle.std.proofs.Common.{◌≡◌, None, ap, sym, ◌∙◌, length, drop, length-drop, arith}
use Rattle.kms_http.specs.HeadEnd.{head_len}
use Rattle.kms_http.specs.Reading.{Reading}
use Rattle.kms_http.proofs.QuietLaws.{none-quiet}
use Rattle.kms_http.proofs.message_reader.MessageReader.next.Goals as goal

pub invariant_of-self-in-Headless : goal.invariant_of-self-in-Headless
invariant_of-self-in-Headless c =
    let found = rw c.in-Headless.is at c.in_ok-message.ensures in
    let sub = c.saturating_sub-self-inside.ensures in
    let held = c.held-in-Headless.ensures in
    let rest = c.rest.ensures in
    let held_is : drop c.self.inside.start c.self.inside.bytes.items ≡ c.args.self.now.held = ap (λ (r : Reading). r.held) c.self.view_is in
    let size = length-drop c.self.inside.start c.self.inside.bytes.items in
    let none : head_len (drop c.self.inside.start c.self.inside.bytes.items) ≡ None = ap head_len (held_is ∙ sym rest) ∙ found.2 in
    record {
      within = c.self.invariant.within;
      fits = c.self.invariant.fits;
      searched = omega (arith, ap length held_is);
      limit = omega (arith, ap length rest, found.1);
      waits = c.self.invariant.waits;
      quiet = λ k lt. none-quiet (drop c.self.inside.start c.self.inside.bytes.items) none k;
    }
