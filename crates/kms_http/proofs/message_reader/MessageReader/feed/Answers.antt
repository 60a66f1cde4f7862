use Rattle.std.proofs.Common.{◌≡◌, ◌-◌, ◌≤◌, ◌++◌, ap, ◌∙◌, length, drop, length-drop, arith}
use Rattle.std.proofs.lemmas.List.{drop-append-le}
use Rattle.kms_http.specs.Reading.{Reading}
use Rattle.kms_http.proofs.QuietLaws.{quiet-append}
use Rattle.kms_http.proofs.WaitLaws.{waits-append}
use Rattle.kms_http.proofs.message_reader.MessageReader.feed.Goals as goal

pub invariant_of-self-2 : goal.invariant_of-self-2
invariant_of-self-2 c =
    let items = c.in_ok-extend_from_slice.ensures.items in
    let len = c.in_ok-extend_from_slice.ensures.len in
    let same = c.self.view_is ∙ c.drop_given.ensures in
    let passed_is : c.self.inside.passed ≡ c.args.self.now.passed = ap (λ (r : Reading). r.passed) same in
    let held_is : drop c.self.inside.start c.self.inside.bytes.items ≡ c.args.self.now.held = ap (λ (r : Reading). r.held) same in
    let size = length-drop c.self.inside.start c.self.inside.bytes.items in
    let early : c.self.inside.searched ≤ length (drop c.self.inside.start c.self.inside.bytes.items) - 3 = omega arith in
    let within : c.self.inside.start ≤ length c.self.inside.bytes.items = omega arith in
    let whole : drop c.self.inside.start c.extend_from_slice.new.self.items ≡ drop c.self.inside.start c.self.inside.bytes.items ++ c.args.piece.now =
    ap (drop c.self.inside.start) items ∙ drop-append-le c.self.inside.start c.self.inside.bytes.items c.args.piece.now within in
    record {
      within = omega (arith, len);
      fits = omega (arith, len, ap length held_is);
      searched = omega (arith, len);
      limit = c.self.invariant.limit;
      waits = rw whole (waits-append c.self.inside.wanted (drop c.self.inside.start c.self.inside.bytes.items) c.args.piece.now c.self.invariant.waits);
      quiet = rw whole (quiet-append c.self.inside.searched (drop c.self.inside.start c.self.inside.bytes.items) c.args.piece.now early c.self.invariant.quiet);
    }
