use Rattle.std.proofs.Common.{◌≡◌, ◌-◌, ◌++◌, ℕ, List, length, take, drop, min, sym, ap, subst, ◌∙◌}
use Rattle.std.specs.List.{flat_map}
use Rattle.kms_record.specs.Base.{base_bytes}
use Rattle.kms_record.specs.Grammar.{change_bytes}
use Rattle.kms_store.specs.RowsLeft.{changes_left}
use Rattle.kms_store.specs.Spelling.{bytes_given}
use Rattle.kms_store.proofs.SpellingLaws.{part_given}
use Rattle.kms_store.proofs.spelling.Spelling.give_some.Goals as goal

pub returns-then-count-base_len-clause-given : goal.returns-then-count-base_len-clause-given
returns-then-count-base_len-clause-given c =
    let n = c.base_piece-count.result in
    let from = c.self.inside.from in
    let room = c.args.room.now in
    let is : bytes_given c.self.inside.change ≡ base_bytes c.in-Some.change = ap bytes_given c.in-Some.is in
    part_given (bytes_given c.self.inside.change) room c.base_piece-count.new.room (flat_map change_bytes (changes_left c.self.inside.rows)) from n
    (subst (λ (b : List ℕ). n ≡ min (length room) (length b - from)) (sym is) c.base_piece-count.ensures.count)
    (subst (λ (b : List ℕ). c.base_piece-count.new.room ≡ take n (drop from b) ++ drop n room) (sym is) c.base_piece-count.ensures.bytes)
    ∙ c.self.view_is
