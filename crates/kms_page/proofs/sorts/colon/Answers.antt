use Rattle.std.proofs.Common.{length, sym, arith, rules}
use Rattle.std.proofs.lemmas.List.Sums.{position_or_len_is}
use Rattle.kms_page.specs.Sorts.{is_colon}
use Rattle.kms_page.proofs.sorts.colon.Goals as goal

pub returns-in-Some-clause-place : goal.returns-in-Some-clause-place
returns-in-Some-clause-place c =
    sym (position_or_len_is is_colon c.args.piece.now c.in-Some.place 0 (search rules) (search rules) (search rules))

pub returns-in-None-clause-place : goal.returns-in-None-clause-place
returns-in-None-clause-place c =
    sym (position_or_len_is is_colon c.args.piece.now (length c.args.piece.now) 0 (omega arith) (search rules) (search rules))
