use Rattle.std.proofs.Common.{length, sym, arith, rules}
use Rattle.std.proofs.lemmas.List.Sums.{position_or_len_is}
use Rattle.kms_ring.specs.KeyFile.{is_line_feed}
use Rattle.kms_ring.proofs.key_file.line_feed.Goals as goal

pub returns-in-Some-clause-place : goal.returns-in-Some-clause-place
returns-in-Some-clause-place c =
    sym (position_or_len_is is_line_feed c.args.rest.now c.in-Some.place 0 (search rules) (search rules) (search rules))

pub returns-in-None-clause-place : goal.returns-in-None-clause-place
returns-in-None-clause-place c =
    sym (position_or_len_is is_line_feed c.args.rest.now (length c.args.rest.now) 0 (omega arith) (search rules) (search rules))
