use Rattle.std.proofs.Common.{length, None, Some, ap, arith}
use Rattle.std.proofs.lemmas.List.{length-take}
use Rattle.kms_http.specs.HeadEnd.{head_limit}
use Rattle.kms_http.proofs.QuietLaws.{found, found-bound}
use Rattle.kms_http.proofs.head_end.head_at.Goals as goal

pub split_at-requires : goal.split_at-requires
split_at-requires c = omega (arith, ap length c.limited-searched.ensures, length-take head_limit c.args.bytes.now)

pub returns-in-None-clause-value : goal.returns-in-None-clause-value
returns-in-None-clause-value c =
    found c.args.from head_limit c.args.bytes.now c.limited-searched.result.now c.split_at.result.1.now None
    c.requires.within c.requires.limit c.requires.quiet c.limited-searched.ensures c.split_at.ensures.back c.in-None.ensures.value

pub returns-in-Some-clause-value : goal.returns-in-Some-clause-value
returns-in-Some-clause-value c =
    found c.args.from head_limit c.args.bytes.now c.limited-searched.result.now c.split_at.result.1.now (Some c.in-Some.count)
    c.requires.within c.requires.limit c.requires.quiet c.limited-searched.ensures c.split_at.ensures.back c.in-Some.ensures.value

pub returns-in-Some-clause-bound : goal.returns-in-Some-clause-bound
returns-in-Some-clause-bound c =
    found-bound c.args.from head_limit c.args.bytes.now c.limited-searched.result.now c.split_at.result.1.now c.in-Some.count
    c.requires.within c.requires.limit c.limited-searched.ensures c.split_at.ensures.back c.in-Some.ensures.bound.1
