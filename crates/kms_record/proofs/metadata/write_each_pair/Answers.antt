use Rattle.kms_record.specs.Metadata.{pair_bytes, IsPairTyped}
use Rattle.kms_record.proofs.WindowLaws.{none_written, one_more_written}
use Rattle.kms_record.proofs.metadata.write_each_pair.Goals as goal

pub loop-pair-init : goal.loop-pair-init
loop-pair-init c = none_written pair_bytes IsPairTyped c.args.out.now

pub loop-pair-preserved : goal.loop-pair-preserved
loop-pair-preserved c =
    one_more_written pair_bytes IsPairTyped c.args.out.now c.loop-pair.out c.write_pair.new.out c.args.pairs.now c.loop-pair.pair-index c.pair-item.result c.loop-pair-test.true c.pair-item.is
    c.loop-pair.invariant c.write_pair.ensures.spelled c.write_pair.ensures.typed
