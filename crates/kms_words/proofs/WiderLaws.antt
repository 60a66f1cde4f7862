-- clap alone takes words that are outside the grammar.
use Rattle.std.proofs.Common.{refl}
use Rattle.clap.proofs.OnLiterals.{clap_on_literals}
use Rattle.kms_words.specs.Wider.{init_takes, IsWider}

pub wider : IsWider
unfolding init_takes clap_on_literals
wider = record { dash = refl; empty = refl; dashes = refl; twice = refl; short = refl; help = refl }
