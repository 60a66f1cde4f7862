-- Tables that keep what is sound, with their counts, and with memory for so many changes.
use Rattle.kms_kept.specs.Sound.{IsSound}
use Rattle.kms_store.specs.Counts.{AreCounted, HasEntries}
use Rattle.kms_store.specs.Rows.{kept_in, AreOrdered, HasSpace}
use Rattle.kms_store.specs.Tables.{Tabled}
use Rattle.kms_store.specs.declared.tables.Tables.TheInside.{Inside}

abbrev pub tabled : Inside → Tabled
tabled t = record { kept = kept_in t.rows; spare = t.spare }

pub record AreTables (t : Inside) : Type 0 where
  pub ordered : AreOrdered t.rows
  pub sound : IsSound (kept_in t.rows)
  pub space : HasSpace t.spare t.rows
  pub counted : AreCounted t.counts (kept_in t.rows).state
  pub entries : HasEntries t.spare t.counts
