-- A change that is ready under a tag.
use Rattle.kms_record.specs.Grammar.{IsChange}
use Rattle.kms_store.specs.Prepared.{change_of, IsRowOf}
use Rattle.kms_store.specs.Ready.{TaggedChange}
use Rattle.kms_store.specs.declared.ready.Ready.TheInside.{Inside}

abbrev pub tagged : Inside → TaggedChange
tagged r = record { tag = r.tag; change = change_of r.prepared }

pub record IsPrepared (r : Inside) : Type 0 where
  pub row : IsRowOf r.tag r.prepared
  pub change : IsChange (change_of r.prepared)
