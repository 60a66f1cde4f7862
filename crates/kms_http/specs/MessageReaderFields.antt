-- A reader's bytes: those before `start` were given, no head ends in the next `searched`, and a head that was found wants
-- so many bytes.
use Rattle.std.specs.Prelude.{◌+◌, ◌-◌, ◌≤◌, ◌<◌, ◌^◌, drop, vec_len}
use Rattle.kms_http.specs.MessageFound.{IsWaiting}
use Rattle.kms_http.specs.Quiet.{IsQuiet}
use Rattle.kms_http.specs.Reading.{Reading}
use Rattle.kms_http.specs.declared.message_reader.MessageReader.TheInside.{Inside}

abbrev pub reading : Inside → Reading
reading r = record { held = drop r.start r.bytes.items; passed = r.passed }

pub record IsCounted (r : Inside) : Type 0 where
  pub within : r.start ≤ vec_len r.bytes
  pub fits : r.passed + (vec_len r.bytes - r.start) < 2 ^ 63
  pub searched : r.searched ≤ vec_len r.bytes - r.start - 3
  pub limit : r.searched ≤ 16381
  pub quiet : IsQuiet r.searched (drop r.start r.bytes.items)
  pub waits : IsWaiting r.wanted (drop r.start r.bytes.items)
