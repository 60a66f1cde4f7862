-- Attributes as JSON: where one is absent it is null.
use Rattle.std.specs.Prelude.{ℕ, ℤ, List, Option, Some, None}
use Rattle.serde_json.specs.Data.{unsigned, Data, null, number, string}
use Rattle.serde_json.specs.Find.{of_integer}
use Rattle.kms_text.specs.Time.{time_text_of}

abbrev pub text_or_null : Option (List ℕ) → Data
text_or_null None = null
text_or_null (Some text) = string text

abbrev pub number_or_null : Option ℕ → Data
number_or_null None = null
number_or_null (Some n) = number (unsigned n)

abbrev pub integer_or_null : Option ℤ → Data
integer_or_null None = null
integer_or_null (Some z) = number (of_integer z)

abbrev pub time_data : ℕ → Data
time_data moment = string (time_text_of moment)

abbrev pub time_or_null : Option ℕ → Data
time_or_null None = null
time_or_null (Some moment) = time_data moment
