-- Numbers in queries: decimal digits, of a value below 2^32; zeros may lead.
use Rattle.std.specs.Prelude.{ℕ, ◌^◌, Bool, ◌&&◌, List, length, Option, Some, None, if◌then◌else◌, nat_lt, min, ◌==◌}
use Rattle.std.specs.Option.{option_and_then}
use Rattle.std.specs.Char.{is_ascii_digit}
use Rattle.std.specs.List.{list_all}
use Rattle.std.specs.Str.Parse.{digits_value}

abbrev pub is_number : List ℕ → Bool
is_number text = nat_lt 0 (length text) && list_all is_ascii_digit text && nat_lt (digits_value 10 text) (2 ^ 32)

abbrev pub number_of : List ℕ → Option ℕ
number_of text = if is_number text then Some (digits_value 10 text) else None

-- a limit is at least 1, and 100 where it is more
abbrev pub limit_from : ℕ → Option ℕ
limit_from n = if n == 0 then None else Some (min n 100)

abbrev pub limit_of : List ℕ → Option ℕ
limit_of text = option_and_then limit_from (number_of text)
