-- What a window shows of what is written. Only private contracts name this.
use Rattle.std.specs.Prelude.{ℕ, ◌-◌, List, ◌++◌, length, take, drop}

-- so many bytes still go unseen, and these are shown
pub record Shown : Type 0 where
  pub unseen : ℕ
  pub bytes : List ℕ

-- after these bytes more, in a window of a size
abbrev pub shown_in : (size : ℕ) → Shown → List ℕ → Shown
shown_in size s piece = record { unseen = s.unseen - length piece; bytes = s.bytes ++ take (size - length s.bytes) (drop s.unseen piece) }

unfoldable pub shown : Shown → List ℕ → Shown
shown s piece = shown_in 1024 s piece
