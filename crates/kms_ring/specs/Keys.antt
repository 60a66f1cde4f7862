-- What contracts see of a list of keys without memory.
use Rattle.std.specs.Prelude.{ℕ, ◌≤◌, List, take}
use Rattle.kms_ring.specs.declared.keys.Keys.TheInside.{Inside}

abbrev pub listed : Inside → List (List ℕ)
listed k = take k.count k.keys

abbrev pub IsCounted : Inside → Type 0
IsCounted k = k.count ≤ 16
