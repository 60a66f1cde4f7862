-- Counts over two spans of calls, one after the other.
use Rattle.std.proofs.Common.{◌≡◌, ℕ, ◌≤◌, refl, arith}
use Rattle.std.specs.Prelude.{Option, Some, None, Result, Ok, Err}
use Rattle.kms_host.specs.Faults.{Faults, NeverFalls, HasCause, Rose, count_of}
use Rattle.kms_host.specs.History.{History, Stops}
use Rattle.kms_host.specs.declared.call.Count.{Count}
use Rattle.kms_host.specs.declared.call.Count.TheVariants.{KeyFile, Store, Link, Draw, Listen}

-- a count that rose and never fell since
pub rose_later : (a b c : ℕ) → Rose a b → b ≤ c → Rose a c
rose_later a b c rose later = omega (arith, rose, later)

-- a count that never fell and rose then
pub rose_after : (a b c : ℕ) → a ≤ b → Rose b c → Rose a c
rose_after a b c later rose = omega (arith, rose, later)

pub never_falls_same : (f : Faults) → NeverFalls f f
never_falls_same f = record {
  key_file = omega arith;
  store = omega arith;
  link = omega arith;
  draw = omega arith;
  listen = omega arith;
}

pub never_falls_then : {a b c : Faults} → NeverFalls a b → NeverFalls b c → NeverFalls a c
never_falls_then p q = record {
  key_file = omega (arith, p.key_file, q.key_file);
  store = omega (arith, p.store, q.store);
  link = omega (arith, p.link, q.link);
  draw = omega (arith, p.draw, q.draw);
  listen = omega (arith, p.listen, q.listen);
}

-- of one kind
pub count_later : (count : Count) {a b : Faults} → NeverFalls a b → count_of count a ≤ count_of count b
count_later KeyFile p = p.key_file
count_later Store p = p.store
count_later Link p = p.link
count_later Draw p = p.draw
count_later Listen p = p.listen

pub fault_later : (count : Count) (a b c : Faults) → Rose (count_of count a) (count_of count b) → NeverFalls b c → Rose (count_of count a) (count_of count c)
fault_later count a b c rose later = rose_later (count_of count a) (count_of count b) (count_of count c) rose (count_later count later)

pub fault_after : (count : Count) (a b c : Faults) → NeverFalls a b → Rose (count_of count b) (count_of count c) → Rose (count_of count a) (count_of count c)
fault_after count a b c later rose = rose_after (count_of count a) (count_of count b) (count_of count c) (count_later count later) rose

-- what has a cause has it over calls more, before it and after it
pub cause_after : {T E : Type 0} {count : Count} {a b c : Faults} (result : Result T E) → NeverFalls a b → HasCause count b c result → HasCause count a c result
cause_after (Ok x) later cause = record { later = never_falls_then later cause.later; failed = tt }
cause_after {count = count} {a = a} {b = b} {c = c} (Err e) later cause =
    record { later = never_falls_then later cause.later; failed = fault_after count a b c later cause.failed }

pub cause_later : {T E : Type 0} {count : Count} {a b c : Faults} (result : Result T E) → HasCause count a b result → NeverFalls b c → HasCause count a c result
cause_later (Ok x) cause later = record { later = never_falls_then cause.later later; failed = tt }
cause_later {count = count} {a = a} {b = b} {c = c} (Err e) cause later =
    record { later = never_falls_then cause.later later; failed = fault_later count a b c cause.failed later }

pub stops_same : (w : ℕ) (a : Option History) → Stops w w a a
stops_same w a = record { later = omega arith; cause = λ was is none. absurd (grind (arith, is, none)) }

pub stops_then : {u v w : ℕ} {a b c : Option History} → Stops u v a b → Stops v w b c → Stops u w a c
stops_then {u} {v} {w} {a} {b} {c} p q = record {
  later = omega (arith, p.later, q.later);
  cause = λ was is none. at b refl was is none;
}
  where
    at : (x : Option History) → b ≡ x → (was : History) → a ≡ Some was → c ≡ None → Rose u w
    at None e was is none = rose_later u v w (p.cause was is e) q.later
    at (Some h) e was is none = rose_after u v w p.later (q.cause h e none)
