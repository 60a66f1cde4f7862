-- What is kept is sound, from nothing on and after each change of the grammar that applies.
use Rattle.std.proofs.Common.{◌≡◌, ℕ, ◌≤◌, ◌^◌, true, List, [], ◌∷◌, Some, subst}
use Rattle.std.specs.List.{AllByRecursion}
use Rattle.kms_record.specs.declared.change.Change.{Change}
use Rattle.kms_record.specs.Grammar.{IsChange, IsStep}
use Rattle.kms_record.proofs.Codec.{bind_some, passed, some_is}
use Rattle.kms_kept.specs.Kept.{Kept, Part, Records, applies, changed, after_change, after_changes, after_step, after_record, kept_first}
use Rattle.kms_kept.specs.Sound.{IsSound}
use Rattle.kms_kept.proofs.ApartLaws.{change_apart}
use Rattle.kms_kept.proofs.GrammarKeeping.{change_grammar}
use Rattle.kms_kept.proofs.IdLimitLaws.{ids_within}
use Rattle.kms_kept.proofs.JoinedLaws.{change_joins}
use Rattle.kms_kept.proofs.KeyNumberLaws.{keys_ascend}
use Rattle.kms_kept.proofs.NamedLaws.{change_named}
use Rattle.kms_kept.proofs.OnceLaws.{change_once}
use Rattle.kms_kept.proofs.OrderKeeping.{orders_apart}
use Rattle.kms_kept.proofs.RisingLaws.{change_rises}
use Rattle.kms_kept.proofs.SealedLaws.{change_sealed}

pub first_is_sound : (tag ids : ℕ) → ids ≤ 2 ^ 62 → IsSound (kept_first tag ids)
first_is_sound tag ids le = record {
  within = le;
  rising = record { secrets = tt; containers = tt; orders = tt };
  apart = record { containers = tt; orders = tt; orders_too = tt };
  joined = record { consumers = tt; acls = tt };
  once = record { consumers = tt; acls = tt; quotas = tt };
  orders = tt;
  named = tt;
  keys = tt;
  sealed = tt;
  grammar = record { keys = tt; secrets = tt; containers = tt; consumers = tt; acls = tt; orders = tt; quotas = tt };
}

pub change_is_sound : (part : Part) (change : Change) (kept : Kept) → IsSound kept → IsChange change → applies part change kept ≡ true → IsSound (changed change kept)
change_is_sound part change kept s fits e = record {
  within = ids_within part change kept s.rising s.within e;
  rising = change_rises part change kept s.rising e;
  apart = change_apart part change kept s.rising s.apart e;
  joined = change_joins part change kept s.joined e;
  once = change_once part change kept s.once e;
  orders = orders_apart part change kept s.rising s.orders e;
  named = change_named part change kept s.rising s.named e;
  keys = keys_ascend part change kept s.keys e;
  sealed = change_sealed part change kept s.rising s.sealed e;
  grammar = change_grammar change kept fits s.grammar;
}

pub changes_are_sound : (part : Part) (changes : List Change) (kept after : Kept) → IsSound kept → AllByRecursion IsChange changes → after_changes part changes kept ≡ Some after → IsSound after
changes_are_sound part [] kept after s each e = subst IsSound (some_is kept after e) s
changes_are_sound part (change ∷ changes) kept after s each e =
    let m = bind_some (after_change part change kept) (after_changes part changes) after e in
    let g = passed (applies part change kept) (changed change kept) m.0 m.1 in
    changes_are_sound part changes m.0 after (subst IsSound g.1 (change_is_sound part change kept s each.0 g.0)) each.1 m.2

pub record_is_sound : (steps : List (List Change)) (kept after : Kept) → IsSound kept → AllByRecursion IsStep steps → after_record steps kept ≡ Some after → IsSound after
record_is_sound [] kept after s each e = subst IsSound (some_is kept after e) s
record_is_sound (step ∷ steps) kept after s each e =
    let m = bind_some (after_step step kept) (after_record steps) after e in
    record_is_sound steps m.0 after (changes_are_sound Records step kept m.0 s each.0.each m.1) each.1 m.2
