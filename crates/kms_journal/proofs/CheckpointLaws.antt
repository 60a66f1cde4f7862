-- A checkpoint, at each moment.
use Rattle.std.proofs.Common.{◌≡◌, ◌≢◌, inl, inr, ℕ, zero, suc, ◌+◌, ◌^◌, ◌≤◌, ◌<◌, List, ◌∷◌, length, get_or, refl, sym, ◌∙◌, ap, subst, arith, Bool, true, false, cond}
use Rattle.std.specs.Prelude.{Option, Some, None, nat_lt, nat_le, Result, Ok, Err, IfSome}
use Rattle.std.proofs.lemmas.Bool.{lt-ltb, le-ltb, ltb-true, and_parts}
use Rattle.kms_host.specs.History.{History}
use Rattle.kms_host.specs.Disk.{Disk, reads, files, of_file}
use Rattle.kms_host.specs.Moment.{Throughout}
use Rattle.kms_host.proofs.Moments.{throughout_weaker, at_last}
use Rattle.kms_journal.specs.Answers.{chain_of}
use Rattle.kms_journal.specs.Checkpoint.{other_file, with_snapshot, moved_to, IsOldOrNew, Checkpoints}
use Rattle.kms_journal.specs.Emptying.{IsNoNewer}
use Rattle.kms_journal.specs.Header.{number_in, is_in_range}
use Rattle.kms_journal.specs.Pieces.{Snapshot}
use Rattle.kms_journal.specs.Position.{Position, position_of, IsPlaced}
use Rattle.kms_journal.specs.Renewal.{IsRenewing, Renews}
use Rattle.kms_journal.specs.Spelling.{file_rest}
use Rattle.kms_journal.specs.Standing.{Standing, standing, newer, standing_of}
use Rattle.kms_journal.specs.declared.header.Header.{Header}
use Rattle.kms_journal.proofs.FileLaws.{file_is, own_standing, image_of, file_of, quiet_part, rested, still_quiet, still_attached}
use Rattle.kms_journal.proofs.SpellingLaws.{spelled_stands, spelled_size, spelled_clear}
use Rattle.kms_journal.proofs.StandingLaws.{headed_of}

-- The current file and the other.

-- which of the two is current
first_chosen : (t : Bool) (a b : Standing) → cond t (Some b) (Some a) ≡ Some a → a.file ≡ 0 → b.file ≡ 1 → t ≡ false
first_chosen true a b is first second = let same : b ≡ a = cc in absurd (omega (arith, ap (λ (x : Standing). x.file) same, first, second))
first_chosen false a b is first second = refl

second_chosen : (t : Bool) (a b : Standing) → cond t (Some b) (Some a) ≡ Some b → a.file ≡ 0 → b.file ≡ 1 → t ≡ true
second_chosen true a b is first second = refl
second_chosen false a b is first second = let same : a ≡ b = cc in absurd (omega (arith, ap (λ (x : Standing). x.file) same, first, second))

-- Where the other file became no newer, the current one is current still.
outlasts : (f : ℕ) → f < 2 → (old new : List ℕ × List ℕ) (c : Standing) → standing_of old ≡ Some c → c.file ≡ f → of_file f new ≡ of_file f old
    → IsNoNewer (other_file f) (of_file (other_file f) old) (of_file (other_file f) new) → standing_of new ≡ Some c
outlasts zero lt old new c is here same no_newer = ap (λ (o : Option Standing). newer o (standing 1 new.1)) first ∙ by_other (standing 1 new.1) refl
  where
    own : standing 0 old.0 ≡ Some c
    own = own_standing 0 (omega arith) old c is here

    first : standing 0 new.0 ≡ Some c
    first = ap (standing 0) same ∙ own

    by_other : (o : Option Standing) → standing 1 new.1 ≡ o → newer (Some c) o ≡ Some c
    by_other None e = refl
    by_other (Some y) e =
        let x = no_newer y e in
        let before : newer (Some c) (Some x.0) ≡ Some c = ap (λ (o : Option Standing). newer o (Some x.0)) (sym own) ∙ ap (newer (standing 0 old.0)) (sym x.1) ∙ is in
        let test : nat_lt c.generation y.generation ≡ false =
        ap (nat_lt c.generation) x.2 ∙ first_chosen (nat_lt c.generation x.0.generation) c x.0 before here (file_is 1 old.1 x.0 x.1) in
        ap (λ (t : Bool). cond t (Some y) (Some c)) test
outlasts (suc zero) lt old new c is here same no_newer = ap (newer (standing 0 new.0)) second ∙ by_other (standing 0 new.0) refl
  where
    own : standing 1 old.1 ≡ Some c
    own = own_standing 1 (omega arith) old c is here

    second : standing 1 new.1 ≡ Some c
    second = ap (standing 1) same ∙ own

    by_other : (o : Option Standing) → standing 0 new.0 ≡ o → newer o (Some c) ≡ Some c
    by_other None e = refl
    by_other (Some y) e =
        let x = no_newer y e in
        let before : newer (Some x.0) (Some c) ≡ Some c = ap (newer (Some x.0)) (sym own) ∙ ap (λ (o : Option Standing). newer o (standing 1 old.1)) (sym x.1) ∙ is in
        let test : nat_lt y.generation c.generation ≡ true =
        ap (λ (n : ℕ). nat_lt n c.generation) x.2 ∙ second_chosen (nat_lt x.0.generation c.generation) x.0 c before (file_is 0 old.0 x.0 x.1) here in
        ap (λ (t : Bool). cond t (Some c) (Some y)) test
outlasts (suc (suc f)) lt old new c is here same no_newer = absurd (omega arith)

-- Where it is of the next generation, it is current.
overtakes : (f : ℕ) → f < 2 → (new : List ℕ × List ℕ) (c d : Standing) → standing f (of_file f new) ≡ Some c → standing (other_file f) (of_file (other_file f) new) ≡ Some d
    → d.generation ≡ c.generation + 1 → standing_of new ≡ Some d
overtakes zero lt new c d first second next =
    ap (λ (o : Option Standing). newer o (standing 1 new.1)) first ∙ ap (newer (Some c)) second
    ∙ ap (λ (t : Bool). cond t (Some d) (Some c)) (lt-ltb c.generation d.generation (omega (arith, next)))
overtakes (suc zero) lt new c d first second next =
    ap (λ (o : Option Standing). newer o (standing 1 new.1)) second ∙ ap (newer (Some d)) first
    ∙ ap (λ (t : Bool). cond t (Some c) (Some d)) (le-ltb d.generation c.generation (omega (arith, next)))
overtakes (suc (suc f)) lt new c d first second next = absurd (omega arith)

-- a whole store's tag is in range
tag_low : (file : ℕ) (bytes : List ℕ) (s : Standing) → standing file bytes ≡ Some s → s.is_whole ≡ true → s.tag < 2 ^ 60
unfolding is_in_range
tag_low file bytes s is whole =
    let h = headed_of file bytes s is whole in
    let parts = and_parts (nat_lt (number_in 18 h.head) (2 ^ 60)) (nat_le (number_in 26 h.head) (2 ^ 62)) h.range in
    let same : s.tag ≡ number_in 18 h.head = ap (λ (x : Standing). x.tag) h.is in
    omega (arith, ltb-true (number_in 18 h.head) (2 ^ 60) parts.0, same)

-- the header of the new file
abbrev pub next_header : Position → Snapshot → Header
next_header p snapshot = record {
  file = other_file p.file;
  generation = p.generation + 1;
  tag = p.tag;
  ids = snapshot.ids;
  steps = snapshot.steps;
  snapshot = length snapshot.bytes;
}

module _ (p : Position) (snapshot : Snapshot) (was : History) (s : Standing) (lt : p.file < 2) (placed : IsPlaced p was s) (low : p.generation < 2 ^ 63) (ids : snapshot.ids ≤ 2 ^ 62) (steps : snapshot.steps < 2 ^ 64) (size : length snapshot.bytes < 2 ^ 64) where
  in_file : p.file ≡ s.file
  in_file = ap (λ (q : Position). q.file) placed.here

  file_low : s.file < 2
  file_low = omega (arith, lt, in_file)

  other_low : other_file s.file < 2
  other_low = omega arith

  apart : other_file s.file ≢ s.file
  apart e = omega (arith, e, file_low)

  own : standing s.file (of_file s.file (files was)) ≡ Some s
  own = own_standing s.file file_low (files was) s placed.current refl

  header_is : next_header p snapshot ≡ next_header (position_of s) snapshot
  header_is = ap (λ (q : Position). next_header q snapshot) placed.here

  -- what the new file stands for
  new_stands : standing (other_file s.file) (1 ∷ file_rest (next_header (position_of s) snapshot) snapshot.bytes) ≡ Some (with_snapshot s snapshot)
  new_stands =
      let same : s.generation ≡ p.generation = sym (ap (λ (q : Position). q.generation) placed.here) in
      spelled_stands (next_header (position_of s) snapshot) snapshot.bytes
      (record {
        generation = omega (arith, low, same);
        some = omega arith;
        tag = tag_low s.file (of_file s.file (files was)) s own placed.whole;
        ids = ids;
        steps = steps;
        snapshot = size;
      })
      refl

  moment : (q : History) → IsRenewing (other_file s.file) (file_rest (next_header (position_of s) snapshot) snapshot.bytes) was q → IsOldOrNew s snapshot was q
  moment q r = record {
    images = λ quiet image is.
        let g = other_file s.file in
        let same : of_file s.file image ≡ of_file s.file (files was) = quiet_part s.file file_low was q (quiet s.file file_low) (r.other s.file apart) image is in
        elim (r.images (quiet g other_low) (of_file g image) (image_of g other_low q image is)) [
          | inl no_newer ↦
              inl (outlasts s.file file_low (files was) image s placed.current refl same
              (subst (λ (l : List ℕ). IsNoNewer g l (of_file g image)) (sym (file_of g other_low was)) no_newer))
          | inr new ↦
              inr (overtakes s.file file_low image s (with_snapshot s snapshot) (ap (standing s.file) same ∙ own) (ap (standing g) new.0 ∙ new_stands) refl, new.1)
        ];
    old = r.other s.file apart;
    others = r.others;
    later = r.later;
    once = r.once;
    syncs = r.syncs;
  }

  during : (now : History) → Throughout (IsRenewing (other_file s.file) (file_rest (next_header (position_of s) snapshot) snapshot.bytes) was) was now → Throughout (IsOldOrNew s snapshot was) was now
  during now r = throughout_weaker (IsRenewing (other_file s.file) (file_rest (next_header (position_of s) snapshot) snapshot.bytes) was) (IsOldOrNew s snapshot was) was now moment r

  by_standing : {T E : Type 0} (result : Result T E) (now : History) → Renews (other_file p.file) (file_rest (next_header p snapshot) snapshot.bytes) result was now
      → Renews (other_file s.file) (file_rest (next_header (position_of s) snapshot) snapshot.bytes) result was now
  by_standing result now r = subst (λ (h : Header). Renews h.file (file_rest h snapshot.bytes) result was now) header_is r

  pub checkpoint_fails : {T E D : Type 0} (new : Position) (d : D) (e : E) (now : History) → Renews {T = T} {E = D} (other_file p.file) (file_rest (next_header p snapshot) snapshot.bytes) (Err d) was now
      → Checkpoints {T = T} {E = E} new snapshot (Err e) s was now
  checkpoint_fails new d e now r = record { throughout = during now (by_standing (Err d) now r).throughout; placed = tt; quiet = tt; rests = tt; cut = tt }

  pub checkpoint_done : {T E D : Type 0} (new : Position) (x y : T) (now : History) → new ≡ moved_to p snapshot → Renews {T = T} {E = D} (other_file p.file) (file_rest (next_header p snapshot) snapshot.bytes) (Ok x) was now
      → Checkpoints {T = T} {E = E} new snapshot (Ok y) s was now
  checkpoint_done {T} {E} {D} new x y now moved r =
      let w = by_standing {T = T} {E = D} (Ok x) now r in
      let g = other_file s.file in
      let rest = file_rest (next_header (position_of s) snapshot) snapshot.bytes in
      let last = at_last (IsRenewing g rest was) was now w.throughout in
      let read : reads g now ≡ 1 ∷ rest = ap (λ (d : Disk). d.reads) w.done in
      let same : of_file s.file (files now) ≡ of_file s.file (files was) =
      file_of s.file file_low now ∙ ap (λ (d : Disk). d.reads) (last.other s.file apart) ∙ sym (file_of s.file file_low was) in
      let there : standing g (of_file g (files now)) ≡ Some (with_snapshot s snapshot) = ap (standing g) (file_of g other_low now ∙ read) ∙ new_stands in
      record {
        throughout = during now w.throughout;
        placed = record {
          attached = still_attached was now last.others placed.attached;
          current = overtakes s.file file_low (files now) s (with_snapshot s snapshot) (ap (standing s.file) same ∙ own) there refl;
          whole = refl;
          here = moved ∙ ap (λ (q : Position). moved_to q snapshot) placed.here
              ∙ ap (λ (q : Position). let z : Position = record (position_of (with_snapshot s snapshot)) { chain = q.chain } in z) (sym moved);
          read = subst (λ (q : Position). IfSome q.chain (λ chain. chain ≡ chain_of (with_snapshot s snapshot))) (sym moved) tt;
          last = ap length read ∙ spelled_size (next_header (position_of s) snapshot) snapshot.bytes refl ∙ omega arith;
          clear = ap (λ (l : List ℕ). get_or l (50 + length snapshot.bytes) 0) read ∙ spelled_clear (next_header (position_of s) snapshot) snapshot.bytes refl;
        };
        quiet = λ quiet. still_quiet g was now (rested g now _ w.done) last.other quiet;
        rests = rested g now _ w.done;
        cut = w.cut;
      }
