-- The creation of a store, at each moment.
use Rattle.std.proofs.Common.{◌≡◌, ◌≢◌, inl, inr, ℕ, ◌^◌, ◌<◌, List, ◌∷◌, length, get_or, refl, sym, ◌∙◌, ap, arith, Bool, true, false, cond}
use Rattle.std.specs.Prelude.{Option, Some, None, is_some, nat_lt, Ok, Err}
use Rattle.kms_host.specs.History.{History}
use Rattle.kms_host.specs.Disk.{Disk, disk, reads, files, IsImage}
use Rattle.kms_host.specs.Store.{IsAttached}
use Rattle.kms_host.specs.Moment.{Throughout}
use Rattle.kms_host.proofs.Moments.{throughout_weaker, joined, at_last}
use Rattle.kms_journal.specs.Create.{fresh, fresh_header, fresh_rest, no_changes, IsNoneOrFresh, Creates}
use Rattle.kms_journal.specs.Current.{IsCurrentOf}
use Rattle.kms_journal.specs.Device.{IsQuiet, IsQuietStore, IsUntouched}
use Rattle.kms_journal.specs.Renewal.{IsRenewing, Renews}
use Rattle.kms_journal.specs.Standing.{Standing, standing, standing_of, newer}
use Rattle.kms_journal.specs.declared.header.Current.{Current}
use Rattle.kms_journal.specs.declared.fault.CreateFault.TheVariants.{Exists, StoreFault}
use Rattle.kms_journal.proofs.CurrentLaws.{found_stands}
use Rattle.kms_journal.proofs.FileLaws.{quiet_part, rested, still_attached, still_quiet}
use Rattle.kms_journal.proofs.NoNewerLaws.{still_none}
use Rattle.kms_journal.proofs.OpeningLaws.{untouched_keeps}
use Rattle.kms_journal.proofs.ReadingLaws.{quiet_after}
use Rattle.kms_journal.proofs.SpellingLaws.{spelled_stands, spelled_size, spelled_clear}

-- whether there is one
pub is_there : {A : Type 0} (o : Option A) → is_some o ≡ true → (x : A) × (o ≡ Some x)
is_there None e = cc
is_there (Some x) e = (x, refl)

pub is_not_there : {A : Type 0} (o : Option A) → is_some o ≡ false → o ≡ None
is_not_there None e = refl
is_not_there (Some x) e = cc

-- where there is no store, neither file stands for anything
both_none : (a b : Option Standing) → newer a b ≡ None → (a ≡ None) × (b ≡ None)
both_none None b e = (refl, e)
both_none (Some a) None e = cc
both_none (Some a) (Some b) e = by_test (nat_lt a.generation b.generation) e
  where
    by_test : (t : Bool) → cond t (Some b) (Some a) ≡ None → (Some a ≡ None) × (Some b ≡ None)
    by_test true e = cc
    by_test false e = cc

fresh_stands : (tag : ℕ) → tag < 2 ^ 60 → standing 0 (1 ∷ fresh_rest tag) ≡ Some (fresh tag)
fresh_stands tag low =
    spelled_stands (fresh_header tag) no_changes
    (record { generation = omega arith; some = omega arith; tag = low; ids = omega arith; steps = omega arith; snapshot = omega arith })
    refl

module _ (tag : ℕ) (low : tag < 2 ^ 60) (was : History) where
  -- while the files are read
  reading : (h : History) → IsUntouched was h → IsNoneOrFresh tag was h
  reading h u =
      let k = untouched_keeps was h u in
      record { images = λ quiet image is. inl (k.images quiet image is); store = λ s is. u; other = λ f ne. u.disk f; others = k.others; syncs = omega (arith, k.syncs) }

  pub read_through : (mid : History) → Throughout (IsUntouched was) was mid → Throughout (IsNoneOrFresh tag was) was mid
  read_through mid t = throughout_weaker (IsUntouched was) (IsNoneOrFresh tag was) was mid reading t

  pub exists : (mid : History) → Throughout (IsUntouched was) was mid → (found : Option Current) → IsCurrentOf (files was) found → is_some found ≡ true → Creates tag (Err Exists) was mid
  exists mid t found is some =
      let s = is_there (standing_of (files was)) (sym (found_stands (files was) found is) ∙ some) in
      record { throughout = read_through mid t; answer = (s.0, s.1, at_last (IsUntouched was) was mid t) }

  pub read_fails : (mid : History) → Throughout (IsUntouched was) was mid → Creates tag (Err StoreFault) was mid
  read_fails mid t = record { throughout = read_through mid t; answer = tt }

  module _ (none : standing_of (files was) ≡ None) where
    first_none : standing 0 (reads 0 was) ≡ None
    first_none = (both_none (standing 0 (reads 0 was)) (standing 1 (reads 1 was)) none).0

    no_store : {A : Type 0} (s : Standing) → standing_of (files was) ≡ Some s → A
    no_store s is = let e : None ≡ Some s = sym none ∙ is in cc

    second_none : standing 1 (reads 1 was) ≡ None
    second_none = (both_none (standing 0 (reads 0 was)) (standing 1 (reads 1 was)) none).1

    -- what both files stand for, by the first
    both_are : (h : History) → ((f : ℕ) → 0 ≢ f → disk f h ≡ disk f was) → IsQuietStore was → (image : List ℕ × List ℕ) → IsImage h image → (o : Option Standing) → standing 0 image.0 ≡ o → standing_of image ≡ newer o None
    both_are h other quiet image is o first =
        let second : standing 1 image.1 ≡ None = ap (standing 1) (quiet_part 1 (omega arith) was h (quiet 1 (omega arith)) (other 1 (λ e. cc)) image is) ∙ second_none in
        ap (λ (x : Option Standing). newer x (standing 1 image.1)) first ∙ ap (newer o) second

    -- it is written anew
    renewing : (mid h : History) → IsUntouched was mid → IsRenewing 0 (fresh_rest tag) mid h → IsNoneOrFresh tag was h
    renewing mid h u r = record {
      images = λ quiet image is.
          let here : IsQuiet 0 mid = quiet_after was mid u quiet 0 (omega arith) in
          let nothing : standing 0 (reads 0 mid) ≡ None = ap (λ (d : Disk). standing 0 d.reads) (u.disk 0) ∙ first_none in
          let join : (o : Option Standing) → standing 0 image.0 ≡ o → standing_of image ≡ newer o None = λ o first. both_are h (λ f ne. r.other f ne ∙ u.disk f) quiet image is o first in
          elim (r.images here image.0 is.file_0) [
            | inl no_newer ↦ inl (join None (still_none 0 (reads 0 mid) image.0 nothing no_newer) ∙ sym none)
            | inr same ↦ inr (none, join (Some (fresh tag)) (ap (standing 0) same.0 ∙ fresh_stands tag low))
          ];
      store = λ s is. no_store s is;
      other = λ f ne. r.other f ne ∙ u.disk f;
      others = r.others ∙ u.others;
      syncs = omega (arith, r.syncs, r.once, u.syncs);
    }

    during : (mid now : History) → Throughout (IsUntouched was) was mid → Throughout (IsRenewing 0 (fresh_rest tag) mid) mid now → Throughout (IsNoneOrFresh tag was) was now
    during mid now t r =
        joined (IsNoneOrFresh tag was) was mid now (read_through mid t)
        (throughout_weaker (IsRenewing 0 (fresh_rest tag) mid) (IsNoneOrFresh tag was) mid now (λ h x. renewing mid h (at_last (IsUntouched was) was mid t) x) r)

    pub renew_fails : {T E : Type 0} (d : E) (mid now : History) → Throughout (IsUntouched was) was mid → Renews {T = T} {E = E} 0 (fresh_rest tag) (Err d) mid now → Creates tag (Err StoreFault) was now
    renew_fails d mid now t r = record { throughout = during mid now t r.throughout; answer = tt }

    pub created : {T E : Type 0} (x : T) (mid now : History) → IsAttached was → Throughout (IsUntouched was) was mid → Renews {T = T} {E = E} 0 (fresh_rest tag) (Ok x) mid now → Creates tag (Ok tt) was now
    created x mid now attached t r =
        let u = at_last (IsUntouched was) was mid t in
        let last = at_last (IsRenewing 0 (fresh_rest tag) mid) mid now r.throughout in
        let other : (f : ℕ) → 0 ≢ f → disk f now ≡ disk f was = λ f ne. last.other f ne ∙ u.disk f in
        let read : reads 0 now ≡ 1 ∷ fresh_rest tag = ap (λ (d : Disk). d.reads) r.done in
        let second : standing 1 (reads 1 now) ≡ None = ap (λ (d : Disk). standing 1 d.reads) (other 1 (λ x. cc)) ∙ second_none in
        record {
          throughout = during mid now t r.throughout;
          answer = (
            none,
            record {
              attached = still_attached was now (last.others ∙ u.others) attached;
              current = ap (λ (o : Option Standing). newer o (standing 1 (reads 1 now))) (ap (standing 0) read ∙ fresh_stands tag low) ∙ ap (newer (Some (fresh tag))) second;
              whole = refl;
              here = refl;
              read = tt;
              last = ap length read ∙ spelled_size (fresh_header tag) no_changes refl;
              clear = ap (λ (l : List ℕ). get_or l 58 0) read ∙ spelled_clear (fresh_header tag) no_changes refl;
            },
            read,
            λ quiet. still_quiet 0 was now (rested 0 now _ r.done) other quiet,
            rested 0 now _ r.done,
          );
        }
