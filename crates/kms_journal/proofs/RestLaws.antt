-- For callers: what a store at rest stands for, what leaves it so, and how a record is framed.
use Rattle.std.proofs.Common.{◌≡◌, ℕ, suc, ◌+◌, ◌-◌, ◌^◌, ◌<◌, List, [], ◌∷◌, ◌++◌, length, get_or, take, refl, sym, ◌∙◌, ap, subst, arith, length-append}
use Rattle.std.specs.Prelude.{Option, Some, None, Result, Ok, Bool}
use Rattle.std.proofs.lemmas.List.{take_at, get_or_at}
use Rattle.std.proofs.lemmas.Nat.{from_be_bytes-to_be_bytes_4}
use Rattle.kms_host.specs.History.{History, Tells, WhereTold}
use Rattle.kms_host.specs.Disk.{Disk, disk, reads, files, at_rest, IsImage}
use Rattle.kms_host.specs.Store.{IsAttached}
use Rattle.kms_host.proofs.Moments.{known_after_told, at_last}
use Rattle.kms_journal.specs.Answers.{Looks}
use Rattle.kms_journal.specs.Commit.{IsFramed, frame}
use Rattle.kms_journal.specs.Create.{IsNoneOrFresh, Creates}
use Rattle.kms_journal.specs.Device.{IsQuietStore, IsUntouched}
use Rattle.kms_journal.specs.Position.{Position, IsPlaced, IsAtRest}
use Rattle.kms_journal.specs.Recovery.{Opens}
use Rattle.kms_journal.specs.Standing.{Standing, standing_of, record_len, record_in}
use Rattle.kms_journal.specs.declared.fault.CreateFault.{CreateFault}
use Rattle.kms_journal.proofs.OpeningLaws.{untouched_keeps}
use Rattle.kms_journal.proofs.ReadingLaws.{untouched}
use Rattle.kms_journal.proofs.FileLaws.{still_attached}

-- two clauses of the same calls as one
pub tells_both : {a b : Option History} {R S : History → History → Type 0} → Tells a b R → Tells a b S → Tells a b (λ was now. R was now × S was now)
tells_both {S = S} first second = record {
  told = λ now is.
      let p = first.told now is in
      let q = second.told now is in
      let same : q.0 ≡ p.0 = only_one q.0 p.0 (sym q.1 ∙ p.1) in
      (p.0, p.1, (p.2, subst (λ (h : History). S h now) same q.2));
}
  where
    only_one : (x y : History) → Some x ≡ Some y → x ≡ y
    only_one x y e = cc

-- with nothing pending each crash image stands for what the files stand for
pub quiet_image : (h : History) → IsQuietStore h → (image : List ℕ × List ℕ) → IsImage h image → standing_of image ≡ standing_of (files h)
quiet_image h quiet image is = (untouched_keeps h h (untouched h)).images quiet image is

pub rest_image : (p : Position) (h : History) (s : Standing) → IsAtRest p h s → (image : List ℕ × List ℕ) → IsImage h image → standing_of image ≡ Some s
rest_image p h s rest image is = quiet_image h rest.quiet image is ∙ rest.placed.current

-- calls that touch no file leave a journal placed, and a store at rest
pub same_files_by_disk : (was now : History) → ((f : ℕ) → disk f now ≡ disk f was) → files now ≡ files was
same_files_by_disk was now same =
    ap (λ (d : Disk). let x : List ℕ × List ℕ = (d.reads, reads 1 now) in x) (same 0)
    ∙ ap (λ (d : Disk). let x : List ℕ × List ℕ = (reads 0 was, d.reads) in x) (same 1)

pub placed_stays : (p : Position) (was now : History) (s : Standing) → ((f : ℕ) → disk f now ≡ disk f was) → IsAttached now → IsPlaced p was s → IsPlaced p now s
placed_stays p was now s same attached placed =
    let read : reads s.file now ≡ reads s.file was = ap (λ (d : Disk). d.reads) (same s.file) in
    record {
      attached = attached;
      current = ap standing_of (same_files_by_disk was now same) ∙ placed.current;
      whole = placed.whole;
      here = placed.here;
      read = placed.read;
      last = ap length read ∙ placed.last;
      clear = ap (λ (l : List ℕ). get_or l s.stop 0) read ∙ placed.clear;
    }

pub placed_untouched : (p : Position) (was now : History) (s : Standing) → IsUntouched was now → IsPlaced p was s → IsPlaced p now s
placed_untouched p was now s u placed = placed_stays p was now s u.disk (still_attached was now u.others placed.attached) placed

pub quiet_stays : (was now : History) → ((f : ℕ) → disk f now ≡ disk f was) → IsQuietStore was → IsQuietStore now
quiet_stays was now same quiet f low = same f ∙ quiet f low ∙ ap (λ (d : Disk). at_rest d.reads) (sym (same f))

-- and so does taking what the opening read
pub placed_taken : (p : Position) (h : History) (s : Standing) → IsPlaced p h s → let q : Position = record p { chain = None } in IsPlaced q h s
placed_taken p h s placed = record {
  attached = placed.attached;
  current = placed.current;
  whole = placed.whole;
  here = ap (λ (q : Position). let x : Position = record q { chain = None } in x) placed.here;
  read = tt;
  last = placed.last;
  clear = placed.clear;
}

-- a store that was opened is one whose journal is placed
pub opened_placed : {a b : Option History} (p : Position) → Tells a b (Opens (Ok p)) → WhereTold b (λ h. (s : Standing) × IsPlaced p h s)
opened_placed p told = known_after_told (λ h. (s : Standing) × IsPlaced p h s) told (λ was now o. (o.answer.0, o.answer.2))

-- and looking for a store and creating one leaves it attached
pub looked_attached : {E : Type 0} (result : Result Bool E) (was now : History) → Looks result was now → IsAttached was → IsAttached now
looked_attached result was now l a = still_attached was now (at_last (IsUntouched was) was now l.throughout).others a

pub created_attached : (tag : ℕ) (result : Result (Unit {0}) CreateFault) (was now : History) → Creates tag result was now → IsAttached was → IsAttached now
created_attached tag result was now c a = still_attached was now (at_last (IsNoneOrFresh tag was) was now c.throughout).others a

-- a framed record is framed, and it is that record
module _ (item : List ℕ) (low : length item < 2 ^ 32) where
  len_is : record_len (1 ∷ frame item) ≡ length item
  len_is = from_be_bytes-to_be_bytes_4 (length item) low

  pub frame_is_framed : IsFramed (frame item)
  frame_is_framed = record {
    size = ap (λ (n : ℕ). n + 5) len_is ∙ omega (arith, length-append item (0 ∷ []));
    clear =
        let last : length (frame item) - 1 ≡ suc (suc (suc (suc (length item)))) = omega (arith, length-append item (0 ∷ [])) in
        ap (λ (n : ℕ). get_or (frame item) n 0) last ∙ get_or_at item 0 [] 0 (length item) refl;
  }

  pub frame_holds : record_in (1 ∷ frame item) ≡ item
  frame_holds = ap (λ (n : ℕ). take n (item ++ 0 ∷ [])) len_is ∙ take_at item (0 ∷ []) (length item) refl
