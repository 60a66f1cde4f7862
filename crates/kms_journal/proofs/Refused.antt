-- Calls that the contracts refuse: from each wrong list of calls or wrong answer, and its clause follows anything. They are of a fresh
-- store and of one with a record behind a clear commit mark.
use Rattle.std.proofs.Common.{◌≡◌, inl, inr, ℕ, zero, suc, ◌-◌, ◌^◌, ◌<◌, ◌≤◌, List, [], ◌∷◌, ◌++◌, length, get_or, lit<, lit≤, refl, sym, ◌∙◌, ap, arith, true, false}
use Rattle.std.specs.Prelude.{Option, Some, None, Ok, Err}
use Rattle.kms_host.specs.Disk.{Disk, disk, MayLeave, IsImage}
use Rattle.kms_host.specs.Faults.{Faults, HasCause}
use Rattle.kms_host.specs.History.{History}
use Rattle.kms_host.specs.Moment.{Throughout}
use Rattle.kms_host.specs.declared.call.Call.{Call}
use Rattle.kms_host.specs.declared.call.Call.TheVariants.{OnFile}
use Rattle.kms_host.specs.declared.call.Count.TheVariants as counts
use Rattle.kms_host.specs.declared.call.FileCall.TheVariants.{Measured, Wrote, CutTo, Synced}
use Rattle.std.proofs.lemmas.List.{get_or_append_left, get_or-append_right}
use Rattle.kms_host.proofs.DiskLaws.{is_image}
use Rattle.kms_host.proofs.Moments.{at_last}
use Rattle.kms_journal.specs.Checkpoint.{with_snapshot, IsOldOrNew, Checkpoints}
use Rattle.kms_journal.specs.Commit.{IsBeforeOrAfter, Commits}
use Rattle.kms_journal.specs.Create.{fresh, Creates}
use Rattle.kms_journal.specs.Device.{IsQuietStore, HasStoreCause}
use Rattle.kms_journal.specs.Fault.{Fails}
use Rattle.kms_journal.specs.Header.{is_header, is_in_range, snapshot_len, letters}
use Rattle.kms_journal.specs.Pieces.{Snapshot}
use Rattle.kms_journal.specs.Position.{Position, IsPlaced}
use Rattle.kms_journal.specs.Recovery.{KeepsStanding, Opens}
use Rattle.kms_journal.specs.Spelling.{header_rest, file_rest}
use Rattle.kms_journal.specs.Standing.{Standing, records_from, standing_from, standing, standing_of, with_framed}
use Rattle.kms_journal.specs.declared.fault.JournalFault.TheVariants as opening
use Rattle.kms_journal.specs.declared.chain.Chain.{Chain}
use Rattle.kms_journal.specs.declared.fault.Place.{Place}
use Rattle.kms_journal.specs.declared.fault.StoreFault.{StoreFault}
use Rattle.kms_journal.specs.declared.header.Header.{Header}

-- a host whose first file is this and whose second is empty, with these calls on the first, the newest first
abbrev with_file : List ℕ → List Call → History
with_file bytes calls = record { opening = (bytes, []); key_files = []; calls = calls }

abbrev quiet_at_first : (bytes : List ℕ) → IsQuietStore (with_file bytes [])
quiet_at_first bytes zero low = refl
quiet_at_first bytes (suc zero) low = refl
quiet_at_first bytes (suc (suc f)) low = absurd (omega arith)

-- the 58 bytes before the last commit mark of a fresh store with the tag 5, and a file that goes on so behind them
abbrev front : List ℕ
front = 1 ∷ 66 ∷ 75 ∷ 77 ∷ 83 ∷ 84 ∷ 79 ∷ 82 ∷ 69 ∷ 1 ∷ 0 ∷ 0 ∷ 0 ∷ 0 ∷ 0 ∷ 0 ∷ 0 ∷ 1 ∷ 0 ∷ 0 ∷ 0 ∷ 0 ∷ 0 ∷ 0 ∷ 0 ∷ 5 ∷ 0 ∷ 0 ∷ 0 ∷ 0 ∷ 0 ∷ 0 ∷ 0 ∷ 0
    ∷ 0 ∷ 0 ∷ 0 ∷ 0 ∷ 0 ∷ 0 ∷ 0 ∷ 0 ∷ 0 ∷ 0 ∷ 0 ∷ 0 ∷ 0 ∷ 0 ∷ 0 ∷ 8 ∷ 0 ∷ 0 ∷ 0 ∷ 0 ∷ 0 ∷ 0 ∷ 0 ∷ 0 ∷ []

abbrev store : List ℕ → List ℕ
store tail = front ++ tail

-- a framed record of one byte
abbrev framed : ℕ → List ℕ
framed byte = 0 ∷ 0 ∷ 0 ∷ 1 ∷ byte ∷ 0 ∷ []

stands : standing_of (store (0 ∷ []), []) ≡ Some (fresh 5)
unfolding standing standing_from records_from is_header is_in_range snapshot_len letters
stands = refl

-- a record behind a commit mark that is set, and behind one that isn't
with_record : (byte : ℕ) → standing_of (store (1 ∷ framed byte), []) ≡ Some (with_framed (fresh 5) (framed byte))
unfolding standing standing_from records_from is_header is_in_range snapshot_len letters
with_record byte = refl

without_record : (byte : ℕ) → standing_of (store (2 ∷ framed byte), []) ≡ Some (fresh 5)
unfolding standing standing_from records_from is_header is_in_range snapshot_len letters
without_record byte = refl

-- the first byte of the first record
first_byte : List (ℕ × List ℕ) → ℕ
first_byte [] = 0
first_byte (r ∷ records) = get_or r.1 0 0

byte_of : Option Standing → ℕ
byte_of None = 0
byte_of (Some s) = first_byte s.records

clash : (a b : ℕ) → a ≡ b → a < b → ⊥
clash a b e low = omega (arith, e, low)

same_front : (x y : List ℕ) (k : ℕ) → k < 58 → get_or (store x) k 0 ≡ get_or (store y) k 0
same_front x y k low = get_or_append_left front x 0 k low ∙ sym (get_or_append_left front y 0 k low)

same_back : (m n : ℕ) (tail : List ℕ) (k : ℕ) → 59 ≤ k → get_or (store (m ∷ tail)) k 0 ≡ get_or (store (n ∷ tail)) k 0
same_back m n tail k high = get_or-append_right (front ++ m ∷ []) tail 59 k 0 refl high ∙ sym (get_or-append_right (front ++ n ∷ []) tail 59 k 0 refl high)

only : (s t : Standing) → Some s ≡ Some t → s ≡ t
only s t e = cc

-- A commit.

-- It sets the commit mark before the record is synced: a stop may leave the mark, and any record behind it.
pub mark_before_the_record : Throughout (IsBeforeOrAfter (fresh 5) (framed 7) (with_file (store (0 ∷ [])) [])) (with_file (store (0 ∷ [])) [])
    (with_file (store (0 ∷ [])) (OnFile 0 (Wrote 58 (1 ∷ []) None) ∷ OnFile 0 (Wrote 59 (framed 7) None) ∷ []))
    → ⊥
unfolding byte_of first_byte
mark_before_the_record t =
    let was = with_file (store (0 ∷ [])) [] in
    let now = with_file (store (0 ∷ [])) (OnFile 0 (Wrote 58 (1 ∷ []) None) ∷ OnFile 0 (Wrote 59 (framed 7) None) ∷ []) in
    let may : MayLeave (disk 0 now) (store (1 ∷ framed 9)) = record {
      no_shorter = lit≤ tt;
      no_longer = lit≤ tt;
      stays = λ k long low out. elim out.0 [ inl before ↦ same_front (1 ∷ framed 9) (0 ∷ []) k before | inr behind ↦ absurd (omega (arith, low, behind)) ];
    } in
    let image : IsImage now (store (1 ∷ framed 9), []) = record { file_0 = may; file_1 = is_image [] } in
    elim ((at_last (IsBeforeOrAfter (fresh 5) (framed 7) was) was now t).images (quiet_at_first (store (0 ∷ []))) (store (1 ∷ framed 9), []) image) [
      | inl is ↦ clash 0 9 (ap byte_of (sym is ∙ with_record 9)) (lit< tt)
      | inr is ↦ clash 7 9 (ap byte_of (sym is ∙ with_record 9)) (lit< tt)
    ]

-- It is acknowledged before the commit mark is synced.
pub mark_not_synced : (old new : Position) → Commits {T = Unit {0}} {E = StoreFault} old new (framed 7) (Ok tt) (fresh 5) (with_file (store (0 ∷ [])) [])
    (with_file (store (0 ∷ [])) (OnFile 0 (Wrote 58 (1 ∷ []) None) ∷ OnFile 0 (Synced true) ∷ OnFile 0 (Wrote 59 (framed 7) None) ∷ []))
    → ⊥
mark_not_synced old new c =
    let range : ℕ × ℕ = (58, 59) in
    let none : range ∷ [] ≡ [] = ap (λ (d : Disk). d.ranges) c.rests in cc

-- It is acknowledged and does nothing.
pub does_nothing : (old new : Position) → Commits {T = Unit {0}} {E = StoreFault} old new (framed 7) (Ok tt) (fresh 5) (with_file (store (0 ∷ [])) []) (with_file (store (0 ∷ [])) []) → ⊥
unfolding byte_of first_byte
does_nothing old new c = clash 0 7 (ap byte_of (sym stands ∙ c.placed.current)) (lit< tt)

-- It goes on with a journal that has failed, which is placed nowhere.
pub goes_on_after_a_fault : (p : Position) (h : History) (s : Standing) → p.failed ≡ true → IsPlaced p h s → ⊥
goes_on_after_a_fault p h s failed placed = let e : false ≡ true = sym (ap (λ (q : Position). q.failed) placed.here) ∙ failed in cc

-- A recovery.

-- It reads on behind a commit mark that isn't set.
pub reads_on : (journal : Position) (now : History) → journal.end ≡ 64 → Opens (Ok journal) (with_file (store (2 ∷ framed 7)) []) now → ⊥
reads_on journal now end o =
    let same : fresh 5 ≡ o.answer.0 = only (fresh 5) o.answer.0 (sym (without_record 7) ∙ o.answer.1) in
    clash 58 64 (ap (λ (x : Standing). x.stop) same ∙ sym (ap (λ (p : Position). p.end) o.answer.2.here) ∙ end) (lit< tt)

-- It writes the commit mark before its cut is on the disk: a stop may leave the mark set, and the record behind it.
pub mark_before_the_cut : Throughout (KeepsStanding (with_file (store (2 ∷ framed 7)) [])) (with_file (store (2 ∷ framed 7)) [])
    (with_file (store (2 ∷ framed 7)) (OnFile 0 (Wrote 58 (0 ∷ []) None) ∷ OnFile 0 (CutTo 59 None) ∷ []))
    → ⊥
unfolding byte_of first_byte
mark_before_the_cut t =
    let was = with_file (store (2 ∷ framed 7)) [] in
    let now = with_file (store (2 ∷ framed 7)) (OnFile 0 (Wrote 58 (0 ∷ []) None) ∷ OnFile 0 (CutTo 59 None) ∷ []) in
    let may : MayLeave (disk 0 now) (store (1 ∷ framed 7)) = record {
      no_shorter = lit≤ tt;
      no_longer = lit≤ tt;
      stays = λ k long low out. elim out.0 [ inl before ↦ same_front (1 ∷ framed 7) (2 ∷ framed 7) k before | inr behind ↦ same_back 1 2 (framed 7) k behind ];
    } in
    let image : IsImage now (store (1 ∷ framed 7), []) = record { file_0 = may; file_1 = is_image [] } in
    let is = (at_last (KeepsStanding was) was now t).images (quiet_at_first (store (2 ∷ framed 7))) (store (1 ∷ framed 7), []) image in
    clash 0 7 (ap byte_of (sym (without_record 7) ∙ sym is ∙ with_record 7)) (lit< tt)

-- It answers that there is no store, or damage, where there is a whole one.
pub no_store_is_answered : (now : History) → Opens (Err opening.NoStore) (with_file (store (0 ∷ [])) []) now → ⊥
no_store_is_answered now o = let e : Some (fresh 5) ≡ None = sym stands ∙ o.answer.0 in cc

pub damage_is_answered : (place : Place) (chain : Chain) (now : History) → Opens (Err (opening.Damaged place chain)) (with_file (store (0 ∷ [])) []) now → ⊥
damage_is_answered place chain now o =
    let same : fresh 5 ≡ o.answer.0 = only (fresh 5) o.answer.0 (sym stands ∙ o.answer.1) in
    let whole : true ≡ false = ap (λ (x : Standing). x.is_whole) same ∙ o.answer.2 in
    cc

-- It writes in the file that isn't current.
pub writes_the_other_file : Throughout (KeepsStanding (with_file (store (0 ∷ [])) [])) (with_file (store (0 ∷ [])) [])
    (with_file (store (0 ∷ [])) (OnFile 1 (Wrote 0 (7 ∷ []) None) ∷ []))
    → ⊥
writes_the_other_file t =
    let was = with_file (store (0 ∷ [])) [] in
    let now = with_file (store (0 ∷ [])) (OnFile 1 (Wrote 0 (7 ∷ []) None) ∷ []) in
    let byte : ℕ = 7 in
    let same : byte ∷ [] ≡ [] = ap (λ (d : Disk). d.reads) ((at_last (KeepsStanding was) was now t).other (fresh 5) stands 1 (λ e. cc)) in
    cc

-- It answers that it is out of memory when it has written already.
pub out_of_memory_behind_a_write : Opens (Err opening.NoMemory) (with_file (store (0 ∷ [])) []) (with_file (store (0 ∷ [])) (OnFile 0 (Wrote 58 (0 ∷ []) None) ∷ [])) → ⊥
out_of_memory_behind_a_write o =
    let range : ℕ × ℕ = (58, 59) in
    let none : range ∷ [] ≡ [] = ap (λ (d : Disk). d.ranges) (o.answer.disk 0) in cc

-- A creation over a store.
pub created_over_a_store : (tag : ℕ) (now : History) → Creates tag (Ok tt) (with_file (store (0 ∷ [])) []) now → ⊥
created_over_a_store tag now c = let e : Some (fresh 5) ≡ None = sym stands ∙ c.answer.0 in cc

-- A fault is answered and no call failed; a call failed and none is answered.
pub fault_without_a_failed_call : (h : History) → Fails true h h → ⊥
fault_without_a_failed_call h f = omega (arith, f)

pub failed_call_passed_over : Fails false (with_file (store (0 ∷ [])) []) (with_file (store (0 ∷ [])) (OnFile 0 (Synced false) ∷ [])) → ⊥
failed_call_passed_over same = omega (arith, same)

-- A sync that failed is tried again, or the file is looked at once more.
pub sync_tried_again : Fails true (with_file (store (0 ∷ [])) []) (with_file (store (0 ∷ [])) (OnFile 0 (Synced false) ∷ OnFile 0 (Synced false) ∷ [])) → ⊥
sync_tried_again f = omega (arith, f.1)

pub looked_at_after_a_fault : Fails true (with_file (store (0 ∷ [])) []) (with_file (store (0 ∷ [])) (OnFile 0 (Measured (Some 59)) ∷ OnFile 0 (Synced false) ∷ [])) → ⊥
looked_at_after_a_fault f = let e : false ≡ true = f.0 in cc

-- Faults that no call had.
pub fault_of_its_own : (f : Faults) → f.store < 2 ^ 64 - 1 → HasCause {T = Unit {0}} {E = StoreFault} counts.Store f f (Err record {}) → ⊥
fault_of_its_own f low c = omega (arith, low, c.failed)

pub fault_of_its_own_at_opening : (f : Faults) → f.store < 2 ^ 64 - 1 → HasStoreCause {T = Position} opening.StoreFault f f (Err opening.StoreFault) → ⊥
fault_of_its_own_at_opening f low c = omega (arith, low, c.failed refl)

-- A checkpoint.

-- a snapshot of one byte, and what stands after the first commit mark of the next file, with any such byte
abbrev snapshot : ℕ → Snapshot
snapshot byte = record { ids = 0; steps = 0; bytes = byte ∷ [] }

abbrev next_header : Header
next_header = record { file = 1; generation = 2; tag = 5; ids = 0; steps = 0; snapshot = 1 }

abbrev next_rest : ℕ → List ℕ
next_rest byte = file_rest next_header (byte ∷ [])

with_next : (byte : ℕ) → standing_of (store (0 ∷ []), 1 ∷ next_rest byte) ≡ Some (with_snapshot (fresh 5) (snapshot byte))
unfolding standing standing_from records_from is_header is_in_range snapshot_len letters header_rest
with_next byte = refl

next_size : (byte : ℕ) → length (1 ∷ next_rest byte) ≡ 52
unfolding header_rest letters
next_size byte = refl

-- the first byte of the snapshot
snapshot_byte : Option Standing → ℕ
snapshot_byte None = 0
snapshot_byte (Some s) = get_or s.snapshot 0 0

-- It sets the first commit mark before the snapshot is synced: a stop may leave the mark, and any snapshot behind it.
pub mark_before_the_snapshot : Throughout (IsOldOrNew (fresh 5) (snapshot 7) (with_file (store (0 ∷ [])) [])) (with_file (store (0 ∷ [])) [])
    (with_file (store (0 ∷ [])) (OnFile 1 (Wrote 0 (1 ∷ []) None) ∷ OnFile 1 (Wrote 1 (next_rest 7) None) ∷ OnFile 1 (Synced true) ∷ OnFile 1 (CutTo 1 None) ∷ OnFile 1 (Wrote 0 (0 ∷ []) None) ∷ []))
    → ⊥
unfolding snapshot_byte
mark_before_the_snapshot t =
    let was = with_file (store (0 ∷ [])) [] in
    let now = with_file (store (0 ∷ [])) (OnFile 1 (Wrote 0 (1 ∷ []) None) ∷ OnFile 1 (Wrote 1 (next_rest 7) None) ∷ OnFile 1 (Synced true) ∷ OnFile 1 (CutTo 1 None) ∷ OnFile 1 (Wrote 0 (0 ∷ []) None) ∷ []) in
    let may : MayLeave (disk 1 now) (1 ∷ next_rest 9) = record {
      no_shorter = omega (arith, next_size 9);
      no_longer = omega (arith, next_size 9, next_size 7);
      stays = λ k long low out. elim out.0 [ inl before ↦ absurd (omega (arith, before)) | inr behind ↦ absurd (omega (arith, low, behind)) ];
    } in
    let image : IsImage now (store (0 ∷ []), 1 ∷ next_rest 9) = record { file_0 = is_image (store (0 ∷ [])); file_1 = may } in
    elim ((at_last (IsOldOrNew (fresh 5) (snapshot 7) was) was now t).images (quiet_at_first (store (0 ∷ []))) (store (0 ∷ []), 1 ∷ next_rest 9) image) [
      | inl is ↦ clash 0 9 (ap snapshot_byte (sym is ∙ with_next 9)) (lit< tt)
      | inr is ↦ clash 7 9 (ap snapshot_byte (sym is.0 ∙ with_next 9)) (lit< tt)
    ]

-- It cuts the file that is current before the new one is whole.
pub old_file_cut : Throughout (IsOldOrNew (fresh 5) (snapshot 7) (with_file (store (0 ∷ [])) [])) (with_file (store (0 ∷ [])) []) (with_file (store (0 ∷ [])) (OnFile 0 (CutTo 1 None) ∷ [])) → ⊥
old_file_cut t =
    let was = with_file (store (0 ∷ [])) [] in
    let now = with_file (store (0 ∷ [])) (OnFile 0 (CutTo 1 None) ∷ []) in
    let same = ap (λ (d : Disk). d.shortest) (at_last (IsOldOrNew (fresh 5) (snapshot 7) was) was now t).old in
    clash 1 59 same (lit< tt)

-- It is acknowledged, and the new file has the generation of the old one.
pub generation_not_raised : (new : Position) (now : History) → new.generation ≡ 1 → Checkpoints {T = Unit {0}} {E = StoreFault} new (snapshot 7) (Ok tt) (fresh 5) (with_file (store (0 ∷ [])) []) now → ⊥
generation_not_raised new now is c = clash 1 2 (sym is ∙ ap (λ (p : Position). p.generation) c.placed.here) (lit< tt)

-- It cuts a file twice, or syncs before it cuts.
pub cut_twice : Throughout (IsOldOrNew (fresh 5) (snapshot 7) (with_file (store (0 ∷ [])) [])) (with_file (store (0 ∷ [])) [])
    (with_file (store (0 ∷ [])) (OnFile 1 (CutTo 1 None) ∷ OnFile 1 (CutTo 1 None) ∷ []))
    → ⊥
cut_twice t =
    let was = with_file (store (0 ∷ [])) [] in
    let now = with_file (store (0 ∷ [])) (OnFile 1 (CutTo 1 None) ∷ OnFile 1 (CutTo 1 None) ∷ []) in
    omega (arith, (at_last (IsOldOrNew (fresh 5) (snapshot 7) was) was now t).once)

pub synced_before_the_cut : Throughout (IsOldOrNew (fresh 5) (snapshot 7) (with_file (store (0 ∷ [])) [])) (with_file (store (0 ∷ [])) []) (with_file (store (0 ∷ [])) (OnFile 1 (Synced true) ∷ [])) → ⊥
synced_before_the_cut t =
    let was = with_file (store (0 ∷ [])) [] in
    let now = with_file (store (0 ∷ [])) (OnFile 1 (Synced true) ∷ []) in
    omega (arith, (at_last (IsOldOrNew (fresh 5) (snapshot 7) was) was now t).syncs)

-- A commit cuts a file.
pub cut_in_a_commit : Throughout (IsBeforeOrAfter (fresh 5) (framed 7) (with_file (store (0 ∷ [])) [])) (with_file (store (0 ∷ [])) []) (with_file (store (0 ∷ [])) (OnFile 1 (CutTo 1 None) ∷ [])) → ⊥
cut_in_a_commit t =
    let was = with_file (store (0 ∷ [])) [] in
    let now = with_file (store (0 ∷ [])) (OnFile 1 (CutTo 1 None) ∷ []) in
    omega (arith, (at_last (IsBeforeOrAfter (fresh 5) (framed 7) was) was now t).cuts)
