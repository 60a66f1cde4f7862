-- What a host in memory tells, call after call.
use Rattle.std.proofs.Common.{◌≡◌, ◌≤◌, ℕ, List, [], ◌∷◌, ◌++◌, Option, Some, None, Bool, true, false, not, cond, min, length, refl, sym, ◌∙◌, ap, subst, arith}
use Rattle.std.specs.Prelude.{Result, Ok, Err, IsOkAnd, IfOk, is_some, is_none, ◌&&◌, ◌||◌, if◌then◌else◌, reverse}
use Rattle.std.proofs.lemmas.List.{reverse-append}
use Rattle.std.proofs.lemmas.Option.{cond_some}
use Rattle.kms_host.specs.Memory.{next}
use Rattle.kms_host.specs.History.{History, Tells, then_call}
use Rattle.kms_host.specs.Recording.{Recording, Notes, NotesOn, told_calls, history_of}
use Rattle.kms_host.specs.Disk.{Disk, after_write, after_cut, after_call, MayLeave}
use Rattle.kms_host.specs.declared.call.Call.{Call}
use Rattle.kms_host.specs.declared.call.Call.TheVariants.{OnFile}
use Rattle.kms_host.specs.declared.call.FileCall.{FileCall}
use Rattle.kms_host.specs.declared.call.FileCall.TheVariants.{Wrote, CutTo}
use Rattle.kms_host.proofs.DiskLaws.{write_keeps, cut_keeps}

is_last : {E : Type 0} (calls calls' now : List Call) (call : Result Call E) → IsOkAnd call (λ c. calls' ≡ calls ++ c ∷ []) → reverse calls' ≡ now → IsOkAnd call (λ c. now ≡ c ∷ reverse calls)
is_last calls calls' now (Ok c) added is = sym is ∙ ap reverse added ∙ reverse-append calls (c ∷ [])
is_last calls calls' now (Err e) added is = added

lost : (tells tells' : Bool) (calls calls' : List Call) → (is_some (told_calls tells calls) && is_none (told_calls tells' calls')) ≡ (tells && not tells')
lost true true calls calls' = refl
lost true false calls calls' = refl
lost false true calls calls' = refl
lost false false calls calls' = refl

-- a call that was kept at the end, as long as there was memory for it
pub notes_kept : {E : Type 0} (calls calls' : List Call) (tells tells' : Bool) (wanted wanted' : ℕ) (call : Result Call E) (starved : Bool) (old : Recording)
    → record { calls = told_calls tells calls; wanted = wanted } ≡ old
    → (tells' ≡ true → (tells ≡ true) × IsOkAnd call (λ c. calls' ≡ calls ++ c ∷ []))
    → wanted' ≡ (if starved || (tells && not tells') then next wanted else wanted)
    → wanted ≤ wanted'
    → Notes call starved old (record { calls = told_calls tells' calls'; wanted = wanted' })
notes_kept calls calls' tells tells' wanted wanted' call starved old is kept count later = record {
  told = λ now told.
      let p = cond_some tells' (reverse calls') now told in
      let s = kept p.0 in
      (reverse calls, sym (ap (λ (r : Recording). r.calls) is) ∙ ap (λ (b : Bool). told_calls b calls) s.0, is_last calls calls' now call s.1 p.1);
  count =
      count ∙ ap (λ (b : Bool). cond (starved || b) (next wanted) wanted) (sym (lost tells tells' calls calls'))
      ∙ ap (λ (r : Recording). cond (starved || (is_some r.calls && is_none (told_calls tells' calls'))) (next r.wanted) r.wanted) is;
  later = subst (λ (r : Recording). r.wanted ≤ wanted') is later;
}

added : {E : Type 0} (call : Result Call E) (k : Call) (calls was : List Call) → IfOk call (λ c. c ≡ k) → IsOkAnd call (λ c. calls ≡ c ∷ was) → calls ≡ k ∷ was
added (Ok c) k calls was is new = new ∙ ap (λ (x : Call). x ∷ was) is
added (Err e) k calls was is new = absurd new

pub told_once : (opening : List ℕ × List ℕ) (key_files : List (List ℕ × List ℕ)) (calls : Option (List Call)) (h : History) → history_of opening key_files calls ≡ Some h
    → (l : List Call) × (calls ≡ Some l) × (record { opening = opening; key_files = key_files; calls = l } ≡ h)
told_once opening key_files None h is = absurd (grind (arith, is))
told_once opening key_files (Some l) h is = (l, refl, grind (arith, is))

-- what a host tells after a call that it recorded
pub tells_noted : {E : Type 0} (opening : List ℕ × List ℕ) (key_files : List (List ℕ × List ℕ)) (call : Result Call E) (starved : Bool) (old new : Recording) (k : Call)
    → IfOk call (λ c. c ≡ k) → Notes call starved old new
    → Tells (history_of opening key_files old.calls) (history_of opening key_files new.calls) (λ was now. now ≡ then_call was k)
tells_noted opening key_files call starved old new k is noted = record {
  told = λ now told.
      let p = told_once opening key_files new.calls now told in
      let s = noted.told p.0 p.1 in
      let was : History = record { opening = opening; key_files = key_files; calls = s.0 } in
      let same : p.0 ≡ k ∷ s.0 = added call k p.0 s.0 is s.2 in
      (was, ap (history_of opening key_files) s.1, sym p.2 ∙ ap (λ (l : List Call). let h : History = record { opening = opening; key_files = key_files; calls = l } in h) same);
}

-- A write or a cut that failed, and left the file as it was.

failed_with : {E : Type 0} (file : ℕ) (c : FileCall) (d d' : Disk) (P : Type 0) (call : Result Call E) (starved : Bool) (old new : Recording) (C : FileCall → Type 0)
    → IfOk call (λ k. k ≡ OnFile file c) → Notes call starved old new → (P → (d' ≡ after_call d c) × C c) → NotesOn file old new d d' P C
failed_with file c d d' P call starved old new C is noted after = record {
  told = λ calls told.
      let s = noted.told calls told in
      (s.0, s.1, λ p. (c, added call (OnFile file c) calls s.0 is s.2, (after p).0, (after p).1));
}

pub failed_write : {E : Type 0} (file at place : ℕ) (piece left : List ℕ) (d d' : Disk) (call : Result Call E) (starved : Bool) (old new : Recording)
    → IfOk call (λ k. k ≡ OnFile file (Wrote at piece (Some left))) → Notes call starved old new → MayLeave d d.reads → left ≡ d'.reads
    → d' ≡ after_write d place piece d.reads → place ≡ min at (length d.reads)
    → NotesOn file old new d d' (at ≤ length d.reads) (λ c. (x : Option (List ℕ)) × (c ≡ Wrote at piece x) × ((after : List ℕ) × (x ≡ Some after) × MayLeave (after_write d at piece d.reads) after))
failed_write file at place piece left d d' call starved old new is noted image same after low =
    failed_with file (Wrote at piece (Some left)) d d' (at ≤ length d.reads) call starved old new _ is noted
    (λ le.
    let here : place ≡ at = omega (arith, low, le) in
    let read : left ≡ d.reads = same ∙ ap (λ (x : Disk). x.reads) after in
    let done : d' ≡ after_write d at piece left = after ∙ ap (λ (n : ℕ). after_write d n piece d.reads) here ∙ ap (λ (l : List ℕ). after_write d at piece l) (sym read) in
    (done, (Some left, refl, (left, refl, subst (λ (l : List ℕ). MayLeave (after_write d at piece d.reads) l) (sym read) (write_keeps d at piece d.reads d.reads image)))))

pub failed_cut : {E : Type 0} (file size place : ℕ) (left : List ℕ) (d d' : Disk) (call : Result Call E) (starved : Bool) (old new : Recording)
    → IfOk call (λ k. k ≡ OnFile file (CutTo size (Some left))) → Notes call starved old new → MayLeave d d.reads → left ≡ d'.reads
    → d' ≡ after_cut d place d.reads → place ≡ min size (length d.reads)
    → NotesOn file old new d d' (size ≤ length d.reads) (λ c. (x : Option (List ℕ)) × (c ≡ CutTo size x) × ((after : List ℕ) × (x ≡ Some after) × MayLeave (after_cut d size d.reads) after))
failed_cut file size place left d d' call starved old new is noted image same after low =
    failed_with file (CutTo size (Some left)) d d' (size ≤ length d.reads) call starved old new _ is noted
    (λ le.
    let here : place ≡ size = omega (arith, low, le) in
    let read : left ≡ d.reads = same ∙ ap (λ (x : Disk). x.reads) after in
    let done : d' ≡ after_cut d size left = after ∙ ap (λ (n : ℕ). after_cut d n d.reads) here ∙ ap (λ (l : List ℕ). after_cut d size l) (sym read) in
    (done, (Some left, refl, (left, refl, subst (λ (l : List ℕ). MayLeave (after_cut d size d.reads) l) (sym read) (cut_keeps d size d.reads d.reads image)))))
