-- What a host in memory keeps beside its calls stays what they say.
use Rattle.std.proofs.Common.{◌≡◌, ◌≤◌, ◌+◌, ◌^◌, ℕ, List, ◌∷◌, ◌++◌, Option, Some, None, Bool, true, false, cond, min, take, drop, length, nat_eq, nat_lt, refl, sym, ◌∙◌, ap, subst, arith}
use Rattle.std.proofs.lemmas.Option.{cond_some}
use Rattle.std.specs.Prelude.{Result, Ok, Err, IfOk, IfSome, OnOk, OnErr, is_ok, is_err, is_some, unwrap_or}
use Rattle.kms_host.specs.Disk.{Disk, disk, reads, after_call, after_write, after_cut, Left, MayLeave, IsImage}
use Rattle.kms_host.specs.History.{History, Tells, WhereTold, HasFirst, then_call, answer, given}
use Rattle.kms_host.specs.KeyFiles.{named}
use Rattle.kms_host.specs.Line.{sent, opened}
use Rattle.kms_host.specs.Memory.{AddsTo, next_line}
use Rattle.kms_host.specs.Recording.{Recording, Notes, NotesOn, Agrees, history_of}
use Rattle.kms_host.specs.declared.bytes.NoMemory.{NoMemory}
use Rattle.kms_host.specs.declared.call.Call.{Call}
use Rattle.kms_host.specs.declared.call.Call.TheVariants.{Text, Listened, Came, Attached, Took, Gave, Shut, OnFile, Told, Drew}
use Rattle.kms_host.specs.declared.call.FileCall.{FileCall}
use Rattle.kms_host.specs.declared.call.FileCall.TheVariants.{Measured, Read, Wrote, CutTo}
use Rattle.kms_host.specs.declared.call.NameFault.{NameFault}
use Rattle.kms_host.specs.declared.call.Purpose.{Purpose}
use Rattle.kms_host.proofs.DiskLaws.{disk_there, disk_elsewhere}
use Rattle.kms_host.proofs.Moments.{known_with_told, tells_with, tells_weaker}
use Rattle.kms_host.proofs.RecordingLaws.{told_once, tells_noted}

-- the line that comes next is the one after the newest
next_is : (lines n : ℕ) (next : Option ℕ) → next ≡ next_line lines n → IfSome next (λ line. line ≡ lines + 1)
next_is lines n None is = tt
next_is lines n (Some line) is = sym (cond_some (nat_lt (lines + 1) (min n (2 ^ 32))) (lines + 1) line (sym is)).1

-- a call that is on no file, sends nothing and opens no line
pub record IsApart (k : Call) : Type 0 where
  pub opens : (calls : List Call) → opened (k ∷ calls) ≡ opened calls
  pub sends : (line : ℕ) (calls : List Call) → sent line (k ∷ calls) ≡ sent line calls
  pub keeps : (file : ℕ) (h : History) → disk file (then_call h k) ≡ disk file h

pub apart_text : (name : List ℕ) (room : ℕ) (bytes : Result (List ℕ) NameFault) → IsApart (Text name room bytes)
apart_text name room bytes = record { opens = λ calls. refl; sends = λ line calls. refl; keeps = λ file h. refl }

pub apart_attached : (name : List ℕ) (done : Result (Unit {0}) NameFault) → IsApart (Attached name done)
apart_attached name done = record { opens = λ calls. refl; sends = λ line calls. refl; keeps = λ file h. refl }

pub apart_listened : (address : List ℕ) (done : Result (Unit {0}) NameFault) → IsApart (Listened address done)
apart_listened address done = record { opens = λ calls. refl; sends = λ line calls. refl; keeps = λ file h. refl }

pub apart_came_not : IsApart (Came None)
apart_came_not = record { opens = λ calls. refl; sends = λ line calls. refl; keeps = λ file h. refl }

pub apart_took : (l room : ℕ) (bytes : Option (List ℕ)) → IsApart (Took l room bytes)
apart_took l room bytes = record { opens = λ calls. refl; sends = λ line calls. refl; keeps = λ file h. refl }

pub apart_gave_not : (l : ℕ) (piece : List ℕ) → IsApart (Gave l piece None)
apart_gave_not l piece = record { opens = λ calls. refl; sends = λ line calls. refl; keeps = λ file h. refl }

pub apart_shut : (l : ℕ) → IsApart (Shut l)
apart_shut l = record { opens = λ calls. refl; sends = λ line calls. refl; keeps = λ file h. refl }

pub apart_told : (t : ℕ) → IsApart (Told t)
apart_told t = record { opens = λ calls. refl; sends = λ line calls. refl; keeps = λ file h. refl }

pub apart_drew : (purpose : Purpose) (bytes : Option (List ℕ)) → IsApart (Drew purpose bytes)
apart_drew purpose bytes = record { opens = λ calls. refl; sends = λ line calls. refl; keeps = λ file h. refl }

pub agrees_apart : {E : Type 0} (opening : List ℕ × List ℕ) (key_files : List (List ℕ × List ℕ)) (call : Result Call E) (starved : Bool) (old new : Recording) (k : Call)
    (outputs : List (ℕ × List ℕ)) (lines : ℕ) (d e : Disk) → IfOk call (λ c. c ≡ k) → Notes call starved old new → IsApart k
    → WhereTold (history_of opening key_files old.calls) (Agrees outputs lines d e) → WhereTold (history_of opening key_files new.calls) (Agrees outputs lines d e)
agrees_apart opening key_files call starved old new k outputs lines d e is noted apart kept =
    known_with_told (Agrees outputs lines d e) kept (tells_noted opening key_files call starved old new k is noted)
    (λ was now a same.
    subst (Agrees outputs lines d e) (sym same)
    (record {
      sent_is = λ line. a.sent_is line ∙ sym (apart.sends line was.calls);
      opened_is = apart.opens was.calls ∙ a.opened_is;
      file_0_is = apart.keeps 0 was ∙ a.file_0_is;
      file_1_is = apart.keeps 1 was ∙ a.file_1_is;
    }))

-- a piece that was sent whole
pub agrees_gave : {E : Type 0} (opening : List ℕ × List ℕ) (key_files : List (List ℕ × List ℕ)) (call : Result Call E) (starved : Bool) (old new : Recording) (line n : ℕ)
    (piece : List ℕ) (before outputs : List (ℕ × List ℕ)) (lines : ℕ) (d e : Disk) → IfOk call (λ c. c ≡ Gave line piece (Some n)) → Notes call starved old new → take n piece ≡ piece
    → AddsTo line piece before outputs
    → WhereTold (history_of opening key_files old.calls) (Agrees before lines d e) → WhereTold (history_of opening key_files new.calls) (Agrees outputs lines d e)
agrees_gave opening key_files call starved old new line n piece before outputs lines d e is noted all added kept =
    known_with_told (Agrees outputs lines d e) kept (tells_noted opening key_files call starved old new (Gave line piece (Some n)) is noted)
    (λ was now a same.
    subst (Agrees outputs lines d e) (sym same)
    (record {
      sent_is = λ other.
          added other ∙ ap (λ (l : List ℕ). cond (nat_eq line other) (l ++ piece) l) (a.sent_is other)
          ∙ ap (λ (l : List ℕ). cond (nat_eq line other) (sent other was.calls ++ l) (sent other was.calls)) (sym all);
      opened_is = a.opened_is;
      file_0_is = a.file_0_is;
      file_1_is = a.file_1_is;
    }))

-- The next line, or none.

pub agrees_came : (opening : List ℕ × List ℕ) (key_files : List (List ℕ × List ℕ)) (old new : Recording) (next : Option ℕ) (outputs : List (ℕ × List ℕ)) (lines n : ℕ) (d e : Disk)
    → Notes {E = NoMemory} (Ok (Came (Some next))) false old new → next ≡ next_line lines n
    → WhereTold (history_of opening key_files old.calls) (Agrees outputs lines d e)
    → WhereTold (history_of opening key_files new.calls) (Agrees outputs (unwrap_or next lines) d e)
agrees_came opening key_files old new next outputs lines n d e noted is kept =
    known_with_told (Agrees outputs (unwrap_or next lines) d e) kept (tells_noted opening key_files (Ok (Came (Some next))) false old new (Came (Some next)) refl noted)
    (λ was now a same.
    subst (Agrees outputs (unwrap_or next lines) d e) (sym same)
    (record {
      sent_is = a.sent_is;
      opened_is = came next was.calls a.opened_is (next_is lines n next is);
      file_0_is = a.file_0_is;
      file_1_is = a.file_1_is;
    }))
  where
    came : (next : Option ℕ) (calls : List Call) → opened calls ≡ lines → IfSome next (λ line. line ≡ lines + 1) → opened (Came (Some next) ∷ calls) ≡ unwrap_or next lines
    came None calls are last = are
    came (Some line) calls are last = omega (arith, are, last)

pub tells_came : (opening : List ℕ × List ℕ) (key_files : List (List ℕ × List ℕ)) (old new : Recording) (next : Option ℕ) (outputs : List (ℕ × List ℕ)) (lines n : ℕ) (d e : Disk)
    → Notes {E = NoMemory} (Ok (Came (Some next))) false old new → next ≡ next_line lines n
    → WhereTold (history_of opening key_files old.calls) (Agrees outputs lines d e)
    → Tells (history_of opening key_files old.calls) (history_of opening key_files new.calls) (λ was now. (now ≡ then_call was (Came (Some next))) × IfSome next (λ line. line ≡ opened was.calls + 1))
tells_came opening key_files old new next outputs lines n d e noted is kept =
    tells_with _ kept (tells_noted opening key_files (Ok (Came (Some next))) false old new (Came (Some next)) refl noted)
    (λ was now a same. (same, follows next was.calls a.opened_is (next_is lines n next is)))
  where
    follows : (next : Option ℕ) (calls : List Call) → opened calls ≡ lines → IfSome next (λ line. line ≡ lines + 1) → IfSome next (λ line. line ≡ opened calls + 1)
    follows None calls are last = tt
    follows (Some line) calls are last = omega (arith, are, last)

-- A call on file 0.

pub tells_on_0 : (opening : List ℕ × List ℕ) (key_files : List (List ℕ × List ℕ)) (old new : Recording) (outputs : List (ℕ × List ℕ)) (lines : ℕ) (d e d' : Disk) (P : Type 0) (C : FileCall → Type 0)
    (R : History → History → Type 0) → NotesOn 0 old new d d' P C → WhereTold (history_of opening key_files old.calls) (Agrees outputs lines d e)
    → ((was : History) → history_of opening key_files old.calls ≡ Some was → disk 0 was ≡ d → P)
    → ((was : History) (c : FileCall) → disk 0 was ≡ d → C c → R was (then_call was (OnFile 0 c)))
    → Tells (history_of opening key_files old.calls) (history_of opening key_files new.calls) R
tells_on_0 opening key_files old new outputs lines d e d' P C R notes kept may step = record {
  told = λ now is.
      let p = told_once opening key_files new.calls now is in
      let s = notes.told p.0 p.1 in
      let was : History = record { opening = opening; key_files = key_files; calls = s.0 } in
      let before : history_of opening key_files old.calls ≡ Some was = ap (history_of opening key_files) s.1 in
      let here : disk 0 was ≡ d = (kept.told was before).file_0_is in
      let t = s.2 (may was before here) in
      let whole : then_call was (OnFile 0 t.0) ≡ now = ap (λ (l : List Call). let h : History = record { opening = opening; key_files = key_files; calls = l } in h) (sym t.1) ∙ p.2 in
      (was, before, subst (R was) whole (step was t.0 here t.3));
}

pub agrees_on_0 : (opening : List ℕ × List ℕ) (key_files : List (List ℕ × List ℕ)) (old new : Recording) (outputs : List (ℕ × List ℕ)) (lines : ℕ) (d e d' : Disk) (P : Type 0) (C : FileCall → Type 0)
    → NotesOn 0 old new d d' P C → WhereTold (history_of opening key_files old.calls) (Agrees outputs lines d e)
    → ((was : History) → history_of opening key_files old.calls ≡ Some was → disk 0 was ≡ d → P)
    → WhereTold (history_of opening key_files new.calls) (Agrees outputs lines d' e)
agrees_on_0 opening key_files old new outputs lines d e d' P C notes kept may = record {
  told = λ now is.
      let p = told_once opening key_files new.calls now is in
      let s = notes.told p.0 p.1 in
      let was : History = record { opening = opening; key_files = key_files; calls = s.0 } in
      let before : history_of opening key_files old.calls ≡ Some was = ap (history_of opening key_files) s.1 in
      let a = kept.told was before in
      let t = s.2 (may was before a.file_0_is) in
      let whole : then_call was (OnFile 0 t.0) ≡ now = ap (λ (l : List Call). let h : History = record { opening = opening; key_files = key_files; calls = l } in h) (sym t.1) ∙ p.2 in
      let there : disk 0 (then_call was (OnFile 0 t.0)) ≡ d' = disk_there was 0 t.0 ∙ ap (λ (x : Disk). after_call x t.0) a.file_0_is ∙ sym t.2 in
      let elsewhere : disk 1 (then_call was (OnFile 0 t.0)) ≡ e = disk_elsewhere was 0 1 t.0 (λ same. absurd (omega (arith, same))) ∙ a.file_1_is in
      subst (Agrees outputs lines d' e) whole (record { sent_is = a.sent_is; opened_is = a.opened_is; file_0_is = there; file_1_is = elsewhere });
}

-- A call on file 1.

pub tells_on_1 : (opening : List ℕ × List ℕ) (key_files : List (List ℕ × List ℕ)) (old new : Recording) (outputs : List (ℕ × List ℕ)) (lines : ℕ) (d e d' : Disk) (P : Type 0) (C : FileCall → Type 0)
    (R : History → History → Type 0) → NotesOn 1 old new e d' P C → WhereTold (history_of opening key_files old.calls) (Agrees outputs lines d e)
    → ((was : History) → history_of opening key_files old.calls ≡ Some was → disk 1 was ≡ e → P)
    → ((was : History) (c : FileCall) → disk 1 was ≡ e → C c → R was (then_call was (OnFile 1 c)))
    → Tells (history_of opening key_files old.calls) (history_of opening key_files new.calls) R
tells_on_1 opening key_files old new outputs lines d e d' P C R notes kept may step = record {
  told = λ now is.
      let p = told_once opening key_files new.calls now is in
      let s = notes.told p.0 p.1 in
      let was : History = record { opening = opening; key_files = key_files; calls = s.0 } in
      let before : history_of opening key_files old.calls ≡ Some was = ap (history_of opening key_files) s.1 in
      let here : disk 1 was ≡ e = (kept.told was before).file_1_is in
      let t = s.2 (may was before here) in
      let whole : then_call was (OnFile 1 t.0) ≡ now = ap (λ (l : List Call). let h : History = record { opening = opening; key_files = key_files; calls = l } in h) (sym t.1) ∙ p.2 in
      (was, before, subst (R was) whole (step was t.0 here t.3));
}

pub agrees_on_1 : (opening : List ℕ × List ℕ) (key_files : List (List ℕ × List ℕ)) (old new : Recording) (outputs : List (ℕ × List ℕ)) (lines : ℕ) (d e d' : Disk) (P : Type 0) (C : FileCall → Type 0)
    → NotesOn 1 old new e d' P C → WhereTold (history_of opening key_files old.calls) (Agrees outputs lines d e)
    → ((was : History) → history_of opening key_files old.calls ≡ Some was → disk 1 was ≡ e → P)
    → WhereTold (history_of opening key_files new.calls) (Agrees outputs lines d d')
agrees_on_1 opening key_files old new outputs lines d e d' P C notes kept may = record {
  told = λ now is.
      let p = told_once opening key_files new.calls now is in
      let s = notes.told p.0 p.1 in
      let was : History = record { opening = opening; key_files = key_files; calls = s.0 } in
      let before : history_of opening key_files old.calls ≡ Some was = ap (history_of opening key_files) s.1 in
      let a = kept.told was before in
      let t = s.2 (may was before a.file_1_is) in
      let whole : then_call was (OnFile 1 t.0) ≡ now = ap (λ (l : List Call). let h : History = record { opening = opening; key_files = key_files; calls = l } in h) (sym t.1) ∙ p.2 in
      let there : disk 1 (then_call was (OnFile 1 t.0)) ≡ d' = disk_there was 1 t.0 ∙ ap (λ (x : Disk). after_call x t.0) a.file_1_is ∙ sym t.2 in
      let elsewhere : disk 0 (then_call was (OnFile 1 t.0)) ≡ d = disk_elsewhere was 1 0 t.0 (λ same. absurd (omega (arith, same))) ∙ a.file_0_is in
      subst (Agrees outputs lines d d') whole (record { sent_is = a.sent_is; opened_is = a.opened_is; file_1_is = there; file_0_is = elsewhere });
}

-- What the calls on a file owe, of the file as it was known before.

pub lies_within : (opening : List ℕ × List ℕ) (key_files : List (List ℕ × List ℕ)) (file f at : ℕ) (old : Recording) (d : Disk) (history : Option History)
    → history_of opening key_files old.calls ≡ history → file ≡ f → WhereTold history (λ h. at ≤ length (reads file h))
    → (was : History) → history_of opening key_files old.calls ≡ Some was → disk f was ≡ d → at ≤ length d.reads
lies_within opening key_files file f at old d history same is within was told here =
    subst (λ (x : Disk). at ≤ length x.reads) here (subst (λ (g : ℕ). at ≤ length (reads g was)) is (within.told was (sym same ∙ told)))

pub measured : {E : Type 0} (file : ℕ) (d : Disk) (result : Result ℕ E) → IfOk result (λ n. n ≡ length d.reads)
    → (was : History) (c : FileCall) → disk file was ≡ d → c ≡ Measured (answer result)
    → (then_call was (OnFile file c) ≡ then_call was (OnFile file (Measured (answer result)))) × IfOk result (λ n. n ≡ length (reads file was))
measured file d (Ok n) size was c here is = (ap (λ (x : FileCall). then_call was (OnFile file x)) is, size ∙ sym (ap (λ (x : Disk). length x.reads) here))
measured file d (Err e) size was c here is = (ap (λ (x : FileCall). then_call was (OnFile file x)) is, tt)

pub came_back : {E : Type 0} (file : ℕ) (d : Disk) (at room_length : ℕ) (room : List ℕ) (result : Result ℕ E) → IfOk result (HasFirst (drop at d.reads) room)
    → (was : History) (c : FileCall) → disk file was ≡ d → c ≡ Read at room_length (given room result)
    → (then_call was (OnFile file c) ≡ then_call was (OnFile file (Read at room_length (given room result)))) × IfOk result (HasFirst (drop at (reads file was)) room)
came_back file d at room_length room (Ok n) first was c here is =
    (ap (λ (x : FileCall). then_call was (OnFile file x)) is, subst (λ (x : Disk). HasFirst (drop at x.reads) room n) (sym here) first)
came_back file d at room_length room (Err e) first was c here is = (ap (λ (x : FileCall). then_call was (OnFile file x)) is, tt)

pub wrote_on : {T E : Type 0} (file : ℕ) (d : Disk) (at : ℕ) (piece : List ℕ) (result : Result T E)
    → (was : History) (c : FileCall) → disk file was ≡ d
    → ((left : Option (List ℕ)) × (c ≡ Wrote at piece left) × Left result left (after_write d at piece d.reads))
    → (left : Option (List ℕ)) × (then_call was (OnFile file c) ≡ then_call was (OnFile file (Wrote at piece left))) × Left result left (after_write (disk file was) at piece (reads file was))
wrote_on file d at piece result was c here w =
    (w.0, ap (λ (x : FileCall). then_call was (OnFile file x)) w.1, subst (λ (x : Disk). Left result w.0 (after_write x at piece x.reads)) (sym here) w.2)

pub cut_on : {T E : Type 0} (file : ℕ) (d : Disk) (size : ℕ) (result : Result T E)
    → (was : History) (c : FileCall) → disk file was ≡ d
    → ((left : Option (List ℕ)) × (c ≡ CutTo size left) × Left result left (after_cut d size d.reads))
    → (left : Option (List ℕ)) × (then_call was (OnFile file c) ≡ then_call was (OnFile file (CutTo size left))) × Left result left (after_cut (disk file was) size (reads file was))
cut_on file d size result was c here w =
    (w.0, ap (λ (x : FileCall). then_call was (OnFile file x)) w.1, subst (λ (x : Disk). Left result w.0 (after_cut x size x.reads)) (sym here) w.2)

-- Where the outcome is known.

pub where_ok : {T E : Type 0} (result : Result T E) (P : Type 0) → is_ok result ≡ true → OnOk result P → P
where_ok (Ok x) P is holds = holds
where_ok (Err e) P is holds = absurd (grind (arith, is))

pub where_err : {T E : Type 0} (result : Result T E) (P : Type 0) → is_err result ≡ true → OnErr result P → P
where_err (Ok x) P is holds = absurd (grind (arith, is))
where_err (Err e) P is holds = holds

-- key files that were added tell nothing else
pub agrees_named : (opening : List ℕ × List ℕ) (before now : List (List ℕ × List ℕ)) (calls : Option (List Call)) (outputs : List (ℕ × List ℕ)) (lines : ℕ) (d e : Disk)
    → WhereTold (history_of opening before calls) (Agrees outputs lines d e) → WhereTold (history_of opening now calls) (Agrees outputs lines d e)
agrees_named opening before now calls outputs lines d e kept = record {
  told = λ h is.
      let p = told_once opening now calls h is in
      let was : History = record { opening = opening; key_files = before; calls = p.0 } in
      let a = kept.told was (ap (history_of opening before) p.1) in
      subst (Agrees outputs lines d e) p.2 (record { sent_is = a.sent_is; opened_is = a.opened_is; file_0_is = a.file_0_is; file_1_is = a.file_1_is });
}

-- the images of both files are one of the store
pub image_is : (opening : List ℕ × List ℕ) (key_files : List (List ℕ × List ℕ)) (calls : Option (List Call)) (outputs : List (ℕ × List ℕ)) (lines : ℕ) (d e : Disk) (a b : List ℕ)
    → is_some calls ≡ true → WhereTold (history_of opening key_files calls) (Agrees outputs lines d e) → MayLeave d a → MayLeave e b
    → (h : History) × (history_of opening key_files calls ≡ Some h) × IsImage h (a, b)
image_is opening key_files None outputs lines d e a b is kept first second = absurd (grind (arith, is))
image_is opening key_files (Some l) outputs lines d e a b is kept first second =
    let h : History = record { opening = opening; key_files = key_files; calls = l } in
    let agrees = kept.told h refl in (
      h,
      refl,
      record { file_0 = subst (λ (x : Disk). MayLeave x a) (sym agrees.file_0_is) first; file_1 = subst (λ (x : Disk). MayLeave x b) (sym agrees.file_1_is) second },
    )

-- A key file's text.

pub named_of : (refused : Bool) (found : Option (List ℕ)) (text : List ℕ) → Some text ≡ cond refused None found → found ≡ Some text
named_of true found text is = absurd (grind (arith, is))
named_of false found text is = sym is

pub tells_text : {E : Type 0} (opening : List ℕ × List ℕ) (key_files : List (List ℕ × List ℕ)) (call : Result Call E) (old new : Recording) (k : Call) (name text room : List ℕ) (n : ℕ)
    → IfOk call (λ c. c ≡ k) → Notes call false old new → named name key_files ≡ Some text → HasFirst text room n
    → Tells (history_of opening key_files old.calls) (history_of opening key_files new.calls)
    (λ was now. (now ≡ then_call was k) × ((bytes : List ℕ) × (named name was.key_files ≡ Some bytes) × HasFirst bytes room n))
tells_text opening key_files call old new k name text room n is noted found first = record {
  told = λ now told.
      let t = (tells_noted opening key_files call false old new k is noted).told now told in
      let p = told_once opening key_files old.calls t.0 t.1 in
      let kept : t.0.key_files ≡ key_files = ap (λ (h : History). h.key_files) (sym p.2) in
      (t.0, t.1, (t.2, (text, ap (named name) kept ∙ found, first)));
}

pub tells_no_text : {E : Type 0} (opening : List ℕ × List ℕ) (key_files : List (List ℕ × List ℕ)) (call : Result Call E) (old new : Recording) (k : Call)
    → IfOk call (λ c. c ≡ k) → Notes call false old new
    → Tells (history_of opening key_files old.calls) (history_of opening key_files new.calls) (λ was now. (now ≡ then_call was k) × Unit {0})
tells_no_text opening key_files call old new k is noted =
    tells_weaker _ (tells_noted opening key_files call false old new k is noted) (λ was now same. (same, tt))
