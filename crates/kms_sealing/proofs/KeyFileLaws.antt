-- The first bytes of a key file, as they came.
use Rattle.std.proofs.Common.{◌≡◌, ℕ, List, length, take, Some, sym, ap, subst, ◌∙◌, arith, inl, inr, ltb}
use Rattle.std.specs.Prelude.{Option, Result, Ok, Err, IfOk, IfErr}
use Rattle.std.proofs.lemmas.Bool.{cases_Bool, ltb-true, ltb-false}
use Rattle.std.proofs.lemmas.List.{take_all}
use Rattle.kms_host.specs.History.{History, Tells, HasFirst, then_call}
use Rattle.kms_host.specs.KeyFiles.{named}
use Rattle.kms_host.specs.declared.call.Call.TheVariants.{Text}
use Rattle.kms_host.proofs.Moments.{tells_weaker}
use Rattle.kms_ring.specs.KeyFile.{IsKeyFile, IsBadLine}
use Rattle.kms_sealing.specs.KeyFile.{IsBadText, HasText, Reads}
use Rattle.kms_sealing.specs.declared.fault.KeyFileFault.{KeyFileFault}
use Rattle.kms_sealing.specs.declared.fault.KeyFileFault.TheVariants.{Failed, Bad, NoMemory}

-- what fills the front of a room of 1,024 bytes
front : (file room : List ℕ) (len : ℕ) → length room ≡ 1024 → HasFirst file room len → take len room ≡ take 1024 file
front file room len size first = elim (cases_Bool (ltb (length file) 1024)) [
  | inl t ↦
      let short = ltb-true (length file) 1024 t in
      let all : len ≡ length file = let c = first.count in omega arith in
      first.same ∙ take_all len file (omega (arith, all)) ∙ sym (take_all 1024 file (omega (arith, short)))
  | inr f ↦
      let long = ltb-false (length file) 1024 f in
      let all : len ≡ 1024 = let c = first.count in omega arith in
      first.same ∙ ap (λ (n : ℕ). take n file) all
]

came : (name room file : List ℕ) (len : ℕ) (was now : History) (P : List ℕ → Type 0) → length room ≡ 1024 → now ≡ then_call was (Text name (length room) (Ok (take len room))) → named name was.key_files ≡ Some file → HasFirst file room len
    → P (take len room) → HasText name was now P
came name room file len was now P size is there first holds =
    let same = front file room len size first in
    record {
      file = file;
      there = there;
      called = is ∙ ap (λ (n : ℕ). then_call was (Text name n (Ok (take len room)))) size ∙ ap (λ (bytes : List ℕ). then_call was (Text name 1024 (Ok bytes))) same;
      is = subst P same holds;
    }

by_cases : (name room file : List ℕ) (len : ℕ) (was now : History) (r : Result (List (List ℕ)) KeyFileFault) → length room ≡ 1024 → now ≡ then_call was (Text name (length room) (Ok (take len room))) → named name was.key_files ≡ Some file → HasFirst file room len
    → IfOk r (IsKeyFile (take len room)) → IfErr r (IsBadText (take len room)) → Reads name r was now
by_cases name room file len was now (Ok masters) size is there first ok err = came name room file len was now (λ text. IsKeyFile text masters) size is there first ok
by_cases name room file len was now (Err Failed) size is there first ok err = absurd err
by_cases name room file len was now (Err (Bad bad)) size is there first ok err = came name room file len was now (λ text. IsBadLine text bad) size is there first err
by_cases name room file len was now (Err NoMemory) size is there first ok err = absurd err

pub reads : {a b : Option History} (name room text : List ℕ) (len : ℕ) (r : Result (List (List ℕ)) KeyFileFault) → length room ≡ 1024 → text ≡ take len room
    → Tells a b (λ was now. (now ≡ then_call was (Text name (length room) (Ok (take len room)))) × ((file : List ℕ) × (named name was.key_files ≡ Some file) × HasFirst file room len))
    → IfOk r (IsKeyFile text) → IfErr r (IsBadText text) → Tells a b (Reads name r)
reads name room text len r size is told ok err = tells_weaker _ told (λ was now h.
    by_cases name room h.1.0 len was now r size h.0 h.1.1 h.1.2 (subst (λ (t : List ℕ). IfOk r (IsKeyFile t)) is ok) (subst (λ (t : List ℕ). IfErr r (IsBadText t)) is err))
