-- Reading a key file.
use Rattle.std.specs.Prelude.{◌≡◌, ℕ, List, take, Some, Result, Ok, Err}
use Rattle.kms_host.specs.History.{History, then_call}
use Rattle.kms_host.specs.KeyFiles.{named}
use Rattle.kms_host.specs.declared.call.Call.TheVariants.{Text}
use Rattle.kms_host.specs.declared.call.NameFault.{NameFault}
use Rattle.kms_host.specs.declared.call.NameFault.TheVariants as names
use Rattle.kms_ring.specs.KeyFile.{IsKeyFile, IsBadLine}
use Rattle.kms_sealing.specs.declared.fault.KeyFileFault.{KeyFileFault}
use Rattle.kms_sealing.specs.declared.fault.KeyFileFault.TheVariants.{Failed, Bad, NoMemory}

abbrev pub fault_of : NameFault → KeyFileFault
fault_of names.Failed = Failed
fault_of names.NoMemory = NoMemory

-- these first bytes of a file are no key file
abbrev pub IsBadText : (text : List ℕ) → KeyFileFault → Type 0
IsBadText text Failed = ⊥
IsBadText text (Bad bad) = IsBadLine text bad
IsBadText text NoMemory = ⊥

-- the first 1,024 bytes of the file of this name came, and this is what they are
pub record HasText (name : List ℕ) (was now : History) (P : List ℕ → Type 0) : Type 0 where
  pub file : List ℕ
  pub there : named name was.key_files ≡ Some file
  pub called : now ≡ then_call was (Text name 1024 (Ok (take 1024 file)))
  pub is : P (take 1024 file)

-- they couldn't be read
abbrev pub HasNoText : (name : List ℕ) → NameFault → History → History → Type 0
HasNoText name fault was now = now ≡ then_call was (Text name 1024 (Err fault))

abbrev pub Reads : (name : List ℕ) → Result (List (List ℕ)) KeyFileFault → History → History → Type 0
Reads name (Ok masters) was now = HasText name was now (λ text. IsKeyFile text masters)
Reads name (Err Failed) was now = HasNoText name names.Failed was now
Reads name (Err (Bad bad)) was now = HasText name was now (λ text. IsBadLine text bad)
Reads name (Err NoMemory) was now = HasNoText name names.NoMemory was now
