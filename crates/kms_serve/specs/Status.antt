-- Statuses, as the operator sees them.
use Rattle.std.specs.Prelude.{ℕ, List, [], ◌++◌, codes, decimal}
use Rattle.kms_serve.specs.declared.status.Status.{Status}
use Rattle.kms_serve.specs.declared.status.Status.TheVariants.{Done, Words, NoMemory, NoStore, StoreExists, StoreFault, LinkFault, DrawFault, Rest, Unreadable, Damaged, DamagedPayload, BadKeyFile, UnknownMaster, KeyFileFault}
use Rattle.kms_ring.specs.declared.bad_line.BadKey.{BadKey}
use Rattle.kms_ring.specs.declared.bad_line.BadKey.TheVariants.{NotAKey, SameAs, TooMany}
use Rattle.kms_text.specs.IdText.{id_text_of}
use Rattle.kms_journal.specs.declared.fault.Place.TheVariants.{Body}

abbrev pub code_of : Status → ℕ
code_of Done = 0
code_of Words = 1
code_of NoMemory = 4
code_of NoStore = 3
code_of StoreExists = 3
code_of StoreFault = 5
code_of LinkFault = 6
code_of DrawFault = 8
code_of (Rest place) = 9
code_of (Unreadable place) = 9
code_of (Damaged place) = 10
code_of (DamagedPayload secret) = 10
code_of (BadKeyFile bad) = 2
code_of (UnknownMaster project) = 7
code_of KeyFileFault = 11

abbrev pub line : List ℕ → List ℕ
line text = codes "barbicand: " ++ text ++ codes "\n"

-- what is wrong with a line of a key file
abbrev pub bad_key_text : BadKey → List ℕ
bad_key_text NotAKey = codes "not a key"
bad_key_text (SameAs place) = codes "same as line " ++ decimal place
bad_key_text TooMany = codes "too many keys"

-- nothing where the run was done
abbrev pub line_of : Status → List ℕ
line_of Done = []
line_of Words = line (codes "words not understood")
line_of NoMemory = line (codes "out of memory")
line_of NoStore = line (codes "no store")
line_of StoreExists = line (codes "store exists")
line_of StoreFault = line (codes "store fault")
line_of LinkFault = line (codes "link fault")
line_of DrawFault = line (codes "draw fault")
line_of (Rest place) = line (codes "stream ends inside a message at byte " ++ decimal place)
line_of (Unreadable place) = line (codes "unreadable message at byte " ++ decimal place)
line_of (DamagedPayload secret) = line (codes "damaged: secret " ++ id_text_of secret)
line_of (BadKeyFile bad) = line (codes "key file line " ++ decimal bad.line ++ codes ": " ++ bad_key_text bad.why)
line_of (UnknownMaster project) = line (codes "no master key for project " ++ project)
line_of KeyFileFault = line (codes "key file fault")
line_of (Damaged (Body file at)) = line (codes "damaged: file " ++ decimal file ++ codes " at " ++ decimal at)
