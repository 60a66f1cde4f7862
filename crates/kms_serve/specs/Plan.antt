-- What the words of the command line ask a run to do.
use Rattle.std.specs.Prelude.{◌≡◌, ◌⊎◌, ◌<◌, ℕ, List, [], ◌∷◌, Bool, true, false, Some, None}
use Rattle.kms_host.specs.Line.{failed_on, opened}
use Rattle.kms_host.specs.declared.call.Call.{Call}
use Rattle.kms_host.specs.declared.call.Call.TheVariants.{Text, Listened, Came, Attached, Took, Gave, Shut, OnFile, Told, Drew}

pub data Command : Type 0 where
  -- the requests of line 0
  Pipe : Command
  -- the requests of so many lines that come to an address, one line after the other
  Serve : (address : List ℕ) → (connections : ℕ) → Command
  -- no requests: whether the store is whole
  Check : Command

pub record Plan : Type 0 where
  pub command : Command
  -- the name of the store, and those of the key files that are read, in this order
  pub store : List ℕ
  pub keys : List (List ℕ)
  -- the text before each link
  pub endpoint : List ℕ
  -- how many workers have a turn after each request
  pub workers : ℕ
  -- a project key is wrapped anew after each request
  pub rewrap : Bool
  -- so many messages are answered before a settle, at most
  pub batch : ℕ

-- line 0 is served, with no workers, and each message is settled by itself; one key file is read
abbrev pub pipe_plan : (store key_file endpoint : List ℕ) → Plan
pipe_plan store key_file endpoint = record { command = Pipe; store = store; keys = key_file ∷ []; endpoint = endpoint; workers = 0; rewrap = false; batch = 1 }

-- line 0 is served up to this number of requests
abbrev pub most : ℕ
most = 10000000

-- so many messages are served on a line, at most
abbrev pub most_of : Command → ℕ
most_of Pipe = most
most_of (Serve address connections) = 1000
most_of Check = 0

-- requests come from lines, and the replies go there
abbrev pub replies_on_lines : Command → Bool
replies_on_lines Pipe = true
replies_on_lines (Serve address connections) = true
replies_on_lines Check = false

-- the line that came last in these calls; 0 if none came
abbrev pub last_line : List Call → ℕ
last_line [] = 0
last_line (Text name room bytes ∷ calls) = last_line calls
last_line (Listened address done ∷ calls) = last_line calls
last_line (Came None ∷ calls) = last_line calls
last_line (Came (Some None) ∷ calls) = last_line calls
last_line (Came (Some (Some line)) ∷ calls) = line
last_line (Attached name done ∷ calls) = last_line calls
last_line (Took line room bytes ∷ calls) = last_line calls
last_line (Gave line piece went ∷ calls) = last_line calls
last_line (Shut line ∷ calls) = last_line calls
last_line (OnFile file c ∷ calls) = last_line calls
last_line (Told t ∷ calls) = last_line calls
last_line (Drew purpose bytes ∷ calls) = last_line calls

-- this line came in these calls
abbrev pub HasCome : (l : ℕ) → List Call → Type 0
HasCome l [] = ⊥
HasCome l (Text name room bytes ∷ calls) = HasCome l calls
HasCome l (Listened address done ∷ calls) = HasCome l calls
HasCome l (Came None ∷ calls) = HasCome l calls
HasCome l (Came (Some None) ∷ calls) = HasCome l calls
HasCome l (Came (Some (Some line)) ∷ calls) = (line ≡ l) ⊎ HasCome l calls
HasCome l (Attached name done ∷ calls) = HasCome l calls
HasCome l (Took line room bytes ∷ calls) = HasCome l calls
HasCome l (Gave line piece went ∷ calls) = HasCome l calls
HasCome l (Shut line ∷ calls) = HasCome l calls
HasCome l (OnFile file c ∷ calls) = HasCome l calls
HasCome l (Told t ∷ calls) = HasCome l calls
HasCome l (Drew purpose bytes ∷ calls) = HasCome l calls

-- The line that is served now: the one that came last. Line 0 is there from the start.
abbrev pub line_now : Command → List Call → ℕ
line_now Pipe calls = 0
line_now (Serve address connections) calls = last_line calls
line_now Check calls = 0

-- of many lines, one on which a call failed is left as it is
abbrev pub IsAlive : Command → (line : ℕ) → List Call → Type 0
IsAlive Pipe line calls = Unit {0}
IsAlive (Serve address connections) line calls = failed_on line calls ≡ false
IsAlive Check line calls = Unit {0}

-- there is a line that is served
abbrev pub HasLine : Command → List Call → Type 0
HasLine Pipe calls = Unit {0}
HasLine (Serve address connections) calls = 0 < opened calls
HasLine Check calls = ⊥

-- one of many lines ends where a call of it fails
abbrev pub IsBroken : Command → (line : ℕ) → List Call → Type 0
IsBroken Pipe line calls = ⊥
IsBroken (Serve address connections) line calls = failed_on line calls ≡ true
IsBroken Check line calls = ⊥
