-- Batches of messages, as the calls of a run determine them: times that were told with nothing in between but draws.
use Rattle.std.specs.Prelude.{ℕ, ◌+◌, List, [], ◌∷◌, ◌==◌, Bool, true, false, if◌then◌else◌}
use Rattle.kms_host.specs.declared.call.Call.{Call}
use Rattle.kms_host.specs.declared.call.Call.TheVariants.{Text, Listened, Came, Attached, Took, Gave, Shut, OnFile, Told, Drew}

-- how many messages the batch has that is being answered
abbrev pub in_batch : List Call → ℕ
in_batch [] = 0
in_batch (Text name room bytes ∷ calls) = 0
in_batch (Listened address done ∷ calls) = 0
in_batch (Came next ∷ calls) = 0
in_batch (Attached name done ∷ calls) = 0
in_batch (Took line room bytes ∷ calls) = 0
in_batch (Gave line piece went ∷ calls) = 0
in_batch (Shut line ∷ calls) = 0
in_batch (OnFile file c ∷ calls) = 0
in_batch (Told t ∷ calls) = in_batch calls + 1
in_batch (Drew purpose bytes ∷ calls) = in_batch calls

-- the calls before it
abbrev pub before_open : List Call → List Call
before_open [] = []
before_open (Text name room bytes ∷ calls) = Text name room bytes ∷ calls
before_open (Listened address done ∷ calls) = Listened address done ∷ calls
before_open (Came next ∷ calls) = Came next ∷ calls
before_open (Attached name done ∷ calls) = Attached name done ∷ calls
before_open (Took line room bytes ∷ calls) = Took line room bytes ∷ calls
before_open (Gave line piece went ∷ calls) = Gave line piece went ∷ calls
before_open (Shut line ∷ calls) = Shut line ∷ calls
before_open (OnFile file c ∷ calls) = OnFile file c ∷ calls
before_open (Told t ∷ calls) = before_open calls
before_open (Drew purpose bytes ∷ calls) = before_open calls

-- the calls before the newest batch, which may be answered and settled
abbrev pub before_batch : List Call → List Call
before_batch [] = []
before_batch (Text name room bytes ∷ calls) = before_batch calls
before_batch (Listened address done ∷ calls) = before_batch calls
before_batch (Came next ∷ calls) = before_batch calls
before_batch (Attached name done ∷ calls) = before_batch calls
before_batch (Took line room bytes ∷ calls) = before_batch calls
before_batch (Gave line piece went ∷ calls) = before_batch calls
before_batch (Shut line ∷ calls) = before_batch calls
before_batch (OnFile file c ∷ calls) = before_batch calls
before_batch (Told t ∷ calls) = before_open calls
before_batch (Drew purpose bytes ∷ calls) = before_batch calls

-- how many messages that batch has
abbrev pub batch_size : List Call → ℕ
batch_size [] = 0
batch_size (Text name room bytes ∷ calls) = batch_size calls
batch_size (Listened address done ∷ calls) = batch_size calls
batch_size (Came next ∷ calls) = batch_size calls
batch_size (Attached name done ∷ calls) = batch_size calls
batch_size (Took line room bytes ∷ calls) = batch_size calls
batch_size (Gave line piece went ∷ calls) = batch_size calls
batch_size (Shut line ∷ calls) = batch_size calls
batch_size (OnFile file c ∷ calls) = batch_size calls
batch_size (Told t ∷ calls) = in_batch calls + 1
batch_size (Drew purpose bytes ∷ calls) = batch_size calls

-- how many times the store was settled: calls on files after a time that was told, or after what was drawn then
abbrev pub settles : List Call → ℕ
settles [] = 0
settles (Text name room bytes ∷ calls) = settles calls
settles (Listened address done ∷ calls) = settles calls
settles (Came next ∷ calls) = settles calls
settles (Attached name done ∷ calls) = settles calls
settles (Took line room bytes ∷ calls) = settles calls
settles (Gave line piece went ∷ calls) = settles calls
settles (Shut line ∷ calls) = settles calls
settles (OnFile file c ∷ calls) = if in_batch calls == 0 then settles calls else settles calls + 1
settles (Told t ∷ calls) = settles calls
settles (Drew purpose bytes ∷ calls) = settles calls

-- no batch is being answered or settled: the newest call isn't one that tells a time, draws or calls a file
abbrev pub is_settled : List Call → Bool
is_settled [] = true
is_settled (Text name room bytes ∷ calls) = true
is_settled (Listened address done ∷ calls) = true
is_settled (Came next ∷ calls) = true
is_settled (Attached name done ∷ calls) = true
is_settled (Took line room bytes ∷ calls) = true
is_settled (Gave line piece went ∷ calls) = true
is_settled (Shut line ∷ calls) = true
is_settled (OnFile file c ∷ calls) = false
is_settled (Told t ∷ calls) = false
is_settled (Drew purpose bytes ∷ calls) = false
