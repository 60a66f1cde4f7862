-- What is served stays, however the stream goes on.
use Rattle.std.proofs.Common.{◌≡◌, ℕ, zero, suc, ◌+◌, List, ◌++◌, ◌*◌, ◌≤◌, length, ap, arith, Bool, true, false, ◌||◌, nat_eq, Some, cond, refl}
use Rattle.kms_http.specs.Messages.{Front, front}
use Rattle.kms_http.specs.MessageStream.{After, after_front, onward, after, served, served_next, served_at}
use Rattle.kms_http.specs.Messages.Front.{Whole, Bad, Part}
use Rattle.kms_http.specs.MessageStream.After.{Going, Over, Broken}
use Rattle.kms_http.proofs.StepLaws.{bound}
use Rattle.kms_http.specs.Sizes.{longest}
use Rattle.kms_http.specs.declared.message.Message.{Message}
use Rattle.kms_http.specs.declared.served.Served.{Served}
use Rattle.kms_http.proofs.MessageSizeLaws.{message-short}
use Rattle.kms_http.proofs.CutLaws.{extended, IsSettled, settled-more}

-- with more bytes after the rest
abbrev pub longer : After → List ℕ → After
longer (Going rest) more = Going (rest ++ more)
longer Over more = Over
longer Broken more = Broken

some-settled : (full : Bool) (f : Front) (a : After) → after_front full f ≡ Some a → IsSettled f
some-settled full (Whole m rest) a e = tt
some-settled full (Bad refusal) a e = tt
some-settled full Part a e = absurd (cc)

after_front-more : (full : Bool) (f : Front) (more : List ℕ) (a : After) → after_front full f ≡ Some a → after_front full (extended f more) ≡ Some (longer a more)
after_front-more full (Whole m rest) more a e = step (m.close || full) e
  where
    step : (b : Bool) → Some (cond b Over (Going rest)) ≡ Some a → Some (cond b Over (Going (rest ++ more))) ≡ Some (longer a more)
    step true h = let same : Over ≡ a = cc in rw (← same) refl
    step false h = let same : Going rest ≡ a = cc in rw (← same) refl
after_front-more full (Bad refusal) more a e = let same : Broken ≡ a = cc in rw (← same) refl
after_front-more full Part more a e = absurd (cc)

onward-more : (full : Bool) (before : After) (more : List ℕ) (a : After) → onward full before ≡ Some a → onward full (longer before more) ≡ Some (longer a more)
onward-more full (Going rest) more a e =
    rw (settled-more rest more (some-settled full (front rest) a e)) (after_front-more full (front rest) more a e)
onward-more full Over more a e = absurd (cc)
onward-more full Broken more a e = absurd (cc)

-- after so many messages more bytes change nothing but the rest
pub after-longer : (most n : ℕ) (bytes more : List ℕ) (a : After) → after most n bytes ≡ Some a → after most n (bytes ++ more) ≡ Some (longer a more)
unfolding after
after-longer most zero bytes more a e = let same : Going bytes ≡ a = cc in rw (← same) refl
after-longer most (suc n) bytes more a e =
    let (before, was, here) = bound (after most n bytes) (onward (nat_eq (n + 1) most)) a e in
    rw (after-longer most n bytes more before was) (onward-more (nat_eq (n + 1) most) before more a here)

pub after-more : (most n : ℕ) (bytes more rest : List ℕ) → after most n bytes ≡ Some (Going rest) → after most n (bytes ++ more) ≡ Some (Going (rest ++ more))
after-more most n bytes more rest e = after-longer most n bytes more (Going rest) e

pub after-over-more : (most n : ℕ) (bytes more : List ℕ) → after most n bytes ≡ Some Over → after most n (bytes ++ more) ≡ Some Over
after-over-more most n bytes more e = after-longer most n bytes more Over e

pub after-broken-more : (most n : ℕ) (bytes more : List ℕ) → after most n bytes ≡ Some Broken → after most n (bytes ++ more) ≡ Some Broken
after-broken-more most n bytes more e = after-longer most n bytes more Broken e

served-settled : (f : Front) (s : Served) → served f ≡ Some s → IsSettled f
served-settled (Whole m rest) s e = tt
served-settled (Bad refusal) s e = tt
served-settled Part s e = absurd (cc)

served-extended : (f : Front) (more : List ℕ) → served (extended f more) ≡ served f
served-extended (Whole m rest) more = refl
served-extended (Bad refusal) more = refl
served-extended Part more = refl

served_next-more : (before : After) (more : List ℕ) (s : Served) → served_next before ≡ Some s → served_next (longer before more) ≡ Some s
served_next-more (Going rest) more s e =
    rw (settled-more rest more (served-settled (front rest) s e), served-extended) e
served_next-more Over more s e = absurd (cc)
served_next-more Broken more s e = absurd (cc)

-- what is served stays
pub served_at-more : (most n : ℕ) (bytes more : List ℕ) (s : Served) → served_at most n bytes ≡ Some s → served_at most n (bytes ++ more) ≡ Some s
served_at-more most n bytes more s e =
    let (before, was, here) = bound (after most n bytes) served_next s e in
    rw (after-longer most n bytes more before was) (served_next-more before more s here)

going_front : (full : Bool) (f : Front) (rest : List ℕ) → after_front full f ≡ Some (Going rest) → (m : Message) × (f ≡ Whole m rest)
going_front full (Whole m r) rest e = step (m.close || full) e
  where
    step : (b : Bool) → Some (cond b Over (Going r)) ≡ Some (Going rest) → (p : Message) × (Whole m r ≡ Whole p rest)
    step true h = absurd (cc)
    step false h = let same : r ≡ rest = cc in (m, ap (Whole m) same)
going_front full (Bad refusal) rest e = absurd (cc)
going_front full Part rest e = absurd (cc)

going_onward : (full : Bool) (before : After) (rest : List ℕ) → onward full before ≡ Some (Going rest) → (held : List ℕ) × (before ≡ Going held) × (length held ≤ length rest + longest)
going_onward full (Going held) rest e =
    let (m, whole) = going_front full (front held) rest e in
    (held, refl, (message-short held m rest whole).1)
going_onward full Over rest e = absurd (cc)
going_onward full Broken rest e = absurd (cc)

-- after n messages at most n times `longest` bytes are gone
pub after-length : (most n : ℕ) (bytes rest : List ℕ) → after most n bytes ≡ Some (Going rest) → length bytes ≤ length rest + n * longest
unfolding after
after-length most zero bytes rest e = let same : bytes ≡ rest = cc in rw same (omega arith)
after-length most (suc n) bytes rest e =
    let (before, was, here) = bound (after most n bytes) (onward (nat_eq (n + 1) most)) (Going rest) e in
    let (held, going, few) = going_onward (nat_eq (n + 1) most) before rest here in
    omega (arith, after-length most n bytes held (rw going at was), few)
