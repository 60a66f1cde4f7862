-- Where a line stands after its messages.
use Rattle.std.proofs.Common.{List, Some, [], add-one, ap, refl, suc, ℕ, ◌+◌, ◌==◌, ◌∙◌, ◌≡◌}
use Rattle.kms_http.specs.MessageStream.{After, after, after_front, served, served_at}
use Rattle.kms_http.specs.MessageStream.After.{Broken, Going}
use Rattle.kms_http.specs.Messages.{front}
use Rattle.kms_http.specs.Messages.Front.{Bad}
use Rattle.kms_http.specs.declared.served.Served.{Served}
use Rattle.kms_world.specs.declared.refusal.Refusal.{Refusal}
use Rattle.kms_serve.specs.Plan.{most}

pub served_at-next : (n : ℕ) (bytes held : List ℕ) (s : Served) → after most n bytes ≡ Some (Going held) → served (front held) ≡ Some s → served_at most n bytes ≡ Some s
served_at-next n bytes held s e f = rw e f

pub after-first : (held : List ℕ) → held ≡ [] → after most 0 [] ≡ Some (Going held)
unfolding after
after-first held e = rw e refl

after-suc : (n : ℕ) (bytes held : List ℕ) (stand : After) → after most n bytes ≡ Some (Going held) → after_front (n + 1 == most) (front held) ≡ Some stand → after most (suc n) bytes ≡ Some stand
unfolding after
after-suc n bytes held stand here next = rw here next

-- after one message more
pub after-next : (n : ℕ) (bytes held : List ℕ) (stand : After) → after most n bytes ≡ Some (Going held) → after_front (n + 1 == most) (front held) ≡ Some stand → after most (n + 1) bytes ≡ Some stand
after-next n bytes held stand here next = ap (λ k. after most k bytes) (add-one n) ∙ after-suc n bytes held stand here next

pub after-bad : (n : ℕ) (bytes held : List ℕ) (refusal : Refusal) → after most n bytes ≡ Some (Going held) → front held ≡ Bad refusal → after most (n + 1) bytes ≡ Some Broken
after-bad n bytes held refusal e f = after-next n bytes held Broken e (ap (after_front (n + 1 == most)) f)
