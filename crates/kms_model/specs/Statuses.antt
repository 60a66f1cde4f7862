-- The statuses of answers that have one of their own (RFC 9110 section 15.3).
use Rattle.std.specs.Prelude.{◌≡◌, ◌⊎◌, ℕ}
use Rattle.kms_world.specs.declared.answer.Answer.{Answer}
use Rattle.kms_world.specs.declared.answer.Answer.TheVariants.{Refused, Empty, Link, Secret, Payload, Metadata, Pair, Acl, Order, Container, Quotas, ProjectQuotas, List}

-- OK, Created, Accepted or No Content
abbrev pub IsSuccess : ℕ → Type 0
IsSuccess status = (status ≡ 200) ⊎ (status ≡ 201) ⊎ (status ≡ 202) ⊎ (status ≡ 204)

abbrev pub HasStatus : Answer → Type 0
HasStatus (Refused refusal) = Unit {0}
HasStatus (Empty status) = IsSuccess status
HasStatus (Link status link id) = IsSuccess status
HasStatus (Secret row) = Unit {0}
HasStatus (Payload payload) = Unit {0}
HasStatus (Metadata pairs) = Unit {0}
HasStatus (Pair status key value) = IsSuccess status
HasStatus (Acl row) = Unit {0}
HasStatus (Order row) = Unit {0}
HasStatus (Container view) = Unit {0}
HasStatus (Quotas row) = Unit {0}
HasStatus (ProjectQuotas row) = Unit {0}
HasStatus (List path query page total) = Unit {0}
