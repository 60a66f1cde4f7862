-- The requests by which an order goes.
use Rattle.std.specs.Prelude.{◌≡◌, List, Option, Some, None}
use Rattle.std.specs.List.{AllByRecursion}
use Rattle.kms_world.specs.declared.id.Id.{Id}
use Rattle.kms_world.specs.declared.operation.Op.{Op}
use Rattle.kms_world.specs.declared.operation.Op.TheVariants.{DeleteSecret, DeleteContainer, DeleteOrder}
use Rattle.kms_world.specs.declared.operation.Request.{Request}
use Rattle.kms_world.specs.declared.operation.Request.TheVariants.{Asking, Refusing}
use Rattle.kms_model.specs.Course.{Deed, Event}
use Rattle.kms_model.specs.Course.Deed.{Asks, Works, Rewraps}

-- the id in the path of an operation that deletes what has it: a secret, a container or an order, none of which have one id
abbrev pub deleted_by_op : Op → Option Id
deleted_by_op (DeleteSecret id) = id
deleted_by_op (DeleteContainer id) = id
deleted_by_op (DeleteOrder id) = id
deleted_by_op op = None

abbrev pub deleted_by_request : Request → Option Id
deleted_by_request (Asking caller op) = deleted_by_op op
deleted_by_request (Refusing refusal) = None

-- no worker deletes anything
abbrev pub deleted_by : Deed → Option Id
deleted_by (Asks request) = deleted_by_request request
deleted_by (Works worker) = None
deleted_by Rewraps = None

-- none of these events is a request to delete what has this id
abbrev pub NoneDeletes : Id → List Event → Type 0
NoneDeletes id es = AllByRecursion (λ (e : Event). deleted_by e.deed ≡ Some id → ⊥) es
