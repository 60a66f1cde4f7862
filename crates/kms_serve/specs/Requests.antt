-- What the plain key manager is asked by what a line is served.
use Rattle.std.specs.Prelude.{ℕ, List, Result, Ok, Err}
use Rattle.kms_world.specs.declared.caller.Caller.{Caller}
use Rattle.kms_world.specs.declared.operation.Request.{Request}
use Rattle.kms_world.specs.declared.operation.Request.TheVariants.{Asking, Refusing}
use Rattle.kms_world.specs.declared.refusal.Refusal.{Refusal}
use Rattle.kms_world.specs.declared.shape.Shape.{Shape}
use Rattle.kms_http.specs.declared.message.Message.{Message}
use Rattle.kms_http.specs.declared.served.Served.{Served}
use Rattle.kms_http.specs.declared.served.Served.TheVariants as served
use Rattle.kms_http.specs.Routing.{routed}
use Rattle.kms_requests.specs.Operation.{op_of}

abbrev pub by_route : Result (Caller × Shape) Refusal → (body : List ℕ) → Request
by_route (Err refusal) body = Refusing refusal
by_route (Ok (caller, shape)) body = Asking caller (op_of shape body)

-- by its head's route, and then by its body
unfoldable pub request_in : Message → Request
request_in message = by_route (routed message.head) message.body

abbrev pub request_of : Served → Request
request_of (served.Asking message) = request_in message
request_of (served.Unreadable refusal) = Refusing refusal
