-- The methods of the API and of each of its paths.
use Rattle.std.specs.Prelude.{ℕ, List, Bool, true, false, Option, Some, None, if◌then◌else◌, codes}
use Rattle.std.specs.Str.{bytes_eq}
use Rattle.kms_world.specs.declared.refusal.Allow.{Allow}
use Rattle.kms_http.specs.declared.method.Method.{Method}
use Rattle.kms_http.specs.declared.method.Method.TheVariants.{Get, Post, Put, Patch, Delete}
use Rattle.kms_http.specs.declared.path.Path.{Path}
use Rattle.kms_http.specs.declared.path.Path.TheVariants as path

-- the method of a name
abbrev pub method_of : List ℕ → Option Method
method_of name =
    if bytes_eq name (codes "GET") then Some Get
    else if bytes_eq name (codes "POST") then Some Post
    else if bytes_eq name (codes "PUT") then Some Put
    else if bytes_eq name (codes "PATCH") then Some Patch
    else if bytes_eq name (codes "DELETE") then Some Delete
    else None

abbrev pub methods : (get post put patch delete : Bool) → Allow
methods get post put patch delete = record { get = get; post = post; put = put; patch = patch; delete = delete }

-- a method is one of these
abbrev pub has_method : Allow → Method → Bool
has_method allow Get = allow.get
has_method allow Post = allow.post
has_method allow Put = allow.put
has_method allow Patch = allow.patch
has_method allow Delete = allow.delete

-- the methods of a path: of GET, POST, PUT, PATCH and DELETE
abbrev pub allow_of : Path → Allow
allow_of path.Secrets = methods true true false false false
allow_of path.Secret = methods true false true false true
allow_of path.Payload = methods true false false false false
allow_of path.Metadata = methods true true true false false
allow_of path.Pair = methods true false true false true
allow_of path.SecretAcl = methods true false true true true
allow_of path.ContainerAcl = methods true false true true true
allow_of path.Containers = methods true true false false false
allow_of path.Container = methods true false false false true
allow_of path.Members = methods false true false false true
allow_of path.Consumers = methods true true false false true
allow_of path.Orders = methods true true false false false
allow_of path.Order = methods true false false false true
allow_of path.Quotas = methods true false false false false
allow_of path.ProjectQuotas = methods true false false false false
allow_of path.ProjectQuota = methods true false true false true
