-- The methods that a path's Allow names are those that it has.
use Rattle.std.proofs.Common.{◌≡◌, is_some, refl}
use Rattle.kms_http.specs.declared.method.Method.{Method}
use Rattle.kms_http.specs.declared.method.Method.TheVariants.{Get, Post, Put, Patch, Delete}
use Rattle.kms_http.specs.declared.path.Path.TheVariants as path
use Rattle.kms_http.specs.Methods.{has_method, allow_of}
use Rattle.kms_http.specs.Routing.{AllowTells, shape_on}

-- a fact holds of each method
by-method : (P : Method → Type 0) → P Get → P Post → P Put → P Patch → P Delete → (method : Method) → P method
by-method P get post put patch delete Get = get
by-method P get post put patch delete Post = post
by-method P get post put patch delete Put = put
by-method P get post put patch delete Patch = patch
by-method P get post put patch delete Delete = delete

pub allow-tells : AllowTells
unfolding shape_on
allow-tells path.Secrets method head =
    by-method (λ m. is_some (shape_on path.Secrets m head) ≡ has_method (allow_of path.Secrets) m) refl refl refl refl refl method
allow-tells path.Secret method head =
    by-method (λ m. is_some (shape_on path.Secret m head) ≡ has_method (allow_of path.Secret) m) refl refl refl refl refl method
allow-tells path.Payload method head =
    by-method (λ m. is_some (shape_on path.Payload m head) ≡ has_method (allow_of path.Payload) m) refl refl refl refl refl method
allow-tells path.Metadata method head =
    by-method (λ m. is_some (shape_on path.Metadata m head) ≡ has_method (allow_of path.Metadata) m) refl refl refl refl refl method
allow-tells path.Pair method head =
    by-method (λ m. is_some (shape_on path.Pair m head) ≡ has_method (allow_of path.Pair) m) refl refl refl refl refl method
allow-tells path.SecretAcl method head =
    by-method (λ m. is_some (shape_on path.SecretAcl m head) ≡ has_method (allow_of path.SecretAcl) m) refl refl refl refl refl method
allow-tells path.ContainerAcl method head =
    by-method (λ m. is_some (shape_on path.ContainerAcl m head) ≡ has_method (allow_of path.ContainerAcl) m) refl refl refl refl refl method
allow-tells path.Containers method head =
    by-method (λ m. is_some (shape_on path.Containers m head) ≡ has_method (allow_of path.Containers) m) refl refl refl refl refl method
allow-tells path.Container method head =
    by-method (λ m. is_some (shape_on path.Container m head) ≡ has_method (allow_of path.Container) m) refl refl refl refl refl method
allow-tells path.Members method head =
    by-method (λ m. is_some (shape_on path.Members m head) ≡ has_method (allow_of path.Members) m) refl refl refl refl refl method
allow-tells path.Consumers method head =
    by-method (λ m. is_some (shape_on path.Consumers m head) ≡ has_method (allow_of path.Consumers) m) refl refl refl refl refl method
allow-tells path.Orders method head =
    by-method (λ m. is_some (shape_on path.Orders m head) ≡ has_method (allow_of path.Orders) m) refl refl refl refl refl method
allow-tells path.Order method head =
    by-method (λ m. is_some (shape_on path.Order m head) ≡ has_method (allow_of path.Order) m) refl refl refl refl refl method
allow-tells path.Quotas method head =
    by-method (λ m. is_some (shape_on path.Quotas m head) ≡ has_method (allow_of path.Quotas) m) refl refl refl refl refl method
allow-tells path.ProjectQuotas method head =
    by-method (λ m. is_some (shape_on path.ProjectQuotas m head) ≡ has_method (allow_of path.ProjectQuotas) m) refl refl refl refl refl method
allow-tells path.ProjectQuota method head =
    by-method (λ m. is_some (shape_on path.ProjectQuota m head) ≡ has_method (allow_of path.ProjectQuota) m) refl refl refl refl refl method
