-- The paths of the API, as a router finds them.
use Rattle.std.specs.Prelude.{ℕ, List, [], Option, Result, Ok, Err, option_map, codes}
use Rattle.matchit.specs.Rows.{RowsOf}
use Rattle.matchit.specs.Seek.{first}
use Rattle.matchit.specs.Order.{placed}
use Rattle.matchit.specs.Route.{Scan, parse_route}
use Rattle.matchit.specs.Router.{RouteOf, route_from}
use Rattle.matchit.specs.declared.error.InsertError.{InsertError}
use Rattle.kms_http.specs.declared.path.Path.{Path}
use Rattle.kms_http.specs.declared.path.Path.TheVariants as path

-- the rows of a router
abbrev pub Table : Type 0
Table = RowsOf (RouteOf Path)

-- the rows with one route more, where its text reads as one
abbrev pub with_scan : Result Scan InsertError → Path → Table → Table
with_scan (Ok s) path rows = placed (s.pattern, route_from s path) rows
with_scan (Err e) path rows = rows

abbrev pub with_route : List ℕ → Path → Table → Table
with_route text path rows = with_scan (parse_route text) path rows

unfoldable pub secrets_rows : Table
secrets_rows = with_route (codes "/v1/secrets/{id}/metadata") path.Metadata
    (with_route (codes "/v1/secrets/{id}/payload") path.Payload
    (with_route (codes "/v1/secrets/{id}") path.Secret
    (with_route (codes "/v1/secrets") path.Secrets [])))

unfoldable pub metadata_rows : Table
metadata_rows = with_route (codes "/v1/containers") path.Containers
    (with_route (codes "/v1/containers/{id}/acl") path.ContainerAcl
    (with_route (codes "/v1/secrets/{id}/acl") path.SecretAcl
    (with_route (codes "/v1/secrets/{id}/metadata/{key}") path.Pair
    (secrets_rows))))

unfoldable pub containers_rows : Table
containers_rows = with_route (codes "/v1/orders") path.Orders
    (with_route (codes "/v1/containers/{id}/consumers") path.Consumers
    (with_route (codes "/v1/containers/{id}/secrets") path.Members
    (with_route (codes "/v1/containers/{id}") path.Container
    (metadata_rows))))

unfoldable pub quotas_rows : Table
quotas_rows = with_route (codes "/v1/project-quotas/{project}") path.ProjectQuota
    (with_route (codes "/v1/project-quotas") path.ProjectQuotas
    (with_route (codes "/v1/quotas") path.Quotas
    (with_route (codes "/v1/orders/{id}") path.Order
    (containers_rows))))

-- the whole table
abbrev pub table_rows : Table
table_rows = quotas_rows

-- the path of a target: the first route that the router finds
abbrev pub path_of : List ℕ → Option Path
path_of target = option_map (λ r. r.value) (first table_rows target)
