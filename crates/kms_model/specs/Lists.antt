-- The lists: the rows that each of them shows, and the page of them that a query asks for.
use Rattle.std.specs.Prelude.{ℕ, Bool, ◌&&◌, List, [], ◌++◌, length, take, drop, filter, map, codes, Option, Some, None, Result, Ok, Err}
use Rattle.std.specs.Str.{bytes_eq}
use Rattle.kms_page.specs.Page.{page_of_list}
use Rattle.kms_page.specs.Query.{query_of}
use Rattle.kms_page.specs.declared.listing.Listing.{Listing}
use Rattle.kms_page.specs.declared.listing.Listing.TheVariants as listing
use Rattle.kms_page.specs.declared.query.Query.{Query}
use Rattle.kms_text.specs.Link.{link_of}
use Rattle.kms_text.specs.declared.link.Kind.TheVariants as kind
use Rattle.kms_world.specs.Secret.{attributes_of}
use Rattle.kms_world.specs.State.{State}
use Rattle.kms_world.specs.declared.action.Action.TheVariants.{SecretList, SecretGet, ContainerList, ContainerGet, ConsumerGet, QuotaAdmin}
use Rattle.kms_world.specs.declared.answer.Answer.TheVariants as answers
use Rattle.kms_world.specs.declared.answer.ListRows.{ListRows}
use Rattle.kms_world.specs.declared.answer.ListRows.TheVariants as rows
use Rattle.kms_world.specs.declared.caller.Caller.{Caller}
use Rattle.kms_world.specs.declared.container.ConsumerRow.{ConsumerRow}
use Rattle.kms_world.specs.declared.container.ContainerRow.{ContainerRow}
use Rattle.kms_world.specs.declared.id.Id.{Id}
use Rattle.kms_world.specs.declared.quota.QuotaRow.{QuotaRow}
use Rattle.kms_world.specs.declared.refusal.Field.{Field}
use Rattle.kms_world.specs.declared.refusal.Refusal.{Refusal}
use Rattle.kms_world.specs.declared.refusal.Refusal.TheVariants.{BadBody}
use Rattle.kms_world.specs.declared.secret.SecretRow.{SecretRow}
use Rattle.kms_model.specs.Containers.{any_container, consumers_of, container_for, container_target, view_of}
use Rattle.kms_model.specs.Done.{Done, ◌>>=◌}
use Rattle.kms_model.specs.Permission.{granted, may}
use Rattle.kms_model.specs.Secrets.{is_live, secret_target}

abbrev pub unless_bad : Result Query Field → Result Query Refusal
unless_bad (Ok query) = Ok query
unless_bad (Err field) = Err (BadBody field)

-- what a query's text asks of a list, or the refusal of the first parameter that breaks its rule
abbrev pub query_asked : Listing → (text : List ℕ) → Result Query Refusal
query_asked listing text = unless_bad (query_of listing text)

-- the page of a list without filters and keys
abbrev pub cut : {X : Type 0} → Query → List X → List X
cut query rows = take query.limit (drop query.offset rows)

-- a page is an answer, and changes nothing
abbrev pub page_done : (path text : List ℕ) → ListRows → (total : ℕ) → Done
page_done path text page total = record { answer = answers.List path text page total; effects = [] }

-- the list of secrets shows those of the caller's project that haven't expired and that the caller may get
abbrev pub shows_secret : State → Caller → ℕ → SecretRow → Bool
shows_secret s caller t row =
    bytes_eq row.project caller.project && is_live t row.expiration && may caller SecretGet (Some (secret_target s row))

abbrev pub secrets_shown : State → Caller → ℕ → List SecretRow
secrets_shown s caller t = filter (shows_secret s caller t) s.secrets

-- a page of secrets, by their attributes
abbrev pub secrets_done : (text : List ℕ) → List SecretRow × ℕ → Done
secrets_done text page = page_done (codes "/secrets") text (rows.Secrets (map attributes_of page.0)) page.1

-- GET of the list of secrets
abbrev pub secrets_listed : State → Caller → (text : List ℕ) → ℕ → Result Done Refusal
secrets_listed s caller text t = do
  granted ← granted caller SecretList None
  query ← query_asked listing.Secrets text
  Ok (secrets_done text (page_of_list (secrets_shown s caller t) query))

-- the list of containers shows those of the caller's project that the caller may get
abbrev pub shows_container : State → Caller → ContainerRow → Bool
shows_container s caller row = bytes_eq row.project caller.project && may caller ContainerGet (Some (container_target s row))

abbrev pub containers_shown : State → Caller → List ContainerRow
containers_shown s caller = filter (shows_container s caller) s.containers

-- a page of containers, each with its consumers
abbrev pub containers_done : State → (text : List ℕ) → Query → List ContainerRow → Done
containers_done s text query shown = page_done (codes "/containers") text (rows.Containers (map (view_of s) (cut query shown))) (length shown)

-- GET of the list of containers
abbrev pub containers_listed : State → Caller → (text : List ℕ) → Result Done Refusal
containers_listed s caller text = do
  granted ← granted caller ContainerList None
  query ← query_asked listing.Containers text
  Ok (containers_done s text query (containers_shown s caller))

abbrev pub consumers_path : Id → List ℕ
consumers_path id = link_of [] kind.Container id ++ codes "/consumers"

-- a page of a container's consumers
abbrev pub consumers_done : Id → (text : List ℕ) → Query → List ConsumerRow → Done
consumers_done id text query shown = page_done (consumers_path id) text (rows.Consumers (cut query shown)) (length shown)

-- GET of the list of a container's consumers
abbrev pub consumers_listed : State → Caller → Option Id → (text : List ℕ) → Result Done Refusal
consumers_listed s caller id text = do
  row ← container_for s caller ConsumerGet (any_container s id)
  query ← query_asked listing.Consumers text
  Ok (consumers_done row.id text query (consumers_of row.id s))

-- a page of rows of quotas
abbrev pub quotas_done : (text : List ℕ) → Query → List QuotaRow → Done
quotas_done text query shown = page_done (codes "/project-quotas") text (rows.Quotas (cut query shown)) (length shown)

-- GET of the list of all projects' quotas, as they were set
abbrev pub quotas_listed : State → Caller → (text : List ℕ) → Result Done Refusal
quotas_listed s caller text = do
  granted ← granted caller QuotaAdmin None
  query ← query_asked listing.Quotas text
  Ok (quotas_done text query s.quotas)
