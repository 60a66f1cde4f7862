-- Pages of lists as objects (Barbican API v1, the responses to GET /v1/secrets, /v1/containers and the like): the rows
-- under the list's name, the links to the next and the previous page where there are such, and how many rows there are.
use Rattle.std.specs.Prelude.{ℕ, List, map, option_map, codes}
use Rattle.serde_json.specs.Data.{unsigned, Data, number, string, array, object, Members, member, no_members}
use Rattle.serde_json.specs.View.{items_of}
use Rattle.kms_world.specs.declared.answer.ListRows.{ListRows}
use Rattle.kms_world.specs.declared.answer.ListRows.TheVariants.{Secrets, Containers, Consumers, Orders, Quotas}
use Rattle.kms_page.specs.Link.{link_of}
use Rattle.kms_page.specs.Page.{next_offset, previous_offset}
use Rattle.kms_page.specs.declared.listing.Listing.{Listing}
use Rattle.kms_page.specs.declared.listing.Listing.TheVariants as listing
use Rattle.kms_page.specs.declared.query.Query.{Query}
use Rattle.kms_json.specs.Container.{consumers_data, container_data}
use Rattle.kms_json.specs.Order.{order_data}
use Rattle.kms_json.specs.Quota.{project_data}
use Rattle.kms_json.specs.Secret.{secret_data}
use Rattle.kms_json.specs.Tokens.{with_optional}

-- whose parameters the query has
abbrev pub listing_of : ListRows → Listing
listing_of (Secrets rows) = listing.Secrets
listing_of (Containers rows) = listing.Containers
listing_of (Consumers rows) = listing.Consumers
listing_of (Orders rows) = listing.Orders
listing_of (Quotas rows) = listing.Quotas

abbrev pub name_of : ListRows → List ℕ
name_of (Secrets rows) = codes "secrets"
name_of (Containers rows) = codes "containers"
name_of (Consumers rows) = codes "consumers"
name_of (Orders rows) = codes "orders"
name_of (Quotas rows) = codes "project_quotas"

-- the page's rows, in its order; links are under an endpoint
abbrev pub rows_data : List ℕ → ListRows → Data
rows_data endpoint (Secrets rows) = array (items_of (map (secret_data endpoint) rows))
rows_data endpoint (Containers rows) = array (items_of (map (container_data endpoint) rows))
rows_data endpoint (Consumers rows) = consumers_data rows
rows_data endpoint (Orders rows) = array (items_of (map (order_data endpoint) rows))
rows_data endpoint (Quotas rows) = array (items_of (map project_data rows))

-- the link to the page at an offset
abbrev pub page_link : (endpoint path : List ℕ) → Query → (offset : ℕ) → Data
page_link endpoint path query offset = string (link_of endpoint path query offset)

-- the rows under the list's name, the links to the next and the previous page, and what stands behind them, in the order of their
-- keys' bytes
abbrev pub in_order : ListRows → (rows next previous : Members → Members) → Members → Members
in_order (Secrets r) rows next previous members = next (previous (rows members))
in_order (Containers r) rows next previous members = rows (next (previous members))
in_order (Consumers r) rows next previous members = rows (next (previous members))
in_order (Orders r) rows next previous members = next (rows (previous members))
in_order (Quotas r) rows next previous members = next (previous (rows members))

-- the last member
abbrev pub total_members : (total : ℕ) → Members
total_members total = member (codes "total") (number (unsigned total)) no_members

abbrev pub list_members : (endpoint path : List ℕ) → Query → ListRows → (total : ℕ) → Members
list_members endpoint path query rows total = in_order rows
    (member (name_of rows) (rows_data endpoint rows))
    (with_optional (codes "next") (option_map (page_link endpoint path query) (next_offset query total)))
    (with_optional (codes "previous") (option_map (page_link endpoint path query) (previous_offset query)))
    (total_members total)

abbrev pub list_data : (endpoint path : List ℕ) → Query → ListRows → (total : ℕ) → Data
list_data endpoint path query rows total = object (list_members endpoint path query rows total)
