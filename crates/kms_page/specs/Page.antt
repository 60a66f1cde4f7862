-- A page of a list: the rows are filtered, put in order, counted, and cut.
use Rattle.std.specs.Prelude.{ℕ, ◌+◌, ◌-◌, ◌==◌, nat_lt, List, length, take, drop, filter, Option, Some, None, if◌then◌else◌}
use Rattle.std.specs.List.{slice_get, filter_map}
use Rattle.kms_world.specs.declared.secret.SecretRow.{SecretRow}
use Rattle.kms_page.specs.declared.places.Page.{Page}
use Rattle.kms_page.specs.declared.query.Query.{Query}
use Rattle.kms_page.specs.Filter.{passes, filtered}
use Rattle.kms_page.specs.Order.{row_cmp, place_cmp}
use Rattle.kms_page.specs.Sorted.{sorted}

-- the rows of a page of secrets, and how many rows pass: of the rows that a list shows, in the order of their creation
unfoldable pub page_of_list : List SecretRow → Query → List SecretRow × ℕ
page_of_list rows query =
    let all = sorted (row_cmp query.sort) (filter (passes query) rows) in
    (take query.limit (drop query.offset all), length all)

-- the rows at these places; where there is none it is left out
abbrev pub rows_at : {X : Type 0} → List X → List ℕ → List X
rows_at rows places = filter_map (slice_get rows) places

-- the places of all rows that pass, by the query's keys and then by their places
unfoldable pub ordered : List SecretRow → List ℕ → Query → List ℕ
ordered rows shown query = sorted (place_cmp rows query.sort) (filtered rows shown query)

-- the page of a list in order, and how many rows the list has
unfoldable pub page_from : List ℕ → Query → Page
page_from places query = record { at = take query.limit (drop query.offset places); total = length places }

-- the page of the list of secrets, by the places of its rows
unfoldable pub page_of_rows : List SecretRow → List ℕ → Query → Page
page_of_rows rows shown query = page_from (ordered rows shown query) query

-- the offset of the next page, where rows are left behind this one
abbrev pub next_offset : Query → ℕ → Option ℕ
next_offset query total = if nat_lt (query.offset + query.limit) total then Some (query.offset + query.limit) else None

-- the offset of the page before, unless this is the first: `offset - limit`, or 0 where the limit is more
abbrev pub previous_offset : Query → Option ℕ
previous_offset query = if query.offset == 0 then None else Some (query.offset - query.limit)
