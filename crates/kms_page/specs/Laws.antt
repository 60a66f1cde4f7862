-- Words of the laws of pages.
use Rattle.std.specs.Prelude.{ℕ, zero, suc, ◌+◌, ◌*◌, Bool, List, [], ◌++◌, drop}
use Rattle.std.specs.declared.cmp.Ordering.{Ordering}
use Rattle.std.specs.Ordering.{nat_cmp, then_cmp}
use Rattle.kms_world.specs.declared.secret.SecretRow.{SecretRow}
use Rattle.kms_page.specs.declared.query.Query.{Query}
use Rattle.kms_page.specs.declared.places.Page.{Page}
use Rattle.kms_page.specs.declared.sorts.SortKey.{SortKey}
use Rattle.kms_page.specs.Order.{place_cmp}

-- the same query at another offset
abbrev pub at_offset : Query → ℕ → Query
at_offset query offset = record query { offset = offset }

-- the first so many pages, one behind the other: at the offsets 0, limit, 2 limit ..
abbrev pub first_pages : (Query → Page) → Query → ℕ → List ℕ
first_pages page query zero = []
first_pages page query (suc n) = first_pages page query n ++ (page (at_offset query (n * query.limit))).at

-- the rows behind the page
abbrev pub behind : List ℕ → Query → List ℕ
behind places query = drop (query.offset + query.limit) places

-- two places by their rows, and by the places themselves where these tie
abbrev pub creation_cmp : List SecretRow → List (SortKey × Bool) → ℕ → ℕ → Ordering
creation_cmp rows sorts = then_cmp (place_cmp rows sorts) nat_cmp
