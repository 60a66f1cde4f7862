-- Links to a page.
use Rattle.std.specs.Prelude.{ℕ, List, [], ◌∷◌, ◌++◌, codes, decimal}
use Rattle.form_urlencoded.specs.Form.{extend_pairs}
use Rattle.kms_page.specs.declared.query.Query.{Query}

-- the parameters of the page at this offset: the limit in force, the offset, and the others in their order
abbrev pub parameters_at : Query → ℕ → List (List ℕ × List ℕ)
parameters_at query offset =
    (codes "limit", decimal query.limit) ∷ (codes "offset", decimal offset) ∷ query.others

-- what stands behind the `?` (URL Standard, section 5.2)
unfoldable pub query_text : Query → ℕ → List ℕ
query_text query offset = extend_pairs [] (parameters_at query offset)

-- the endpoint, the path behind the version, and the query
abbrev pub link_of : List ℕ → List ℕ → Query → ℕ → List ℕ
link_of endpoint path query offset = endpoint ++ path ++ codes "?" ++ query_text query offset
