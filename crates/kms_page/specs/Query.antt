-- What a query asks of a list.
use Rattle.std.specs.Prelude.{◌≡◌, ℕ, ◌^◌, ◌<◌, ◌≤◌, List, [], filter, Option, Some, None, Result, Ok, Err, is_none, unwrap_or}
use Rattle.std.specs.Option.{option_and_then}
use Rattle.kms_world.specs.SecretKind.{kind_of}
use Rattle.kms_world.specs.Field.{word_of}
use Rattle.kms_world.specs.declared.refusal.Field.{Field}
use Rattle.kms_world.specs.declared.refusal.Field.TheVariants.{Offset, Limit, Name, Alg, Bits, Mode, SecretType, Sort}
use Rattle.kms_page.specs.declared.listing.Listing.{Listing}
use Rattle.kms_page.specs.declared.listing.Listing.TheVariants.{Secrets, Containers, Consumers, Orders, Quotas}
use Rattle.kms_page.specs.declared.query.Query.{Query}
use Rattle.kms_page.specs.declared.query.QueryFault.{QueryFault}
use Rattle.kms_page.specs.declared.query.QueryFault.TheVariants.{Bad, NoMemory}
use Rattle.kms_page.specs.Number.{number_of, limit_of}
use Rattle.kms_page.specs.Parameters.{parameters_of, value_of}
use Rattle.kms_page.specs.Rules.{paging, field_named, first_fault}
use Rattle.kms_page.specs.Sorts.{sorts_of}

-- a list of secrets alone has filters and an order
abbrev pub filters_of : Listing → List (List ℕ × List ℕ) → List (List ℕ × List ℕ)
filters_of Secrets parameters = parameters
filters_of Containers parameters = []
filters_of Consumers parameters = []
filters_of Orders parameters = []
filters_of Quotas parameters = []

-- all parameters but the limit and the offset
abbrev pub others_of : List (List ℕ × List ℕ) → List (List ℕ × List ℕ)
others_of parameters = filter (λ p. is_none (field_named paging p.0)) parameters

-- each parameter by its name, or its default
unfoldable pub query_from : Listing → List (List ℕ × List ℕ) → Query
query_from listing parameters =
    let filters = filters_of listing parameters in
    record {
      offset = unwrap_or (option_and_then number_of (value_of (word_of Offset) parameters)) 0;
      limit = unwrap_or (option_and_then limit_of (value_of (word_of Limit) parameters)) 10;
      name = value_of (word_of Name) filters;
      alg = value_of (word_of Alg) filters;
      bits = option_and_then number_of (value_of (word_of Bits) filters);
      mode = value_of (word_of Mode) filters;
      secret_type = option_and_then kind_of (value_of (word_of SecretType) filters);
      sort = unwrap_or (option_and_then sorts_of (value_of (word_of Sort) filters)) [];
      others = others_of parameters;
    }

abbrev pub query_unless : Option Field → Query → Result Query Field
query_unless None query = Ok query
query_unless (Some field) query = Err field

-- the query, or the first parameter that breaks its rule
unfoldable pub query_of : Listing → List ℕ → Result Query Field
query_of listing text =
    query_unless (first_fault listing [] (parameters_of text)) (query_from listing (parameters_of text))

-- the answer is this one, or out of memory
abbrev pub IsQueryUnlessNoMemory : Result Query QueryFault → Result Query Field → Type 0
IsQueryUnlessNoMemory (Ok query) answer = answer ≡ Ok query
IsQueryUnlessNoMemory (Err (Bad field)) answer = answer ≡ Err field
IsQueryUnlessNoMemory (Err NoMemory) answer = Unit {0}

-- the numbers of a query that was read
pub record IsInRange (query : Query) : Type 0 where
  pub offset : query.offset < 2 ^ 32
  pub least : 1 ≤ query.limit
  pub most : query.limit ≤ 100
