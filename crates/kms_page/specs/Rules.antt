-- Which parameters a list takes, and the first one that breaks its rule.
use Rattle.std.specs.Prelude.{ℕ, Bool, true, not, ◌||◌, List, [], ◌∷◌, ◌++◌, find, Option, Some, None, if◌then◌else◌}
use Rattle.std.specs.Option.{is_some}
use Rattle.std.specs.Str.{bytes_eq}
use Rattle.kms_world.specs.Field.{word_of}
use Rattle.kms_world.specs.SecretKind.{kind_of}
use Rattle.kms_world.specs.declared.refusal.Field.{Field}
use Rattle.kms_world.specs.declared.refusal.Field.TheVariants.{Offset, Limit, Name, Alg, Bits, Mode, SecretType, Sort, Created, Updated, Expiration, AclOnly}
use Rattle.kms_page.specs.declared.listing.Listing.{Listing}
use Rattle.kms_page.specs.declared.listing.Listing.TheVariants.{Secrets, Containers, Consumers, Orders, Quotas}
use Rattle.kms_page.specs.Number.{number_of, limit_of}
use Rattle.kms_page.specs.Parameters.{value_of}
use Rattle.kms_page.specs.Sorts.{sorts_of}

-- each list has pages
abbrev pub paging : List Field
paging = Offset ∷ Limit ∷ []

-- the parameters that a list takes
abbrev pub taken : Listing → List Field
taken Secrets = Offset ∷ Limit ∷ Name ∷ Alg ∷ Bits ∷ Mode ∷ SecretType ∷ Sort ∷ []
taken Containers = paging
taken Consumers = paging
taken Orders = paging
taken Quotas = paging

-- parameters of the API that no list here takes, and none may have
abbrev pub left_out : List Field
left_out = Created ∷ Updated ∷ Expiration ∷ AclOnly ∷ []

-- the field of this name among them
abbrev pub field_named : List Field → List ℕ → Option Field
field_named fields name = find (λ field. bytes_eq (word_of field) name) fields

-- the value keeps the rule of this parameter
abbrev pub is_good : Field → List ℕ → Bool
is_good Offset value = is_some (number_of value)
is_good Limit value = is_some (limit_of value)
is_good Bits value = is_some (number_of value)
is_good SecretType value = is_some (kind_of value)
is_good Sort value = is_some (sorts_of value)
is_good _ value = true

-- a parameter that the list takes may stand once, and its value keeps its rule
abbrev pub fault_if_taken : Option Field → List (List ℕ × List ℕ) → List ℕ × List ℕ → Option Field
fault_if_taken None earlier parameter = None
fault_if_taken (Some field) earlier parameter =
    if is_some (value_of parameter.0 earlier) || not (is_good field parameter.1) then Some field else None

abbrev pub or_else : Option Field → Option Field → Option Field
or_else None fault = fault
or_else (Some field) fault = Some field

-- the rule that a parameter breaks behind these earlier ones
abbrev pub fault_of : Listing → List (List ℕ × List ℕ) → List ℕ × List ℕ → Option Field
fault_of listing earlier parameter =
    or_else (field_named left_out parameter.0) (fault_if_taken (field_named (taken listing) parameter.0) earlier parameter)

-- the first parameter that breaks its rule, in their order
abbrev pub first_fault : Listing → List (List ℕ × List ℕ) → List (List ℕ × List ℕ) → Option Field
first_fault listing earlier [] = None
first_fault listing earlier (parameter ∷ parameters) =
    or_else (fault_of listing earlier parameter) (first_fault listing (earlier ++ parameter ∷ []) parameters)
