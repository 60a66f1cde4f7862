-- What is written of a value: its tokens, one after the other.
use Rattle.std.specs.Prelude.{◌≡◌, ℕ, List, [], ◌∷◌, ◌++◌, Option, Some, None}
use Rattle.json.specs.Token.{Token, key}
use Rattle.json.specs.Tree.{json_tokens, members_tokens}
use Rattle.json.specs.Written.{Written}
use Rattle.serde_json.specs.Data.{Data, Members, member}
use Rattle.serde_json.specs.Written.{outline, members_outline}

-- a value's tokens
abbrev pub data_tokens : Data → List Token
data_tokens d = json_tokens (outline d)

-- those of one member of an object
abbrev pub member_tokens : (name : List ℕ) → Data → List Token
member_tokens name d = key name ∷ data_tokens d

-- those of an object's last members, with its closing bracket
abbrev pub ending_tokens : Members → List Token
ending_tokens members = members_tokens (members_outline members)

-- a member before others, where there is a value for it, and its tokens
abbrev pub with_optional : (name : List ℕ) → Option Data → Members → Members
with_optional name None others = others
with_optional name (Some d) others = member name d others

abbrev pub optional_tokens : (name : List ℕ) → Option Data → List Token
optional_tokens name None = []
optional_tokens name (Some d) = member_tokens name d

-- those of an array's items
abbrev pub items_tokens : List Data → List Token
items_tokens [] = []
items_tokens (d ∷ items) = data_tokens d ++ items_tokens items

-- These tokens were written after what was there.
pub record Adds (old new : Written) (tokens : List Token) : Type 0 where
  pub before : new.before ≡ old.before
  pub written : new.tokens ≡ old.tokens ++ tokens

-- What is still to be written before all of these tokens stand after what was there at the start.
pub record IsLeft (start now : Written) (rest all : List Token) : Type 0 where
  pub before : now.before ≡ start.before
  pub written : now.tokens ++ rest ≡ start.tokens ++ all
