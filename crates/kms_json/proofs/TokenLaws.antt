-- What the tokens of a value print as.
use Rattle.std.proofs.Common.{◌≡◌, ℕ, List, [], ◌∷◌, ◌++◌, Option, Some, None, Ok, refl, ap, sym, subst, ◌∙◌, append_assoc, append-nil}
use Rattle.json.specs.Token.{Token, begin_array, end_array}
use Rattle.json.specs.Tree as tree
use Rattle.json.specs.Print.{print}
use Rattle.json.specs.Written.{Written, Writes}
use Rattle.serde_json.proofs.Texts.{print-outline}
use Rattle.serde_json.specs.Data.{Data, Members, array}
use Rattle.serde_json.specs.View.{items_of}
use Rattle.serde_json.specs.Written.{compact_text, items_outline}
use Rattle.kms_json.specs.Tokens.{Adds, IsLeft, data_tokens, ending_tokens, items_tokens, with_optional, optional_tokens}

pub printed : (d : Data) → print (data_tokens d) ≡ compact_text d
printed d = print-outline d

-- one token
pub one : {E : Type 0} {x : Unit {0}} {a b : Written} {t : Token} → Writes {E = E} (Ok x) a b t → Adds a b (t ∷ [])
one w = record { before = w.room.0; written = w.ok }

-- what calls write one after the other
pub then : {a b c : Written} {xs ys : List Token} → Adds a b xs → Adds b c ys → Adds a c (xs ++ ys)
then {a} {b} {c} {xs} {ys} first second = record {
  before = second.before ∙ first.before;
  written = second.written ∙ ap (λ (ts : List Token). ts ++ ys) first.written ∙ append_assoc a.tokens xs ys;
}

pub then_optional : {a b c : Written} (name : List ℕ) (d : Option Data) (others : Members) → Adds a b (optional_tokens name d) → Adds b c (ending_tokens others) → Adds a c (ending_tokens (with_optional name d others))
then_optional name None others first second = then first second
then_optional name (Some d) others first second = then first second

-- ---- items, one after the other

pub first : (start : Written) (all : List Token) → IsLeft start start all all
first start all = record { before = refl; written = refl }

pub next : {start a b : Written} {xs rest all : List Token} → IsLeft start a (xs ++ rest) all → Adds a b xs → IsLeft start b rest all
next {start} {a} {b} {xs} {rest} {all} left adds = record {
  before = adds.before ∙ left.before;
  written = ap (λ (ts : List Token). ts ++ rest) adds.written ∙ append_assoc a.tokens xs rest ∙ left.written;
}

pub last : {start now : Written} {all : List Token} → IsLeft start now [] all → Adds start now all
last {start} {now} {all} left = record { before = left.before; written = sym (append-nil now.tokens) ∙ left.written }

-- the last items of an array, with its closing bracket
abbrev ending_items : List Data → List Token
ending_items ds = tree.items_tokens (items_outline (items_of ds))

items_of_tokens : (ds : List Data) → ending_items ds ≡ items_tokens ds ++ end_array ∷ []
items_of_tokens [] = refl
items_of_tokens (d ∷ ds) = ap (λ (ts : List Token). data_tokens d ++ ts) (items_of_tokens ds) ∙ sym (append_assoc (data_tokens d) (items_tokens ds) (end_array ∷ []))

-- an array between its brackets
pub bracketed : {a b c d : Written} (ds : List Data) → Adds a b (begin_array ∷ []) → Adds b c (items_tokens ds) → Adds c d (end_array ∷ []) → Adds a d (data_tokens (array (items_of ds)))
bracketed {a} {b} {c} {d} ds begins items ends =
    subst (λ (ts : List Token). Adds a d (begin_array ∷ ts)) (sym (items_of_tokens ds)) (then begins (then items ends))
