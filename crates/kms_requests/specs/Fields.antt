-- The fields of a body, by their JSON types: a field that is null is absent.
use Rattle.std.specs.Prelude.{◌≡◌, ℕ, ℤ, Bool, List, [], ◌∷◌, Option, Some, None, Result, Ok, Err}
use Rattle.serde_json.specs.Data.{Data, null, boolean, number, string, array, object, Items, no_items, item}
use Rattle.serde_json.specs.Find.{get, as_integer}
use Rattle.kms_world.specs.declared.refusal.Field.{Field}
use Rattle.kms_world.specs.declared.refusal.Refusal.TheVariants.{BadBody}
use Rattle.kms_world.specs.Field.{word_of}
use Rattle.kms_requests.specs.Body.{Said}
use Rattle.kms_requests.specs.declared.fields.BodyFault.{BodyFault}
use Rattle.kms_requests.specs.declared.fields.BodyFault.TheVariants as fault

-- what a function returned, seen by view, is what the body says, unless memory ran out
abbrev pub Fails : {Y : Type 0} → BodyFault → Said Y → Type 0
Fails (fault.Refused refusal) said = said ≡ Err refusal
Fails fault.NoMemory said = Unit {0}

abbrev pub Gives : {X Y : Type 0} → (X → Y) → Result X BodyFault → Said Y → Type 0
Gives view (Ok x) said = said ≡ Ok (view x)
Gives view (Err e) said = Fails e said

infixl 10 ◌>>=◌
abbrev pub ◌>>=◌ : {A B : Type 0} → Said A → (A → Said B) → Said B
Ok a >>= f = f a
Err refusal >>= f = Err refusal

abbrev pub said_map : {A B : Type 0} → (A → B) → Said A → Said B
said_map g (Ok a) = Ok (g a)
said_map g (Err refusal) = Err refusal

-- a field's value, refused under the field's name where its type is another
abbrev pub text_in : Field → Option Data → Said (Option (List ℕ))
text_in f None = Ok None
text_in f (Some null) = Ok None
text_in f (Some (string s)) = Ok (Some s)
text_in f (Some (boolean b)) = Err (BadBody f)
text_in f (Some (number n)) = Err (BadBody f)
text_in f (Some (array ds)) = Err (BadBody f)
text_in f (Some (object ms)) = Err (BadBody f)

abbrev pub integer_in : Field → Option ℤ → Said (Option ℤ)
integer_in f None = Err (BadBody f)
integer_in f (Some z) = Ok (Some z)

abbrev pub number_in : Field → Option Data → Said (Option ℤ)
number_in f None = Ok None
number_in f (Some null) = Ok None
number_in f (Some (number n)) = integer_in f (as_integer n)
number_in f (Some (string s)) = Err (BadBody f)
number_in f (Some (boolean b)) = Err (BadBody f)
number_in f (Some (array ds)) = Err (BadBody f)
number_in f (Some (object ms)) = Err (BadBody f)

abbrev pub bool_in : Field → Option Data → Said (Option Bool)
bool_in f None = Ok None
bool_in f (Some null) = Ok None
bool_in f (Some (boolean b)) = Ok (Some b)
bool_in f (Some (string s)) = Err (BadBody f)
bool_in f (Some (number n)) = Err (BadBody f)
bool_in f (Some (array ds)) = Err (BadBody f)
bool_in f (Some (object ms)) = Err (BadBody f)

abbrev pub list_in : Field → Option Data → Said (Option Items)
list_in f None = Ok None
list_in f (Some null) = Ok None
list_in f (Some (array ds)) = Ok (Some ds)
list_in f (Some (boolean b)) = Err (BadBody f)
list_in f (Some (number n)) = Err (BadBody f)
list_in f (Some (string s)) = Err (BadBody f)
list_in f (Some (object ms)) = Err (BadBody f)

-- an object
abbrev pub object_in : Field → Option Data → Said (Option Data)
object_in f None = Ok None
object_in f (Some null) = Ok None
object_in f (Some (object ms)) = Ok (Some (object ms))
object_in f (Some (boolean b)) = Err (BadBody f)
object_in f (Some (number n)) = Err (BadBody f)
object_in f (Some (string s)) = Err (BadBody f)
object_in f (Some (array ds)) = Err (BadBody f)

-- the field of that name of an object
abbrev pub optional_text : Field → Data → Said (Option (List ℕ))
optional_text f d = text_in f (get (word_of f) d)

abbrev pub optional_number : Field → Data → Said (Option ℤ)
optional_number f d = number_in f (get (word_of f) d)

abbrev pub optional_bool : Field → Data → Said (Option Bool)
optional_bool f d = bool_in f (get (word_of f) d)

abbrev pub optional_list : Field → Data → Said (Option Items)
optional_list f d = list_in f (get (word_of f) d)

abbrev pub optional_object : Field → Data → Said (Option Data)
optional_object f d = object_in f (get (word_of f) d)

-- ---- lists of texts

abbrev pub text_item : Field → Data → Said (List ℕ)
text_item f (string s) = Ok s
text_item f null = Err (BadBody f)
text_item f (boolean b) = Err (BadBody f)
text_item f (number n) = Err (BadBody f)
text_item f (array ds) = Err (BadBody f)
text_item f (object ms) = Err (BadBody f)

abbrev pub texts_of : Field → Items → Said (List (List ℕ))
texts_of f no_items = Ok []
texts_of f (item d ds) = do
  first ← text_item f d
  said_map (λ others. first ∷ others) (texts_of f ds)
