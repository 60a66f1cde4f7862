-- Bodies of consumers: the name and the URL, or the refusal of the first rule that the body breaks.
use Rattle.std.specs.Prelude.{ℕ, List, Result, Ok}
use Rattle.kms_world.specs.declared.body.ConsumerBody.{ConsumerBody}
use Rattle.kms_world.specs.declared.refusal.Field.TheVariants.{Name, Url}
use Rattle.kms_world.specs.declared.refusal.Refusal.{Refusal}
use Rattle.kms_box.specs.Rules.{◌>>=◌, required_text}

abbrev pub checked_consumer : ConsumerBody → Result (List ℕ × List ℕ) Refusal
checked_consumer body = do
  name ← required_text Name body.name
  url ← required_text Url body.url
  Ok (name, url)
