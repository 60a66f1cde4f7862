-- clap alone takes words that are outside the grammar.
use Rattle.std.specs.Prelude.{◌≡◌, List, [], ◌∷◌, Bool, true, false, codes}
use Rattle.clap.specs.Words.{takes}
use Rattle.kms_words.specs.Options.{Text}
use Rattle.kms_words.specs.Clap.{init_app}

-- clap takes the words; not opened in goals
unfoldable pub init_takes : List Text → Bool
init_takes words = takes init_app words

-- a value that begins with a dash, an empty one, and two dashes alone at the end; but no option twice, no abbreviation and no
-- help words
pub record IsWider : Type 0 where
  pub dash : init_takes (codes "init" ∷ codes "--store=-x" ∷ []) ≡ true
  pub empty : init_takes (codes "init" ∷ codes "--store=" ∷ []) ≡ true
  pub dashes : init_takes (codes "init" ∷ codes "--store=s" ∷ codes "--" ∷ []) ≡ true
  pub twice : init_takes (codes "init" ∷ codes "--store=s" ∷ codes "--store=s" ∷ []) ≡ false
  pub short : init_takes (codes "init" ∷ codes "--stor=s" ∷ []) ≡ false
  pub help : init_takes (codes "init" ∷ codes "--help" ∷ []) ≡ false
