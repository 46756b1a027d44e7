-- Texts, each once.
use Rattle.std.specs.Prelude.{◌≡◌, List, [], ◌∷◌, filter, not}
use Rattle.std.specs.Str.{bytes_eq}
use Rattle.fhir_json.specs.Tree.{Text}
use Rattle.fhir_names.specs.Places.{Places, Knows}

-- the first text, and then the others, each once, without it
abbrev pub each_once : List Text → List Text
each_once [] = []
each_once (x ∷ xs) = x ∷ filter (λ y. not (bytes_eq x y)) (each_once xs)

-- ---- what is kept on the way (used by private contracts alone)

pub record OnceValue : Type 0 where
  pub texts : List Text
  pub places : Places

-- it has these texts, each once, and knows which they are
pub record HasOnce (once : OnceValue) (texts : List Text) : Type 0 where
  pub listed : once.texts ≡ each_once texts
  pub known : Knows once.places texts
