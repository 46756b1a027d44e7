-- Items that are told by a text each: those that tell a new one.
use Rattle.std.specs.Prelude.{List, [], ◌∷◌, filter, Bool, not}
use Rattle.std.specs.List.{list_any}
use Rattle.std.specs.Str.{bytes_eq}
use Rattle.fhir_json.specs.Tree.{Text}

module _ {A : Type 0} (text : A → Text) where
  abbrev pub have_one_text : A → A → Bool
  have_one_text x y = bytes_eq (text x) (text y)

  -- one of some items has the text of this one
  abbrev pub has_text_of : List A → A → Bool
  has_text_of xs x = list_any (have_one_text x) xs

  -- those of which none before them has the same text: the first, and of the others' those of other texts
  abbrev pub firsts : List A → List A
  firsts [] = []
  firsts (x ∷ xs) = x ∷ filter (λ y. not (have_one_text x y)) (firsts xs)
