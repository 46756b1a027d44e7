-- What constraints without expressions say in words (FHIR R4, ElementDefinition, constraint.human), and where.
use Rattle.std.specs.Prelude.{List, [], ◌∷◌, ◌++◌, filter, Option, None, Some, codes}
use Rattle.std.specs.List.{flat_map}
use Rattle.std.specs.Str.{bytes_eq}
use Rattle.fhir_json.specs.Tree.{Text, Tree}
use Rattle.fhir_json.specs.Fields.{text_in, text_at, items_in}
use Rattle.fhir_package.specs.Definitions.{Definitions}
use Rattle.fhir_findings.specs.Firsts.{firsts}
use Rattle.fhir_findings.specs.Sentences.{elements_in}

-- a sentence that a constraint says which has a key and no expression, with the url and the id of its element
pub record Saying : Type 0 where
  pub key : Text
  pub human : Text
  pub url : Text
  pub id : Text

abbrev pub said_by : (url id key : Text) → (written human : Option Text) → List Saying
said_by url id key None (Some human) = record { key = key; human = human; url = url; id = id } ∷ []
said_by url id key None None = []
said_by url id key (Some text) human = []

-- that of a constraint, if it is one that says something and has no expression
abbrev pub saying_of : (url id : Text) → Tree → List Saying
saying_of url id t = said_by url id (text_at (codes "key") t) (text_in (codes "expression") t) (text_in (codes "human") t)

-- those of an element of the definition at a url
abbrev pub sayings_in : Text → Tree → List Saying
sayings_in url element = flat_map (saying_of url (text_at (codes "id") element)) (items_in (codes "constraint") element)

-- those of a definition: of its snapshot, and then of its differential
abbrev pub sayings_of : Text × Tree → List Saying
sayings_of e =
    flat_map (sayings_in e.0) (elements_in (codes "snapshot") e.1) ++ flat_map (sayings_in e.0) (elements_in (codes "differential") e.1)

-- those of the definitions of a package, in order
abbrev pub all_sayings : Definitions → List Saying
all_sayings p = flat_map sayings_of p.structure_definitions

-- what some of them say under a key: each sentence once, where it is said first
abbrev pub said_under : Text → List Saying → List Saying
said_under key ys = firsts (λ y. y.human) (filter (λ y. bytes_eq key y.key) ys)
