-- Positions in a text, and the values that begin there.
use Rattle.std.specs.Prelude.{◌≡◌, ◌≤◌, ◌+◌, ◌++◌, ◌∷◌, [], ℕ, List, length}
use Rattle.std.specs.List.{Contains}
use Rattle.fhir_json.specs.Tree.{Tree, null, boolean, number, string, array, object, Items, no_items, item, Members, no_members, member}
use Rattle.fhir_json.specs.Grammar.{Spells}
use Rattle.fhir_json.specs.Position.{line_feeds, last_characters, position_at}
use Rattle.fhir_json.specs.declared.position.Position.{Position}

-- some byte of the text, or its end, is at this position
abbrev pub StandsIn : List ℕ → Position → Type 0
StandsIn bytes p = (n : ℕ) × (n ≤ length bytes) × (p ≡ position_at bytes n)

-- the position behind the front of a text, in which a byte order mark isn't counted
abbrev pub behind_front : List ℕ → Position
behind_front front = record { line = line_feeds front + 1; column = last_characters front + 1 }

-- a value is spelled in the text, and begins at this position
abbrev pub BeginsAt : List ℕ → Tree → Position → Type 0
BeginsAt bytes t p = (front v rest : List ℕ) × (bytes ≡ front ++ (v ++ rest)) × Spells t v × (p ≡ position_at bytes (length front))

abbrev mutual
  -- a value and all inside it, in the order of their text
  pub values_in : Tree → List Tree
  values_in null = null ∷ []
  values_in (boolean b) = boolean b ∷ []
  values_in (number n) = number n ∷ []
  values_in (string s) = string s ∷ []
  values_in (array ts) = array ts ∷ values_in_items ts
  values_in (object ms) = object ms ∷ values_in_members ms

  pub values_in_items : Items → List Tree
  values_in_items no_items = []
  values_in_items (item t ts) = values_in t ++ values_in_items ts

  pub values_in_members : Members → List Tree
  values_in_members no_members = []
  values_in_members (member name t ms) = values_in t ++ values_in_members ms

-- one of the tree's values begins at this position
abbrev pub IsOfValue : List ℕ → Tree → Position → Type 0
IsOfValue bytes t p = (value : Tree) × Contains (values_in t) value × BeginsAt bytes value p
