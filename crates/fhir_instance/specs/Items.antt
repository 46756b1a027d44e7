-- Items: a resource as its type definition sees it, a finite tree of typed values under the names of elements (FHIR R4,
-- JSON; FHIRPath N1, section 3).
use Rattle.std.specs.Prelude.{ℕ, List, [], ◌∷◌, Bool, true, false, Option}
use Rattle.fhir_json.specs.Tree.{Text, Tree}

mutual
  -- the code of its type, the tree that it was typed from (of a primitive its value, if it has one), and its children
  pub data Item : Type 0 where
    item : (type : List ℕ) (json : Option Tree) → Kids → Item

  -- children under the names of their elements, in the order of the type
  pub data Kids : Type 0 where
    no_kids : Kids
    kid : (name : List ℕ) → Item → Kids → Kids

abbrev pub type_of : Item → Text
type_of (item type json kids) = type

abbrev pub json_of : Item → Option Tree
json_of (item type json kids) = json

abbrev pub kids_of : Item → Kids
kids_of (item type json kids) = kids

abbrev pub has_kids : Item → Bool
has_kids (item type json no_kids) = false
has_kids (item type json (kid name x kids)) = true

-- an item under the name of its element
abbrev pub Named : Type 0
Named = Text × Item

abbrev pub kids_in : List Named → Kids
kids_in [] = no_kids
kids_in (k ∷ ks) = kid k.0 k.1 (kids_in ks)

-- ---- where an item stands in a resource

-- the steps from the outermost item to an item in it: at each the position of the child among all of its parent's
abbrev pub Place : Type 0
Place = List ℕ
