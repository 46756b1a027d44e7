-- An item as a list of tokens that gives it back, so that a model's value may hold items (used by private contracts alone).
use Rattle.std.specs.Prelude.{◌≡◌, ℕ, List, [], ◌∷◌, nat_eq, if◌then◌else◌, Option, None, refl}
use Rattle.std.specs.Coded.{Coded, code_by, coded×, coded_ℕ, coded_list, coded_option}
use mathlib.Core.Path.{ap, ◌∙◌}
use mir.Syntax.{named}
use Rattle.fhir_json.specs.declared.json.Json.{Json}
use Rattle.fhir_json.specs.contracts.json.Json as json
use Rattle.fhir_json.specs.Tree.{Tree}
use Rattle.fhir_json.specs.Coding.{tree_code}
use Rattle.fhir_instance.specs.Items.{Item, item, Kids, no_kids, kid}

-- a tag, and a text and JSON where it has them
abbrev pub Token : Type 0
Token = ℕ × (List ℕ × Option Tree)

-- the tokens of an item before others
abbrev mutual
  pub tokens : Item → List Token → List Token
  tokens (item type json kids) k = (0, (type, json)) ∷ kids_tokens kids k

  pub kids_tokens : Kids → List Token → List Token
  kids_tokens no_kids k = (1, ([], None)) ∷ k
  kids_tokens (kid name x kids) k = (2, (name, None)) ∷ tokens x (kids_tokens kids k)

-- what tokens have made so far
pub data Part : Type 0 where
  one : Item → Part
  some : Kids → Part

abbrev pub close_item : List ℕ → Option Tree → List Part → List Part
close_item type json (some kids ∷ ps) = one (item type json kids) ∷ ps
close_item type json ps = ps

abbrev pub close_kid : List ℕ → List Part → List Part
close_kid name (one x ∷ (some kids ∷ ps)) = some (kid name x kids) ∷ ps
close_kid name ps = ps

abbrev pub closed : Token → List Part → List Part
closed k ps =
    if nat_eq k.0 0 then close_item k.1.0 k.1.1 ps
    else (if nat_eq k.0 1 then some no_kids ∷ ps
    else close_kid k.1.0 ps)

abbrev pub parts : List Token → List Part
parts [] = []
parts (k ∷ ks) = closed k (parts ks)

abbrev pub first_part : List Part → Item
first_part (one x ∷ ps) = x
first_part _ = item [] None no_kids

mutual
  pub parts_tokens : (x : Item) (k : List Token) → parts (tokens x k) ≡ one x ∷ parts k
  parts_tokens (item type json kids) k = ap (close_item type json) (parts_kids kids k)

  pub parts_kids : (kids : Kids) (k : List Token) → parts (kids_tokens kids k) ≡ some kids ∷ parts k
  parts_kids no_kids k = refl
  parts_kids (kid name x kids) k =
      ap (close_kid name) (parts_tokens x (kids_tokens kids k) ∙ ap (λ ps. one x ∷ ps) (parts_kids kids k))

pub item_again : (x : Item) → first_part (parts (tokens x [])) ≡ x
item_again x = ap first_part (parts_tokens x [])

abbrev pub item_code : Coded Item
item_code =
    code_by (List Token) (coded_list (coded× coded_ℕ (coded× (coded_list coded_ℕ) (coded_option tree_code)))) (λ x. tokens x []) (λ ks. first_part (parts ks)) item_again

-- a value of JSON, by what its own type is stored as
abbrev pub json_code : Coded Json
json_code = (json.the_row (record { mir = named 1; lft = [] })).coded
