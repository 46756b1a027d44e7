-- The items of an array as a list.
use Rattle.std.proofs.Common.{◌≡◌, List, [], ◌∷◌, refl, sym, ap, ◌∙◌}
use Rattle.fhir_json.specs.Tree.{Tree, Items, list_of, items_of}

again : (ts : List Tree) → list_of (items_of ts) ≡ ts
again [] = refl
again (t ∷ ts) = ap (λ (us : List Tree). t ∷ us) (again ts)

pub as_list : (ts : List Tree) (items : Items) → items_of ts ≡ items → ts ≡ list_of items
as_list ts items e = sym (again ts) ∙ ap list_of e
