-- Definitions that trees are, one tree at a time.
use Rattle.std.proofs.Common.{◌≡◌, ◌<◌, ◌+◌, ℕ, List, [], ◌∷◌, ◌++◌, Option, None, Some, length, drop, refl, sym, ap, ◌∙◌, append_assoc}
use Rattle.std.specs.Option.{option_map}
use Rattle.std.proofs.Math.ListN.{get_or}
use Rattle.std.proofs.lemmas.List.{append-nil, drop_more}
use Rattle.fhir_json.specs.declared.json.Json.{Json}
use Rattle.fhir_json.specs.Tree.{Tree}
use Rattle.fhir_json.specs.Views.{tree_of, trees_of}
use Rattle.fhir_package.specs.Packing.{Definition}
use Rattle.fhir_package.specs.Changing.{sound_definition}
use Rattle.fhir_registry.specs.Session.{definitions_of}

-- the definitions that were found, and then those of the other trees
abbrev pub with_others : List Definition → List Tree → Option (List Definition)
with_others found ts = option_map (λ ds. found ++ ds) (definitions_of ts)

pub next_definition : (found : List Definition) (t : Tree) (ts : List Tree) (d : Definition) → sound_definition t ≡ Some d
    → with_others found (t ∷ ts) ≡ with_others (found ++ d ∷ []) ts
next_definition found t ts d is = rw (is) (by (definitions_of ts))
  where
    by : (o : Option (List Definition))
        → option_map (λ (ds : List Definition). found ++ ds) (option_map (λ (ds : List Definition). d ∷ ds) o) ≡ option_map (λ (ds : List Definition). (found ++ d ∷ []) ++ ds) o
    by None = refl
    by (Some ds) = ap (λ (l : List Definition). Some l) (sym (append_assoc found (d ∷ []) ds))

pub no_definition : (found : List Definition) (t : Tree) (ts : List Tree) → sound_definition t ≡ None → with_others found (t ∷ ts) ≡ None
no_definition found t ts is = rw (is) refl

pub from_place : (xs : List Json) (place : ℕ) (x : Json) → place < length xs → x ≡ get_or xs place x
    → trees_of (drop place xs) ≡ tree_of x ∷ trees_of (drop (place + 1) xs)
from_place xs place x lt is =
    ap (λ (js : List Json). trees_of js) (drop_more xs place x lt ∙ ap (λ (j : Json). j ∷ drop (place + 1) xs) (sym is))

pub none_found : (ts : List Tree) → with_others [] ts ≡ definitions_of ts
none_found ts = by (definitions_of ts)
  where
    by : (o : Option (List Definition)) → option_map (λ (ds : List Definition). [] ++ ds) o ≡ o
    by None = refl
    by (Some ds) = refl

pub all_found : (found : List Definition) → with_others found [] ≡ Some found
all_found found = ap (λ (l : List Definition). Some l) (append-nil found)
