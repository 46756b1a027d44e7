-- What stands behind a stem, text by text.
use Rattle.std.proofs.Common.{◌≡◌, List, [], ◌∷◌, ◌++◌, map, Result, OnOk, Vec, rules, refl, ap, sym, ◌∙◌, subst}
use Rattle.std.specs.List.{flat_map}
use Rattle.std.specs.declared.alloc.Global.{Global}
use Rattle.std.proofs.lemmas.List.Concat.{flat_map-append}
use Rattle.fhir_json.specs.Tree.{Text, Tree, Property, object, items_of, members_of}
use Rattle.fhir_json.specs.Views.{tree_of, trees_of, property_of}
use Rattle.fhir_json.specs.declared.json.Json.{Json, fold-roll-Json}
use Rattle.fhir_json.specs.declared.json.Json.TheVariants as json
use Rattle.fhir_json.specs.declared.json.Member.{Member}
use Rattle.fhir_json.proofs.Folds.{tree-arr}
use Rattle.fhir_package.specs.Definitions.{ByUrl, Definitions}
use Rattle.fhir_alike.specs.Mark.{texts_in, items_texts, members_texts, member_texts, definition_texts, definition_tails, stem, tail_of, tails_of, package_texts}

items_are : (ts : List Tree) → flat_map texts_in ts ≡ items_texts (items_of ts)
items_are [] = refl
items_are (t ∷ ts) = ap (λ xs. texts_in t ++ xs) (items_are ts)

members_are : (ms : List Property) → flat_map member_texts ms ≡ members_texts (members_of ms)
members_are [] = refl
members_are (m ∷ ms) = ap (λ xs. texts_in m.1 ++ xs) (members_are ms)

tree-obj : (v : Vec Member Global) → tree_of (json.Obj v) ≡ object (members_of (map property_of v.items))
tree-obj v = ap tree_of (sym (json.rolls-Obj v)) ∙ search (rules, fold-roll-Json)

-- what was put in of the items of an array was put in of the array
pub of_array : {A E : Type 0} (r : Result A E) (stem : Text) (old new : List Text) (j : Json) (v : Vec Json Global) → j ≡ json.Arr v
    → OnOk r (new ≡ old ++ tails_of stem (flat_map texts_in (trees_of v.items))) → OnOk r (new ≡ old ++ tails_of stem (texts_in (tree_of j)))
of_array r stem old new j v is h =
    let texts : flat_map texts_in (trees_of v.items) ≡ texts_in (tree_of j) = items_are (trees_of v.items) ∙ sym (ap texts_in (ap tree_of is ∙ tree-arr v)) in
    subst (λ ts. OnOk r (new ≡ old ++ tails_of stem ts)) texts h

pub of_object : {A E : Type 0} (r : Result A E) (stem : Text) (old new : List Text) (j : Json) (v : Vec Member Global) → j ≡ json.Obj v
    → OnOk r (new ≡ old ++ tails_of stem (flat_map member_texts (map property_of v.items)))
    → OnOk r (new ≡ old ++ tails_of stem (texts_in (tree_of j)))
of_object r stem old new j v is h =
    let texts : flat_map member_texts (map property_of v.items) ≡ texts_in (tree_of j) =
    members_are (map property_of v.items) ∙ sym (ap texts_in (ap tree_of is ∙ tree-obj v)) in
    subst (λ ts. OnOk r (new ≡ old ++ tails_of stem ts)) texts h

-- those of all definitions of a kind
pub tails_each : (stem : Text) (es : ByUrl) → tails_of stem (flat_map definition_texts es) ≡ flat_map (definition_tails stem) es
tails_each stem [] = refl
tails_each stem (e ∷ es) =
    flat_map-append (tail_of stem) (definition_texts e) (flat_map definition_texts es) ∙ ap (λ xs. definition_tails stem e ++ xs) (tails_each stem es)

-- those of two packages, one behind the other
pub of_both : (old new : Definitions) (a b : Text) (start first second : List Text) → a ≡ stem → b ≡ stem → start ≡ []
    → first ≡ start ++ tails_of a (package_texts old) → second ≡ first ++ tails_of b (package_texts new)
    → second ≡ tails_of stem (package_texts old ++ package_texts new)
of_both old new a b start first second e f none one two =
    two
    ∙ ap (λ xs. xs ++ tails_of b (package_texts new)) (one ∙ ap (λ xs. xs ++ tails_of a (package_texts old)) none)
    ∙ ap (λ s. tails_of s (package_texts old) ++ tails_of b (package_texts new)) e
    ∙ ap (λ s. tails_of stem (package_texts old) ++ tails_of s (package_texts new)) f
    ∙ sym (flat_map-append (tail_of stem) (package_texts old) (package_texts new))
