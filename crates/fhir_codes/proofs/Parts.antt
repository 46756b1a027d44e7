-- Lists of trees as lists of what is read of them, for one value set.
use Rattle.std.proofs.Common.{◌≡◌, List, [], ◌∷◌, ◌++◌, map, Bool, true, false, ◌&&◌, codes, refl, sym, ◌∙◌, ap}
use Rattle.std.specs.List.{list_all, flat_map}
use Rattle.std.specs.Option.{option_map_or}
use Rattle.std.proofs.lemmas.List.{map-append}
use Rattle.std.proofs.lemmas.List.Folds.{list_all-append, list_all-map}
use Rattle.std.specs.FinSet as set
use Rattle.fhir_json.specs.Tree.{Text, Tree}
use Rattle.fhir_json.specs.Fields.{field, text_or_empty, items_in}
use Rattle.fhir_json.specs.Views.{tree_of, trees_of}
use Rattle.fhir_json.specs.declared.json.Json.{Json}
use Rattle.fhir_package.specs.Definitions.{Definitions}
use Rattle.fhir_codes.specs.Concepts.{Concepts, union_of}
use Rattle.fhir_codes.specs.ValueSets.{sets_named, includes, excludes, is_compose, named, is_plain_include, of_include, composition, is_read}
use Rattle.fhir_codes.specs.Placing.{Found, found_concepts, is_known, names_known}

map_twice : {A B C : Type 0} (f : B → C) (g : A → B) (xs : List A) → map f (map g xs) ≡ map (λ x. f (g x)) xs
map_twice f g [] = refl
map_twice f g (x ∷ xs) = ap (λ l. f (g x) ∷ l) (map_twice f g xs)

and_swap : (a b c d : Bool) → ((a && b) && (c && d)) ≡ ((a && c) && (b && d))
and_swap true true c d = refl
and_swap true false true d = refl
and_swap true false false d = refl
and_swap false b c d = refl

all_both : {A : Type 0} (f g : A → Bool) (xs : List A) → list_all (λ x. f x && g x) xs ≡ (list_all f xs && list_all g xs)
all_both f g [] = refl
all_both f g (x ∷ xs) = ap (λ b. (f x && g x) && b) (all_both f g xs) ∙ and_swap (f x) (g x) (list_all f xs) (list_all g xs)

pub all_flat : {A B : Type 0} (q : B → Bool) (h : A → List B) (xs : List A) → list_all q (flat_map h xs) ≡ list_all (λ x. list_all q (h x)) xs
all_flat q h [] = refl
all_flat q h (x ∷ xs) = list_all-append q (h x) (flat_map h xs) ∙ ap (λ b. list_all q (h x) && b) (all_flat q h xs)

-- ---- texts that are named

pub all_named : (q : Text → Bool) (t : Tree) (xs : List Json) → trees_of xs ≡ items_in (codes "valueSet") t → list_all (λ j. q (text_or_empty (tree_of j))) xs ≡ list_all q (sets_named t)
all_named q t xs e =
    sym (list_all-map (λ t. q (text_or_empty t)) tree_of xs) ∙ sym (list_all-map q text_or_empty (trees_of xs)) ∙ ap (λ ts. list_all q (map text_or_empty ts)) e

pub map_named : (f : Text → Concepts) (t : Tree) (xs : List Json) → trees_of xs ≡ items_in (codes "valueSet") t → map (λ j. f (text_or_empty (tree_of j))) xs ≡ map f (sets_named t)
map_named f t xs e =
    sym (map_twice (λ t. f (text_or_empty t)) tree_of xs) ∙ sym (map_twice f text_or_empty (trees_of xs)) ∙ ap (λ ts. map f (map text_or_empty ts)) e

pub united_trees : (f : Tree → Concepts) (ts : List Tree) (xs : List Json) → trees_of xs ≡ ts → union_of (map (λ j. f (tree_of j)) xs) ≡ union_of (map f ts)
united_trees f ts xs e = ap union_of (sym (map_twice f tree_of xs)) ∙ ap (λ us. union_of (map f us)) e

-- ---- a value set

pub composed_of : (p : Definitions) (sets : Found) (t : Tree) (xs ys : List Json) (more less : Concepts)
    → more ≡ union_of (map (λ j. of_include p (found_concepts p sets) (tree_of j)) xs) → less ≡ union_of (map (λ j. of_include p (found_concepts p sets) (tree_of j)) ys)
    → trees_of xs ≡ includes t → trees_of ys ≡ excludes t
    → set.difference more less ≡ composition p (found_concepts p sets) t
composed_of p sets t xs ys more less m l is es =
    ap (λ s. set.difference s less) (m ∙ united_trees (of_include p (found_concepts p sets)) (includes t) xs is)
    ∙ ap (λ s. set.difference (union_of (map (of_include p (found_concepts p sets)) (includes t))) s) (l ∙ united_trees (of_include p (found_concepts p sets)) (excludes t) ys es)

-- ---- whether all is read

abbrev composes : Tree → Bool
composes t = option_map_or is_compose (field (codes "compose") t) false

abbrev both : Definitions → Found → Tree → Bool
both p sets t = is_plain_include p t && names_known p sets t

all_in_both : (p : Definitions) (sets : Found) (ts : List Tree) → list_all (both p sets) ts ≡ (list_all (is_plain_include p) ts && list_all (is_known p sets) (flat_map sets_named ts))
all_in_both p sets ts =
    all_both (is_plain_include p) (names_known p sets) ts
    ∙ ap (λ b. list_all (is_plain_include p) ts && b) (sym (all_flat (is_known p sets) sets_named ts))

-- a value set of which all parts are read is read, if it is composed
read_if : (b : Bool) (p : Definitions) (sets : Found) (t : Tree) → composes t ≡ b → (b && list_all (both p sets) (includes t ++ excludes t)) ≡ is_read p (found_concepts p sets) t
read_if true p sets t is =
    all_in_both p sets (includes t ++ excludes t)
    ∙ ap (λ b. (b && list_all (is_plain_include p) (includes t ++ excludes t)) && list_all (is_known p sets) (named t)) (sym is)
read_if false p sets t is = ap (λ b. (b && list_all (is_plain_include p) (includes t ++ excludes t)) && list_all (is_known p sets) (named t)) (sym is)

pub read_parts : (p : Definitions) (sets : Found) (t : Tree) (xs ys : List Json) → composes t ≡ true → trees_of xs ≡ includes t → trees_of ys ≡ excludes t
    → list_all (λ j. both p sets (tree_of j)) (xs ++ ys) ≡ is_read p (found_concepts p sets) t
read_parts p sets t xs ys compose is es =
    sym (list_all-map (both p sets) tree_of (xs ++ ys))
    ∙ ap (list_all (both p sets)) (map-append tree_of xs ys ∙ ap (λ ts. ts ++ trees_of ys) is ∙ ap (λ ts. includes t ++ ts) es)
    ∙ read_if true p sets t compose

pub not_composed : (p : Definitions) (sets : Found) (t : Tree) → composes t ≡ false → false ≡ is_read p (found_concepts p sets) t
not_composed p sets t compose = read_if false p sets t compose
