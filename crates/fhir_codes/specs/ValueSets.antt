-- Value sets (FHIR R4, ValueSet, compose): the concepts that one has, from those of the value sets that it names. Within an
-- include the concepts of its system and those of each value set that it names are intersected. The includes are united, and
-- the excludes are taken away. What can't be read, as a filter, makes the whole value set unread.
use Rattle.std.specs.Prelude.{ℕ, zero, suc, List, [], ◌∷◌, ◌++◌, map, length, Bool, true, false, not, ◌&&◌, ◌||◌, Option, None, Some, is_some, if◌then◌else◌, codes}
use Rattle.std.specs.Option.{option_map_or, option_and_then}
use Rattle.std.specs.List.{list_all, flat_map}
use Rattle.std.specs.FinSet as set
use Rattle.fhir_json.specs.Bytes.{is_empty}
use Rattle.fhir_json.specs.Tree.{Text, Tree}
use Rattle.fhir_json.specs.Fields.{field, is_object, text_in, text_at, items_in, texts_in, allows_text, allows_items, allows_texts}
use Rattle.fhir_package.specs.declared.kind.Kind.TheVariants.{ValueSet, CodeSystem}
use Rattle.fhir_package.specs.Definitions.{Definitions, at_url}
use Rattle.fhir_package.specs.Canonical.{has_version, named_by}
use Rattle.fhir_codes.specs.Concepts.{Concepts, of_system, union_of, common}
use Rattle.fhir_codes.specs.CodeSystems.{is_coded, is_complete, codes_defined}

-- ---- fields of an include, and of an exclude

abbrev pub listed_concepts : Tree → List Tree
listed_concepts t = items_in (codes "concept") t

abbrev pub sets_named : Tree → List Text
sets_named t = texts_in (codes "valueSet") t

abbrev pub lists_no_concept : Tree → Bool
lists_no_concept t = is_empty (listed_concepts t)

-- its fields are of their kinds, each concept that it lists has a code, and it has no filter
abbrev pub has_right_fields : Tree → Bool
has_right_fields t =
    is_object t
    && allows_text (codes "system") t
    && allows_text (codes "version") t
    && allows_items (codes "concept") t
    && list_all is_coded (listed_concepts t)
    && allows_texts (codes "valueSet") t
    && allows_items (codes "filter") t
    && is_empty (items_in (codes "filter") t)

-- ---- fields of a value set

abbrev pub part_in : Text → Tree → List Tree
part_in name t = option_map_or (items_in name) (field (codes "compose") t) []

abbrev pub includes : Tree → List Tree
includes t = part_in (codes "include") t

abbrev pub excludes : Tree → List Tree
excludes t = part_in (codes "exclude") t

abbrev pub is_compose : Tree → Bool
is_compose t = is_object t && allows_items (codes "include") t && allows_items (codes "exclude") t

-- the value sets that it names
abbrev pub named : Tree → List Text
named t = flat_map sets_named (includes t ++ excludes t)

module _ (p : Definitions) where
  -- ---- what an include takes of its system

  abbrev pub is_version_of : Tree → Tree → Bool
  is_version_of t system = option_map_or (λ v. has_version v (field (codes "version") system)) (text_in (codes "version") t) true

  -- the code system of that url, of the include's version if both have one
  abbrev pub code_system : Tree → Text → Option Tree
  code_system t url = option_and_then (λ system. if is_version_of t system then Some system else None) (at_url CodeSystem url p)

  -- the codes that it lists, or all that the code system defines
  abbrev pub codes_taken : Tree → Text → List Text
  codes_taken t system =
      if lists_no_concept t
      then option_map_or codes_defined (code_system t system) []
      else map (text_at (codes "code")) (listed_concepts t)

  abbrev pub can_take : Tree → Text → Bool
  can_take t system = not (lists_no_concept t) || option_map_or is_complete (code_system t system) false

  -- nothing in it is unread by itself: it lists concepts of a system alone, and names a system or a value set
  abbrev pub is_plain_include : Tree → Bool
  is_plain_include t =
      has_right_fields t
      && option_map_or (can_take t) (text_in (codes "system") t) (lists_no_concept t && not (is_empty (sets_named t)))

  -- ---- set algebra, where the concepts of other value sets are known, or aren't

  module _ (known : Text → Option Concepts) where
    abbrev pub of_set : Text → Concepts
    of_set canonical = option_map_or (λ s. s) (known canonical) set.empty

    abbrev pub of_include : Tree → Concepts
    of_include t =
        common (option_map_or (λ system. of_system system (codes_taken t system) ∷ []) (text_in (codes "system") t) []
        ++ map of_set (sets_named t))

    abbrev pub composition : Tree → Concepts
    composition t = set.difference (union_of (map of_include (includes t))) (union_of (map of_include (excludes t)))

    -- nothing in it is unread, and all value sets that it names are known
    abbrev pub is_read : Tree → Bool
    is_read t =
        option_map_or is_compose (field (codes "compose") t) false
        && list_all is_plain_include (includes t ++ excludes t)
        && list_all (λ canonical. is_some (known canonical)) (named t)

    abbrev pub expansion : Tree → Option Concepts
    expansion t = if is_read t then Some (composition t) else None

  -- ---- value sets that name one another

  -- the concepts of the value set that a canonical names, if they can be told in so many steps
  abbrev pub expanded : ℕ → Text → Option Concepts
  expanded zero canonical = None
  expanded (suc n) canonical = option_and_then (expansion (expanded n)) (named_by ValueSet canonical p)

  -- as many steps as there are value sets: more tell no more, and so one that rests on itself is unread
  abbrev pub concepts_of : Text → Option Concepts
  concepts_of canonical = expanded (length p.value_sets) canonical
