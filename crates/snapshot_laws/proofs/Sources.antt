-- The elements that right definitions bring, where these are sound.
use Rattle.std.proofs.Common.{◌≡◌, List, [], ◌∷◌, map, Bool, cond, true, false, Option, None, Some, option_map, Ok, IsTrue, is_none, refl, subst}
use Rattle.std.specs.Prelude.{◌&&◌, All, codes, if◌then◌else◌}
use Rattle.std.specs.List.{AllByRecursion, list_all}
use Rattle.std.specs.Map.{lookup}
use Rattle.std.specs.Option.{option_map_or}
use Rattle.std.specs.Str.{bytes_eq}
use Rattle.std.proofs.lemmas.Bool.{and_parts, false≢true}
use Rattle.std.proofs.lemmas.List.Elements.{All-head, All-tail}
use Rattle.std.proofs.lemmas.Option.{none-some, same_Some}
use Rattle.fhir_json.specs.Tree.{Text, Tree}
use Rattle.fhir_json.specs.Fields.{field, items_in}
use Rattle.fhir_json.specs.Sound.{IsSound, sound}
use Rattle.fhir_json.proofs.SoundParts.{SoundIfAny, field_sound, items_in_sound}
use Rattle.fhir_elements.specs.declared.reason.Reason.{Reason}
use Rattle.fhir_elements.specs.Element.{Element, element_fault, fields_of, unless, element_of}
use Rattle.fhir_package.specs.declared.kind.Kind.{Kind}
use Rattle.fhir_package.specs.declared.kind.Kind.TheVariants.{StructureDefinition}
use Rattle.fhir_package.specs.Definitions.{ByUrl, Definitions, at_url}
use Rattle.fhir_package.specs.Packing.{Definition, definition_of}
use Rattle.fhir_package.specs.Changing.{IsSoundEntry, AreSound}
use Rattle.fhir_definition.specs.Snapshot.{ids_differ}
use Rattle.fhir_inheritance.specs.Sources.{Source, source_of, source_at, brings_snapshot, trees_in, elements_in}
use Rattle.fhir_snapshot.specs.Snapshots.{has_right_part, brings_elements}
use Rattle.snapshot_laws.specs.Right.{AreRight}
use Rattle.snapshot_laws.proofs.Good.{IsGood, Known, AreGood, HaveBounds}

-- ---- sound trees

elements_if : (o : Option Tree) → SoundIfAny o → AllByRecursion IsSound (option_map_or (items_in (codes "element")) o [])
elements_if None h = tt
elements_if (Some s) h = items_in_sound (codes "element") s h

trees_sound : (part : Text) (t : Tree) → IsSound t → AllByRecursion IsSound (trees_in part t)
trees_sound part t h = elements_if (field part t) (field_sound part t h)

-- ---- elements

element_if : (o : Option Reason) (e : Element) → IsTrue (is_none o) → unless o e ≡ Ok e
element_if None e h = refl
element_if (Some reason) e h = absurd (false≢true h)

module _ (known : Known) where
  read_good : (t : Tree) → IsSound t → IsTrue (is_none (element_fault t)) → IsGood (fields_of t)
  read_good t h i =
      let is : element_of t ≡ Ok (fields_of t) = element_if (element_fault t) (fields_of t) i in
      record { sound = known.read_sound t (fields_of t) h is; writable = known.read_writable t (fields_of t) is }

  all_good : (ts : List Tree) → AllByRecursion IsSound ts → IsTrue (list_all (λ e. is_none (element_fault e)) ts) → AreGood (map fields_of ts)
  all_good [] h i = tt
  all_good (t ∷ ts) h i =
      let parts = and_parts (is_none (element_fault t)) (list_all (λ e. is_none (element_fault e)) ts) i in
      (read_good t h.0 parts.0, all_good ts h.1 parts.1)

  all_fit : (ts : List Tree) → IsTrue (list_all (λ e. is_none (element_fault e)) ts) → HaveBounds (map fields_of ts)
  all_fit [] i = tt
  all_fit (t ∷ ts) i =
      let parts = and_parts (is_none (element_fault t)) (list_all (λ e. is_none (element_fault e)) ts) i in
      (known.read_bounds t (fields_of t) (element_if (element_fault t) (fields_of t) parts.0), all_fit ts parts.1)

  pub brought_fit : (part : Text) (t : Tree) → IsTrue (brings_elements part t) → HaveBounds (elements_in part t)
  brought_fit part t i = all_fit (trees_in part t) (and_parts (has_right_part part t) _ i).1

  brought_good : (part : Text) (t : Tree) → IsSound t → IsTrue (brings_elements part t) → AreGood (elements_in part t)
  brought_good part t h i = all_good (trees_in part t) (trees_sound part t h) (and_parts (has_right_part part t) _ i).1

  -- a right definition brings such elements
  source_good : (t : Tree) (b : Bool) → IsSound t
      → IsTrue (if b then brings_elements (codes "snapshot") t else (brings_elements (codes "differential") t && ids_differ (elements_in (codes "differential") t)))
      → AreGood (elements_in (if b then codes "snapshot" else codes "differential") t)
  source_good t true h i = brought_good (codes "snapshot") t h i
  source_good t false h i = brought_good (codes "differential") t h (and_parts (brings_elements (codes "differential") t) _ i).0

-- ---- the definitions of a package

entry_if : (b : Bool) (t : Tree) (o : Option Definition) (d : Definition) → sound t ≡ b → (if b then o else None) ≡ Some d → IsSound t
entry_if true t o d is e = is
entry_if false t o d is e = absurd (none-some d e)

entry_sound : (kind : Kind) (e : Text × Tree) → IsSoundEntry kind e → IsSound e.1
entry_sound kind e is = entry_if (sound e.1) e.1 (definition_of e.1) _ refl is

found_sound : (kind : Kind) (es : ByUrl) (url : Text) (t : Tree) → All (IsSoundEntry kind) es → lookup (bytes_eq url) es ≡ Some t → IsSound t
found_sound kind [] url t all e = absurd (none-some t e)
found_sound kind (x ∷ es) url t all e = by (bytes_eq url x.0) (found_sound kind es url t (All-tail (IsSoundEntry kind) x es all)) e
  where
    by : (b : Bool) → (lookup (bytes_eq url) es ≡ Some t → IsSound t) → cond b (Some x.1) (lookup (bytes_eq url) es) ≡ Some t → IsSound t
    by true rest e = subst IsSound (same_Some x.1 t e) (entry_sound kind x (All-head (IsSoundEntry kind) x es all))
    by false rest e = rest e

module _ (known : Known) (p : Definitions) (sound : AreSound p) (right : AreRight p) where
  pub at_sound : (url : Text) (t : Tree) → at_url StructureDefinition url p ≡ Some t → IsSound t
  at_sound url t at = found_sound StructureDefinition p.structure_definitions url t (sound StructureDefinition) at

  -- the elements that a definition brings
  pub sources_good : (url : Text) (s : Source) → source_at p url ≡ Some s → AreGood s.elements
  sources_good url s at = by (at_url StructureDefinition url p) refl at
    where
      by : (o : Option Tree) → at_url StructureDefinition url p ≡ o → option_map (source_of p) o ≡ Some s → AreGood s.elements
      by None found e = absurd (none-some s e)
      by (Some t) found e =
          subst (λ (u : Source). AreGood u.elements) (same_Some (source_of p t) s e)
          (source_good known t (brings_snapshot t) (at_sound url t found) (right url t found))
