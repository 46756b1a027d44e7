-- The urls and ids of a package of sound definitions are UTF-8.
use Rattle.std.proofs.Common.{◌≡◌, ℕ, zero, suc, List, [], ◌∷◌, map, Bool, true, false, cond}
use Rattle.std.proofs.Common.{Option, Some, None, is_some, refl, ap, sym, subst, All}
use Rattle.std.specs.Prelude.{codes, IsUtf8, IsTrue}
use Rattle.std.specs.Option.{option_and_then, option_map, option_map_or}
use Rattle.std.specs.List.{slice_get, AllByRecursion}
use Rattle.std.specs.Map.{lookup}
use Rattle.std.specs.Str.{bytes_eq}
use Rattle.std.proofs.lemmas.Str.{IsUtf8-nil, IsUtf8-from_is_utf8}
use Rattle.std.proofs.lemmas.Option.{none-some, same_Some}
use Rattle.std.proofs.lemmas.List.Elements.{recursion_from_All}
use Rattle.std.proofs.lemmas.Slice.Eq.{bytes_eq-Decides}
use Rattle.fhir_json.specs.Tree.{Text, Tree, null, boolean, number, string, array, object}
use Rattle.fhir_json.specs.Fields.{field, as_text, text_in, items_in}
use Rattle.fhir_json.specs.Sound.{IsSound}
use Rattle.fhir_json.proofs.SoundParts.{SoundIfAny, AreSound, field_sound, items_in_sound}
use Rattle.fhir_package.specs.declared.kind.Kind.{Kind}
use Rattle.fhir_package.specs.Packing as packing
use Rattle.fhir_package.specs.Packing.{kind_named, resource_type}
use Rattle.fhir_package.specs.Changing.{IsSoundEntry}
use Rattle.fhir_package.proofs.Sounds.{sound_entry}
use Rattle.fhir_codes.specs.Expanding.{Expansions}
use Rattle.fhir_elements.specs.Element.{fields_of}
use Rattle.fhir_definition.specs.Definition.{Definition, element_trees, definition_of, definitions_from}
use Rattle.fhir_nodes.specs.declared.node.NodeRef.{NodeRef}
use Rattle.fhir_nodes.specs.Slots.{id_at}
use Rattle.fhir_nodes.specs.Urls.{url_place}
use Rattle.fhir_schema.specs.Schemas.{schema_with, root, root_in, url_at, id_of_node}

-- ---- a sound tree's elements and texts

elements_sound : (t : Tree) → IsSound t → AreSound (element_trees t)
elements_sound t h = by (field (codes "snapshot") t) (field_sound (codes "snapshot") t h)
  where
    by : (r : Option Tree) → SoundIfAny r → AreSound (option_map_or (items_in (codes "element")) r [])
    by None h = tt
    by (Some v) h = items_in_sound (codes "element") v h

-- a text, where there is one
abbrev pub TextIfAny : Option Text → Type 0
TextIfAny None = Unit {0}
TextIfAny (Some s) = IsUtf8 s

as_text_utf8 : (t : Tree) → IsSound t → TextIfAny (as_text t)
as_text_utf8 null h = tt
as_text_utf8 (boolean b) h = tt
as_text_utf8 (number n) h = tt
as_text_utf8 (string s) h = IsUtf8-from_is_utf8 s h
as_text_utf8 (array ts) h = tt
as_text_utf8 (object ms) h = tt

pub text_in_utf8 : (name : Text) (t : Tree) → IsSound t → TextIfAny (text_in name t)
text_in_utf8 name t h = by (field name t) (field_sound name t h)
  where
    by : (r : Option Tree) → SoundIfAny r → TextIfAny (option_and_then as_text r)
    by None h = tt
    by (Some v) h = as_text_utf8 v h

text_or_nil : (o : Option Text) → TextIfAny o → IsUtf8 (option_map_or (λ s. s) o [])
text_or_nil None h = IsUtf8-nil
text_or_nil (Some s) h = h

-- ---- the urls of sound definitions

definition_url : (t : Tree) (d : packing.Definition) → IsSound t → packing.definition_of t ≡ Some d → IsUtf8 d.url
definition_url t d h is = by (kind_named (resource_type t)) is
  where
    with_url : (kind : Kind) (url : Option Text) → TextIfAny url
        → option_map (λ url. let d : packing.Definition = record { kind = kind; url = url; tree = t } in d) url ≡ Some d → IsUtf8 d.url
    with_url kind None u e = absurd (none-some d e)
    with_url kind (Some url) u e = subst (λ (d : packing.Definition). IsUtf8 d.url) (same_Some _ d e) u

    by : (kind : Option Kind) → option_and_then (packing.definition_with t) kind ≡ Some d → IsUtf8 d.url
    by None e = absurd (none-some d e)
    by (Some kind) e = with_url kind (text_in (codes "url") t) (text_in_utf8 (codes "url") t h) e

found_holds : (P : Text × Tree → Type 0) (es : List (Text × Tree)) (url : Text) (t : Tree) → AllByRecursion P es → lookup (bytes_eq url) es ≡ Some t → P (url, t)
found_holds P [] url t h at = absurd (none-some t at)
found_holds P (e ∷ es) url t h at = by (bytes_eq url e.0) refl at (found_holds P es url t h.1)
  where
    by : (b : Bool) → bytes_eq url e.0 ≡ b → cond b (Some e.1) (lookup (bytes_eq url) es) ≡ Some t → (lookup (bytes_eq url) es ≡ Some t → P (url, t)) → P (url, t)
    by true is at behind =
        subst (λ (u : Text). P (u, t)) (sym ((bytes_eq-Decides url e.0).0 is)) (subst (λ (tree : Tree). P (e.0, tree)) (same_Some e.1 t at) h.0)
    by false is at behind = behind at

pub urls_utf8 : (kind : Kind) (es : List (Text × Tree)) → All (IsSoundEntry kind) es → (url : Text) (t : Tree) → lookup (bytes_eq url) es ≡ Some t → IsUtf8 url
urls_utf8 kind es h url t at =
    let whole = sound_entry kind (url, t) (found_holds (IsSoundEntry kind) es url t (recursion_from_All (IsSoundEntry kind) es h) at) in
    definition_url t (record { kind = kind; url = url; tree = t }) whole.0 whole.1

pub trees_sound : (kind : Kind) (es : List (Text × Tree)) → All (IsSoundEntry kind) es → All (λ e. IsSound e.1) es
trees_sound kind es h = λ k d l. (sound_entry kind _ (h k d l)).0

-- ---- what a schema names

-- the definition that is found under an entry's url
there_is : (es : List (Text × Tree)) (k : ℕ) (e : Text × Tree) → slice_get es k ≡ Some e → (t : Tree) × (lookup (bytes_eq e.0) es ≡ Some t)
there_is [] k e at = absurd (none-some e at)
there_is (x ∷ es) k e at = by (bytes_eq e.0 x.0) refl k at (λ k. there_is es k e)
  where
    by : (b : Bool) → bytes_eq e.0 x.0 ≡ b → (k : ℕ) → slice_get (x ∷ es) k ≡ Some e
        → ((k : ℕ) → slice_get es k ≡ Some e → (t : Tree) × (lookup (bytes_eq e.0) es ≡ Some t))
        → (t : Tree) × (cond b (Some x.1) (lookup (bytes_eq e.0) es) ≡ Some t)
    by true is k at behind = (x.1, refl)
    by false is zero at behind =
        let same : x ≡ e = same_Some x e at in
        let equal = (bytes_eq-Decides e.0 x.0).1 (ap (λ (e : Text × Tree). e.0) (sym same)) in
        cc
    by false is (suc k) at behind = behind k at

pub entry_at : (n : ℕ) (es : List (Text × Tree)) (k : ℕ) (d : Definition) → slice_get (definitions_from n es) k ≡ Some d
    → (place : ℕ) × (e : Text × Tree) × (slice_get es k ≡ Some e) × (definition_of place e.0 e.1 ≡ d)
entry_at n [] k d at = absurd (none-some d at)
entry_at n (x ∷ es) zero d at = (n, x, refl, same_Some _ d at)
entry_at n (x ∷ es) (suc k) d at = entry_at (suc n) es k d at

ids_utf8 : (ts : List Tree) (k : ℕ) → AreSound ts → IsUtf8 (id_at (map fields_of ts) k)
ids_utf8 [] k h = IsUtf8-nil
ids_utf8 (t ∷ ts) zero h = text_or_nil (text_in (codes "id") t) (text_in_utf8 (codes "id") t h.0)
ids_utf8 (t ∷ ts) (suc k) h = ids_utf8 ts k h.1

pub sound_at : (es : List (Text × Tree)) (k : ℕ) (e : Text × Tree) → AllByRecursion (λ e. IsSound e.1) es → slice_get es k ≡ Some e → IsSound e.1
sound_at [] k e h at = absurd (none-some e at)
sound_at (x ∷ es) zero e h at = subst (λ (e : Text × Tree). IsSound e.1) (same_Some x e at) h.0
sound_at (x ∷ es) (suc k) e h at = sound_at es k e h.1 at

module _ (es : List (Text × Tree)) (sets : Expansions) (utf8 : (url : Text) (t : Tree) → lookup (bytes_eq url) es ≡ Some t → IsUtf8 url)
    (sounds : All (λ e. IsSound e.1) es) where
  definition_utf8 : (k : ℕ) (d : Definition) → slice_get (definitions_from 0 es) k ≡ Some d → IsUtf8 d.url
  definition_utf8 k d at =
      let it = entry_at 0 es k d at in
      let there = there_is es k it.1 it.2 in
      subst (λ (d : Definition). IsUtf8 d.url) it.3 (utf8 it.1.0 there.0 there.1)

  pub url_utf8 : (place : ℕ) → IsUtf8 (url_at (schema_with (definitions_from 0 es) sets) place)
  url_utf8 place = by (slice_get (definitions_from 0 es) place) refl
    where
      by : (o : Option Definition) → slice_get (definitions_from 0 es) place ≡ o → IsUtf8 (option_map_or (λ d. d.url) o [])
      by None is = IsUtf8-nil
      by (Some d) is = definition_utf8 place d is

  pub id_utf8 : (n : NodeRef) → IsUtf8 (id_of_node (schema_with (definitions_from 0 es) sets) n)
  id_utf8 n = by (slice_get (definitions_from 0 es) n.definition) refl
    where
      by : (o : Option Definition) → slice_get (definitions_from 0 es) n.definition ≡ o
          → IsUtf8 (id_at (option_map_or (λ d. d.elements) o []) n.element)
      by None is = IsUtf8-nil
      by (Some d) is =
          let it = entry_at 0 es n.definition d is in
          let whole = sound_at es n.definition it.1 (recursion_from_All (λ e. IsSound e.1) es sounds) it.2 in
          subst (λ (d : Definition). IsUtf8 (id_at d.elements n.element)) it.3 (ids_utf8 (element_trees it.1.1) n.element (elements_sound it.1.1 whole))

  url_found : (n : ℕ) (ds : List (Text × Tree)) (url : Text) (place : ℕ) → ((k : ℕ) (d : Definition) → slice_get (definitions_from n ds) k ≡ Some d → IsUtf8 d.url)
      → url_place (definitions_from n ds) url ≡ Some place → IsUtf8 url
  url_found n [] url place h e = absurd (none-some place e)
  url_found n (x ∷ ds) url place h e = by (bytes_eq url x.0) refl e (url_found (suc n) ds url place (λ k. h (suc k)))
    where
      by : (b : Bool) → bytes_eq url x.0 ≡ b → cond b (Some n) (url_place (definitions_from (suc n) ds) url) ≡ Some place
          → (url_place (definitions_from (suc n) ds) url ≡ Some place → IsUtf8 url) → IsUtf8 url
      by true is e behind = subst IsUtf8 (sym ((bytes_eq-Decides url x.0).0 is)) (h 0 (definition_of n x.0 x.1) refl)
      by false is e behind = behind e

  pub root_utf8 : (url : Text) → IsTrue (is_some (root (schema_with (definitions_from 0 es) sets) url)) → IsUtf8 url
  root_utf8 url some = by (url_place (definitions_from 0 es) url) refl some
    where
      by : (o : Option ℕ) → url_place (definitions_from 0 es) url ≡ o → is_some (option_and_then (root_in (schema_with (definitions_from 0 es) sets)) o) ≡ true
          → IsUtf8 url
      by None is some = cc
      by (Some place) is some = url_found 0 es url place definition_utf8 is
