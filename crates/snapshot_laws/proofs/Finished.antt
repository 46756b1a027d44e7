-- A package whose definitions are sound and right stays sound where it is completed.
use Rattle.std.proofs.Common.{◌≡◌, ◌++◌, List, [], ◌∷◌, map, Bool, cond, true, false, not, Option, None, Some, IsTrue, refl, ap, sym, ◌∙◌, subst}
use Rattle.std.specs.Prelude.{All, codes}
use Rattle.std.specs.List.{AllByRecursion, IsDistinct}
use Rattle.std.specs.Map.{keys_of}
use Rattle.std.specs.Option.{option_map, option_map_or, option_and_then}
use Rattle.std.specs.Str.{bytes_eq, is_utf8}
use Rattle.std.proofs.lemmas.Bool.{and_parts, and_from, or_parts, or_from, not-true, not_from_false, false_from_ne_true, false≢true}
use Rattle.std.proofs.lemmas.List.Elements.{All-head, All-tail, All-from_recursion}
use Rattle.std.proofs.lemmas.Option.{none-some, same_Some}
use Rattle.std.proofs.lemmas.Slice.Eq.{bytes_eq-Decides}
use Rattle.fhir_json.specs.Tree.{Text, Tree, null, boolean, number, string, array, object, items_of, Members, names, Property, members_of, properties_of}
use Rattle.fhir_json.specs.Fields.{is_object, as_text, text_in, members_in}
use Rattle.fhir_json.specs.Sound.{IsSound, sound, items_sound, members_sound, is_among, differ}
use Rattle.fhir_elements.specs.Element.{Element}
use Rattle.fhir_package.specs.declared.kind.Kind.{Kind}
use Rattle.fhir_package.specs.declared.kind.Kind.TheVariants.{StructureDefinition, ValueSet, CodeSystem}
use Rattle.fhir_package.specs.Definitions.{ByUrl, Definitions, of_kind}
use Rattle.fhir_package.specs.Packing.{Definition, kind_named, resource_type, definition_of}
use Rattle.fhir_package.specs.Changing.{IsSoundEntry, AreSound, EachOnce}
use Rattle.fhir_overlay.specs.Json.{element_tree}
use Rattle.fhir_overlay.specs.Writable.{is_writable, is_sound}
use Rattle.fhir_overlay.specs.Completed.{elements_tree, snapshot_tree, without_member, with_snapshot}
use Rattle.fhir_overlay.proofs.Objects.{plain_utf8}
use Rattle.fhir_overlay.proofs.Truths.{both, three, all_three}
use Rattle.fhir_inheritance.specs.Sources.{brings_snapshot}
use Rattle.fhir_snapshot.specs.declared.fault.SnapNumber.{SnapNumber}
use Rattle.fhir_snapshot.specs.Completing.{Numbered, Gets, Becomes, AreCompleted, IsCompletion}
use Rattle.snapshot_laws.specs.Right.{AreRight}
use Rattle.snapshot_laws.proofs.Good.{Known, AreGood}
use Rattle.snapshot_laws.proofs.Made.{snapshot_good}
use Rattle.snapshot_laws.proofs.Members.{with_last, others, same_members}

-- ---- a member in place of others of its name

module _ (last : Text) (s : Tree) where
  members_kept : (ps : List Property) → IsTrue (is_utf8 last) → IsSound s → IsTrue (members_sound (members_of ps)) → IsTrue (members_sound (with_last last s ps))
  members_kept [] named value h = all_three (is_utf8 last) (sound s) true named value refl
  members_kept (m ∷ ps) named value h = by (bytes_eq last m.0) (members_kept ps named value parts.2)
    where
      parts : IsTrue (is_utf8 m.0) × IsTrue (sound m.1) × IsTrue (members_sound (members_of ps))
      parts = three (is_utf8 m.0) (sound m.1) (members_sound (members_of ps)) h

      by : (b : Bool) → IsTrue (members_sound (with_last last s ps))
          → IsTrue (members_sound (members_of (cond (not b) (m ∷ without_member last ps) (without_member last ps) ++ (last, s) ∷ [])))
      by true rest = rest
      by false rest = all_three (is_utf8 m.0) (sound m.1) _ parts.0 parts.1 rest

  still_absent : (x : Text) (ps : List Property) → bytes_eq x last ≡ false → is_among x (names (members_of ps)) ≡ false
      → is_among x (names (with_last last s ps)) ≡ false
  still_absent x [] other h = or_from (bytes_eq x last) false other refl
  still_absent x (m ∷ ps) other h = by (bytes_eq last m.0) (still_absent x ps other parts.1)
    where
      parts : (bytes_eq x m.0 ≡ false) × (is_among x (names (members_of ps)) ≡ false)
      parts = or_parts (bytes_eq x m.0) (is_among x (names (members_of ps))) h

      by : (b : Bool) → is_among x (names (with_last last s ps)) ≡ false
          → is_among x (names (members_of (cond (not b) (m ∷ without_member last ps) (without_member last ps) ++ (last, s) ∷ []))) ≡ false
      by true rest = rest
      by false rest = or_from (bytes_eq x m.0) _ parts.0 rest

  names_differ : (ps : List Property) → IsTrue (differ (names (members_of ps))) → IsTrue (differ (names (with_last last s ps)))
  names_differ [] h = refl
  names_differ (m ∷ ps) h = by (bytes_eq last m.0) refl (names_differ ps parts.1)
    where
      parts : IsTrue (not (is_among m.0 (names (members_of ps)))) × IsTrue (differ (names (members_of ps)))
      parts = and_parts (not (is_among m.0 (names (members_of ps)))) (differ (names (members_of ps))) h

      by : (b : Bool) → bytes_eq last m.0 ≡ b → IsTrue (differ (names (with_last last s ps)))
          → IsTrue (differ (names (members_of (cond (not b) (m ∷ without_member last ps) (without_member last ps) ++ (last, s) ∷ []))))
      by true is rest = rest
      by false is rest =
          and_from (not (is_among m.0 (names (with_last last s ps)))) _
          (not_from_false (is_among m.0 (names (with_last last s ps)))
          (still_absent m.0 ps (turned last m.0 is) (not-true (is_among m.0 (names (members_of ps))) parts.0)))
          rest
        where
          turned : (a b : Text) → bytes_eq a b ≡ false → bytes_eq b a ≡ false
          turned a b is = false_from_ne_true (bytes_eq b a) (λ e. false≢true (sym is ∙ (bytes_eq-Decides a b).1 (sym ((bytes_eq-Decides b a).0 e))))

-- ---- a definition

module _ (write : (e : Element) → IsTrue (is_sound e) → IsTrue (is_writable e) → IsSound (element_tree e)) where
  elements_sound : (es : List Element) → AreGood es → IsTrue (items_sound (items_of (map element_tree es)))
  elements_sound [] good = refl
  elements_sound (e ∷ es) good =
      both (sound (element_tree e)) _ (write e good.0.sound good.0.writable) (elements_sound es good.1)

  snapshot_sound : (es : List Element) → AreGood es → IsSound (snapshot_tree es)
  snapshot_sound es good =
      both _ _ (all_three (is_utf8 (codes "element")) (sound (elements_tree es)) true (plain_utf8 (codes "element") refl) (elements_sound es good) refl) refl

  members_sound_in : (t : Tree) → IsSound t → IsTrue (members_sound (members_in t)) × IsTrue (differ (names (members_in t)))
  members_sound_in (object ms) h = and_parts (members_sound ms) (differ (names ms)) h
  members_sound_in null h = (refl, refl)
  members_sound_in (boolean b) h = (refl, refl)
  members_sound_in (number n) h = (refl, refl)
  members_sound_in (string s) h = (refl, refl)
  members_sound_in (array ts) h = (refl, refl)

  -- with a snapshot of such elements it is sound, where it was
  with_sound : (es : List Element) (t : Tree) → AreGood es → IsSound t → IsSound (with_snapshot es t)
  with_sound es t good h =
      let ms = members_sound_in t h in
      let ps = properties_of (members_in t) in
      let back : members_of ps ≡ members_in t = same_members (members_in t) in
      both (members_sound (with_last (codes "snapshot") (snapshot_tree es) ps)) _
      (members_kept (codes "snapshot") (snapshot_tree es) ps (plain_utf8 (codes "snapshot") refl) (snapshot_sound es good)
      (subst (λ (l : Members). IsTrue (members_sound l)) (sym back) ms.0))
      (names_differ (codes "snapshot") (snapshot_tree es) ps (subst (λ (l : Members). IsTrue (differ (names l))) (sym back) ms.1))

  -- ---- an entry of a package

  definition_if : (b : Bool) (o : Option Definition) (d : Definition) → cond b o None ≡ Some d → (b ≡ true) × (o ≡ Some d)
  definition_if true o d e = (refl, e)
  definition_if false o d e = absurd (none-some d e)

  an_object : (t : Tree) (d : Definition) → definition_of t ≡ Some d → is_object t ≡ true
  an_object (object ms) d e = refl
  an_object null d e = absurd (none-some d e)
  an_object (boolean b) d e = absurd (none-some d e)
  an_object (number n) d e = absurd (none-some d e)
  an_object (string s) d e = absurd (none-some d e)
  an_object (array ts) d e = absurd (none-some d e)

  apart_from : (name : Text) → bytes_eq name (codes "snapshot") ≡ false → ¬ (name ≡ codes "snapshot")
  apart_from name is e = false≢true (sym is ∙ (bytes_eq-Decides name (codes "snapshot")).1 e)

  same_text : (es : List Element) (t : Tree) (name : Text) → is_object t ≡ true → bytes_eq name (codes "snapshot") ≡ false
      → text_in name (with_snapshot es t) ≡ text_in name t
  same_text es t name is other = ap (option_and_then as_text) (others es t name is (apart_from name other))

  defined : (t new : Tree) (d : Definition) (k : Option Kind) (u : Option Text)
      → option_and_then (λ kind. option_map (λ url. let x : Definition = record { kind = kind; url = url; tree = t } in x) u) k ≡ Some d
      → option_and_then (λ kind. option_map (λ url. let x : Definition = record { kind = kind; url = url; tree = new } in x) u) k
      ≡ Some (record { kind = d.kind; url = d.url; tree = new })
  defined t new d None u e = absurd (none-some d e)
  defined t new d (Some kind) None e = absurd (none-some d e)
  defined t new d (Some kind) (Some url) e =
      ap (λ (x : Definition). let y : Option Definition = Some (record { kind = x.kind; url = x.url; tree = new }) in y) (same_Some _ d e)

  entry_kept : (kind : Kind) (url : Text) (es : List Element) (t : Tree) → AreGood es → IsSoundEntry kind (url, t) → IsSoundEntry kind (url, with_snapshot es t)
  entry_kept kind url es t good is =
      let d : Definition = record { kind = kind; url = url; tree = t } in
      let parts = definition_if (sound t) (definition_of t) d is in
      let obj = an_object t d parts.1 in
      let new = with_snapshot es t in
      let made = defined t new d (kind_named (resource_type t)) (text_in (codes "url") t) parts.1 in
      let named : resource_type new ≡ resource_type t =
      ap (λ (o : Option Text). option_map_or (λ s. s) o []) (same_text es t (codes "resourceType") obj refl) in
      ap (λ (b : Bool). cond b (definition_of new) None) (with_sound es t good parts.0)
      ∙ ap (λ (o : Option Text). option_and_then (λ kind. option_map (λ url. let x : Definition = record { kind = kind; url = url; tree = new } in x) o) (kind_named (resource_type new)))
      (same_text es t (codes "url") obj refl)
      ∙ ap (λ (n : Text). option_and_then (λ kind. option_map (λ url. let x : Definition = record { kind = kind; url = url; tree = new } in x) (text_in (codes "url") t)) (kind_named n))
      named
      ∙ made

  -- ---- a package

  module _ (known : Known) (p : Definitions) (all_sound : AreSound p) (right : AreRight p) where
    got : (url : Text) (t new : Tree) (b : Bool) → IsSoundEntry StructureDefinition (url, t) → Gets p url t b new → IsSoundEntry StructureDefinition (url, new)
    got url t new true is h = subst (λ (u : Tree). IsSoundEntry StructureDefinition (url, u)) (sym h) is
    got url t new false is h =
        subst (λ (u : Tree). IsSoundEntry StructureDefinition (url, u)) (sym h.2)
        (entry_kept StructureDefinition url h.0 t (snapshot_good known p all_sound right url h.0 h.1) is)

    become : (url : Text) (t new : Tree) (fault : Option SnapNumber) → IsSoundEntry StructureDefinition (url, t) → Becomes p url t new fault
        → IsSoundEntry StructureDefinition (url, new)
    become url t new None is h = got url t new (brings_snapshot t) is h
    become url t new (Some fault) is h = subst (λ (u : Tree). IsSoundEntry StructureDefinition (url, u)) (sym h.2) is

    entries : (es news : ByUrl) (faults : Numbered) → All (IsSoundEntry StructureDefinition) es → AreCompleted p es news faults
        → AllByRecursion (IsSoundEntry StructureDefinition) news
    entries [] news faults all h = subst (AllByRecursion (IsSoundEntry StructureDefinition)) (sym h.0) tt
    entries (e ∷ es) news faults all h =
        subst (AllByRecursion (IsSoundEntry StructureDefinition)) (sym h.4) (
          become e.0 e.1 h.0 h.2 (All-head (IsSoundEntry StructureDefinition) e es all) h.6,
          entries es h.1 h.3 (All-tail (IsSoundEntry StructureDefinition) e es all) h.7,
        )

    pub completed_sound : (new : Definitions) (faults : Numbered) → IsCompletion p new faults → AreSound new
    completed_sound new faults c StructureDefinition =
        All-from_recursion (IsSoundEntry StructureDefinition) new.structure_definitions
        (entries p.structure_definitions new.structure_definitions faults (all_sound StructureDefinition) c.completed)
    completed_sound new faults c ValueSet =
        subst (All (IsSoundEntry ValueSet)) (sym (ap (of_kind ValueSet) c.others_stay)) (all_sound ValueSet)
    completed_sound new faults c CodeSystem =
        subst (All (IsSoundEntry CodeSystem)) (sym (ap (of_kind CodeSystem) c.others_stay)) (all_sound CodeSystem)

-- ---- its urls

same_urls : (p : Definitions) (es news : ByUrl) (faults : Numbered) → AreCompleted p es news faults → keys_of es ≡ keys_of news
same_urls p [] news faults h = ap keys_of (sym h.0)
same_urls p (e ∷ es) news faults h =
    ap (λ (us : List Text). e.0 ∷ us) (same_urls p es h.1 h.3 h.7) ∙ ap keys_of (sym h.4)

pub completed_once : (old new : Definitions) (faults : Numbered) → EachOnce old → IsCompletion old new faults → EachOnce new
completed_once old new faults once c StructureDefinition =
    subst (IsDistinct bytes_eq) (same_urls old old.structure_definitions new.structure_definitions faults c.completed) (once StructureDefinition)
completed_once old new faults once c ValueSet =
    subst (λ (es : ByUrl). IsDistinct bytes_eq (keys_of es)) (sym (ap (of_kind ValueSet) c.others_stay)) (once ValueSet)
completed_once old new faults once c CodeSystem =
    subst (λ (es : ByUrl). IsDistinct bytes_eq (keys_of es)) (sym (ap (of_kind CodeSystem) c.others_stay)) (once CodeSystem)
