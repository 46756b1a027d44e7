-- The type of an item, and the profile of that type.
use Rattle.std.proofs.Common.{◌≡◌, List, [], ◌∷◌, refl, sym, ap, ◌∙◌, inl, inr, ◌⊎◌, ◌&&◌, ◌||◌, IsTrue}
use Rattle.std.specs.List.{list_any, Contains}
use Rattle.std.specs.Option.{option_map_or}
use Rattle.std.proofs.lemmas.Bool.{and_parts, or_cases, false≢true}
use Rattle.fhir_json.specs.Tree.{Text}
use Rattle.fhir_json.specs.Bytes.{is_empty}
use Rattle.fhir_elements.specs.TypeEntry.{TypeEntry}
use Rattle.fhir_nodes.specs.declared.node.NodeRef.{NodeRef}
use Rattle.fhir_schema.specs.Schemas.{SchemaValue, types}
use Rattle.fhir_schema.specs.Covers.{covers}
use Rattle.fhir_instance.specs.Items.{Item, type_of}
use Rattle.fhir_facets.specs.Targets.{targets_hold}
use Rattle.fhir_facets.specs.Unread.{profile}
use Rattle.fhir_conformance.specs.Conformance.{Interpretation, Around, conforms}
use Rattle.conformance_laws.specs.Asked.{means, itself, has_profile, is_of_entry, is_of_types, HasProfile, IsOfEntry}
use Rattle.conformance_laws.proofs.Lists.{found}

none_of : {A : Type 0} (xs : List A) → IsTrue (is_empty xs) → xs ≡ []
none_of [] h = refl
none_of (x ∷ xs) h = absurd (false≢true h)

module _ (s : SchemaValue) (meaning : Interpretation) (around : Around) (x : Item) where
  of_profile : (p : Text) → IsTrue (has_profile s meaning around x p) → HasProfile s meaning around x p
  of_profile p h = record {
    used = λ r is. sym (ap (λ o. option_map_or (conforms s meaning around x) o (means s meaning around x (profile p))) is) ∙ h;
    unread = λ is. sym (ap (λ o. option_map_or (conforms s meaning around x) o (means s meaning around x (profile p))) is) ∙ h;
  }

  of_entry : (e : TypeEntry) → IsTrue (is_of_entry s meaning around x e) → IsOfEntry s meaning around x e
  of_entry e h =
      let profiled = is_empty e.profiles || list_any (has_profile s meaning around x) e.profiles in
      let parts = and_parts (covers s e.code (type_of x) && targets_hold s (means s meaning around x) e (itself s meaning around x)) profiled h in
      let front = and_parts (covers s e.code (type_of x)) (targets_hold s (means s meaning around x) e (itself s meaning around x)) parts.0 in
      record { code = front.0; targets = front.1; profiles = some parts.1 }
    where
      some : IsTrue (is_empty e.profiles || list_any (has_profile s meaning around x) e.profiles)
          → (e.profiles ≡ []) ⊎ ((p : Text) × (Contains e.profiles p) × HasProfile s meaning around x p)
      some h =
          elim (or_cases (is_empty e.profiles) (list_any (has_profile s meaning around x) e.profiles) h) [
            | inl none ↦ inl (none_of e.profiles none)
            | inr any ↦
                let p = found (has_profile s meaning around x) e.profiles any in
                inr (p.0, p.1, of_profile p.0 p.2)
          ]

  pub of_types : (n : NodeRef) → IsTrue (is_of_types s meaning around x n)
      → (types s n ≡ []) ⊎ ((e : TypeEntry) × (Contains (types s n) e) × IsOfEntry s meaning around x e)
  of_types n h =
      elim (or_cases (is_empty (types s n)) (list_any (is_of_entry s meaning around x) (types s n)) h) [
        | inl none ↦ inl (none_of (types s n) none)
        | inr any ↦
            let e = found (is_of_entry s meaning around x) (types s n) any in
            inr (e.0, e.1, of_entry e.0 e.2)
      ]
