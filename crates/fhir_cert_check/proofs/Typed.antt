-- What the rule on types promises: an item of a type that the derived node allows is of one that the base node allows.
use Rattle.std.proofs.Common.{◌≡◌, Bool, false, List, Option, Some, None, refl, sym, subst, ◌∙◌, inl, inr, ◌&&◌, IsTrue, not}
use Rattle.std.specs.List.{list_any}
use Rattle.std.specs.Option.{option_map_or}
use Rattle.std.specs.Str.{bytes_eq}
use Rattle.std.proofs.lemmas.Bool.{and_parts, and_from, or_cases, or_left, or_right, not-true, false≢true, true≢false}
use Rattle.fhir_json.specs.Tree.{Text}
use Rattle.fhir_json.specs.Bytes.{is_empty}
use Rattle.fhir_elements.specs.TypeEntry.{TypeEntry}
use Rattle.fhir_nodes.specs.declared.node.NodeRef.{NodeRef}
use Rattle.fhir_schema.specs.Schemas.{SchemaValue, types, loaded}
use Rattle.fhir_schema.specs.Covers.{covers}
use Rattle.fhir_instance.specs.Items.{Item, type_of}
use Rattle.fhir_facets.specs.Unread.{Meaning}
use Rattle.fhir_facets.specs.Unread.{profile as unread_profile}
use Rattle.fhir_facets.specs.Seen.{Seen}
use Rattle.fhir_facets.specs.Targets.{targets_hold, targets_narrower}
use Rattle.fhir_conformance.specs.Conformance.{seen, is_untyped, entry_allows, profile_holds, profiles_hold, entry_holds, types_hold}
use Rattle.fhir_certificate.specs.declared.pair.Pair.{Pair}
use Rattle.fhir_cert_check.specs.Lists.{each_answers}
use Rattle.fhir_cert_check.specs.Rules.{has_item_pair, profile_answers, profiles_answer, entry_answers, types_answer}
use Rattle.fhir_cert_check.proofs.Answered.{answers_any}
use Rattle.fhir_cert_check.proofs.Sliced.{same_text}

-- what is covered by a covered code is covered
abbrev pub CoversOn : SchemaValue → Type 0
CoversOn s = (a b c : Text) → IsTrue (covers s a b) → IsTrue (covers s b c) → IsTrue (covers s a c)

-- targets that are narrower hold of less
abbrev pub TargetsHold : SchemaValue → Type 0
TargetsHold s = (m : Meaning) (e f : TypeEntry) (x : Seen) → IsTrue (targets_narrower s e f) → IsTrue (targets_hold s m e x) → IsTrue (targets_hold s m f x)

-- an item that conforms to a profile conforms to one that it is paired with
abbrev pub ProfilesKeep : SchemaValue → (Pair → Bool) → (NodeRef → Bool) → Type 0
ProfilesKeep s pairs roots =
    (own base : Text) (n k : NodeRef) → loaded s own ≡ Some n → loaded s base ≡ Some k → IsTrue (has_item_pair pairs n k) → IsTrue (roots n) → IsTrue (roots k)

module _ (s : SchemaValue) (covers_on : CoversOn s) (targets_are : TargetsHold s) (pairs : Pair → Bool) (m : Meaning) (roots : NodeRef → Bool) (x : Item)
    (keep : ProfilesKeep s pairs roots) where
  profile_step : (own base : Text) → IsTrue (profile_answers pairs s own base) → IsTrue (profile_holds s m roots x own) → IsTrue (profile_holds s m roots x base)
  profile_step own base answers holds =
      elim (or_cases (bytes_eq own base) (option_map_or (λ n. option_map_or (has_item_pair pairs n) (loaded s base) false) (loaded s own) false) answers) [
        | inl same ↦ subst (λ p. IsTrue (profile_holds s m roots x p)) (same_text own base same) holds
        | inr paired ↦ go (loaded s own) (loaded s base) refl refl paired holds
      ]
    where
      go : (o p : Option NodeRef) → loaded s own ≡ o → loaded s base ≡ p → IsTrue (option_map_or (λ n. option_map_or (has_item_pair pairs n) p false) o false)
          → IsTrue (option_map_or roots o (m (unread_profile own))) → IsTrue (option_map_or roots p (m (unread_profile base)))
      go None p e f paired holds = absurd (false≢true paired)
      go (Some n) None e f paired holds = absurd (false≢true paired)
      go (Some n) (Some k) e f paired holds = keep own base n k e f paired holds

  profiles_step : (own base : List Text) → IsTrue (profiles_answer pairs s own base) → IsTrue (profiles_hold s m roots x own)
      → IsTrue (profiles_hold s m roots x base)
  profiles_step own base answers holds =
      elim (or_cases (is_empty base) _ answers) [
        | inl none ↦ or_left (is_empty base) (list_any (profile_holds s m roots x) base) none
        | inr some ↦
            let p = and_parts (not (is_empty own)) (each_answers (profile_answers pairs s) own base) some in
            elim (or_cases (is_empty own) (list_any (profile_holds s m roots x) own) holds) [
              | inl none ↦ absurd (true≢false (sym none ∙ not-true (is_empty own) p.0))
              | inr one ↦
                  or_right (is_empty base) (list_any (profile_holds s m roots x) base)
                  (answers_any (profile_answers pairs s) (profile_holds s m roots x) (profile_holds s m roots x) profile_step own base p.1 one)
            ]
      ]

  entry_step : (e f : TypeEntry) → IsTrue (entry_answers pairs s e f) → IsTrue (entry_holds s m roots x e) → IsTrue (entry_holds s m roots x f)
  entry_step e f answers holds =
      let a = and_parts (covers s f.code e.code && targets_narrower s e f) (profiles_answer pairs s e.profiles f.profiles) answers in
      let b = and_parts (covers s f.code e.code) (targets_narrower s e f) a.0 in
      let h = and_parts (entry_allows s m x e) (profiles_hold s m roots x e.profiles) holds in
      let g = and_parts (covers s e.code (type_of x)) (targets_hold s m e (seen x)) h.0 in
      and_from (entry_allows s m x f) (profiles_hold s m roots x f.profiles)
      (and_from (covers s f.code (type_of x)) (targets_hold s m f (seen x)) (covers_on f.code e.code (type_of x) b.0 g.0)
      (targets_are m e f (seen x) b.1 g.1))
      (profiles_step e.profiles f.profiles a.1 h.1)

  pub types_step : (n k : NodeRef) → IsTrue (types_answer pairs s n k) → IsTrue (types_hold s m roots x n) → IsTrue (types_hold s m roots x k)
  types_step n k answers holds =
      elim (or_cases (is_untyped s k) _ answers) [
        | inl untyped ↦ or_left (is_untyped s k) (list_any (entry_holds s m roots x) (types s k)) untyped
        | inr typed ↦
            let p = and_parts (not (is_untyped s n)) (each_answers (entry_answers pairs s) (types s n) (types s k)) typed in
            elim (or_cases (is_untyped s n) (list_any (entry_holds s m roots x) (types s n)) holds) [
              | inl untyped ↦ absurd (true≢false (sym untyped ∙ not-true (is_untyped s n) p.0))
              | inr some ↦
                  or_right (is_untyped s k) (list_any (entry_holds s m roots x) (types s k))
                  (answers_any (entry_answers pairs s) (entry_holds s m roots x) (entry_holds s m roots x) entry_step (types s n) (types s k) p.1 some)
            ]
      ]
