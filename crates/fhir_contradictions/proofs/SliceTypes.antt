-- Codes that cover one type share it.
use Rattle.std.proofs.Common.{◌≡◌, Bool, true, false, not, List, refl, sym, ap, subst, ◌∙◌, ◌&&◌, ◌||◌, IsTrue}
use Rattle.std.specs.List.{list_all}
use Rattle.std.proofs.lemmas.Bool.{and_parts, and_from, or_left, or_right, false≢true}
use Rattle.fhir_json.specs.Tree.{Text}
use Rattle.fhir_elements.specs.TypeEntry.{TypeEntry}
use Rattle.fhir_nodes.specs.declared.node.NodeRef.{NodeRef}
use Rattle.fhir_nodes.specs.Types.{names_resource}
use Rattle.fhir_schema.specs.Schemas.{SchemaValue, types}
use Rattle.fhir_schema.specs.Covers.{covers}
use Rattle.fhir_instance.specs.Items.{Item, type_of}
use Rattle.fhir_facets.specs.Unread.{Meaning}
use Rattle.fhir_facets.specs.Targets.{targets_hold}
use Rattle.fhir_conformance.specs.Conformance.{seen, is_untyped, entry_allows, profiles_hold, entry_holds, item_holds, root_holds}
use Rattle.fhir_contradictions.specs.Contradictions.{may_share, shares_none, has_other_types}
use Rattle.fhir_contradictions.proofs.Passing.{some_at}
use Rattle.fhir_contradictions.proofs.Obeying.{typed_entry}

-- a code that names no resource covers itself alone
abbrev pub CoversAlone : SchemaValue → Type 0
CoversAlone s = (a b : Text) → names_resource s.definitions a ≡ false → IsTrue (covers s a b) → a ≡ b

module _ (s : SchemaValue) (alone : CoversAlone s) where
  -- codes that cover one type may share it
  pub shared : (a b c : Text) → IsTrue (covers s a c) → IsTrue (covers s b c) → IsTrue (may_share s a b)
  shared a b c one other = by_case (names_resource s.definitions a) (names_resource s.definitions b) refl refl
    where
      by_case : (p q : Bool) → names_resource s.definitions a ≡ p → names_resource s.definitions b ≡ q → IsTrue (may_share s a b)
      by_case true true is of =
          or_right (covers s a b || covers s b a) (names_resource s.definitions a && names_resource s.definitions b)
          (and_from (names_resource s.definitions a) (names_resource s.definitions b) is of)
      by_case false q is of =
          or_left (covers s a b || covers s b a) (names_resource s.definitions a && names_resource s.definitions b)
          (or_right (covers s a b) (covers s b a) (subst (λ (t : Text). IsTrue (covers s b t)) (sym (alone a c is one)) other))
      by_case true false is of =
          or_left (covers s a b || covers s b a) (names_resource s.definitions a && names_resource s.definitions b)
          (or_left (covers s a b) (covers s b a) (subst (λ (t : Text). IsTrue (covers s a t)) (sym (alone b c of other)) one))

  -- where a type entry holds of an item, its code covers the item's type
  covers_type : (m : Meaning) (x : Item) (roots : NodeRef → Bool) (e : TypeEntry) → IsTrue (entry_holds s m roots x e) → IsTrue (covers s e.code (type_of x))
  covers_type m x roots e holds =
      (and_parts (covers s e.code (type_of x)) (targets_hold s m e (seen x))
      (and_parts (entry_allows s m x e) (profiles_hold s m roots x e.profiles) holds).0).0

  -- no item conforms to both, where their types share none
  pub none_of_both : (m : Meaning) (resource x : Item) (kids : List (NodeRef → Bool)) (n slice : NodeRef) → IsTrue (has_other_types s n slice)
      → IsTrue (item_holds s m resource x kids n) → IsTrue (item_holds s m resource x kids slice) → ⊥
  none_of_both m resource x kids n slice others at_n at_slice =
      let apart = and_parts (not (is_untyped s n) && not (is_untyped s slice)) (list_all (shares_none s (types s n)) (types s slice)) others in
      let typed = and_parts (not (is_untyped s n)) (not (is_untyped s slice)) apart.0 in
      let roots = root_holds s m resource x kids in
      let mine = some_at (entry_holds s m roots x) (shares_none s (types s n)) (types s slice)
      (typed_entry s m resource x kids slice typed.1 at_slice) apart.1 in
      let f = mine.0 in
      let theirs = some_at (entry_holds s m roots x) (λ (e : TypeEntry). not (may_share s f.code e.code)) (types s n)
      (typed_entry s m resource x kids n typed.0 at_n) mine.1.1 in
      let e = theirs.0 in
      let both = shared f.code e.code (type_of x) (covers_type m x roots f mine.1.0) (covers_type m x roots e theirs.1.0) in
      false≢true (sym (ap (λ b. not b) both) ∙ theirs.1.1)
