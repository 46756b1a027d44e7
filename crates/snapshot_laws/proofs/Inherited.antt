-- What a child inherits that the base doesn't have.
use Rattle.std.proofs.Common.{◌≡◌, ◌++◌, Bool, cond, true, false, List, [], Option, Some, None, refl, ap, sym, ◌∙◌, subst}
use Rattle.std.specs.Option.{option_map, option_map_or}
use Rattle.std.proofs.lemmas.Option.{none-some, same_Some}
use Rattle.fhir_json.specs.Tree.{Text}
use Rattle.fhir_names.specs.Parents.{front_of, name_of}
use Rattle.fhir_elements.specs.Constraint.{Constraint}
use Rattle.fhir_elements.specs.Element.{Element}
use Rattle.fhir_package.specs.Definitions.{Definitions}
use Rattle.fhir_asking.specs.Asking.{Asking, given, Has}
use Rattle.fhir_overlay.specs.Overlay.{with_constraints}
use Rattle.fhir_inheritance.specs.Keys.{key, child_id, twin_of}
use Rattle.fhir_inheritance.specs.Node.{Node}
use Rattle.fhir_inheritance.specs.Elements.{find}
use Rattle.fhir_inheritance.specs.Sources.{only_type_key, target_key}
use Rattle.fhir_inheritance.specs.Laying.{moved, all_slices}
use Rattle.fhir_inheritance.specs.Inheriting.{key_at, made, made_from, first_there, child_of, from_target, from_types, from_parent, from_node, new_slice}
use Rattle.fhir_inheritance.specs.Inheriting.{new_child, new, asking}
use Rattle.fhir_snapshot.specs.Order.{IsAt}
use Rattle.snapshot_laws.specs.Differentials.{Inherits}
use Rattle.snapshot_laws.specs.Slicings.{IsLike, IsSlicedByName}
use Rattle.snapshot_laws.specs.Children.{IsInherited, IsNewChild}
use Rattle.snapshot_laws.proofs.Asked.{ComesWith}
use Rattle.snapshot_laws.proofs.Coming.{OneAnswer, inherited, laid_constraints, laid_untouched}
use Rattle.snapshot_laws.proofs.Finding.{IsPlain}
use Rattle.snapshot_laws.proofs.Implied.{made_so, sliced_by_name}
use Rattle.snapshot_laws.proofs.Nodes.{parts_of}
use Rattle.snapshot_laws.proofs.Origins.{IsMadeOf, made_is}
use Rattle.snapshot_laws.proofs.Parents.{Q, comes}
use Rattle.snapshot_laws.proofs.Said.{inherits_so}

module _ (p : Definitions) where
  -- ---- what a new child comes to

  by_new : (id url base : Text) (es : List Element) (n : Node) → ((m : Node) → IsAt p base id m → ⊥) → (o : Option Node) → Has (asking p) (key id base) o
      → ComesWith (Q p) (option_map_or (λ m. made p url es m.element m.names m.slices) o (new p url es id)) (Some n)
      → ComesWith (Q p) (new p url es id) (Some n)
  by_new id url base es n none (Some m) has h = absurd (none m has)
  by_new id url base es n none None has h = h

  by_parent : (id url front : Text) (es : List Element) (n parent : Node) (b : Bool)
      → ComesWith (Q p) (cond b (from_parent p url es id front parent.element) (given None)) (Some n)
      → ComesWith (Q p) (from_parent p url es id front parent.element) (Some n)
  by_parent id url front es n parent true h = h
  by_parent id url front es n parent false h = absurd (none-some n h)

  at_parent : OneAnswer → (id url front : Text) (es : List Element) (n parent : Node) → IsAt p url front parent
      → ComesWith (Q p) (new_child p url es id (Some front)) (Some n) → ComesWith (Q p) (from_parent p url es id front parent.element) (Some n)
  at_parent one id url front es n parent at h =
      let same : h.0 ≡ Some parent = one (asking p) (key front url) h.0 (Some parent) h.1.0 at in
      by_parent id url front es n parent parent.touched
      (subst (λ (o : Option Node). ComesWith (Q p) (option_map_or (from_node p url es id front) o (given None)) (Some n)) same h.2)

  comes_to : OneAnswer → (url id : Text) (parent n : Node) → (child : IsNewChild p url id parent n)
      → ComesWith (Q p) (from_parent p url child.source.elements id child.up parent.element) (Some n)
  comes_to one url id parent n child =
      let es : List Element = child.source.elements in
      let whole = subst (λ (a : Asking Node). ComesWith (Q p) a (Some n))
      (inherited p id url child.base child.source child.plain child.at child.unwritten child.rests) (comes p (key id url) (Some n) child.stands) in
      let fresh = by_new id url child.base es n child.none_below whole.0 whole.1.0 whole.2 in
      let bare = subst (λ (o : Option Text). ComesWith (Q p) (option_map_or (new_slice p url es id) o (new_child p url es id (front_of id))) (Some n))
      child.no_slice fresh in
      at_parent one id url child.up es n parent child.parent_stands
      (subst (λ (o : Option Text). ComesWith (Q p) (new_child p url es id o) (Some n)) child.under bare)

  -- ---- the first that is there

  none_first : (url id : Text) (es : List Element) (o : Option Text) (otherwise : Asking Node) (n : Node) → o ≡ None
      → ComesWith (Q p) (first_there p url es id o otherwise) (Some n) → ComesWith (Q p) otherwise (Some n)
  none_first url id es o otherwise n is h =
      subst (λ (x : Option Text). ComesWith (Q p) (first_there p url es id x otherwise) (Some n)) is h

  made_of : (url id : Text) (es : List Element) (r n : Node) → ComesWith (Q p) (made_from p url es id r.element) (Some n)
      → IsMadeOf p (Q p) url es (moved id r.element) [] [] n
  made_of url id es r n h = by (made_is p (Q p) url es (moved id r.element) [] [] (Some n) h)
    where
      by : (m : Node) × (Some n ≡ Some m) × IsMadeOf p (Q p) url es (moved id r.element) [] [] m → IsMadeOf p (Q p) url es (moved id r.element) [] [] n
      by m = subst (IsMadeOf p (Q p) url es (moved id r.element) [] []) (same_Some m.0 n (sym m.1)) m.2

  that_first : OneAnswer → (url id from : Text) (es : List Element) (o : Option Text) (otherwise : Asking Node) (r n : Node) → o ≡ Some from
      → Has (asking p) from (Some r) → ComesWith (Q p) (first_there p url es id o otherwise) (Some n)
      → IsMadeOf p (Q p) url es (moved id r.element) [] [] n
  that_first one url id from es o otherwise r n is has h =
      let asked = subst (λ (x : Option Text). ComesWith (Q p) (first_there p url es id x otherwise) (Some n)) is h in
      let same : asked.0 ≡ Some r = one (asking p) from asked.0 (Some r) asked.1.0 has in
      made_of url id es r n
      (subst (λ (x : Option Node). ComesWith (Q p) (option_map_or (λ m. made_from p url es id m.element) x otherwise) (Some n)) same asked.2)

  child_at : (name id url : Text) (o : Option Text) → IsPlain id → o ≡ Some (key id url) → child_of name o ≡ Some (key (child_id id name) url)
  child_at name id url o plain is =
      ap (child_of name) is ∙ ap (λ (q : Option (Text × Text)). option_map (λ at. key (child_id at.0 name) at.1) q) (parts_of id url plain)

  -- ---- what it has

  has_so : ((old more : List Constraint) → (added : List Constraint) × (with_constraints old more ≡ old ++ added))
      → (url id : Text) (es : List Element) (r n : Node) → IsMadeOf p (Q p) url es (moved id r.element) [] [] n → IsInherited es id r n
  has_so stay url id es r n made =
      record { like = all_like; min = λ d found. (said d found).min; untouched = untouched; sliced = by_its_name }
    where
      said : (d : Element) → find es id ≡ Some d → Inherits d (moved id r.element) n.element
      said d found = inherits_so es (all_slices es id []) n.element (moved id r.element) d found made.element_is

      all_like : (d : Element) → find es id ≡ Some d → IsLike d r.element n.element
      all_like d found =
          let all = said d found in
          record {
            slice_name = all.slice_name;
            max = all.max;
            types = all.types;
            content_reference = all.content_reference;
            fixed = all.fixed;
            pattern = all.pattern;
            min_value = all.min_value;
            max_value = all.max_value;
            max_length = all.max_length;
            binding = all.binding;
            constraints = laid_constraints stay es (all_slices es id []) n.element (moved id r.element) made.element_is;
          }

      by_its_name : ((d : Element) → find es id ≡ Some d → d.slicing ≡ None) → r.element.slicing ≡ None → IsSlicedByName id n
      by_its_name unsaid none = sliced_by_name id n (made_so p url id es (moved id r.element) [] [] n made refl unsaid none)

      untouched : find es id ≡ None → n.element ≡ record (r.element) { id = id; path = n.element.path; slicing = n.element.slicing }
      untouched none =
          let is = laid_untouched es (all_slices es id []) n.element (moved id r.element) none made.element_is in
          is ∙ ap (λ (o : Option Text). let y : Element = record (r.element) { id = id; path = o; slicing = n.element.slicing } in y)
          (sym (ap (λ (x : Element). x.path) is))

  -- ---- each of the three ways

  made_sliced : OneAnswer → (url id sliced : Text) (parent n r : Node) (child : IsNewChild p url id parent n) → twin_of child.up ≡ Some sliced
      → IsPlain sliced → IsAt p url (child_id sliced (name_of id)) r → IsMadeOf p (Q p) url child.source.elements (moved id r.element) [] [] n
  made_sliced one url id sliced parent n r child is plain at =
      that_first one url id (key (child_id sliced (name_of id)) url) child.source.elements (child_of (name_of id) (key_at url (twin_of child.up)))
      (from_types p url child.source.elements id parent.element) r n
      (child_at (name_of id) sliced url (key_at url (twin_of child.up)) plain (ap (key_at url) is)) at (comes_to one url id parent n child)

  no_twin : OneAnswer → (url id : Text) (parent n : Node) (child : IsNewChild p url id parent n) → twin_of child.up ≡ None
      → ComesWith (Q p) (from_types p url child.source.elements id parent.element) (Some n)
  no_twin one url id parent n child none =
      none_first url id child.source.elements (child_of (name_of id) (key_at url (twin_of child.up)))
      (from_types p url child.source.elements id parent.element) n (ap (λ (o : Option Text). child_of (name_of id) (key_at url o)) none)
      (comes_to one url id parent n child)

  made_typed : OneAnswer → (url id root kind : Text) (parent n r : Node) (child : IsNewChild p url id parent n) → twin_of child.up ≡ None
      → only_type_key p parent.element.types ≡ Some (key root kind) → IsPlain root → IsAt p kind (child_id root (name_of id)) r
      → IsMadeOf p (Q p) url child.source.elements (moved id r.element) [] [] n
  made_typed one url id root kind parent n r child none is plain at =
      that_first one url id (key (child_id root (name_of id)) kind) child.source.elements (child_of (name_of id) (only_type_key p parent.element.types))
      (from_target p url child.source.elements id parent.element) r n
      (child_at (name_of id) root kind (only_type_key p parent.element.types) plain is) at (no_twin one url id parent n child none)

  made_targeted : OneAnswer → (url id target other : Text) (parent n r : Node) (child : IsNewChild p url id parent n) → twin_of child.up ≡ None
      → only_type_key p parent.element.types ≡ None → target_key p url parent.element ≡ Some (key target other) → IsPlain target
      → IsAt p other (child_id target (name_of id)) r → IsMadeOf p (Q p) url child.source.elements (moved id r.element) [] [] n
  made_targeted one url id target other parent n r child none untyped is plain at =
      that_first one url id (key (child_id target (name_of id)) other) child.source.elements
      (child_of (name_of id) (target_key p url parent.element)) (given None) r n
      (child_at (name_of id) target other (target_key p url parent.element) plain is) at
      (none_first url id child.source.elements (child_of (name_of id) (only_type_key p parent.element.types))
      (from_target p url child.source.elements id parent.element) n (ap (child_of (name_of id)) untyped) (no_twin one url id parent n child none))

  -- ---- what it is like, and how it is sliced

  abbrev Stay : Type 0
  Stay = (old more : List Constraint) → (added : List Constraint) × (with_constraints old more ≡ old ++ added)

  pub of_sliced : OneAnswer → Stay → (url id sliced : Text) (parent n r : Node) (child : IsNewChild p url id parent n)
      → twin_of child.up ≡ Some sliced → IsPlain sliced → IsAt p url (child_id sliced (name_of id)) r
      → IsInherited child.source.elements id r n
  of_sliced one stay url id sliced parent n r child is plain at =
      has_so stay url id child.source.elements r n (made_sliced one url id sliced parent n r child is plain at)

  pub of_type : OneAnswer → Stay → (url id root kind : Text) (parent n r : Node) (child : IsNewChild p url id parent n)
      → twin_of child.up ≡ None → only_type_key p parent.element.types ≡ Some (key root kind) → IsPlain root
      → IsAt p kind (child_id root (name_of id)) r → IsInherited child.source.elements id r n
  of_type one stay url id root kind parent n r child none is plain at =
      has_so stay url id child.source.elements r n (made_typed one url id root kind parent n r child none is plain at)

  pub of_content : OneAnswer → Stay → (url id target other : Text) (parent n r : Node) (child : IsNewChild p url id parent n)
      → twin_of child.up ≡ None → only_type_key p parent.element.types ≡ None → target_key p url parent.element ≡ Some (key target other)
      → IsPlain target → IsAt p other (child_id target (name_of id)) r → IsInherited child.source.elements id r n
  of_content one stay url id target other parent n r child none untyped is plain at =
      has_so stay url id child.source.elements r n (made_targeted one url id target other parent n r child none untyped is plain at)
