-- What the node of an id comes to.
use Rattle.std.proofs.Common.{◌≡◌, ℕ, Bool, cond, true, false, List, [], ◌++◌, Option, Some, None, is_some, ap, sym, ◌∙◌, subst}
use Rattle.std.specs.Option.{option_map_or, option_or}
use Rattle.std.proofs.lemmas.Option.{none-some, same_Some}
use Rattle.std.proofs.lemmas.List.{append-nil}
use Rattle.fhir_json.specs.Tree.{Text}
use Rattle.fhir_json.specs.Bytes.{line_feed}
use Rattle.fhir_names.specs.Texts.{lacks}
use Rattle.fhir_names.specs.Parents.{sliced_of, front_of}
use Rattle.fhir_names.proofs.Cuts.{first_found}
use Rattle.fhir_elements.specs.Constraint.{Constraint}
use Rattle.fhir_elements.specs.Slicing.{Slicing}
use Rattle.fhir_elements.specs.Element.{Element}
use Rattle.fhir_package.specs.Definitions.{Definitions}
use Rattle.fhir_asking.specs.Asking.{Asking, given, asks, Has, ComesTo}
use Rattle.fhir_overlay.specs.Overlay.{as_slice, with_constraints}
use Rattle.fhir_inheritance.specs.Keys.{key}
use Rattle.fhir_inheritance.specs.Node.{Node}
use Rattle.fhir_inheritance.specs.Elements.{find}
use Rattle.fhir_inheritance.specs.Sources.{Source, source_at, only_type_key, target_key}
use Rattle.fhir_inheritance.specs.Laying.{laid, moved, all_slices, is_touched, over, slicing_with}
use Rattle.fhir_inheritance.specs.Lists.{with_others}
use Rattle.fhir_snapshot.specs.Order.{IsAt}
use Rattle.fhir_inheritance.specs.Inheriting.{written, names_in, asks_names, key_at, asks_targets, asks_kinds, touched_node, made, made_from, new, new_slice, new_child, inherits, in_source, at, asking}

abbrev pub OneAnswer : Type 0
OneAnswer = (asking : Text → Asking Node) (name : Text) (one other : Option Node) → Has asking name one → Has asking name other → one ≡ other

module _ (p : Definitions) where
  -- ---- the element of a node is the one that was laid

  after_names : (o : Option Text) (next : List Text → Asking Node) (n : Node) → ComesTo (asking p) (asks_names o next) (Some n)
      → (names : List Text) × ComesTo (asking p) (next names) (Some n)
  after_names None next n h = ([], h)
  after_names (Some name) next n h = (names_in h.0, h.2)

  by_node : (url : Text) (e : Element) (names slices : List Text) (n : Node) → ComesTo (asking p) (touched_node p url e names slices) (Some n) → n.element ≡ e
  by_node url e names slices n h =
      let one = after_names (key_at url _) (λ twins. asks_kinds p url e slices (with_others names twins)) n h in
      let two = after_names (only_type_key p e.types) (λ kinds. asks_targets p url e slices (with_others (with_others names one.0) kinds)) n one.1 in
      let three = after_names (target_key p url e) (λ targets. given (Some (record { element = e; names = with_others (with_others (with_others names one.0) two.0) targets; slices = slices; touched = true }))) n two.1 in
      ap (λ (m : Node). m.element) (sym (same_Some _ n three.1))

  node_element : (url : Text) (es : List Element) (e : Element) (names slices : List Text) (n : Node) (b : Bool)
      → ComesTo (asking p) (cond b (touched_node p url e names slices) (given (Some (record { element = e; names = names; slices = slices; touched = false })))) (Some n) → n.element ≡ e
  node_element url es e names slices n true h = by_node url e names slices n h
  node_element url es e names slices n false h = ap (λ (m : Node). m.element) (sym (same_Some _ n h))

  pub made_element : (url : Text) (es : List Element) (inherited : Element) (names slices : List Text) (n : Node)
      → ComesTo (asking p) (made p url es inherited names slices) (Some n) → n.element ≡ laid es (all_slices es inherited.id slices) inherited
  made_element url es inherited names slices n h =
      node_element url es (laid es (all_slices es inherited.id slices) inherited) names (all_slices es inherited.id slices) n
      (is_touched es (laid es (all_slices es inherited.id slices) inherited).id names) h

  -- ---- what an id of a definition by differential comes to

  parted : (id url : Text) → lacks line_feed id ≡ true → asking p (key id url) ≡ at p id url
  parted id url h = ap (λ (o : Option (Text × Text)). option_map_or (λ parts. at p parts.0 parts.1) o (given None)) (first_found line_feed id url h)

  of_source : (id url : Text) (s : Source) → source_at p url ≡ Some s → at p id url ≡ in_source p id url s
  of_source id url s is = ap (λ (o : Option Source). option_map_or (in_source p id url) o (given None)) is

  by_base : (id url base : Text) (s : Source) → s.written ≡ false → s.base ≡ Some base → in_source p id url s ≡ inherits p url s.elements id (Some base)
  by_base id url base s isnt is =
      ap (λ (b : Bool). cond b (written s.elements id) (inherits p url s.elements id s.base)) isnt
      ∙ ap (λ (o : Option Text). inherits p url s.elements id o) is

  pub inherited : (id url base : Text) (s : Source) → lacks line_feed id ≡ true → source_at p url ≡ Some s → s.written ≡ false → s.base ≡ Some base
      → asking p (key id url) ≡ inherits p url s.elements id (Some base)
  inherited id url base s plain is isnt base_is = parted id url plain ∙ of_source id url s is ∙ by_base id url base s isnt base_is

  -- of an id that the base has
  of_base : OneAnswer → (id url base : Text) (es : List Element) (n m : Node) → IsAt p base id m → ComesTo (asking p) (inherits p url es id (Some base)) (Some n)
      → ComesTo (asking p) (made p url es m.element m.names m.slices) (Some n)
  of_base answer id url base es n m at h =
      let same : h.0 ≡ Some m = answer (asking p) (key id base) h.0 (Some m) h.1 at in
      subst (λ (o : Option Node). ComesTo (asking p) (option_map_or (λ m. made p url es m.element m.names m.slices) o (new p url es id)) (Some n)) same h.2

  pub base_element : OneAnswer → ((name : Text) (thing : Option Node) → Has (asking p) name thing → ComesTo (asking p) (asking p name) thing)
      → (id url base : Text) (s : Source) (n m : Node) → lacks line_feed id ≡ true → source_at p url ≡ Some s → s.written ≡ false → s.base ≡ Some base
      → IsAt p base id m → IsAt p url id n → n.element ≡ laid s.elements (all_slices s.elements m.element.id m.slices) m.element
  base_element answer comes id url base s n m plain is isnt base_is below at =
      made_element url s.elements m.element m.names m.slices n
      (of_base answer id url base s.elements n m below
      (subst (λ (a : Asking Node). ComesTo (asking p) a (Some n)) (inherited id url base s plain is isnt base_is) (comes (key id url) (Some n) at)))

  -- of a slice that the base doesn't have
  of_slice : (id whole url : Text) (es : List Element) (n : Node) (b : Bool) → ComesTo (asking p)
      (cond b (asks (key whole url) (λ node. option_map_or (λ w. made_from p url es id (as_slice w.element)) node (given None))) (given None)) (Some n)
      → (w : Node) × ComesTo (asking p) (made_from p url es id (as_slice w.element)) (Some n)
  of_slice id whole url es n false h = absurd (none-some n h)
  of_slice id whole url es n true h = by h.0 h.2
    where
      by : (o : Option Node) → ComesTo (asking p) (option_map_or (λ w. made_from p url es id (as_slice w.element)) o (given None)) (Some n)
          → (w : Node) × ComesTo (asking p) (made_from p url es id (as_slice w.element)) (Some n)
      by None h = absurd (none-some n h)
      by (Some w) h = (w, h)

  of_new : (id whole url base : Text) (es : List Element) (n : Node) → ((m : Node) → IsAt p base id m → ⊥) → sliced_of id ≡ Some whole
      → ComesTo (asking p) (inherits p url es id (Some base)) (Some n) → ComesTo (asking p) (new_slice p url es id whole) (Some n)
  of_new id whole url base es n none is h = by h.0 h.1 h.2
    where
      by : (o : Option Node) → Has (asking p) (key id base) o → ComesTo (asking p) (option_map_or (λ m. made p url es m.element m.names m.slices) o (new p url es id)) (Some n)
          → ComesTo (asking p) (new_slice p url es id whole) (Some n)
      by (Some m) has h = absurd (none m has)
      by None has h = subst (λ (o : Option Text). ComesTo (asking p) (option_map_or (new_slice p url es id) o (new_child p url es id (front_of id))) (Some n)) is h

  pub slice_element : ((name : Text) (thing : Option Node) → Has (asking p) name thing → ComesTo (asking p) (asking p name) thing)
      → (id whole url base : Text) (s : Source) (n : Node) → lacks line_feed id ≡ true → source_at p url ≡ Some s → s.written ≡ false → s.base ≡ Some base
      → ((m : Node) → IsAt p base id m → ⊥) → sliced_of id ≡ Some whole → IsAt p url id n
      → (w : Node) × (n.element ≡ laid s.elements (all_slices s.elements id []) (moved id (as_slice w.element)))
  slice_element comes id whole url base s n plain is isnt base_is none sliced at =
      let new_one = of_new id whole url base s.elements n none sliced
      (subst (λ (a : Asking Node). ComesTo (asking p) a (Some n)) (inherited id url base s plain is isnt base_is) (comes (key id url) (Some n) at)) in
      let w = of_slice id whole url s.elements n (is_some (find s.elements id)) new_one in
      (w.0, made_element url s.elements (moved id (as_slice w.0.element)) [] [] n w.1)

-- ---- what is laid

kept_constraints : ((old more : List Constraint) → (added : List Constraint) × (with_constraints old more ≡ old ++ added)) → (o : Option Element) (e : Element)
    → (added : List Constraint) × ((over o e).constraints ≡ e.constraints ++ added)
kept_constraints stay None e = ([], sym (append-nil e.constraints))
kept_constraints stay (Some d) e = stay e.constraints d.constraints

pub laid_constraints : ((old more : List Constraint) → (added : List Constraint) × (with_constraints old more ≡ old ++ added)) → (es : List Element) (slices : List Text) (n e : Element)
    → n ≡ laid es slices e → (added : List Constraint) × (n.constraints ≡ e.constraints ++ added)
laid_constraints stay es slices n e is =
    let kept = kept_constraints stay (find es e.id) e in
    (kept.0, ap (λ (x : Element). x.constraints) is ∙ kept.1)

sliced_so : (e x : Element) (slicing : Option Slicing) → x ≡ record e { slicing = slicing } → x ≡ record e { slicing = x.slicing }
sliced_so e x slicing is = is ∙ ap (λ (o : Option Slicing). let y : Element = record e { slicing = o } in y) (sym (ap (λ (y : Element). y.slicing) is))

pub laid_untouched : (es : List Element) (slices : List Text) (n e : Element) → find es e.id ≡ None → n ≡ laid es slices e → n ≡ record e { slicing = n.slicing }
laid_untouched es slices n e none is =
    sliced_so e n (slicing_with slices e)
    (is ∙ ap (λ (o : Option Element). let y : Element = record (over o e) { slicing = slicing_with slices (over o e) } in y) none)

pub laid_min : (es : List Element) (slices : List Text) (n e d : Element) → find es e.id ≡ Some d → d.min ≡ None → n ≡ laid es slices e → n.min ≡ e.min
laid_min es slices n e d found none is =
    ap (λ (x : Element). x.min) is ∙ ap (λ (o : Option Element). (over o e).min) found ∙ ap (λ (o : Option ℕ). option_or o e.min) none
