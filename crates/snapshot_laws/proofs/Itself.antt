-- Each node is that of its id, whatever the snapshots that are brought.
use Rattle.std.proofs.Common.{◌≡◌, true, false, List, [], Option, Some, None, refl, ap, sym, ◌∙◌, subst}
use Rattle.std.proofs.lemmas.Bool.{false≢true}
use Rattle.std.proofs.lemmas.Option.{same_Some}
use Rattle.fhir_json.specs.Tree.{Text}
use Rattle.fhir_elements.specs.Element.{Element}
use Rattle.fhir_package.specs.Definitions.{Definitions}
use Rattle.fhir_asking.specs.Asking.{Has}
use Rattle.fhir_overlay.specs.Overlay.{as_slice}
use Rattle.fhir_inheritance.specs.Keys.{key, key_parts}
use Rattle.fhir_inheritance.specs.Node.{Node}
use Rattle.fhir_inheritance.specs.Sources.{Source, source_at}
use Rattle.fhir_inheritance.specs.Laying.{laid, moved, all_slices}
use Rattle.fhir_inheritance.specs.Inheriting.{asking}
use Rattle.snapshot_laws.proofs.Coming.{OneAnswer}
use Rattle.snapshot_laws.proofs.Asked.{ComesWith, Known, by_answers}
use Rattle.snapshot_laws.proofs.Finding.{IsPlain, found_id}
use Rattle.snapshot_laws.proofs.Origins.{ByBase, same_source, IsMadeOf, Origin, from_written, from_base, from_whole, from_front, origin}
use Rattle.snapshot_laws.proofs.Nodes.{key_is, parts_of, laid_id}
use Rattle.snapshot_laws.proofs.Parents.{Q, base_answer, origin_at}

abbrev Own : Text → Option Node → Type 0
Own name None = Unit {0}
Own name (Some n) = (id : Text) × (url : Text) × (key_parts name ≡ Some (id, url)) × (n.element.id ≡ id)

-- an element is laid over one of an id
pub record IsLaidAt (es : List Element) (id : Text) (e : Element) : Type 0 where
  pub inherited : Element
  pub slices : List Text
  pub itself : inherited.id ≡ id
  pub laid_is : e ≡ laid es slices inherited

module _ (p : Definitions) where
  made_id : (R : Text → Option Node → Type 0) (url id : Text) (es : List Element) (inherited : Element) (names slices : List Text) (n : Node)
      → IsMadeOf p R url es inherited names slices n → inherited.id ≡ id → n.element.id ≡ id
  made_id R url id es inherited names slices n m is =
      ap (λ (e : Element). e.id) m.element_is ∙ laid_id es (all_slices es inherited.id slices) inherited ∙ is

  own_at : (id url : Text) (n : Node) → IsPlain id → Own (key id url) (Some n) → n.element.id ≡ id
  own_at id url n plain o =
      o.3 ∙ ap (λ (q : Text × Text). q.0) (same_Some (o.0, o.1) (id, url) (sym o.2 ∙ parts_of id url plain))

  from_origin : (id url : Text) (n : Node) → IsPlain id → Origin p (Known (asking p) Own) id url n → n.element.id ≡ id
  from_origin id url n plain (from_written r) = ap (λ (m : Node). m.element.id) r.node_is ∙ (found_id r.source.elements id r.own r.finds).0
  from_origin id url n plain (from_base r) =
      made_id (Known (asking p) Own) url id r.source.elements r.below.element r.below.names r.below.slices n r.is_made
      (own_at id r.base r.below plain r.has_base.1)
  from_origin id url n plain (from_whole r) =
      made_id (Known (asking p) Own) url id r.source.elements (moved id (as_slice r.sliced.element)) [] [] n r.is_made refl
  from_origin id url n plain (from_front r) =
      made_id (Known (asking p) Own) url id r.source.elements (moved id r.like.element) [] [] n r.is_made refl

  own_step : (name : Text) (thing : Option Node) → ComesWith (Known (asking p) Own) (asking p name) thing → Own name thing
  own_step name None h = tt
  own_step name (Some n) h =
      let o = origin p (Known (asking p) Own) name n h in
      (o.0, o.1, o.2, from_origin o.0 o.1 n (key_is name o.0 o.1 o.2).1 o.3)

  pub own_id : (id url : Text) (n : Node) → IsPlain id → Has (asking p) (key id url) (Some n) → n.element.id ≡ id
  own_id id url n plain h = own_at id url n plain (by_answers (asking p) Own own_step (key id url) (Some n) h)

  -- ---- where a definition is written by differential

  -- no snapshot is brought where the source is written by differential
  not_brought : (url : Text) (s t : Source) → source_at p url ≡ Some s → source_at p url ≡ Some t → s.written ≡ false → ¬ (t.written ≡ true)
  not_brought url s t one other isnt is = false≢true (sym isnt ∙ ap (λ (u : Source). u.written) (same_source p url s t one other) ∙ is)

  over_it : (id url : Text) (s t : Source) (inherited : Element) (names slices : List Text) (n : Node) → source_at p url ≡ Some s
      → source_at p url ≡ Some t → inherited.id ≡ id → IsMadeOf p (Q p) url t.elements inherited names slices n → IsLaidAt s.elements id n.element
  over_it id url s t inherited names slices n one other is m =
      record {
        inherited = inherited;
        slices = all_slices t.elements inherited.id slices;
        itself = is;
        laid_is = m.element_is
            ∙ ap (λ (u : Source). laid u.elements (all_slices t.elements inherited.id slices) inherited) (same_source p url t s other one);
      }

  laid_from : (id url : Text) (s : Source) (n : Node) → IsPlain id → source_at p url ≡ Some s → s.written ≡ false → Origin p (Q p) id url n
      → IsLaidAt s.elements id n.element
  laid_from id url s n plain is isnt (from_written r) = absurd (not_brought url s r.source is r.at isnt r.is_written)
  laid_from id url s n plain is isnt (from_base r) =
      over_it id url s r.source r.below.element r.below.names r.below.slices n is r.by_base.at (own_id id r.base r.below plain r.has_base.0) r.is_made
  laid_from id url s n plain is isnt (from_whole r) =
      over_it id url s r.source (moved id (as_slice r.sliced.element)) [] [] n is r.by_base.at refl r.is_made
  laid_from id url s n plain is isnt (from_front r) =
      over_it id url s r.source (moved id r.like.element) [] [] n is r.by_base.at refl r.is_made

  -- what the node of an id is laid over
  pub laid_at : (id url : Text) (s : Source) (n : Node) → IsPlain id → source_at p url ≡ Some s → s.written ≡ false
      → Has (asking p) (key id url) (Some n) → IsLaidAt s.elements id n.element
  laid_at id url s n plain is isnt h = laid_from id url s n plain is isnt (origin_at p id url n plain h)

  -- what is made of the base's
  pub made_of_base : OneAnswer → (id url base : Text) (s : Source) (n m : Node) → IsPlain id → source_at p url ≡ Some s → s.written ≡ false
      → s.base ≡ Some base → Has (asking p) (key id base) (Some m) → Has (asking p) (key id url) (Some n)
      → IsMadeOf p (Q p) url s.elements m.element m.names m.slices n
  made_of_base one id url base s n m plain is isnt rests below h =
      let based : ByBase p url s base = record { at = is; unwritten = isnt; rests = rests } in
      let made = base_answer p one id url base s m (Some n) plain based below h in
      subst (IsMadeOf p (Q p) url s.elements m.element m.names m.slices) (sym (same_Some n made.0 made.1)) made.2
