-- Each element of a snapshot is sound and can be written, where the definitions of its package are sound and right.
use Rattle.std.proofs.Common.{◌≡◌, ℕ, zero, suc, List, [], ◌∷◌, Bool, true, false, Option, Some, None, option_map, cond, IsTrue, refl, ap, sym, ◌∙◌, subst}
use Rattle.std.specs.Prelude.{◌&&◌, codes}
use Rattle.std.proofs.lemmas.Option.{none-some, same_Some}
use Rattle.fhir_json.specs.Tree.{Text, Tree}
use Rattle.fhir_json.specs.Bytes.{dot, line_feed}
use Rattle.fhir_names.specs.Parents.{name_of, slice_of}
use Rattle.fhir_elements.specs.Element.{Element}
use Rattle.fhir_package.specs.declared.kind.Kind.TheVariants.{StructureDefinition}
use Rattle.fhir_package.specs.Definitions.{Definitions, at_url}
use Rattle.fhir_package.specs.Changing.{AreSound}
use Rattle.fhir_definition.specs.Snapshot.{ids_differ}
use Rattle.fhir_asking.specs.Asking.{Has}
use Rattle.fhir_overlay.specs.Overlay.{bounds_fit, as_slice}
use Rattle.fhir_overlay.proofs.Laying.{writable_parts}
use Rattle.fhir_overlay.proofs.SoundLaid.{sound_parts}
use Rattle.fhir_inheritance.specs.Keys.{key, key_parts, child_id}
use Rattle.fhir_inheritance.specs.Node.{Node}
use Rattle.fhir_inheritance.specs.Elements.{find}
use Rattle.fhir_inheritance.specs.Laying.{moved, all_slices}
use Rattle.fhir_inheritance.specs.Inheriting.{asking}
use Rattle.fhir_inheritance.specs.Sources.{Source, source_of, source_at, brings_snapshot, elements_in}
use Rattle.fhir_snapshot.specs.Order.{Lists}
use Rattle.fhir_snapshot.specs.Snapshots.{brings_elements, is_right, IsMade, SnapshotIn, IsSnapshot}
use Rattle.snapshot_laws.specs.Right.{AreRight}
use Rattle.snapshot_laws.proofs.Asked.{ComesWith, by_answers}
use Rattle.snapshot_laws.proofs.Asked.{Known as Follows}
use Rattle.snapshot_laws.proofs.Finding.{IsPlain, found_id, found_in, finds}
use Rattle.snapshot_laws.proofs.Good.{IsGood, Known, AreGood, HaveBounds, found_good, moved_good, laid_good, sliced_good}
use Rattle.snapshot_laws.proofs.Itself.{own_id}
use Rattle.snapshot_laws.proofs.Nodes.{key_is}
use Rattle.snapshot_laws.proofs.Origins.{IsMadeOf, FromFront, Origin, from_written, from_base, from_whole, from_front, origin}
use Rattle.snapshot_laws.proofs.Readable.{IsReadable, child_readable, child_unicode}
use Rattle.snapshot_laws.proofs.Sources.{brought_fit, sources_good}
use Rattle.snapshot_laws.proofs.Unicode.{IsUnicode}
use Rattle.snapshot_laws.proofs.Ups.{name_read, name_lacks, child_again, sliced_none, up_unsliced, up_lacks, lacks_both}
use Rattle.snapshot_laws.proofs.Whole.{written_elements}

-- an id that can be read, of Unicode
record IsClean (id : Text) : Type 0 where
  readable : IsReadable id
  unicode : IsUnicode id

clean_id : (e : Element) (id : Text) → e.id ≡ id → IsGood e → IsClean id
clean_id e id is good =
    subst IsClean is (record { readable = (writable_parts e good.writable).0; unicode = (sound_parts e good.sound).id })

clean_child : (front other name : Text) → IsClean front → IsClean (child_id other (name_of name)) → IsClean (child_id front (name_of name))
clean_child front other name one child =
    record {
      readable = child_readable front other (name_of name) (name_read name) one.readable child.readable;
      unicode = child_unicode front other (name_of name) one.unicode child.unicode;
    }

module _ (known : Known) (p : Definitions) (sound : AreSound p) (right : AreRight p) where
  -- ---- each node

  abbrev Good : Text → Option Node → Type 0
  Good name None = Unit {0}
  Good name (Some n) = IsGood n.element

  made_good : (R : Text → Option Node → Type 0) (url : Text) (s : Source) (inherited : Element) (names slices : List Text) (n : Node)
      → source_at p url ≡ Some s → IsMadeOf p R url s.elements inherited names slices n → IsGood inherited → IsGood n.element
  made_good R url s inherited names slices n at m good =
      subst IsGood (sym m.element_is)
      (laid_good known s.elements (all_slices s.elements inherited.id slices) inherited (sources_good known p sound right url s at) good)

  -- the id of an element that a definition brings
  clean_found : (url id : Text) (s : Source) (o : (e : Element) × (find s.elements id ≡ Some e)) → source_at p url ≡ Some s → IsClean id
  clean_found url id s o at =
      clean_id o.0 id (found_id s.elements id o.0 o.1).0 (found_good s.elements id o.0 (sources_good known p sound right url s at) o.1)

  -- the id of a new child
  clean_new : (id url : Text) (n : Node) → IsPlain id → FromFront p (Follows (asking p) Good) id url n → IsClean id
  clean_new id url n plain r = by (key_parts r.other) refl r.child_is
    where
      unsliced : slice_of id ≡ None
      unsliced = sliced_none id r.unsliced

      by : (o : Option (Text × Text)) → key_parts r.other ≡ o → option_map (λ at. key (child_id at.0 (name_of id)) at.1) o ≡ Some r.from → IsClean id
      by None is e = absurd (none-some r.from e)
      by (Some q) is e =
          let plain_front : IsPlain r.front = up_lacks line_feed id r.front (up_unsliced id unsliced ∙ r.front_is) plain in
          let plain_child : IsPlain (child_id q.0 (name_of id)) =
          lacks_both line_feed q.0 (dot ∷ name_of id) (key_is r.other q.0 q.1 is).1 (name_lacks line_feed id plain) in
          let asked : Has (asking p) (key (child_id q.0 (name_of id)) q.1) (Some r.like) =
          subst (λ (x : Text). Has (asking p) x (Some r.like)) (sym (same_Some (key (child_id q.0 (name_of id)) q.1) r.from e)) r.has_from.0 in
          subst IsClean (sym (child_again id r.front unsliced r.front_is))
          (clean_child r.front q.0 id
          (clean_id r.parent.element r.front (own_id p r.front url r.parent plain_front r.has_front.0) r.has_front.1)
          (clean_id r.like.element (child_id q.0 (name_of id)) (own_id p (child_id q.0 (name_of id)) q.1 r.like plain_child asked) r.has_from.1))

  from_origin : (id url : Text) (n : Node) → IsPlain id → Origin p (Follows (asking p) Good) id url n → IsGood n.element
  from_origin id url n plain (from_written r) =
      subst (λ (m : Node). IsGood m.element) (sym r.node_is)
      (found_good r.source.elements id r.own (sources_good known p sound right url r.source r.at) r.finds)
  from_origin id url n plain (from_base r) =
      made_good (Follows (asking p) Good) url r.source r.below.element r.below.names r.below.slices n r.by_base.at r.is_made r.has_base.1
  from_origin id url n plain (from_whole r) =
      let clean = clean_found url id r.source (finds r.source.elements id (found_in r.source.elements id r.finds)) r.by_base.at in
      made_good (Follows (asking p) Good) url r.source (moved id (as_slice r.sliced.element)) [] [] n r.by_base.at r.is_made
      (moved_good id (as_slice r.sliced.element) clean.readable clean.unicode (sliced_good known r.sliced.element r.has_whole.1))
  from_origin id url n plain (from_front r) =
      let clean = clean_new id url n plain r in
      made_good (Follows (asking p) Good) url r.source (moved id r.like.element) [] [] n r.by_base.at r.is_made
      (moved_good id r.like.element clean.readable clean.unicode r.has_from.1)

  step : (name : Text) (thing : Option Node) → ComesWith (Follows (asking p) Good) (asking p name) thing → Good name thing
  step name None h = tt
  step name (Some n) h =
      let o = origin p (Follows (asking p) Good) name n h in
      from_origin o.0 o.1 n (key_is name o.0 o.1 o.2).1 o.3

  node_good : (name : Text) (n : Node) → Has (asking p) name (Some n) → IsGood n.element
  node_good name n h = by_answers (asking p) Good step name (Some n) h

  -- ---- each element

  listed_good : (url : Text) (es : List Element) (waiting : List Text) → Lists p url es waiting → AreGood es
  listed_good url [] [] h = tt
  listed_good url [] (id ∷ ids) h = absurd h
  listed_good url (e ∷ es) [] h = absurd h
  listed_good url (e ∷ es) (id ∷ ids) h =
      (subst IsGood h.3 (node_good (key id url) h.0 h.1), listed_good url es _ h.4)

  made : (snapshots : Text → List Element → Type 0) (url : Text) (t : Tree) (es : List Element) (b : Bool)
      → at_url StructureDefinition url p ≡ Some t → brings_snapshot t ≡ b → IsMade snapshots p url t b es → AreGood es
  made snapshots url t es true at is h =
      subst AreGood (written_elements p t is ∙ sym h)
      (sources_good known p sound right url (source_of p t) (ap (option_map (source_of p)) at))
  made snapshots url t es false at is h = listed_good url es _ h.2.2.2

  in_bound : (bound : ℕ) (url : Text) (es : List Element) → SnapshotIn bound p url es → AreGood es
  in_bound zero url es h = absurd h
  in_bound (suc bound) url es h = made (SnapshotIn bound p) url h.0 es (brings_snapshot h.0) h.1 refl h.3

  pub snapshot_good : (url : Text) (es : List Element) → IsSnapshot p url es → AreGood es
  snapshot_good url es h = in_bound h.0 url es h.1

-- ---- their bounds

module _ (known : Known) (p : Definitions) where
  listed_fit : (url : Text) (es : List Element) (waiting : List Text) → Lists p url es waiting → HaveBounds es
  listed_fit url [] [] h = tt
  listed_fit url [] (id ∷ ids) h = absurd h
  listed_fit url (e ∷ es) [] h = absurd h
  listed_fit url (e ∷ es) (id ∷ ids) h = (subst (λ (x : Element). IsTrue (bounds_fit x)) h.3 h.2, listed_fit url es _ h.4)

  made_fit : (snapshots : Text → List Element → Type 0) (url : Text) (t : Tree) (es : List Element) (b : Bool) → brings_snapshot t ≡ b
      → is_right t ≡ true → IsMade snapshots p url t b es → HaveBounds es
  made_fit snapshots url t es true is right h =
      subst HaveBounds (sym h)
      (brought_fit known (codes "snapshot") t
      (sym (ap (λ (b : Bool). cond b (brings_elements (codes "snapshot") t) (brings_elements (codes "differential") t && ids_differ (elements_in (codes "differential") t))) is)
      ∙ right))
  made_fit snapshots url t es false is right h = listed_fit url es _ h.2.2.2

  fit_in : (bound : ℕ) (url : Text) (es : List Element) → SnapshotIn bound p url es → HaveBounds es
  fit_in zero url es h = absurd h
  fit_in (suc bound) url es h = made_fit (SnapshotIn bound p) url h.0 es (brings_snapshot h.0) refl h.2 h.3

  pub snapshot_fits : (url : Text) (es : List Element) → IsSnapshot p url es → HaveBounds es
  snapshot_fits url es h = fit_in h.0 url es h.1
