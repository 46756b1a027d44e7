-- What holds of each node, where the snapshots that are brought are right.
use Rattle.std.proofs.Common.{◌≡◌, true, List, [], ◌∷◌, Option, Some, None, refl, ap, sym, ◌∙◌, subst, inl, inr}
use Rattle.std.proofs.lemmas.Option.{none-some, same_Some}
use Rattle.fhir_json.specs.Tree.{Text}
use Rattle.fhir_json.specs.Bytes.{line_feed}
use Rattle.fhir_names.specs.Parents.{sliced_of}
use Rattle.fhir_names.proofs.Cuts.{IsFirstCut, first_is, first_found}
use Rattle.fhir_elements.specs.Element.{Element}
use Rattle.fhir_package.specs.Definitions.{Definitions}
use Rattle.fhir_definition.specs.Snapshot.{up_of}
use Rattle.fhir_asking.specs.Asking.{Has}
use Rattle.fhir_overlay.specs.Overlay.{as_slice}
use Rattle.fhir_inheritance.specs.Keys.{key, key_parts, twin_of}
use Rattle.fhir_inheritance.specs.Node.{Node}
use Rattle.fhir_inheritance.specs.Elements.{find, names_under, slices_under}
use Rattle.fhir_inheritance.specs.Sources.{Source, source_at, only_type_key, target_key}
use Rattle.fhir_inheritance.specs.Laying.{laid, moved, all_slices, over}
use Rattle.fhir_inheritance.specs.Lists.{with_others}
use Rattle.fhir_inheritance.specs.Inheriting.{written_node, names_in, key_at, asking}
use Rattle.fhir_snapshot.specs.Chains.{IsChain}
use Rattle.snapshot_laws.specs.Snapshots.{last_of}
use Rattle.snapshot_laws.proofs.Among.{In, Each, Differ, others_cases, others_differ}
use Rattle.snapshot_laws.proofs.Ups.{IsName}
use Rattle.snapshot_laws.proofs.Asked.{ComesWith, Known, by_answers}
use Rattle.snapshot_laws.proofs.Finding.{ids, IsPlain, found_id, slice_in, names_differ, slices_differ, names_read}
use Rattle.snapshot_laws.proofs.Origins.{ByBase, NamesOf, HasMore, IsMadeOf, Origin, from_written, from_base, from_whole, from_front, origin}

-- ---- names of elements

parts_are : (name id url : Text) (o : Option (Text × Text)) → IsFirstCut line_feed name o → o ≡ Some (id, url) → (name ≡ key id url) × IsPlain id
parts_are name id url None h e = absurd (none-some _ e)
parts_are name id url (Some q) h e =
    let one : q.0 ≡ id = ap (λ (r : Text × Text). r.0) (same_Some q (id, url) e) in
    let other : q.1 ≡ url = ap (λ (r : Text × Text). r.1) (same_Some q (id, url) e) in
    (h.0 ∙ ap (λ (t : Text). key t q.1) one ∙ ap (key id) other, subst IsPlain one h.1)

pub key_is : (name id url : Text) → key_parts name ≡ Some (id, url) → (name ≡ key id url) × IsPlain id
key_is name id url e = parts_are name id url (key_parts name) (first_is line_feed name) e

pub parts_of : (id url : Text) → IsPlain id → key_parts (key id url) ≡ Some (id, url)
parts_of id url plain = first_found line_feed id url plain

-- ---- right elements

-- the ids of elements are read, they differ, and each stands under one that is there
pub record IsSound (es : List Element) : Type 0 where
  pub plain : Each IsPlain (ids es)
  pub differ : Differ (ids es)
  pub parents : (id up : Text) → In id (ids es) → up_of id ≡ Some up → In up (ids es)

abbrev pub AreSound : Definitions → Type 0
AreSound p = (url : Text) (s : Source) → source_at p url ≡ Some s → s.written ≡ true → IsSound s.elements

-- the snapshot at which a chain of bases ends is right
abbrev pub EndsSound : Definitions → Text → Type 0
EndsSound p url = (bases : List Text) (s : Source) → IsChain p (url ∷ bases) → source_at p (last_of url bases) ≡ Some s → s.written ≡ true
    → IsSound s.elements

pub sound_ends : (p : Definitions) → AreSound p → (url : Text) → EndsSound p url
sound_ends p sound url bases s chain at is = sound (last_of url bases) s at is

pub ends_below : (p : Definitions) (url base : Text) (s : Source) → ByBase p url s base → EndsSound p url → EndsSound p base
ends_below p url base s by ends bases t chain at is = ends (base ∷ bases) t ((s, by.at, by.unwritten, by.rests), chain) at is

-- ---- right nodes

-- a node is that of its id; its children have names of which no two are alike, and its slices are that id's, and no two alike
pub record IsRight (id : Text) (n : Node) : Type 0 where
  pub itself : n.element.id ≡ id
  pub names : Each IsName n.names
  pub names_differ : Differ n.names
  pub slices : Each (λ s. sliced_of s ≡ Some id) n.slices
  pub slices_differ : Differ n.slices

-- the same, but for the names
record IsApart (id : Text) (n : Node) : Type 0 where
  itself : n.element.id ≡ id
  names_differ : Differ n.names
  slices : Each (λ s. sliced_of s ≡ Some id) n.slices
  slices_differ : Differ n.slices

over_id : (e : Element) (es : List Element) (o : Option Element) → find es e.id ≡ o → (over o e).id ≡ e.id
over_id e es None is = refl
over_id e es (Some d) is = (found_id es e.id d is).0

pub laid_id : (es : List Element) (slices : List Text) (e : Element) → (laid es slices e).id ≡ e.id
laid_id es slices e = over_id e es (find es e.id) refl

pub each_other : (P : Text → Type 0) (xs ys : List Text) → Each P xs → Each P ys → Each P (with_others xs ys)
each_other P xs ys one other x h = elim (others_cases xs ys x h) [ inl first ↦ one x first | inr second ↦ other x second ]

-- ---- the names of children

-- what holds of each name in a snapshot that is brought holds of each name
module _ (p : Definitions) (P : Text → Type 0)
    (read : (url : Text) (s : Source) → source_at p url ≡ Some s → s.written ≡ true → (id : Text) → Each P (names_under s.elements id)) where
  abbrev Named : Text → Option Node → Type 0
  Named name None = Unit {0}
  Named name (Some n) = Each P n.names

  names_named : (o : Option Text) (names : List Text) → NamesOf p (Known (asking p) Named) o names → Each P names
  names_named None names h = subst (Each P) (sym h) (λ x none. absurd none)
  names_named (Some name) names h = subst (Each P) (sym h.2) (by h.0 h.1.1)
    where
      by : (o : Option Node) → Named name o → Each P (names_in o)
      by None r = λ x none. absurd none
      by (Some n) r = r

  more_named : (url : Text) (names : List Text) (n : Node) → HasMore p (Known (asking p) Named) url names n → Each P names → Each P n.names
  more_named url names n h each =
      subst (Each P) (sym h.names_are)
      (each_other P (with_others (with_others names h.twins) h.kinds) h.targets
      (each_other P (with_others names h.twins) h.kinds
      (each_other P names h.twins each (names_named (key_at url (twin_of n.element.id)) h.twins h.of_twin))
      (names_named (only_type_key p n.element.types) h.kinds h.of_kind))
      (names_named (target_key p url n.element) h.targets h.of_target))

  made_named : (url : Text) (es : List Element) (inherited : Element) (names slices : List Text) (n : Node)
      → IsMadeOf p (Known (asking p) Named) url es inherited names slices n → Each P names → Each P n.names
  made_named url es inherited names slices n m named =
      elim m.names_are [
        | inl more ↦ more_named url names n more named
        | inr same ↦ subst (Each P) (sym same.names_are) named
      ]

  named_from : (id url : Text) (n : Node) → Origin p (Known (asking p) Named) id url n → Each P n.names
  named_from id url n (from_written r) = subst (λ (m : Node). Each P m.names) (sym r.node_is) (read url r.source r.at r.is_written id)
  named_from id url n (from_base r) =
      made_named url r.source.elements r.below.element r.below.names r.below.slices n r.is_made r.has_base.1
  named_from id url n (from_whole r) =
      made_named url r.source.elements (moved id (as_slice r.sliced.element)) [] [] n r.is_made (λ x h. absurd h)
  named_from id url n (from_front r) =
      made_named url r.source.elements (moved id r.like.element) [] [] n r.is_made (λ x h. absurd h)

  named_step : (name : Text) (thing : Option Node) → ComesWith (Known (asking p) Named) (asking p name) thing → Named name thing
  named_step name None h = tt
  named_step name (Some n) h = let o = origin p (Known (asking p) Named) name n h in named_from o.0 o.1 n o.3

  pub names_hold : (name : Text) (n : Node) → Has (asking p) name (Some n) → Each P n.names
  names_hold name n h = by_answers (asking p) Named named_step name (Some n) h

-- ---- each node

module _ (p : Definitions) where
  -- where its definition's chain of bases ends well, a node is that of its id, and nothing under it is there twice
  abbrev Right : Text → Option Node → Type 0
  Right name None = Unit {0}
  Right name (Some n) = (id : Text) × (url : Text) × (key_parts name ≡ Some (id, url)) × (EndsSound p url → IsApart id n)

  more_differ : (Q : Text → Option Node → Type 0) (url : Text) (names : List Text) (n : Node) → HasMore p Q url names n → Differ names
      → Differ n.names
  more_differ Q url names n h d =
      subst Differ (sym h.names_are)
      (others_differ (with_others (with_others names h.twins) h.kinds) h.targets
      (others_differ (with_others names h.twins) h.kinds (others_differ names h.twins d)))

  made_apart : (url id : Text) (es : List Element) (inherited : Element) (names slices : List Text) (n : Node)
      → IsMadeOf p (Known (asking p) Right) url es inherited names slices n → inherited.id ≡ id → Differ names
      → Each (λ s. sliced_of s ≡ Some id) slices → Differ slices → IsApart id n
  made_apart url id es inherited names slices n m is differ sliced apart =
      record {
        itself = ap (λ (e : Element). e.id) m.element_is ∙ laid_id es (all_slices es inherited.id slices) inherited ∙ is;
        names_differ = elim m.names_are [
          | inl more ↦ more_differ (Known (asking p) Right) url names n more differ
          | inr same ↦ subst Differ (sym same.names_are) differ
        ];
        slices = subst (Each (λ s. sliced_of s ≡ Some id)) (sym m.slices_are)
            (each_other (λ s. sliced_of s ≡ Some id) slices (slices_under es inherited.id) sliced
            (λ s h. (slice_in es inherited.id s h).1 ∙ ap Some is));
        slices_differ = subst Differ (sym m.slices_are) (others_differ slices (slices_under es inherited.id) apart);
      }

  written_apart : (id : Text) (es : List Element) (e : Element) → Differ (ids es) → find es id ≡ Some e → IsApart id (written_node es id e)
  written_apart id es e differ found =
      record {
        itself = (found_id es id e found).0;
        names_differ = names_differ es id differ;
        slices = λ s h. (slice_in es id s h).1;
        slices_differ = slices_differ es id differ;
      }

  right_at : (id url : Text) (n : Node) → IsPlain id → Right (key id url) (Some n) → EndsSound p url → IsApart id n
  right_at id url n plain r =
      subst (λ (q : Text × Text). EndsSound p q.1 → IsApart q.0 n) (same_Some (r.0, r.1) (id, url) (sym r.2 ∙ parts_of id url plain)) r.3

  from_origin : (id url : Text) (n : Node) → IsPlain id → Origin p (Known (asking p) Right) id url n → EndsSound p url → IsApart id n
  from_origin id url n plain (from_written r) ends =
      subst (IsApart id) (sym r.node_is)
      (written_apart id r.source.elements r.own (ends [] r.source tt r.at r.is_written).differ r.finds)
  from_origin id url n plain (from_base r) ends =
      let m = right_at id r.base r.below plain r.has_base.1 (ends_below p url r.base r.source r.by_base ends) in
      made_apart url id r.source.elements r.below.element r.below.names r.below.slices n r.is_made m.itself m.names_differ m.slices m.slices_differ
  from_origin id url n plain (from_whole r) ends =
      made_apart url id r.source.elements (moved id (as_slice r.sliced.element)) [] [] n r.is_made refl tt (λ x h. absurd h) tt
  from_origin id url n plain (from_front r) ends =
      made_apart url id r.source.elements (moved id r.like.element) [] [] n r.is_made refl tt (λ x h. absurd h) tt

  right_step : (name : Text) (thing : Option Node) → ComesWith (Known (asking p) Right) (asking p name) thing → Right name thing
  right_step name None h = tt
  right_step name (Some n) h =
      let o = origin p (Known (asking p) Right) name n h in
      (o.0, o.1, o.2, from_origin o.0 o.1 n (key_is name o.0 o.1 o.2).1 o.3)

  -- each node is right, where the chain of bases of its definition ends well
  pub right_where : (id url : Text) (n : Node) → IsPlain id → EndsSound p url → Has (asking p) (key id url) (Some n) → IsRight id n
  right_where id url n plain ends h =
      let r = right_at id url n plain (by_answers (asking p) Right right_step (key id url) (Some n) h) ends in
      record {
        itself = r.itself;
        names = names_hold p IsName (λ url s at is id. names_read s.elements id) (key id url) n h;
        names_differ = r.names_differ;
        slices = r.slices;
        slices_differ = r.slices_differ;
      }

  pub node_right : AreSound p → (id url : Text) (n : Node) → IsPlain id → Has (asking p) (key id url) (Some n) → IsRight id n
  node_right sound id url n plain h = right_where id url n plain (sound_ends p sound url) h
