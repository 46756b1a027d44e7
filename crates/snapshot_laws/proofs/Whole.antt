-- What the ids of a snapshot's elements are, where the snapshots that are brought are whole.
use Rattle.std.proofs.Common.{◌≡◌, ◌&&◌, ℕ, zero, suc, List, Bool, true, false, cond, Option, None, Some, option_map, refl, ap, sym, ◌∙◌, subst}
use Rattle.std.proofs.Common.{inl, inr, ◌⊎◌}
use Rattle.std.specs.Prelude.{codes}
use Rattle.std.proofs.lemmas.Bool.{and_parts, false≢true}
use Rattle.std.proofs.lemmas.Option.{none-some, same_Some}
use Rattle.fhir_json.specs.Tree.{Text, Tree}
use Rattle.fhir_elements.specs.Element.{Element}
use Rattle.fhir_package.specs.declared.kind.Kind.TheVariants.{StructureDefinition}
use Rattle.fhir_package.specs.Definitions.{Definitions, at_url}
use Rattle.fhir_definition.specs.Snapshot.{ids_differ}
use Rattle.fhir_inheritance.specs.Sources.{Source, source_of, source_at, brings_snapshot, elements_in}
use Rattle.fhir_snapshot.specs.Order.{IsLaid}
use Rattle.fhir_snapshot.specs.Chains.{Rests}
use Rattle.fhir_snapshot.specs.Snapshots.{brings_elements, IsMade, SnapshotIn, IsSnapshot}
use Rattle.snapshot_laws.specs.Snapshots.{Stands, IsWhole, AreWhole, UrlsArePlain, EndsWhole, RestsWhole, last_of}
use Rattle.snapshot_laws.proofs.Among.{In, Each, among_in, in_among}
use Rattle.snapshot_laws.proofs.Finding.{ids, IsPlain}
use Rattle.snapshot_laws.proofs.Origins.{ByBase, same_source}
use Rattle.snapshot_laws.proofs.Nodes.{IsSound, AreSound, EndsSound, ends_below}
use Rattle.snapshot_laws.proofs.Coming.{OneAnswer}
use Rattle.snapshot_laws.proofs.Placed.{differ_if, if_differ, tree_parents, brought_plain}
use Rattle.snapshot_laws.proofs.Once.{HavePlainUrls, IsOnce, there_in, once_written, once_laid, below_listed}
use Rattle.snapshot_laws.proofs.There.{IsGood, good_written, good_laid}

-- ---- the sources

source_is : (p : Definitions) (url : Text) (t : Tree) → at_url StructureDefinition url p ≡ Some t → source_at p url ≡ Some (source_of p t)
source_is p url t at = ap (option_map (source_of p)) at

pub written_elements : (p : Definitions) (t : Tree) → brings_snapshot t ≡ true → (source_of p t).elements ≡ elements_in (codes "snapshot") t
written_elements p t is = ap (λ (b : Bool). elements_in (cond b (codes "snapshot") (codes "differential")) t) is

own_elements : (p : Definitions) (t : Tree) → brings_snapshot t ≡ false → (source_of p t).elements ≡ elements_in (codes "differential") t
own_elements p t is = ap (λ (b : Bool). elements_in (cond b (codes "snapshot") (codes "differential")) t) is

whole_sound : (t : Tree) → IsWhole t → IsSound (elements_in (codes "snapshot") t)
whole_sound t w =
    record {
      plain = brought_plain (codes "snapshot") t w.elements;
      differ = differ_if (elements_in (codes "snapshot") t) w.differ;
      parents = tree_parents (elements_in (codes "snapshot") t) w.tree;
    }

-- what holds of the elements of each snapshot that is brought
brought : (P : List Element → Type 0) (p : Definitions) (url : Text) (s : Source) → source_at p url ≡ Some s → s.written ≡ true
    → ((t : Tree) → at_url StructureDefinition url p ≡ Some t → brings_snapshot t ≡ true → P (elements_in (codes "snapshot") t)) → P s.elements
brought P p url s at is holds = by (at_url StructureDefinition url p) refl at
  where
    by : (o : Option Tree) → at_url StructureDefinition url p ≡ o → option_map (source_of p) o ≡ Some s → P s.elements
    by None found e = absurd (none-some s e)
    by (Some t) found e =
        let same : source_of p t ≡ s = same_Some (source_of p t) s e in
        let brings : brings_snapshot t ≡ true = ap (λ (u : Source). u.written) same ∙ is in
        subst P (sym (written_elements p t brings) ∙ ap (λ (u : Source). u.elements) same) (holds t found brings)

pub whole_sources : (p : Definitions) → AreWhole p → AreSound p
whole_sources p whole url s at is = brought IsSound p url s at is (λ t found brings. whole_sound t (whole url t found brings))

plain_urls : (p : Definitions) → UrlsArePlain p → HavePlainUrls p
plain_urls p urls url s at = by (at_url StructureDefinition url p) refl at
  where
    by : (o : Option Tree) → at_url StructureDefinition url p ≡ o → option_map (source_of p) o ≡ Some s → IsPlain url
    by None found e = absurd (none-some s e)
    by (Some t) found e = urls url t found

ends_whole : (p : Definitions) (url : Text) → EndsWhole p url → EndsSound p url
ends_whole p url ends bases s chain at is = brought IsSound p (last_of url bases) s at is (λ t found brings. whole_sound t (ends bases t chain found brings))

-- ---- the two kinds of snapshots

record IsBrought (p : Definitions) (url : Text) (es : List Element) : Type 0 where
  source : Source
  at : source_at p url ≡ Some source
  is_written : source.written ≡ true
  elements_are : es ≡ source.elements

record IsLaidOver (bound : ℕ) (p : Definitions) (url : Text) (es : List Element) : Type 0 where
  source : Source
  base : Text
  below : List Element
  by_base : ByBase p url source base
  below_is : SnapshotIn bound p base below
  is_laid : IsLaid p url below source.elements es
  plain : Each IsPlain (ids source.elements)

kinds : (bound : ℕ) (p : Definitions) (url : Text) (es : List Element) → SnapshotIn (suc bound) p url es
    → IsBrought p url es ⊎ IsLaidOver bound p url es
kinds bound p url es h = by (brings_snapshot h.0) refl h.2 h.3
  where
    by : (b : Bool) → brings_snapshot h.0 ≡ b
        → cond b (brings_elements (codes "snapshot") h.0)
        (brings_elements (codes "differential") h.0 && ids_differ (elements_in (codes "differential") h.0)) ≡ true
        → IsMade (SnapshotIn bound p) p url h.0 b es → IsBrought p url es ⊎ IsLaidOver bound p url es
    by true is right m =
        inl (record { source = source_of p h.0; at = source_is p url h.0 h.1; is_written = is; elements_are = m ∙ sym (written_elements p h.0 is) })
    by false is right m =
        let own = own_elements p h.0 is in
        inr (record {
          source = source_of p h.0;
          base = m.0;
          below = m.2.0;
          by_base = record { at = source_is p url h.0 h.1; unwritten = is; rests = m.1 };
          below_is = m.2.1;
          is_laid = subst (λ (d : List Element). IsLaid p url m.2.0 d es) (sym own) m.2.2;
          plain = subst (λ (d : List Element). Each IsPlain (ids d)) (sym own)
              (brought_plain (codes "differential") h.0 (and_parts (brings_elements (codes "differential") h.0) _ right).0);
        })

-- ---- the laws

abbrev pub OneSnapshot : Type 0
OneSnapshot = (p : Definitions) (url : Text) (one other : List Element) → IsSnapshot p url one → IsSnapshot p url other → one ≡ other

once_in : (p : Definitions) → HavePlainUrls p → (bound : ℕ) (url : Text) (es : List Element) → EndsSound p url → SnapshotIn bound p url es → IsOnce p url es
once_in p urls zero url es ends h = absurd h
once_in p urls (suc bound) url es ends h = by (kinds bound p url es h) (once_in p urls bound)
  where
    by : IsBrought p url es ⊎ IsLaidOver bound p url es
        → ((base : Text) (below : List Element) → EndsSound p base → SnapshotIn bound p base below → IsOnce p base below) → IsOnce p url es
    by (inl b) rest = subst (IsOnce p url) (sym b.elements_are) (once_written p urls url b.source b.at b.is_written ends)
    by (inr l) rest =
        once_laid p urls url l.base l.source l.below l.by_base
        (rest l.base l.below (ends_below p url l.base l.source l.by_base ends) l.below_is) ends es l.is_laid.2

once_by_end : (p : Definitions) (url : Text) (es : List Element) → UrlsArePlain p → EndsWhole p url → IsSnapshot p url es → ids_differ es ≡ true
once_by_end p url es plain ends h = if_differ es (once_in p (plain_urls p plain) h.0 url es (ends_whole p url ends) h.1).differ

module _ (one : OneAnswer) (p : Definitions) where
  -- the differential of a definition that brings no snapshot
  laid_over : (bound : ℕ) (url : Text) (s : Source) (es : List Element) → source_at p url ≡ Some s → s.written ≡ false
      → SnapshotIn (suc bound) p url es
      → (l : IsLaidOver bound p url es) × (l.source ≡ s)
  laid_over bound url s es at isnt h =
      elim (kinds bound p url es h) [
        | inl b ↦ absurd (false≢true (sym isnt ∙ ap (λ (u : Source). u.written) (same_source p url s b.source at b.at) ∙ b.is_written))
        | inr l ↦ (l, same_source p url l.source s l.by_base.at at)
      ]

  -- the base's snapshot is what it is laid over
  over_base : OneSnapshot → (bound : ℕ) (url base : Text) (below es : List Element) → Rests p url base → IsSnapshot p base below
      → SnapshotIn (suc bound) p url es → (l : IsLaidOver bound p url es) × (below ≡ l.below)
  over_base same bound url base below es rests under h =
      let l = (laid_over bound url rests.0 es rests.1 rests.2 h).0 in
      let is = (laid_over bound url rests.0 es rests.1 rests.2 h).1 in
      let own : l.base ≡ base = same_Some l.base base (sym l.by_base.rests ∙ ap (λ (u : Source). u.base) is ∙ rests.3) in
      let based : SnapshotIn bound p base l.below = subst (λ (b : Text). SnapshotIn bound p b l.below) own l.below_is in
      (l, same p base below l.below under (bound, based))

  from_base : OneSnapshot → HavePlainUrls p → (bound : ℕ) (url base id : Text) (below es : List Element) → EndsSound p url → Rests p url base
      → IsSnapshot p base below → SnapshotIn bound p url es → In id (ids below) → In id (ids es)
  from_base same urls zero url base id below es ends rests under h i = absurd h
  from_base same urls (suc bound) url base id below es ends rests under h i =
      let over = over_base same bound url base below es rests under h in
      let l = over.0 in
      let once = once_in p urls bound l.base l.below (ends_below p url l.base l.source l.by_base ends) l.below_is in
      below_listed p urls url l.base l.source l.below l.by_base once ends one es l.is_laid.2 l.is_laid.0 id
      (subst (λ (b : List Element). In id (ids b)) over.1 i)

  of_base_by_end : OneSnapshot → (url base id : Text) (below es : List Element) → UrlsArePlain p → EndsWhole p url → Rests p url base
      → IsSnapshot p base below → IsSnapshot p url es → Stands id below → Stands id es
  of_base_by_end same url base id below es plain ends rests under h i =
      in_among (ids es) id
      (from_base same (plain_urls p plain) h.0 url base id below es (ends_whole p url ends) rests under h.1 (among_in (ids below) id i))

  -- ---- where all snapshots that are brought are whole

  module _ (whole : AreWhole p) where
    good_in : (bound : ℕ) (url : Text) (es : List Element) → SnapshotIn bound p url es → IsGood p url es
    good_in zero url es h = absurd h
    good_in (suc bound) url es h = by (kinds bound p url es h) (good_in bound)
      where
        by : IsBrought p url es ⊎ IsLaidOver bound p url es
            → ((base : Text) (below : List Element) → SnapshotIn bound p base below → IsGood p base below) → IsGood p url es
        by (inl b) rest = subst (IsGood p url) (sym b.elements_are) (good_written p (whole_sources p whole) url b.source b.at b.is_written)
        by (inr l) rest =
            good_laid p (whole_sources p whole) url l.base l.source l.below l.by_base (rest l.base l.below l.below_is) l.plain one es l.is_laid

    good : (url : Text) (es : List Element) → IsSnapshot p url es → IsGood p url es
    good url es h = good_in h.0 url es h.1

    whole_once : (url : Text) (es : List Element) → IsSnapshot p url es → ids_differ es ≡ true
    whole_once url es h = if_differ es (good url es h).differ

    from_whole_base : OneSnapshot → (bound : ℕ) (url base id : Text) (below es : List Element) → Rests p url base → IsSnapshot p base below
        → SnapshotIn bound p url es → IsGood p url es → In id (ids below) → In id (ids es)
    from_whole_base same zero url base id below es rests under h g i = absurd h
    from_whole_base same (suc bound) url base id below es rests under h g i =
        let over = over_base same bound url base below es rests under h in
        let l = over.0 in
        let listed : In id (ids l.below) = subst (λ (b : List Element). In id (ids b)) over.1 i in
        let there = (there_in p url l.below id l.is_laid.0 listed).0 in
        g.listed id there.0 ((good_in bound l.base l.below l.below_is).plain id listed) there.1

    of_whole_base : OneSnapshot → (url base id : Text) (below es : List Element) → Rests p url base → IsSnapshot p base below → IsSnapshot p url es
        → Stands id below → Stands id es
    of_whole_base same url base id below es rests under h i =
        in_among (ids es) id (from_whole_base same h.0 url base id below es rests under h.1 (good url es h) (among_in (ids below) id i))

    from_differential : (bound : ℕ) (url id : Text) (s : Source) (es : List Element) → source_at p url ≡ Some s → s.written ≡ false
        → SnapshotIn bound p url es
        → IsGood p url es → In id (ids s.elements) → In id (ids es)
    from_differential zero url id s es at isnt h g i = absurd h
    from_differential (suc bound) url id s es at isnt h g i =
        let l = laid_over bound url s es at isnt h in
        let own : In id (ids l.0.source.elements) = subst (λ (u : Source). In id (ids u.elements)) (sym l.1) i in
        let there = (there_in p url l.0.source.elements id l.0.is_laid.1 own).0 in
        g.listed id there.0 (l.0.plain id own) there.1

    pub of_differential : (url id : Text) (s : Source) (es : List Element) → source_at p url ≡ Some s → s.written ≡ false → IsSnapshot p url es
        → Stands id s.elements → Stands id es
    of_differential url id s es at isnt h i =
        in_among (ids es) id (from_differential h.0 url id s es at isnt h.1 (good url es h) (among_in (ids s.elements) id i))

  -- ---- where those on which one rests are whole

  pub each_once : (url : Text) (es : List Element) → RestsWhole p url → IsSnapshot p url es → ids_differ es ≡ true
  each_once url es (inl whole) h = whole_once whole url es h
  each_once url es (inr ends) h = once_by_end p url es ends.0 ends.1 h

  pub of_base : OneSnapshot → (url base id : Text) (below es : List Element) → RestsWhole p url → Rests p url base → IsSnapshot p base below
      → IsSnapshot p url es → Stands id below → Stands id es
  of_base same url base id below es (inl whole) rests under h i = of_whole_base whole same url base id below es rests under h i
  of_base same url base id below es (inr ends) rests under h i = of_base_by_end same url base id below es ends.0 ends.1 rests under h i
