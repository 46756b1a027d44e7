-- Why there is no snapshot.
use Rattle.std.proofs.Common.{◌≡◌, ℕ, zero, suc, List, [], ◌∷◌, ◌++◌, Bool, cond, true, false, Option, Some, None, ◌&&◌, ◌⊎◌, inl, inr, refl, ap, sym, ◌∙◌, subst}
use Rattle.std.specs.Prelude.{codes}
use Rattle.std.specs.Option.{option_map, option_and_then}
use Rattle.std.proofs.lemmas.Option.{none-some, same_Some}
use Rattle.fhir_json.specs.Tree.{Text, Tree}
use Rattle.fhir_json.specs.Fields.{text_in}
use Rattle.fhir_elements.specs.Element.{Element}
use Rattle.fhir_package.specs.declared.kind.Kind.TheVariants.{StructureDefinition}
use Rattle.fhir_package.specs.Definitions.{Definitions, at_url}
use Rattle.fhir_definition.specs.Snapshot.{ids_differ}
use Rattle.fhir_inheritance.specs.Sources.{Source, brings_snapshot, elements_in, is_constraint, canonical_url, source_of, source_at, base_of}
use Rattle.fhir_snapshot.specs.declared.fault.SnapNumber.{SnapNumber}
use Rattle.fhir_snapshot.specs.declared.fault.SnapNumber.TheVariants.{S1, S2, S3, S4, S5}
use Rattle.fhir_snapshot.specs.Order.{IsLaid}
use Rattle.fhir_snapshot.specs.Snapshots.{IsSnapshot, HasNone, brings_elements, is_right}
use Rattle.fhir_snapshot.specs.Chains.{Rests, IsWritten, IsChain, Starts}
use Rattle.fhir_snapshot.specs.Refusing.{IsMissing, MakesNone, IsWrongDraft, IsWrong, HasOwn, Applies}
use Rattle.fhir_snapshot.specs.Knowing.{IsDraftFault}
use Rattle.fhir_snapshot.proofs.Ordered.{OneAnswer}
use Rattle.fhir_snapshot.proofs.Snapshotting.{none_up, no_base_made, no_cycle, wrong, unbrought, base_is, elements_are, none_laid}

-- ---- along a chain

pub own_applies : (p : Definitions) (url : Text) (number : SnapNumber) → HasOwn p url number → Applies p url number
own_applies p url number own = (url, [], tt, refl, own)

over : (p : Definitions) (url base low : Text) (urls : List Text) → Rests p url base → IsChain p (urls ++ low ∷ []) → Starts base (urls ++ low ∷ [])
    → IsChain p ((url ∷ urls) ++ low ∷ [])
over p url base low [] rests chain starts = (subst (Rests p url) (sym starts) rests, tt)
over p url base low (x ∷ urls) rests chain starts = (subst (Rests p url) (sym starts) rests, chain)

-- what applies to the base applies to what rests on it
pub base_applies : (p : Definitions) (url base : Text) (number : SnapNumber) → Rests p url base → Applies p base number → Applies p url number
base_applies p url base number rests a = (a.0, url ∷ a.1, over p url base a.0 a.1 rests a.2 a.3, refl, a.4)

-- ---- no snapshot

missing_none : (p : Definitions) (url : Text) (o : Option Tree) → at_url StructureDefinition url p ≡ o → IsMissing p o → HasNone p url
missing_none p url o e own es (zero, h) = h
missing_none p url None e own es (suc n, h) = none-some h.0 (sym e ∙ h.1)
missing_none p url (Some t) e own es (suc n, h) =
    let same : t ≡ h.0 = same_Some t h.0 (sym e ∙ h.1) in
    no_base_made p n url h.0 es (brings_snapshot h.0) (ap brings_snapshot (sym same) ∙ own.0) (ap (base_of p) (sym same) ∙ own.2) h.3

and_false : (a b : Bool) → b ≡ false → (a && b) ≡ false
and_false true b e = e
and_false false b e = refl

module _ (p : Definitions) (url : Text) (t : Tree) (at : at_url StructureDefinition url p ≡ Some t) where
  -- what is right of a definition that brings no snapshot
  draft_right : brings_snapshot t ≡ false → is_right t ≡ (brings_elements (codes "differential") t && ids_differ (elements_in (codes "differential") t))
  draft_right lacks =
      ap (λ (b : Bool). cond b (brings_elements (codes "snapshot") t) (brings_elements (codes "differential") t && ids_differ (elements_in (codes "differential") t))) lacks

  no_elements : brings_snapshot t ≡ false → brings_elements (codes "differential") t ≡ false → HasNone p url
  no_elements lacks bad =
      wrong p url t at (draft_right lacks ∙ ap (λ (b : Bool). b && ids_differ (elements_in (codes "differential") t)) bad)

  repeated_ids : brings_snapshot t ≡ false → ids_differ (elements_in (codes "differential") t) ≡ false → HasNone p url
  repeated_ids lacks bad = wrong p url t at (draft_right lacks ∙ and_false (brings_elements (codes "differential") t) (ids_differ (elements_in (codes "differential") t)) bad)

  type_none : brings_snapshot t ≡ false → is_constraint t ≡ false → HasNone p url
  type_none lacks isnt es (zero, h) = h
  type_none lacks isnt es (suc n, h) =
      let same : t ≡ h.0 = same_Some t h.0 (sym at ∙ h.1) in
      let none : base_of p t ≡ None = ap (λ (b : Bool). cond b (option_and_then (canonical_url p) (text_in (codes "baseDefinition") t)) None) isnt in
      no_base_made p n url h.0 es (brings_snapshot h.0) (ap brings_snapshot (sym same) ∙ lacks) (ap (base_of p) (sym same) ∙ none) h.3

  makes_none : OneAnswer → MakesNone p url t → HasNone p url
  makes_none answer none =
      let is : source_at p url ≡ Some (source_of p t) = ap (option_map (source_of p)) at in
      none_laid p url t at none.0 none.2 answer (source_of p t) is none.1 none.3
      (λ es laid. none.4 es (subst (λ d. IsLaid p url none.1 d es) (elements_are p url t at none.0 none.2 (source_of p t) is) laid))

  draft_none : OneAnswer → brings_snapshot t ≡ false → (b : Bool) → is_constraint t ≡ b → IsWrongDraft p url t b → HasNone p url
  draft_none answer lacks false isnt own = type_none lacks isnt
  draft_none answer lacks true is (inl bad) = no_elements lacks bad
  draft_none answer lacks true is (inr none) = makes_none answer none

  wrong_none : OneAnswer → (b : Bool) → brings_snapshot t ≡ b → IsWrong p url t b → HasNone p url
  wrong_none answer true brings bad =
      wrong p url t at
      (ap (λ (b : Bool). cond b (brings_elements (codes "snapshot") t) (brings_elements (codes "differential") t && ids_differ (elements_in (codes "differential") t))) brings ∙ bad)
  wrong_none answer false lacks own = draft_none answer lacks (is_constraint t) refl own

own_none : OneAnswer → (p : Definitions) (url : Text) (number : SnapNumber) → HasOwn p url number → HasNone p url
own_none answer p url S1 own = missing_none p url (at_url StructureDefinition url p) refl own
own_none answer p url S2 own = no_cycle p url own
own_none answer p url S3 own = wrong_none p url own.0 own.1 answer (brings_snapshot own.0) refl own.2
own_none answer p url S4 own = repeated_ids p url own.0 own.1 own.2 own.3
own_none answer p url S5 own = absurd own

pub applies_none : OneAnswer → (p : Definitions) (url : Text) (number : SnapNumber) → Applies p url number → HasNone p url
applies_none answer p url number a = none_up p a.1 a.0 url a.2 a.3 (own_none answer p a.0 number a.4)

-- ---- what a definition has itself

constrains : (b : Bool) (o : Option Text) (base : Text) → cond b o None ≡ Some base → b ≡ true
constrains true o base e = refl
constrains false o base e = absurd (none-some base e)

module _ (p : Definitions) (url : Text) (t : Tree) (at : at_url StructureDefinition url p ≡ Some t) (base : Text) (rests : Rests p url base) where
  wrong_draft : (brings_elements (codes "differential") t ≡ false) ⊎ MakesNone p url t → HasOwn p url S3
  wrong_draft w =
      let is : is_constraint t ≡ true =
      constrains (is_constraint t) (option_and_then (canonical_url p) (text_in (codes "baseDefinition") t)) base (base_is p url t at base rests) in
      (t, at, subst (IsWrong p url t) (sym (unbrought p url t at base rests)) (subst (IsWrongDraft p url t) (sym is) w))

  -- what is wrong with its differential by itself
  pub draft_own : (es : List Element) (number : SnapNumber) → es ≡ elements_in (codes "differential") t → IsDraftFault t es number → HasOwn p url number
  draft_own es S1 is d = absurd d
  draft_own es S2 is d = absurd d
  draft_own es S3 is d = wrong_draft (inl d)
  draft_own es S4 is d = (t, at, unbrought p url t at base rests, ap ids_differ (sym is) ∙ d)
  draft_own es S5 is d = absurd d

  -- nothing is laid over what it rests on
  pub laid_own : (s : Source) (under : List Element) (number : SnapNumber) → source_at p url ≡ Some s → IsSnapshot p base under → number ≡ S3
      → ((es : List Element) → IsLaid p url under s.elements es → ⊥) → HasOwn p url number
  laid_own s under number is snapshot three none =
      subst (HasOwn p url) (sym three)
      (wrong_draft (inr (
        base,
        under,
        rests,
        snapshot,
        λ es laid. none es (subst (λ d. IsLaid p url under d es) (sym (elements_are p url t at base rests s is)) laid),
      )))

source_is : (p : Definitions) (url : Text) (t : Tree) (s : Source) → at_url StructureDefinition url p ≡ Some t → source_at p url ≡ Some s → s ≡ source_of p t
source_is p url t s at is = same_Some s (source_of p t) (sym is ∙ ap (option_map (source_of p)) at)

-- the snapshot that it brings isn't one of elements
pub brought_own : (p : Definitions) (url : Text) (t : Tree) (number : SnapNumber) → at_url StructureDefinition url p ≡ Some t → IsWritten p url
    → brings_elements (codes "snapshot") t ≡ false → number ≡ S3 → HasOwn p url number
brought_own p url t number at written bad three =
    let brings : brings_snapshot t ≡ true = ap (λ (s : Source). s.written) (sym (source_is p url t written.0 at written.1)) ∙ written.2 in
    subst (HasOwn p url) (sym three) (t, at, subst (IsWrong p url t) (sym brings) bad)

-- it isn't there
pub missing_own : (p : Definitions) (url : Text) → source_at p url ≡ None → HasOwn p url S1
missing_own p url none = by (at_url StructureDefinition url p) none
  where
    by : (o : Option Tree) → option_map (source_of p) o ≡ None → IsMissing p o
    by None e = tt
    by (Some t) e = absurd (none-some (source_of p t) (sym e))

-- it brings no snapshot, and its base isn't there; or it defines a type
pub baseless_own : (p : Definitions) (url : Text) (t : Tree) (s : Source) → at_url StructureDefinition url p ≡ Some t → source_at p url ≡ Some s
    → s.written ≡ false → s.base ≡ None → (b : Bool) → is_constraint t ≡ b → HasOwn p url (cond b S1 S3)
baseless_own p url t s at is lacks none true constraint =
    subst (IsMissing p) (sym at)
    (ap (λ (s : Source). s.written) (sym (source_is p url t s at is)) ∙ lacks, constraint, ap (λ (s : Source). s.base) (sym (source_is p url t s at is)) ∙ none)
baseless_own p url t s at is lacks none false constraint =
    (t, at, subst (IsWrong p url t) (sym (ap (λ (s : Source). s.written) (sym (source_is p url t s at is)) ∙ lacks)) (subst (IsWrongDraft p url t) (sym constraint) tt))
