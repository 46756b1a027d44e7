-- Slicings that nobody says, and what a new slice has.
use Rattle.std.proofs.Common.{◌≡◌, ◌++◌, Bool, cond, true, false, List, [], ◌∷◌, Option, Some, None, refl, ap, sym, ◌∙◌, subst, inl, inr}
use Rattle.std.specs.Prelude.{◌==◌, ◌||◌, Ok, codes}
use Rattle.std.specs.List.{ends_with}
use Rattle.std.specs.Option.{option_or}
use Rattle.std.specs.Str.{bytes_eq}
use Rattle.std.proofs.lemmas.Bool.{false≢true, false_from_ne_true}
use Rattle.std.proofs.lemmas.Option.{none-some, same_Some}
use Rattle.std.proofs.lemmas.Slice.Eq.{bytes_eq-Decides}
use Rattle.fhir_json.specs.Tree.{Text}
use Rattle.fhir_names.specs.Segments.{SegmentParts}
use Rattle.fhir_names.specs.Ids.{read_id}
use Rattle.fhir_names.specs.Parents.{sliced_of, name_of}
use Rattle.fhir_elements.specs.Constraint.{Constraint}
use Rattle.fhir_elements.specs.Slicing.{Slicing}
use Rattle.fhir_elements.specs.Element.{Element}
use Rattle.fhir_package.specs.Definitions.{Definitions}
use Rattle.fhir_asking.specs.Asking.{Has}
use Rattle.fhir_overlay.specs.Overlay.{as_slice, with_constraints}
use Rattle.fhir_inheritance.specs.Keys.{key, path_in, names_joined}
use Rattle.fhir_inheritance.specs.Node.{Node}
use Rattle.fhir_inheritance.specs.Elements.{find}
use Rattle.fhir_inheritance.specs.Sources.{Source}
use Rattle.fhir_inheritance.specs.Lists.{has_any}
use Rattle.fhir_inheritance.specs.Laying.{implied, is_extension, moved, over, laid, all_slices}
use Rattle.fhir_inheritance.specs.Inheriting.{asking}
use Rattle.fhir_snapshot.specs.Order.{IsAt}
use Rattle.snapshot_laws.specs.Slicings.{by_url, by_type, IsUnsaid, IsSlicedByName, IsNew, IsLike}
use Rattle.snapshot_laws.proofs.Coming.{OneAnswer, laid_constraints}
use Rattle.snapshot_laws.proofs.Finding.{IsPlain, found_id}
use Rattle.snapshot_laws.proofs.Origins.{ByBase, same_source, not_both, IsMadeOf, Origin, from_written, from_base, from_whole, from_front}
use Rattle.snapshot_laws.proofs.Parents.{Q, origin_at}
use Rattle.snapshot_laws.proofs.Itself.{own_id, made_of_base}
use Rattle.snapshot_laws.proofs.Said.{inherits_so}

-- ---- what is implied

implied_if : (name : Text) (a b : Bool) → is_extension name ≡ a → ends_with (λ x y. x == y) name (codes "[x]") ≡ b
    → implied name ≡ cond a (Some by_url) (cond b (Some by_type) None)
implied_if name a b one other =
    ap (λ (c : Bool). cond c (Some by_url) (cond (ends_with (λ x y. x == y) name (codes "[x]")) (Some by_type) None)) one
    ∙ ap (λ (c : Bool). cond a (Some by_url) (cond c (Some by_type) None)) other

implied_extension : (name : Text) → name ≡ codes "extension" → implied name ≡ Some by_url
implied_extension name is = ap implied is

implied_modifier : (name : Text) → name ≡ codes "modifierExtension" → implied name ≡ Some by_url
implied_modifier name is = ap implied is

unlike : (x y : Text) → ¬ (x ≡ y) → bytes_eq x y ≡ false
unlike x y apart = false_from_ne_true (bytes_eq x y) (λ e. apart ((bytes_eq-Decides x y).0 e))

no_extension : (name : Text) → ¬ (name ≡ codes "extension") → ¬ (name ≡ codes "modifierExtension") → is_extension name ≡ false
no_extension name one other =
    ap (λ (b : Bool). b || bytes_eq name (codes "modifierExtension")) (unlike name (codes "extension") one)
    ∙ unlike name (codes "modifierExtension") other

ends_other : (name other : Text) → ends_with (λ x y. x == y) name (codes "[x]") ≡ true → ends_with (λ x y. x == y) other (codes "[x]") ≡ false
    → ¬ (name ≡ other)
ends_other name other one two e = false≢true (sym two ∙ ap (λ (t : Text). ends_with (λ x y. x == y) t (codes "[x]")) (sym e) ∙ one)

implied_choice : (name : Text) → ends_with (λ x y. x == y) name (codes "[x]") ≡ true → implied name ≡ Some by_type
implied_choice name ends =
    implied_if name false true
    (no_extension name (ends_other name (codes "extension") ends refl) (ends_other name (codes "modifierExtension") ends refl)) ends

implied_none : (name : Text) → ¬ (name ≡ codes "extension") → ¬ (name ≡ codes "modifierExtension")
    → ends_with (λ x y. x == y) name (codes "[x]") ≡ false → implied name ≡ None
implied_none name one other ends = implied_if name false false (no_extension name one other) ends

-- ---- what is laid where no slicing is said

over_slicing : (o : Option Element) (e : Element) → ((d : Element) → o ≡ Some d → d.slicing ≡ None) → e.slicing ≡ None → (over o e).slicing ≡ None
over_slicing None e unsaid none = none
over_slicing (Some d) e unsaid none = ap (λ (s : Option Slicing). option_or s e.slicing) (unsaid d refl) ∙ none

over_id : (o : Option Element) (e : Element) → ((d : Element) → o ≡ Some d → d.id ≡ e.id) → (over o e).id ≡ e.id
over_id None e same = refl
over_id (Some d) e same = same d refl

-- an element over one that isn't sliced has the slicing that its slices imply
laid_slicing : (es : List Element) (slices : List Text) (e : Element) → ((d : Element) → find es e.id ≡ Some d → d.slicing ≡ None)
    → e.slicing ≡ None → (laid es slices e).slicing ≡ cond (has_any slices) (implied (name_of e.id)) None
laid_slicing es slices e unsaid none =
    ap (λ (s : Option Slicing). option_or s (cond (has_any slices) (implied (name_of (over (find es e.id) e).id)) None))
    (over_slicing (find es e.id) e unsaid none)
    ∙ ap (λ (t : Text). cond (has_any slices) (implied (name_of t)) None)
    (over_id (find es e.id) e (λ d found. (found_id es e.id d found).0))

-- what the slices of a node imply, by its name
abbrev pub ByName : Text → Node → Type 0
ByName id n = n.element.slicing ≡ cond (has_any n.slices) (implied (name_of id)) None

with_any : (xs : List Text) → ¬ (xs ≡ []) → has_any xs ≡ true
with_any [] some = absurd (some refl)
with_any (x ∷ xs) some = refl

sliced_so : (id : Text) (n : Node) (g : Option Slicing) → ByName id n → implied (name_of id) ≡ g → ¬ (n.slices ≡ []) → n.element.slicing ≡ g
sliced_so id n g is of some = is ∙ ap (λ (b : Bool). cond b (implied (name_of id)) None) (with_any n.slices some) ∙ of

same_if : (g : Option Slicing) (b : Bool) → cond b g g ≡ g
same_if g true = refl
same_if g false = refl

pub sliced_by_name : (id : Text) (n : Node) → ByName id n → IsSlicedByName id n
sliced_by_name id n by =
    record {
      extensions = λ is some. sliced_so id n (Some by_url) by (implied_extension (name_of id) is) some;
      modifiers = λ is some. sliced_so id n (Some by_url) by (implied_modifier (name_of id) is) some;
      choices = λ ends some. sliced_so id n (Some by_type) by (implied_choice (name_of id) ends) some;
      others = λ first second ends.
          by ∙ ap (λ (o : Option Slicing). cond (has_any n.slices) o None) (implied_none (name_of id) first second ends)
          ∙ same_if None (has_any n.slices);
      unsliced = λ none. by ∙ ap (λ (xs : List Text). cond (has_any xs) (implied (name_of id)) None) none;
    }

module _ (p : Definitions) where
  pub made_so : (url id : Text) (es : List Element) (e : Element) (names slices : List Text) (n : Node) → IsMadeOf p (Q p) url es e names slices n
      → e.id ≡ id → ((d : Element) → find es id ≡ Some d → d.slicing ≡ None) → e.slicing ≡ None → ByName id n
  made_so url id es e names slices n made is unsaid none =
      let same : n.element.slicing ≡ cond (has_any (all_slices es e.id slices)) (implied (name_of e.id)) None =
      ap (λ (x : Element). x.slicing) made.element_is
      ∙ laid_slicing es (all_slices es e.id slices) e (λ d found. unsaid d (ap (find es) (sym is) ∙ found)) none in
      same ∙ ap (λ (xs : List Text). cond (has_any xs) (implied (name_of e.id)) None) (sym made.slices_are)
      ∙ ap (λ (t : Text). cond (has_any n.slices) (implied (name_of t)) None) is

  -- ---- where a new slice comes from

  -- it is made of the element that it is a slice of
  pub record IsOfWhole (url id whole : Text) (es : List Element) (n : Node) : Type 0 where
    pub like : Node
    pub has_whole : Has (asking p) (key whole url) (Some like)
    pub is_made : IsMadeOf p (Q p) url es (moved id (as_slice like.element)) [] [] n

  same_base : (url base other : Text) (s t : Source) → ByBase p url s base → ByBase p url t other → base ≡ other
  same_base url base other s t one two =
      same_Some base other (sym one.rests ∙ ap (λ (u : Source). u.base) (same_source p url s t one.at two.at) ∙ two.rests)

  from_origin : (url id base whole : Text) (s : Source) (n : Node) → ByBase p url s base → ((m : Node) → IsAt p base id m → ⊥)
      → sliced_of id ≡ Some whole → Origin p (Q p) id url n → IsOfWhole url id whole s.elements n
  from_origin url id base whole s n based none is (from_written r) = absurd (not_both p url base r.source s r.at r.is_written based)
  from_origin url id base whole s n based none is (from_base r) =
      absurd (none r.below
      (subst (λ (u : Text). Has (asking p) (key id u) (Some r.below)) (same_base url r.base base r.source s r.by_base based) r.has_base.0))
  from_origin url id base whole s n based none is (from_whole r) =
      record {
        like = r.sliced;
        has_whole = subst (λ (u : Text). Has (asking p) (key u url) (Some r.sliced)) (same_Some r.whole whole (sym r.sliced_is ∙ is)) r.has_whole.0;
        is_made = subst (λ (u : Source). IsMadeOf p (Q p) url u.elements (moved id (as_slice r.sliced.element)) [] [] n)
            (same_source p url r.source s r.by_base.at based.at) r.is_made;
      }
  from_origin url id base whole s n based none is (from_front r) = absurd (none-some whole (sym r.unsliced ∙ is))

  pub new_made : (url id base whole : Text) (s : Source) (n : Node) → IsPlain id → ByBase p url s base → ((m : Node) → IsAt p base id m → ⊥)
      → sliced_of id ≡ Some whole → IsAt p url id n → IsOfWhole url id whole s.elements n
  new_made url id base whole s n plain based none is at = from_origin url id base whole s n based none is (origin_at p id url n plain at)

  -- ---- slicings that nobody says

  by_name : OneAnswer → (url id : Text) (n : Node) → IsUnsaid p url id n → ByName id n
  by_name one url id n u =
      elim u.below [
        | inl m ↦ made_so url id u.source.elements m.0.element m.0.names m.0.slices n
            (made_of_base p one id url u.base u.source n m.0 u.plain u.at u.unwritten u.rests m.1 u.stands)
            (own_id p id u.base m.0 u.plain m.1) u.unsaid m.2
        | inr w ↦
            let based : ByBase p url u.source u.base = record { at = u.at; unwritten = u.unwritten; rests = u.rests } in
            let made = new_made url id u.base w.0 u.source n u.plain based w.2 w.1 u.stands in
            made_so url id u.source.elements (moved id (as_slice made.like.element)) [] [] n made.is_made refl u.unsaid refl
      ]

  pub unsaid_so : OneAnswer → (url id : Text) (n : Node) → IsUnsaid p url id n → IsSlicedByName id n
  unsaid_so one url id n u = sliced_by_name id n (by_name one url id n u)

  -- ---- new slices

  of_new : (url id whole : Text) (d : Element) (n : Node) → (w : IsNew p url id whole d n) → IsOfWhole url id whole w.source.elements n
  of_new url id whole d n w =
      let based : ByBase p url w.source w.base = record { at = w.at; unwritten = w.unwritten; rests = w.rests } in
      new_made url id w.base whole w.source n w.plain based w.none_below w.sliced w.stands

  pub new_unsliced : (url id whole : Text) (d : Element) (n : Node) → IsNew p url id whole d n → d.slicing ≡ None → n.slices ≡ []
      → n.element.slicing ≡ None
  new_unsliced url id whole d n w unsaid none =
      let made = of_new url id whole d n w in
      made_so url id w.source.elements (moved id (as_slice made.like.element)) [] [] n made.is_made refl
      (λ e found. ap (λ (x : Element). x.slicing) (same_Some e d (sym found ∙ w.said)) ∙ unsaid) refl
      ∙ ap (λ (xs : List Text). cond (has_any xs) (implied (name_of id)) None) none

  new_like : ((old more : List Constraint) → (added : List Constraint) × (with_constraints old more ≡ old ++ added))
      → (id : Text) (es : List Element) (d : Element) (w n : Node) → find es id ≡ Some d
      → n.element ≡ laid es (all_slices es id []) (moved id (as_slice w.element)) → IsLike d w.element n.element
  new_like stay id es d w n found is =
      let said = inherits_so es (all_slices es id []) n.element (moved id (as_slice w.element)) d found is in
      record {
        slice_name = said.slice_name;
        max = said.max;
        types = said.types;
        content_reference = said.content_reference;
        fixed = said.fixed;
        pattern = said.pattern;
        min_value = said.min_value;
        max_value = said.max_value;
        max_length = said.max_length;
        binding = said.binding;
        constraints = laid_constraints stay es (all_slices es id []) n.element (moved id (as_slice w.element)) is;
      }

  pub like : OneAnswer → ((old more : List Constraint) → (added : List Constraint) × (with_constraints old more ≡ old ++ added))
      → (url id whole : Text) (d : Element) (n w : Node) → IsNew p url id whole d n → IsAt p url whole w → IsLike d w.element n.element
  like one stay url id whole d n w new at =
      let made = of_new url id whole d n new in
      let same : made.like ≡ w = same_Some made.like w (one (asking p) (key whole url) (Some made.like) (Some w) made.has_whole at) in
      subst (λ (x : Node). IsLike d x.element n.element) same
      (new_like stay id new.source.elements d made.like n new.said made.is_made.element_is)

  pub paths : (url id whole : Text) (segments : List SegmentParts) (d : Element) (n : Node) → IsNew p url id whole d n → d.path ≡ None
      → read_id id ≡ Ok segments → n.element.path ≡ Some (names_joined segments)
  paths url id whole segments d n new unsaid reads =
      let made = of_new url id whole d n new in
      let said = inherits_so new.source.elements (all_slices new.source.elements id []) n.element (moved id (as_slice made.like.element)) d
      new.said made.is_made.element_is in
      said.path unsaid ∙ ap (λ r. Some (path_in id r)) reads
