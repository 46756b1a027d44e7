-- What narrower bounds hold of, wider ones do; and what bounds hold of, they do where more of the unread rules hold.
use Rattle.std.proofs.Common.{◌≡◌, ◌||◌, Bool, true, false, Option, Some, None, IsTrue, refl, sym, ap, ◌∙◌}
use Rattle.std.specs.Option.{option_map_or}
use Rattle.std.specs.declared.cmp.Ordering.{Ordering}
use Rattle.std.specs.Ordering.{is_le, is_ge}
use Rattle.std.specs.Str.{bytes_eq}
use Rattle.std.proofs.lemmas.Bool.{and_parts, and_from, false≢true}
use Rattle.fhir_json.specs.Tree.{Text, Tree, Property}
use Rattle.fhir_json.specs.Fields.{is_object}
use Rattle.fhir_facets.specs.declared.scale.Scale.{Scale}
use Rattle.fhir_facets.specs.declared.scale.Scale.TheVariants.{Number, Moment, Time}
use Rattle.fhir_facets.specs.Identity.{identical}
use Rattle.fhir_facets.specs.Ranges.{same_scale, scale_of_code, scale_of_bound, is_beyond, scale_holds, bound_holds, is_same_bound, is_narrow_bound, bound_narrower}
use Rattle.fhir_facets.specs.Ranges.{Range, range_holds, side_narrower, range_narrower}
use Rattle.fhir_facets.specs.Seen.{Seen}
use Rattle.fhir_facets.specs.Unread.{Unread, Meaning, range}
use Rattle.fhir_facets.proofs.Alike.{same_tree, text_is}
use Rattle.fhir_facets.proofs.Chains.{Chained}
use Rattle.fhir_facets.proofs.Keeping.{mapped, kept_if}

one_kind : (k l : Scale) → same_scale k l ≡ true → k ≡ l
one_kind Number Number h = refl
one_kind Number Moment h = absurd (false≢true h)
one_kind Number Time h = absurd (false≢true h)
one_kind Moment Number h = absurd (false≢true h)
one_kind Moment Moment h = refl
one_kind Moment Time h = absurd (false≢true h)
one_kind Time Number h = absurd (false≢true h)
one_kind Time Moment h = absurd (false≢true h)
one_kind Time Time h = refl

or_kept : (a b c : Bool) → (IsTrue b → IsTrue c) → IsTrue (a || b) → IsTrue (a || c)
or_kept true b c f h = refl
or_kept false b c f h = f h

same_property : (p q : Property) → is_same_bound p q ≡ true → p ≡ q
same_property p q h =
    let both = and_parts (bytes_eq p.0 q.0) (identical p.1 q.1) h in
    ap (λ (name : Text). (name, p.1)) (text_is p.0 q.0 both.0) ∙ ap (λ (t : Tree). (q.0, t)) (same_tree p.1 q.1 both.1)

module _ (side : Ordering → Bool) (chained : Chained side) (m : Meaning) (x : Seen) where
  scale_kept : (p q : Tree) (scale : Scale) → is_beyond side scale p q ≡ true → IsTrue (scale_holds side p x scale) → IsTrue (scale_holds side q x scale)
  scale_kept p q scale narrow =
      kept_if (option_map_or (same_scale scale) (scale_of_code x.type) false)
      (option_map_or (λ value. is_object value || is_beyond side scale value p) x.json true)
      (option_map_or (λ value. is_object value || is_beyond side scale value q) x.json true)
      (mapped (λ value. is_object value || is_beyond side scale value p) (λ value. is_object value || is_beyond side scale value q) x.json true true
      (λ value. or_kept (is_object value) (is_beyond side scale value p) (is_beyond side scale value q) (λ h. chained.chain scale value p q h narrow)) (λ h. h))

  -- a bound on the scale k
  read_kept : (p q : Property) (k : Scale) (own : Option Scale) → IsTrue (option_map_or (same_scale k) own false) → is_beyond side k p.1 q.1 ≡ true
      → IsTrue (option_map_or (scale_holds side p.1 x) own (m (range p.0 p.1))) → IsTrue (scale_holds side q.1 x k)
  read_kept p q k None same narrow h = absurd (false≢true same)
  read_kept p q k (Some l) same narrow h =
      scale_kept p.1 q.1 k narrow (ap (scale_holds side p.1 x) (one_kind k l same) ∙ h)

  by_scale : (p q : Property) (scale : Option Scale) → scale_of_bound q.0 ≡ scale
      → IsTrue (option_map_or (is_narrow_bound side p q.1) scale (is_same_bound p q)) → IsTrue (bound_holds side m x p)
      → IsTrue (option_map_or (scale_holds side q.1 x) scale (m (range q.0 q.1)))
  by_scale p q None is narrow h =
      sym (ap (λ (k : Option Scale). option_map_or (scale_holds side q.1 x) k (m (range q.0 q.1))) is)
      ∙ sym (ap (bound_holds side m x) (same_property p q narrow)) ∙ h
  by_scale p q (Some k) is narrow h =
      let both = and_parts (option_map_or (same_scale k) (scale_of_bound p.0) false) (is_beyond side k p.1 q.1) narrow in
      read_kept p q k (scale_of_bound p.0) both.0 both.1 h

  bound_kept : (p q : Property) → IsTrue (bound_narrower side p q) → IsTrue (bound_holds side m x p) → IsTrue (bound_holds side m x q)
  bound_kept p q narrow h = by_scale p q (scale_of_bound q.0) refl narrow h

  pub side_kept : (own base : Option Property) → IsTrue (side_narrower side own base) → IsTrue (option_map_or (bound_holds side m x) own true)
      → IsTrue (option_map_or (bound_holds side m x) base true)
  side_kept own None narrow h = refl
  side_kept None (Some q) narrow h = absurd (false≢true narrow)
  side_kept (Some p) (Some q) narrow h = bound_kept p q narrow h

pub range_kept : Chained is_le → Chained is_ge → (m : Meaning) (r base : Range) (x : Seen) → IsTrue (range_narrower r base)
    → IsTrue (range_holds m r x) → IsTrue (range_holds m base x)
range_kept le ge m r base x narrow h =
    let narrows = and_parts (side_narrower is_ge r.least base.least) (side_narrower is_le r.most base.most) narrow in
    let holds = and_parts (option_map_or (bound_holds is_ge m x) r.least true) (option_map_or (bound_holds is_le m x) r.most true) h in
    and_from _ _ (side_kept is_ge ge m x r.least base.least narrows.0 holds.0) (side_kept is_le le m x r.most base.most narrows.1 holds.1)

-- ---- where more of the unread rules hold

module _ (m larger : Meaning) (more : (u : Unread) → IsTrue (m u) → IsTrue (larger u)) (x : Seen) where
  bound_more : (side : Ordering → Bool) (p : Property) → IsTrue (bound_holds side m x p) → IsTrue (bound_holds side larger x p)
  bound_more side p =
      mapped (scale_holds side p.1 x) (scale_holds side p.1 x) (scale_of_bound p.0) (m (range p.0 p.1)) (larger (range p.0 p.1)) (λ k h. h)
      (more (range p.0 p.1))

  pub range_more : (r : Range) → IsTrue (range_holds m r x) → IsTrue (range_holds larger r x)
  range_more r h =
      let holds = and_parts (option_map_or (bound_holds is_ge m x) r.least true) (option_map_or (bound_holds is_le m x) r.most true) h in
      and_from _ _
      (mapped (bound_holds is_ge m x) (bound_holds is_ge larger x) r.least true true (bound_more is_ge) (λ h. h) holds.0)
      (mapped (bound_holds is_le m x) (bound_holds is_le larger x) r.most true true (bound_more is_le) (λ h. h) holds.1)
