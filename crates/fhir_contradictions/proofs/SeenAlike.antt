-- Two items of one type whose values are equal, the second of which is sound: one is within bounds where the other is, and in a value set
-- where the other is.
use Rattle.std.proofs.Common.{◌≡◌, Bool, true, false, ◌&&◌, ◌||◌, [], Option, Some, None, refl, ap, ◌∙◌, IsTrue}
use Rattle.std.specs.Prelude.{if◌then◌else◌, codes}
use Rattle.std.specs.List.{list_any}
use Rattle.std.specs.Option.{option_map, option_map_or, option_and_then}
use Rattle.std.specs.Ordering.{is_some_and, is_le, is_ge}
use Rattle.std.specs.declared.cmp.Ordering.{Ordering}
use Rattle.std.specs.Str.{bytes_eq}
use Rattle.std.proofs.lemmas.Bool.{and_parts, false≢true}
use Rattle.fhir_json.specs.Tree.{Text, Tree, Items, no_items, item, Property, list_of}
use Rattle.fhir_json.specs.Fields.{as_text, is_object, as_items, field, text_in, items_in}
use Rattle.fhir_json.specs.Sound.{sound, items_sound}
use Rattle.fhir_matching.specs.Equality.{equal, items_equal}
use Rattle.fhir_facets.specs.declared.scale.Scale.{Scale}
use Rattle.fhir_facets.specs.declared.scale.Scale.TheVariants.{Number, Moment, Time}
use Rattle.fhir_facets.specs.declared.lookup.Lookup.{Lookup}
use Rattle.fhir_facets.specs.declared.lookup.Lookup.TheVariants.{ByCode, ByCoding, ByOneCoding}
use Rattle.fhir_facets.specs.Seen.{Seen}
use Rattle.fhir_facets.specs.Unread.{Meaning, range, binding}
use Rattle.fhir_facets.specs.Ranges.{Range, range_holds, bound_holds, scale_holds, scale_of_bound, scale_of_code, same_scale, is_beyond, order_of}
use Rattle.fhir_facets.specs.Bindings.{Binding, binding_holds, is_in, lookup_of, has_coding, is_text_type}
use Rattle.fhir_contradictions.proofs.EqualValues.{by_kind, same_text, same_kind, AreAlike, alike_fields}

-- an item of a type with a value
abbrev pub seen_with : Text → Bool → Tree → Seen
seen_with type kids value = record { type = type; json = Some value; has_kids = kids }

module _ (t u : Tree) (same : IsTrue (equal t u)) where
  -- ---- bounds

  -- both have one order with a bound
  order_alike : (scale : Scale) (bound : Tree) → order_of scale t bound ≡ order_of scale u bound
  order_alike Number bound =
      by_kind (λ t u. order_of Number t bound ≡ order_of Number u bound) refl (λ b. refl) (λ n. refl) (λ s. refl) (λ ts us h. refl) (λ ms ns h. refl) t u same
  order_alike Moment bound =
      by_kind (λ t u. order_of Moment t bound ≡ order_of Moment u bound) refl (λ b. refl) (λ n. refl) (λ s. refl) (λ ts us h. refl) (λ ms ns h. refl) t u same
  order_alike Time bound =
      by_kind (λ t u. order_of Time t bound ≡ order_of Time u bound) refl (λ b. refl) (λ n. refl) (λ s. refl) (λ ts us h. refl) (λ ms ns h. refl) t u same

  -- both are on the one side of a bound, or none is; an object is passed over
  beyond_alike : (side : Ordering → Bool) (scale : Scale) (bound : Tree)
      → (is_object t || is_beyond side scale t bound) ≡ (is_object u || is_beyond side scale u bound)
  beyond_alike side scale bound =
      ap (λ (b : Bool). b || is_beyond side scale t bound) (same_kind t u same)
      ∙ ap (λ (o : Option Ordering). is_object u || is_some_and side o) (order_alike scale bound)

  module _ (type : Text) (kids more : Bool) where
    -- within one bound
    bound_alike : (side : Ordering → Bool) (m : Meaning) (o : Option Property)
        → option_map_or (bound_holds side m (seen_with type kids t)) o true ≡ option_map_or (bound_holds side m (seen_with type more u)) o true
    bound_alike side m None = refl
    bound_alike side m (Some p) = by_case (scale_of_bound p.0)
      where
        by_case : (o : Option Scale)
            → option_map_or (scale_holds side p.1 (seen_with type kids t)) o (m (range p.0 p.1))
            ≡ option_map_or (scale_holds side p.1 (seen_with type more u)) o (m (range p.0 p.1))
        by_case None = refl
        by_case (Some scale) =
            ap (λ (b : Bool). if option_map_or (same_scale scale) (scale_of_code type) false then b else true) (beyond_alike side scale p.1)

    -- one is within bounds exactly where the other is
    pub range_alike : (m : Meaning) (r : Range) → range_holds m r (seen_with type kids t) ≡ range_holds m r (seen_with type more u)
    range_alike m r =
        ap (λ (b : Bool). b && option_map_or (bound_holds is_le m (seen_with type kids t)) r.most true) (bound_alike is_ge m r.least)
        ∙ ap (λ (b : Bool). option_map_or (bound_holds is_ge m (seen_with type more u)) r.least true && b) (bound_alike is_le m r.most)

-- ---- codes of values

-- fields that are alike have one text
text_in_alike : (o p : Option Tree) → AreAlike o p → option_and_then as_text o ≡ option_and_then as_text p
text_in_alike None None alike = refl
text_in_alike None (Some u) alike = absurd alike
text_in_alike (Some t) None alike = absurd alike
text_in_alike (Some t) (Some u) alike = same_text t u alike.0

-- equal Codings have one concept
coding_alike : (s : _) (t u : Tree) → IsTrue (equal t u) → IsTrue (sound u) → has_coding s t ≡ has_coding s u
coding_alike s t u same sounds =
    let system : text_in (codes "system") t ≡ text_in (codes "system") u =
    text_in_alike (field (codes "system") t) (field (codes "system") u) (alike_fields (codes "system") t u same sounds) in
    let code : text_in (codes "code") t ≡ text_in (codes "code") u =
    text_in_alike (field (codes "code") t) (field (codes "code") u) (alike_fields (codes "code") t u same sounds) in
    rw (system, code) refl

-- a test that holds of one of two equal values exactly where it does of the other
module _ (p : Tree → Bool) (p_alike : (t u : Tree) → IsTrue (equal t u) → IsTrue (sound u) → p t ≡ p u) where
  -- some item of one of two equal arrays passes, where one of the other does
  some_alike : (ts us : Items) → IsTrue (items_equal ts us) → IsTrue (items_sound us) → list_any p (list_of ts) ≡ list_any p (list_of us)
  some_alike no_items no_items same sounds = refl
  some_alike no_items (item u us) same sounds = absurd (false≢true same)
  some_alike (item t ts) no_items same sounds = absurd (false≢true same)
  some_alike (item t ts) (item u us) same sounds =
      let both = and_parts (equal t u) (items_equal ts us) same in
      let each = and_parts (sound u) (items_sound us) sounds in
      ap (λ (b : Bool). b || list_any p (list_of ts)) (p_alike t u both.0 each.0)
      ∙ ap (λ (b : Bool). p u || b) (some_alike ts us both.1 each.1)

  -- of two equal values both are arrays, or none is
  items_alike : (t u : Tree) → IsTrue (equal t u) → IsTrue (sound u) → list_any p (list_of (as_items t)) ≡ list_any p (list_of (as_items u))
  items_alike =
      by_kind (λ t u. IsTrue (sound u) → list_any p (list_of (as_items t)) ≡ list_any p (list_of (as_items u)))
      (λ sounds. refl) (λ b sounds. refl) (λ n sounds. refl) (λ s sounds. refl) some_alike (λ ms ns h sounds. refl)

  -- the same of the arrays in a field
  items_in_alike : (name : Text) (t u : Tree) → IsTrue (equal t u) → IsTrue (sound u) → list_any p (items_in name t) ≡ list_any p (items_in name u)
  items_in_alike name t u same sounds = by_case (field name t) (field name u) (alike_fields name t u same sounds)
    where
      by_case : (o q : Option Tree) → AreAlike o q
          → list_any p (option_map_or (λ v. list_of (as_items v)) o []) ≡ list_any p (option_map_or (λ v. list_of (as_items v)) q [])
      by_case None None alike = refl
      by_case None (Some v) alike = absurd alike
      by_case (Some v) None alike = absurd alike
      by_case (Some v) (Some w) alike = items_alike v w alike.0 alike.1

-- ---- bindings

module _ (t u : Tree) (same : IsTrue (equal t u)) (sounds : IsTrue (sound u)) (type : Text) (kids more : Bool) where
  -- both are looked up in one way
  lookup_alike : lookup_of (seen_with type kids t) ≡ lookup_of (seen_with type more u)
  lookup_alike =
      ap (λ (o : Option Text).
      if bytes_eq type (codes "Coding") then Some ByCoding
      else (if bytes_eq type (codes "CodeableConcept") then Some ByOneCoding
      else (if is_text_type type && option_map_or (λ s. true) o false then Some ByCode else None))) (same_text t u same)

  -- one is found where the other is
  in_alike : (how : Lookup) (s : _) → is_in how s (seen_with type kids t) ≡ is_in how s (seen_with type more u)
  in_alike ByCode s = rw (same_text t u same) refl
  in_alike ByCoding s = coding_alike s t u same sounds
  in_alike ByOneCoding s = items_in_alike (has_coding s) (coding_alike s) (codes "coding") t u same sounds

  -- if they are looked up
  looked_up_alike : (s : _) (o : Option Lookup)
      → option_map (λ how. is_in how s (seen_with type kids t)) o ≡ option_map (λ how. is_in how s (seen_with type more u)) o
  looked_up_alike s None = refl
  looked_up_alike s (Some how) = ap (λ (b : Bool). Some b) (in_alike how s)

  -- one is in a value set exactly where the other is
  pub binding_alike : (m : Meaning) (b : Binding) → binding_holds m b (seen_with type kids t) ≡ binding_holds m b (seen_with type more u)
  binding_alike m b = ap (λ (o : Option Bool). option_map_or (λ holds. holds) o (m (binding b.canonical)))
      (elim b.concepts as (λ o. option_and_then (λ s. option_map (λ how. is_in how s (seen_with type kids t)) (lookup_of (seen_with type kids t))) o
      ≡ option_and_then (λ s. option_map (λ how. is_in how s (seen_with type more u)) (lookup_of (seen_with type more u))) o) [
        | None ↦ refl
        | Some s ↦
            ap (λ (l : Option Lookup). option_map (λ how. is_in how s (seen_with type kids t)) l) lookup_alike
            ∙ looked_up_alike s (lookup_of (seen_with type more u))
      ])
