-- Each child of an item that conforms to a node conforms to the element of its name, and to each slice of that to which it belongs.
use Rattle.std.proofs.Common.{◌≡◌, ◌+◌, ℕ, suc, Bool, true, false, cond, ◌∷◌, Option, Some, sym, ap, ◌∙◌, subst, inl, inr, IsTrue, arith}
use Rattle.std.specs.Option.{option_map_or}
use Rattle.std.specs.List.{Contains}
use Rattle.std.specs.Str.{bytes_eq}
use Rattle.std.proofs.lemmas.Bool.{false≢true}
use Rattle.std.proofs.lemmas.Slice.Eq.{bytes_eq-Decides}
use Rattle.fhir_json.specs.Tree.{Text}
use Rattle.fhir_nodes.specs.declared.node.NodeRef.{NodeRef}
use Rattle.fhir_nodes.specs.Slots.{Slot}
use Rattle.fhir_schema.specs.Schemas.{SchemaValue, slots, slices, entry_of, holder, criteria}
use Rattle.fhir_instance.specs.Items.{Item, Kids, no_kids, kid, Named, kids_of}
use Rattle.fhir_slicing.specs.Belonging.{belongs}
use Rattle.fhir_conformance.specs.Positions.{kid_at, at_kid, members}
use Rattle.fhir_conformance.specs.Asks.{child, places_from, places_of, kids_asks}
use Rattle.fhir_conformance.specs.Conformance.{Interpretation, Around, inside, below, conforms}
use Rattle.fhir_contradictions.specs.Typing.{children_of}
use Rattle.fhir_contradictions.specs.Children.{Conforming, ConformingBoth}
use Rattle.fhir_contradictions.proofs.Listed.{contains_none, contains_cases, contains_first, contains_later, in_filter, all_at}
use Rattle.fhir_contradictions.proofs.Asked.{holds, meets}
use Rattle.fhir_contradictions.proofs.Required.{tests_at, asks_child, asks_member}

-- ---- the position of a child

-- the child stands so far behind the first one, and there its position is among those of the name
record IsPlaced (i : ℕ) (name : Text) (kids : Kids) (y : Item) : Type 0 where
  off : ℕ
  listed : Contains (places_from i name kids) (i + off)
  there : kid_at kids off ≡ Some y

-- each child of a name has a position
placed : (i : ℕ) (name : Text) (kids : Kids) (y : Item) → Contains (children_of kids) (name, y) → IsPlaced i name kids y
placed i name no_kids y has = absurd (contains_none (name, y) has)
placed i name (kid other x kids) y has =
    elim (contains_cases (other, x) (children_of kids) (name, y) has) [
      | inl first ↦ here (ap (λ (c : Named). c.0) first) (ap (λ (c : Named). c.1) first)
      | inr there ↦ behind (placed (suc i) name kids y there)
    ]
  where
    here : other ≡ name → x ≡ y → IsPlaced i name (kid other x kids) y
    here same is =
        record {
          off = 0;
          listed = go (bytes_eq name other) ((bytes_eq-Decides name other).1 (sym same));
          there = ap Some is;
        }
      where
        go : (b : Bool) → b ≡ true → Contains (cond b (i ∷ places_from (suc i) name kids) (places_from (suc i) name kids)) (i + 0)
        go true e = contains_first i (places_from (suc i) name kids) (i + 0) (omega arith)
        go false e = absurd (false≢true e)

    behind : IsPlaced (suc i) name kids y → IsPlaced i name (kid other x kids) y
    behind p =
        record {
          off = suc p.off;
          listed = go (bytes_eq name other);
          there = p.there;
        }
      where
        next : suc i + p.off ≡ i + suc p.off
        next = omega arith

        more : Contains (places_from (suc i) name kids) (i + suc p.off)
        more = subst (λ (k : ℕ). Contains (places_from (suc i) name kids) k) next p.listed

        go : (b : Bool) → Contains (cond b (i ∷ places_from (suc i) name kids) (places_from (suc i) name kids)) (i + suc p.off)
        go true = contains_later i (places_from (suc i) name kids) (i + suc p.off) more
        go false = more

-- ---- what the child conforms to

module _ (s : SchemaValue) (meaning : Interpretation) (around : Around) (x y : Item) (n h : NodeRef) (slot : Slot)
    (holding : IsTrue (conforms s meaning around x n)) (held : holder s n ≡ Some h) (among : Contains (slots s h) slot)
    (has : Contains (children_of (kids_of x)) (slot.name, y)) where
  -- the position of the child
  position : IsPlaced 0 slot.name (kids_of x) y
  position = placed 0 slot.name (kids_of x) y has

  abbrev at : ℕ
  at = position.off

  -- it is among those of the children of its name
  listed : Contains (places_of slot.name x) at
  listed = subst (λ (k : ℕ). Contains (places_of slot.name x) k) from_start position.listed
    where
      from_start : 0 + at ≡ at
      from_start = omega arith

  -- the child conforms to each node of which it is asked that it does
  asked : (m : NodeRef) → Contains (kids_asks s x n) (child at m) → IsTrue (conforms s meaning (below (inside s around x) (0 + at)) y m)
  asked m ask =
      let met = meets s meaning around x n holding in
      let passes : IsTrue (holds s meaning around x met.roots (child at m)) =
      all_at (holds s meaning around x met.roots) (kids_asks s x n) (child at m) met.kids ask in
      sym (tests_at s meaning (inside s around x) m 0 (kids_of x) at y position.there) ∙ passes

  -- so it conforms to the element of its name
  conforms_element : IsTrue (conforms s meaning (below (inside s around x) (0 + at)) y (entry_of h slot))
  conforms_element = asked (entry_of h slot) (asks_child s x n h slot held among at listed)

  pub element : Conforming s meaning y (entry_of h slot)
  element = record { around = below (inside s around x) (0 + at); holds = conforms_element }

  module _ (slice : Slot) (one : Contains (slices s (entry_of h slot)) slice) (belonging : IsTrue (belongs s (criteria s (entry_of h slice)) y)) where
    -- it is a member of the slice
    is_member : Contains (members s x (entry_of h slice) (places_of slot.name x)) at
    is_member =
        in_filter (at_kid false (belongs s (criteria s (entry_of h slice))) x) (places_of slot.name x) at listed
        (ap (λ (o : Option Item). option_map_or (belongs s (criteria s (entry_of h slice))) o false) position.there ∙ belonging)

    -- and to each slice to which it belongs
    pub in_slice : ConformingBoth s meaning y (entry_of h slot) (entry_of h slice)
    in_slice = record {
      around = below (inside s around x) (0 + at);
      holds_one = conforms_element;
      holds_other = asked (entry_of h slice) (asks_member s x n h slot held among slice one at is_member);
    }
