-- What lies on a way down: no pair that is tenable, and no children of a type where each item that asks for them has children of its own.
use Rattle.std.proofs.Common.{◌≡◌, Bool, true, false, List, [], ◌∷◌, refl, sym, ap, subst, ◌∙◌, inl, inr, ◌||◌, not}
use Rattle.std.specs.Prelude.{Option, None, Some, if◌then◌else◌}
use Rattle.std.specs.List.{Contains, flat_map}
use Rattle.std.specs.Option.{option_map_or, option_and_then, option_to_list}
use Rattle.std.proofs.lemmas.Bool.{false≢true, cases_Bool}
use Rattle.fhir_nodes.specs.declared.node.NodeRef.{NodeRef}
use Rattle.fhir_nodes.specs.Slots.{Slot}
use Rattle.fhir_schema.specs.Schemas.{SchemaValue, entry_of, slots, slot_named, slices, slice_named}
use Rattle.fhir_certificate.specs.declared.pair.NodePair.{NodePair}
use Rattle.fhir_certificate.specs.declared.pair.Pair.{Pair}
use Rattle.fhir_certificate.specs.declared.pair.Pair.TheVariants.{Item, Kids}
use Rattle.fhir_cert_check.specs.Rules.{is_forbidden_at}
use Rattle.fhir_cert_check.specs.Checking.{same_node}
use Rattle.fhir_cert_check.specs.PairSet.{same_pair}
use Rattle.fhir_cert_check.specs.Asked.{item_pair, allowed_pair, slice_pair, elements_asked, slot_asked, asked_for}
use Rattle.fhir_derive_check.specs.Finding.{is_in}
use Rattle.fhir_derive_check.specs.Reaching.{IsTenable}
use Rattle.fhir_derive_check.specs.Blaming.{is_spare, IsOnTheWay, HasOthers}
use Rattle.fhir_derive_check.proofs.Same.{same-true, same-refl, in-append, in-contained}

pub untenable : (s : SchemaValue) (first p : Pair) → IsOnTheWay s first p → (IsTenable s first → ⊥) → IsTenable s p → ⊥
untenable s first p way fallen tenable =
    let set : Pair → Bool = λ q. not (tenable.set q) in
    let by : (q : Pair) → tenable.set q ≡ true → IsTenable s q = λ q h. record { set = tenable.set; has = h; right = tenable.right } in
    false≢true (sym (ap not tenable.has) ∙ way set (record {
      rooted = elim (cases_Bool (tenable.set first)) [
        | inl there ↦ absurd (fallen (by first there))
        | inr gone ↦ ap not gone
      ];
      closed = λ x y here asked apart untenable. elim (cases_Bool (tenable.set y)) [
        | inl there ↦ absurd (untenable (by y there))
        | inr gone ↦ ap not gone
      ];
    }))

-- ---- pairs of children ask for pairs of items

module _ (s : SchemaValue) (q : NodePair) where
  flat-none : {A : Type 0} (asks : A → List Pair) (xs : List A) → ((x : A) → is_in (asks x) (Kids q) ≡ false) → is_in (flat_map asks xs) (Kids q) ≡ false
  flat-none asks [] none = refl
  flat-none asks (x ∷ xs) none = in-append (asks x) (flat_map asks xs) (Kids q) ∙ (λ j. none x j || flat-none asks xs none j)

  allowed-none : (n m : NodeRef) (b : Bool) → is_in (option_to_list (if b then None else Some (item_pair n m))) (Kids q) ≡ false
  allowed-none n m true = refl
  allowed-none n m false = refl

  slice-none : (n m : NodeRef) (b : Slot) → is_in (option_to_list (slice_pair s n m b)) (Kids q) ≡ false
  slice-none n m b = go (slice_named s n b.name)
    where
      go : (o : Option Slot) → is_in (option_to_list (option_and_then (λ a. allowed_pair s (entry_of n a) (entry_of m b)) o)) (Kids q) ≡ false
      go None = refl
      go (Some a) = allowed-none (entry_of n a) (entry_of m b) (is_forbidden_at s (entry_of n a))

  elements-none : (n m : NodeRef) → is_in (elements_asked s n m) (Kids q) ≡ false
  elements-none n m = go (is_forbidden_at s n)
    where
      go : (b : Bool) → is_in (if b then [] else item_pair n m ∷ flat_map (λ b. option_to_list (slice_pair s n m b)) (slices s m)) (Kids q) ≡ false
      go true = refl
      go false = flat-none (λ b. option_to_list (slice_pair s n m b)) (slices s m) (slice-none n m)

  slot-none : (n m : NodeRef) (b : Slot) → is_in (slot_asked s n m b) (Kids q) ≡ false
  slot-none n m b = go (slot_named s n b.name)
    where
      go : (o : Option Slot) → is_in (option_map_or (λ a. elements_asked s (entry_of n a) (entry_of m b)) o []) (Kids q) ≡ false
      go None = refl
      go (Some a) = elements-none (entry_of n a) (entry_of m b)

  kids-none : (p : NodePair) → is_in (asked_for s (Kids p)) (Kids q) ≡ false
  kids-none p = flat-none (slot_asked s p.derived p.base) (slots s p.base) (slot-none p.derived p.base)

pub past-own : (s : SchemaValue) (first : Pair) (q : NodePair) → IsOnTheWay s first (Kids q) → same_pair (Kids q) first ≡ false
    → ((p : NodePair) → Contains (asked_for s (Item p)) (Kids q) → HasOthers s p.derived q.derived) → ⊥
past-own s first q way apart others =
    false≢true (sym (ap not (same-refl (Kids q))) ∙ way (λ x. not (same_pair (Kids q) x)) (record {
      rooted = ap not apart;
      closed = λ x y here asked kept untenable. elim (cases_Bool (same_pair (Kids q) y)) [
        | inl same ↦
            let is : y ≡ Kids q = sym (same-true (Kids q) y same) in
            absurd (never x (subst (Contains (asked_for s x)) is asked) (subst (λ z. is_spare s x z ≡ false) is kept))
        | inr other ↦ ap not other
      ];
    }))
  where
    never : (x : Pair) → Contains (asked_for s x) (Kids q) → is_spare s x (Kids q) ≡ false → ⊥
    never (Kids p) asked kept = false≢true (sym (kids-none s q p) ∙ in-contained (asked_for s (Kids p)) (Kids q) asked)
    never (Item p) asked kept =
        let own = others p asked in
        false≢true (sym kept ∙ ap (λ o. option_map_or (λ own. not (same_node own q.derived)) o false) own.are_own ∙ ap not own.others)
