-- What is found at the end of the path by which a slice is told conforms to the node at its end.
use Rattle.std.proofs.Common.{◌≡◌, Bool, true, false, not, List, [], ◌∷◌, ◌++◌, Option, Some, None, refl, sym, ap, subst, ◌∙◌, ◌⊎◌, inl, inr, ◌||◌, ◌&&◌, IsTrue}
use Rattle.std.specs.Prelude.{if◌then◌else◌, codes, is_some}
use Rattle.std.specs.List.{list_any, flat_map, Contains}
use Rattle.std.specs.Option.{option_and_then, option_or}
use Rattle.std.specs.Str.{bytes_eq}
use Rattle.std.proofs.lemmas.Bool.{or_cases, or_left, or_right, false≢true}
use Rattle.std.proofs.lemmas.Option.{none-some, same_Some}
use Rattle.std.proofs.lemmas.List.Folds.{list_any-append}
use Rattle.std.proofs.lemmas.Slice.Eq.{bytes_eq-Decides}
use Rattle.fhir_json.specs.Tree.{Text}
use Rattle.fhir_package.specs.Definitions.{Definitions}
use Rattle.fhir_nodes.specs.declared.node.NodeRef.{NodeRef}
use Rattle.fhir_nodes.specs.Slots.{Slot}
use Rattle.fhir_forms.specs.Forms.{is_choice}
use Rattle.fhir_forms.specs.Criteria.{slot_in, slot_called}
use Rattle.fhir_schema.specs.Schemas.{SchemaValue, schema_of, has, holder, slots, slot_named, entry_of}
use Rattle.fhir_instance.specs.Items.{Item, Kids, no_kids, kid, kids_of}
use Rattle.fhir_slicing.specs.Belonging.{is_called, called, items_at}
use Rattle.fhir_conformance.specs.Conformance.{Interpretation, Around, conforms}
use Rattle.fhir_contradictions.specs.Typing.{IsTypedBy, IsTypedIfKnown, children_of, typed_under, are_few_under, typed_by}
use Rattle.fhir_contradictions.specs.Along.{has_other, calls_alone, Next, next_in, next_along, end_along}
use Rattle.fhir_contradictions.specs.Children.{Conforming}
use Rattle.fhir_contradictions.specs.Contradictions.{names_differ}
use Rattle.fhir_contradictions.proofs.Listed.{contains_first, contains_later, found_among}
use Rattle.fhir_contradictions.proofs.Slotted.{ArePlaced, child_of_type}

-- ---- elements of lists that pass

-- what passes among all that elements give is given by one of them
some_given : {A B : Type 0} (p : B → Bool) (f : A → List B) (xs : List A) → IsTrue (list_any p (flat_map f xs)) → IsTrue (list_any (λ (x : A). list_any p (f x)) xs)
some_given p f [] any = any
some_given {A} p f (x ∷ xs) any =
    elim (or_cases (list_any p (f x)) (list_any p (flat_map f xs)) (sym (list_any-append p (f x) (flat_map f xs)) ∙ any)) [
      | inl here ↦ or_left (list_any p (f x)) (list_any (λ (x : A). list_any p (f x)) xs) here
      | inr there ↦ or_right (list_any p (f x)) (list_any (λ (x : A). list_any p (f x)) xs) (some_given p f xs there)
    ]

-- one that passes is that one, or one of the rest
first_or_later : {A : Type 0} (g : A → Bool) (b : Bool) (y : A) (ys : List A) → IsTrue (list_any g (if b then y ∷ ys else ys)) → ((b ≡ true) × IsTrue (g y)) ⊎ IsTrue (list_any g ys)
first_or_later g true y ys any =
    elim (or_cases (g y) (list_any g ys) any) [
      | inl here ↦ inl (refl, here)
      | inr there ↦ inr there
    ]
first_or_later g false y ys any = inr any

-- the slot that a name calls is one of the slots
called_among : (ss : List Slot) (name : Text) (slot : Slot) → slot_called ss name ≡ Some slot → Contains ss slot
called_among ss name slot = by_case (is_choice name)
  where
    by_name : (o : Option Slot) → slot_in ss name ≡ o → option_or o (slot_in ss (name ++ codes "[x]")) ≡ Some slot → Contains ss slot
    by_name None plain is = found_among (λ slot. bytes_eq (name ++ codes "[x]") slot.name) ss slot is
    by_name (Some other) plain is = found_among (λ slot. bytes_eq name slot.name) ss slot (plain ∙ is)

    by_case : (b : Bool) → (if b then None else option_or (slot_in ss name) (slot_in ss (name ++ codes "[x]"))) ≡ Some slot → Contains ss slot
    by_case true is = absurd cc
    by_case false is = by_name (slot_in ss name) refl is

-- ---- the children that a name calls

-- a child that a name calls and that passes a test, with its own name
record Called (name : Text) (g : Item → Bool) (kids : Kids) : Type 0 where
  element : Text
  child : Item
  among : Contains (children_of kids) (element, child)
  calls : IsTrue (is_called name element)
  passes : IsTrue (g child)

-- there is one, where one of those that are called passes
called_child : (name : Text) (g : Item → Bool) (kids : Kids) → IsTrue (list_any g (called name kids)) → Called name g kids
called_child name g no_kids any = absurd (false≢true any)
called_child name g (kid e y kids) any =
    elim (first_or_later g (is_called name e) y (called name kids) any) [
      | inl here ↦ record { element = e; child = y; among = contains_first (e, y) (children_of kids) (e, y) refl; calls = here.0; passes = here.1 }
      | inr there ↦ behind (called_child name g kids there)
    ]
  where
    behind : Called name g kids → Called name g (kid e y kids)
    behind c = record {
      element = c.element;
      child = c.child;
      among = contains_later (e, y) (children_of kids) (c.element, c.child) c.among;
      calls = c.calls;
      passes = c.passes;
    }

-- a name that a type's element has, and that isn't another than the slot's, is the slot's
is_slot_name : (s : SchemaValue) (b : NodeRef) (slot k : Slot) (name : Text) → has_other s b slot name ≡ false → slot_named s b name ≡ Some k → name ≡ slot.name
is_slot_name s b slot k name none named =
    (bytes_eq-Decides name slot.name).0
    (go (bytes_eq name slot.name) (sym (ap (λ (o : Option Slot). not (bytes_eq name slot.name) && is_some o) named) ∙ none))
  where
    go : (same : Bool) → (not same && true) ≡ false → same ≡ true
    go true h = refl
    go false h = absurd (false≢true (sym h))

-- what a name calls, and the type's element has, stands under the slot, where the name calls nothing else
called_alone : (s : SchemaValue) (b : NodeRef) (slot k : Slot) (name element : Text) → IsTrue (calls_alone s b slot name) → IsTrue (is_called name element)
    → slot_named s b element ≡ Some k → element ≡ slot.name
called_alone s b slot k name element alone calls named =
    elim (or_cases (bytes_eq name element) (bytes_eq (name ++ codes "[x]") element) calls) [
      | inl plain ↦ of name ((bytes_eq-Decides name element).0 plain) none.0
      | inr choice ↦ of (name ++ codes "[x]") ((bytes_eq-Decides (name ++ codes "[x]") element).0 choice) none.1
    ]
  where
    neither : (p q : Bool) → IsTrue (not (p || q)) → (p ≡ false) × (q ≡ false)
    neither true q h = absurd (false≢true h)
    neither false true h = absurd (false≢true h)
    neither false false h = (refl, refl)

    none : (has_other s b slot name ≡ false) × (has_other s b slot (name ++ codes "[x]") ≡ false)
    none = neither (has_other s b slot name) (has_other s b slot (name ++ codes "[x]")) alone

    of : (other : Text) → other ≡ element → has_other s b slot other ≡ false → element ≡ slot.name
    of other same no_other =
        sym same ∙ is_slot_name s b slot k other no_other (subst (λ (t : Text). slot_named s b t ≡ Some k) (sym same) named)

-- ---- one name

-- how a name leads from a node to what stands below it
record Leads (s : SchemaValue) (by : Option NodeRef) (q : NodeRef) (name : Text) (next : Next) : Type 0 where
  typing : NodeRef
  typed : by ≡ Some typing
  holding : NodeRef
  holds : holder s q ≡ Some holding
  slot : Slot
  among : Contains (slots s holding) slot
  alone : IsTrue (calls_alone s typing slot name)
  is : next ≡ (entry_of holding slot, (typing, slot.name))

leads : (s : SchemaValue) (by : Option NodeRef) (q : NodeRef) (name : Text) (next : Next) → next_along s by q name ≡ Some next → Leads s by q name next
leads s by q name next = by_typing by refl
  where
    by_alone : (b h : NodeRef) → by ≡ Some b → holder s q ≡ Some h → (slot : Slot) → Contains (slots s h) slot → (c : Bool) → calls_alone s b slot name ≡ c
        → (if c then Some (entry_of h slot, (b, slot.name)) else None) ≡ Some next → Leads s by q name next
    by_alone b h typed holds slot among false alone is = absurd (none-some next is)
    by_alone b h typed holds slot among true alone is = record {
      typing = b;
      typed = typed;
      holding = h;
      holds = holds;
      slot = slot;
      among = among;
      alone = alone;
      is = sym (same_Some (entry_of h slot, (b, slot.name)) next is);
    }

    by_slot : (b h : NodeRef) → by ≡ Some b → holder s q ≡ Some h → (o : Option Slot) → slot_called (slots s h) name ≡ o
        → option_and_then (λ slot. if calls_alone s b slot name then Some (entry_of h slot, (b, slot.name)) else None) o ≡ Some next → Leads s by q name next
    by_slot b h typed holds None called is = absurd (none-some next is)
    by_slot b h typed holds (Some slot) called is =
        by_alone b h typed holds slot (called_among (slots s h) name slot called) (calls_alone s b slot name) refl is

    by_holder : (b : NodeRef) → by ≡ Some b → (o : Option NodeRef) → holder s q ≡ o → option_and_then (λ h. next_in s b h name) o ≡ Some next
        → Leads s by q name next
    by_holder b typed None holds is = absurd (none-some next is)
    by_holder b typed (Some h) holds is = by_slot b h typed holds (slot_called (slots s h) name) refl is

    by_typing : (o : Option NodeRef) → by ≡ o → next_along s o q name ≡ Some next → Leads s by q name next
    by_typing None typed is = absurd (none-some next is)
    by_typing (Some b) typed is = by_holder b typed (holder s q) refl is

-- An item that is found at the end of a path, with what it conforms to.
pub record End (s : SchemaValue) (meaning : Interpretation) (found : Item → Bool) (n : NodeRef) : Type 0 where
  pub end : Item
  pub around : Around
  pub is_found : IsTrue (found end)
  pub holds : IsTrue (conforms s meaning around end n)

-- ---- laws that the path follows

module _ (p : Definitions) (placed : ArePlaced (schema_of p))
    (apart : (n : NodeRef) → IsTrue (has (schema_of p) n) → IsTrue (names_differ (slots (schema_of p) n)))
    (usable : (by inside n : NodeRef) (name : Text) → IsTrue (has (schema_of p) by) → typed_under (schema_of p) by name n ≡ Some inside
    → IsTrue (has (schema_of p) inside))
    (meaning : Interpretation)
    (typed_below : (around : Around) (x y : Item) (by inside n : NodeRef) (name : Text) → IsTrue (names_differ (slots (schema_of p) by)) → IsTypedBy (schema_of p) by x
    → Contains (children_of (kids_of x)) (name, y) → IsTrue (conforms (schema_of p) meaning around y n) → typed_under (schema_of p) by name n ≡ Some inside
    → IsTypedBy (schema_of p) inside y)
    (conforming : (around : Around) (x y : Item) (n h : NodeRef) (slot : Slot) → IsTrue (conforms (schema_of p) meaning around x n) → holder (schema_of p) n ≡ Some h
    → Contains (slots (schema_of p) h) slot → Contains (children_of (kids_of x)) (slot.name, y) → Conforming (schema_of p) meaning y (entry_of h slot)) where
  abbrev s : SchemaValue
  s = schema_of p

  -- a child of a typed item is typed, where it is known by which node
  child_typed : (around : Around) (x y : Item) (b n : NodeRef) (name : Text) → IsTrue (has s b) × IsTypedBy s b x → Contains (children_of (kids_of x)) (name, y)
      → IsTrue (conforms s meaning around y n) → IsTypedIfKnown s (typed_by s (Some (b, name)) n) y
  child_typed around x y b n name typed among holds inside = by_few (are_few_under s (b, name) n)
    where
      by_few : (c : Bool) → (if c then typed_under s b name n else None) ≡ Some inside → IsTrue (has s inside) × IsTypedBy s inside y
      by_few true is =
          (usable b inside n name typed.0 is, typed_below around x y b inside n name (apart b typed.0) typed.1 among holds is)
      by_few false is = absurd (none-some inside is)

  -- An item to which a name leads, and that passes a test, with what it conforms to and what types it.
  record Reached (g : Item → Bool) (next : Next) : Type 0 where
    child : Item
    around : Around
    passes : IsTrue (g child)
    holds : IsTrue (conforms s meaning around child next.0)
    typed : IsTypedIfKnown s (typed_by s (Some next.1) next.0) child

  -- a child of the name that a path begins with
  first_reached : (g : Item → Bool) (name : Text) (by : Option NodeRef) (q : NodeRef) (next : Next) (around : Around) (x : Item) → next_along s by q name ≡ Some next
      → IsTrue (list_any g (called name (kids_of x))) → IsTypedIfKnown s by x → IsTrue (conforms s meaning around x q) → Reached g next
  first_reached g name by q next around x is any typed holds =
      let l = leads s by q name next is in
      let c = called_child name g (kids_of x) any in
      let own = typed l.typing l.typed in
      let k = child_of_type s l.typing x c.element c.child placed (apart l.typing own.0) own.1 c.among in
      let under : c.element ≡ l.slot.name = called_alone s l.typing l.slot k.slot name c.element l.alone c.calls k.named in
      let among : Contains (children_of (kids_of x)) (l.slot.name, c.child) =
      subst (λ (t : Text). Contains (children_of (kids_of x)) (t, c.child)) under c.among in
      let below = conforming around x c.child q l.holding l.slot holds l.holds l.among among in
      subst (Reached g) (sym l.is) (record {
        child = c.child;
        around = below.around;
        passes = c.passes;
        holds = below.holds;
        typed = child_typed below.around x c.child l.typing (entry_of l.holding l.slot) l.slot.name own among below.holds;
      })

  -- what is found at the end of a path conforms to the node at its end
  pub end_found : (found : Item → Bool) (b : NodeRef) (names : List Text) (around : Around) (x : Item) (by : Option NodeRef) (q : NodeRef)
      → IsTrue (list_any found (items_at names x)) → end_along s by q names ≡ Some b → IsTypedIfKnown s by x → IsTrue (conforms s meaning around x q) → End s meaning found b
  end_found found b [] around x by q any leads typed holds =
      elim (or_cases (found x) false any) [
        | inl here ↦
            record {
              end = x;
              around = around;
              is_found = here;
              holds = subst (λ (n : NodeRef). IsTrue (conforms s meaning around x n)) (same_Some q b leads) holds;
            }
        | inr never ↦ absurd (false≢true never)
      ]
  end_found found b (name ∷ names) around x by q any leads typed holds =
      by_next (next_along s by q name) refl leads
      (λ next r is. end_found found b names r.around r.child (typed_by s (Some next.1) next.0) next.0 r.passes is r.typed r.holds)
    where
      g : Item → Bool
      g y = list_any found (items_at names y)

      by_next : (o : Option Next) → next_along s by q name ≡ o
          → option_and_then (λ next. end_along s (typed_by s (Some next.1) next.0) next.0 names) o ≡ Some b
          → ((next : Next) → Reached g next → end_along s (typed_by s (Some next.1) next.0) next.0 names ≡ Some b → End s meaning found b) → End s meaning found b
      by_next None is leads later = absurd (none-some b leads)
      by_next (Some next) is leads later =
          later next (first_reached g name by q next around x is (some_given found (items_at names) (called name (kids_of x)) any) typed holds) leads
