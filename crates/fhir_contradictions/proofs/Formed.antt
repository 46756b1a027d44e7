-- Each child of an object is the item of one of its forms.
use Rattle.std.proofs.Common.{◌≡◌, ◌==◌, Bool, true, false, cond, ◌&&◌, List, [], ◌∷◌, ◌++◌, map, length, nat_lt, refl, sym, ap, ◌∙◌, subst, Option, None, Some, ◌⊎◌, inl, inr}
use Rattle.std.proofs.lemmas.Option.{none-some, same_Some}
use Rattle.std.proofs.lemmas.List.Elements.{Contains-append_cases}
use Rattle.std.specs.Option.{option_map, option_and_then}
use Rattle.std.specs.List.{Contains, AllByRecursion, list_all, zip, find}
use Rattle.std.specs.Str.{bytes_eq}
use Rattle.fhir_json.specs.Tree.{Text, Tree, null, boolean, number, string, array, object, Items, no_items, Members, no_members, member}
use Rattle.fhir_json.specs.Tree.{item as one_more}
use Rattle.fhir_nodes.specs.declared.node.NodeRef.{NodeRef}
use Rattle.fhir_forms.specs.Forms.{Form, is_primitive, companion_name}
use Rattle.fhir_schema.specs.Schemas.{SchemaValue, forms}
use Rattle.fhir_instance.specs.Items.{Item, Kids, Named, kids_in, kids_of}
use Rattle.fhir_instance.specs.Typing.{Frame, Value, Held, Halves, both, joined, content_item, where_true, if_not_null, is_null, values_in, side_by_side, places_of, held_by, value_in, companion_in, under, place_items, form_items, forms_in, is_known, is_of_role, object_kids, kids_as, fields_of, items_in, values_of, value_of, held_of}
use Rattle.fhir_contradictions.specs.Typing.{IsTypedBy, childless, an_object, children_of}
use Rattle.fhir_contradictions.proofs.Listed.{contains_none, contains_first, contains_later, contains_cases, from_filter}

-- ---- lists that are joined

-- a list that there is, and that contains an element
pub record Has {A : Type 0} (o : Option (List A)) (y : A) : Type 0 where
  pub list : List A
  pub there : o ≡ Some list
  pub has : Contains list y

-- what two lists contain together, one of them does
in_both : {A : Type 0} (a b : Option (List A)) (all : List A) (y : A) → both a b ≡ Some all → Contains all y → Has a y ⊎ Has b y
in_both None b all y is has = absurd (none-some all is)
in_both (Some xs) None all y is has = absurd (none-some all is)
in_both {A} (Some xs) (Some ys) all y is has =
    let same : xs ++ ys ≡ all = same_Some (xs ++ ys) all is in
    elim (Contains-append_cases xs ys y (subst (λ (l : List A). Contains l y) (sym same) has)) [
      | inl here ↦ inl (record { list = xs; there = refl; has = here })
      | inr there ↦ inr (record { list = ys; there = refl; has = there })
    ]

-- an element of a list, whose own list contains another one
pub record HasFrom {X A : Type 0} (f : X → Option (List A)) (xs : List X) (y : A) : Type 0 where
  pub from : X
  pub among : Contains xs from
  pub holds : Has (f from) y

-- what all lists contain together, one of them does
in_joined : {X A : Type 0} (f : X → Option (List A)) (xs : List X) (all : List A) (y : A) → joined (map f xs) ≡ Some all → Contains all y → HasFrom f xs y
in_joined {X} {A} f [] all y is has =
    absurd (contains_none y (subst (λ (l : List A). Contains l y) (sym (same_Some [] all is)) has))
in_joined {X} {A} f (x ∷ xs) all y is has =
    elim (in_both (f x) (joined (map f xs)) all y is has) [
      | inl here ↦ record { from = x; among = contains_first x xs x refl; holds = here }
      | inr there ↦ later (in_joined f xs there.list y there.there there.has)
    ]
  where
    later : HasFrom f xs y → HasFrom f (x ∷ xs) y
    later h = record { from = h.from; among = contains_later x xs h.from h.among; holds = h.holds }

-- ---- values are those of trees

module _ (s : SchemaValue) where
  -- it is a tree's, if it is there
  abbrev pub IsOfTree : Option Value → Type 0
  IsOfTree v = (t : Option Tree) × (v ≡ option_map (value_of s) t)

  -- both are
  abbrev pub AreOfTrees : Halves → Type 0
  AreOfTrees h = IsOfTree h.0 × IsOfTree h.1

  -- what a property holds is a tree, if it is there
  abbrev HeldOfTree : Option Held → Type 0
  HeldOfTree h = (t : Option Tree) × (h ≡ option_map (held_of s) t)

  -- a tree's value, unless that is null
  not_null_of : (t : Tree) → IsOfTree (if_not_null (value_of s t))
  not_null_of t = go (is_null t)
    where
      go : (b : Bool) → IsOfTree (cond b None (Some (value_of s t)))
      go true = (None, refl)
      go false = (Some t, refl)

  -- those of the trees of an array
  all_of : (ts : Items) → AllByRecursion IsOfTree (map if_not_null (values_of s ts))
  all_of no_items = tt
  all_of (one_more t ts) = (not_null_of t, all_of ts)

  -- those of a tree, which may be an array
  items_of : (t : Tree) → AllByRecursion IsOfTree (map if_not_null (items_in s t))
  items_of null = tt
  items_of (boolean b) = tt
  items_of (number n) = tt
  items_of (string n) = tt
  items_of (array ts) = all_of ts
  items_of (object ms) = tt

  -- all of them, if they are there
  where_of : (b : Bool) (vs out : List (Option Value)) → AllByRecursion IsOfTree vs → where_true b vs ≡ Some out → AllByRecursion IsOfTree out
  where_of true vs out each is = subst (AllByRecursion IsOfTree) (same_Some vs out is) each
  where_of false vs out each is = absurd (none-some out is)

  -- one value by itself
  one_of : (v : Option Value) (out : List (Option Value)) → IsOfTree v → option_map (λ v. Some v ∷ []) v ≡ Some out → AllByRecursion IsOfTree out
  one_of None out of is = absurd (none-some out is)
  one_of (Some v) out of is = subst (AllByRecursion IsOfTree) (same_Some (Some v ∷ []) out is) (of, tt)

  -- the values in what a property holds
  values_of_trees : (r : Bool) (t : Tree) (out : List (Option Value)) → values_in r (held_of s t) ≡ Some out → AllByRecursion IsOfTree out
  values_of_trees true t out is = where_of (nat_lt 0 (length (items_in s t))) (map if_not_null (items_in s t)) out (items_of t) is
  values_of_trees false t out is = one_of (if_not_null (value_of s t)) out (not_null_of t) is

  -- values without companions
  beside_none : (vs : List (Option Value)) → AllByRecursion IsOfTree vs → AllByRecursion AreOfTrees (map (λ p. (p, None)) vs)
  beside_none [] each = tt
  beside_none (v ∷ vs) each = ((each.0, (None, refl)), beside_none vs each.1)

  -- companions without values
  none_beside : (vs : List (Option Value)) → AllByRecursion IsOfTree vs → AllByRecursion AreOfTrees (map (λ p. (None, p)) vs)
  none_beside [] each = tt
  none_beside (v ∷ vs) each = (((None, refl), each.0), none_beside vs each.1)

  -- values and companions, place by place
  zipped : (vs cs : List (Option Value)) → AllByRecursion IsOfTree vs → AllByRecursion IsOfTree cs → AllByRecursion AreOfTrees (zip vs cs)
  zipped [] cs each other = tt
  zipped (v ∷ vs) [] each other = tt
  zipped (v ∷ vs) (c ∷ cs) each other = ((each.0, other.0), zipped vs cs each.1 other.1)

  -- values that are put beside nothing, if they are there
  halves_of : (h : Option Value → Halves) → ((vs : List (Option Value)) → AllByRecursion IsOfTree vs → AllByRecursion AreOfTrees (map h vs))
      → (o : Option (List (Option Value))) (hs : List Halves) → ((vs : List (Option Value)) → o ≡ Some vs → AllByRecursion IsOfTree vs)
      → option_map (map h) o ≡ Some hs → AllByRecursion AreOfTrees hs
  halves_of h step None hs each is = absurd (none-some hs is)
  halves_of h step (Some vs) hs each is = subst (AllByRecursion AreOfTrees) (same_Some (map h vs) hs is) (step vs (each vs refl))

  -- values beside companions, if they are as many
  side_of : (b : Bool) (vs cs : List (Option Value)) (hs : List Halves) → AllByRecursion IsOfTree vs → AllByRecursion IsOfTree cs
      → where_true b (zip vs cs) ≡ Some hs → AllByRecursion AreOfTrees hs
  side_of true vs cs hs each other is = subst (AllByRecursion AreOfTrees) (same_Some (zip vs cs) hs is) (zipped vs cs each other)
  side_of false vs cs hs each other is = absurd (none-some hs is)

  -- values beside companions, if both are there
  pairs_of : (o p : Option (List (Option Value))) (hs : List Halves) → ((vs : List (Option Value)) → o ≡ Some vs → AllByRecursion IsOfTree vs)
      → ((vs : List (Option Value)) → p ≡ Some vs → AllByRecursion IsOfTree vs)
      → option_and_then (λ vs. option_and_then (side_by_side vs) p) o ≡ Some hs → AllByRecursion AreOfTrees hs
  pairs_of None p hs each other is = absurd (none-some hs is)
  pairs_of (Some vs) None hs each other is = absurd (none-some hs is)
  pairs_of (Some vs) (Some cs) hs each other is = side_of (length vs == length cs) vs cs hs (each vs refl) (other cs refl) is

  -- what stands at each place of a property and of its companion
  places_of_trees : (r : Bool) (t u : Option Tree) (hs : List Halves) → places_of r (option_map (held_of s) t) (option_map (held_of s) u) ≡ Some hs
      → AllByRecursion AreOfTrees hs
  places_of_trees r None None hs is = subst (AllByRecursion AreOfTrees) (same_Some [] hs is) tt
  places_of_trees r (Some t) None hs is =
      halves_of (λ p. (p, None)) beside_none (values_in r (held_of s t)) hs (values_of_trees r t) is
  places_of_trees r None (Some u) hs is =
      halves_of (λ p. (None, p)) none_beside (values_in r (held_of s u)) hs (values_of_trees r u) is
  places_of_trees r (Some t) (Some u) hs is =
      pairs_of (values_in r (held_of s t)) (values_in r (held_of s u)) hs (values_of_trees r t) (values_of_trees r u) is

  -- what the property of a name holds
  held_of_tree : (name : Text) (ms : Members) → HeldOfTree (held_by name (fields_of s ms))
  held_of_tree name no_members = (None, refl)
  held_of_tree name (member n t ms) = go (bytes_eq name n) (held_of_tree name ms)
    where
      go : (b : Bool) → HeldOfTree (held_by name (fields_of s ms)) → HeldOfTree (option_map (λ x. x.held) (cond b (Some (record { name = n; held = held_of s t })) (find (λ x. bytes_eq name x.name) (fields_of s ms))))
      go true more = (Some t, refl)
      go false more = more

  -- what the companion of a form's property holds
  companion_of_tree : (f : Form) (ms : Members) → HeldOfTree (companion_in f (fields_of s ms))
  companion_of_tree f ms = go (is_primitive f.content)
    where
      go : (b : Bool) → HeldOfTree (cond b (held_by (companion_name f) (fields_of s ms)) None)
      go true = held_of_tree (companion_name f) ms
      go false = (None, refl)

  -- ---- a child is the item of a form

  -- it is the item of a value and a companion, each a tree's if it is there, in a property of one of the forms
  pub record IsOfForm (fs : List Form) (k : Named) : Type 0 where
    pub form : Form
    pub among : Contains fs form
    pub name : form.name ≡ k.0
    pub value : Option Tree
    pub companion : Option Tree
    pub is : content_item s form.content form.code (option_map (value_of s) value) (option_map (value_of s) companion) ≡ Some k.1

  -- an item at a place is the item of that form
  under_name : (f : Form) (x : Option Item) (k : Named) → Has (under f x) k → (f.name ≡ k.0) × (x ≡ Some k.1)
  under_name f None k h = absurd (none-some h.list h.there)
  under_name f (Some x) k h =
      elim (contains_cases (f.name, x) [] k (subst (λ (l : List Named). Contains l k) (sym (same_Some ((f.name, x) ∷ []) h.list h.there)) h.has)) [
        | inl here ↦ (ap (λ (j : Named). j.0) here, ap (λ (j : Named). Some j.1) here)
        | inr there ↦ absurd (contains_none k there)
      ]

  -- what holds of all places holds of each
  all_at_place : (hs : List Halves) (h : Halves) → AllByRecursion AreOfTrees hs → Contains hs h → AreOfTrees h
  all_at_place [] h each has = absurd (contains_none h has)
  all_at_place (x ∷ hs) h each has =
      elim (contains_cases x hs h has) [
        | inl here ↦ subst AreOfTrees here each.0
        | inr there ↦ all_at_place hs h each.1 there
      ]

  -- an item of what stands at places of a property is of its form
  at_places : (fs : List Form) (f : Form) (hs : List Halves) (k : Named) → Contains fs f → AllByRecursion AreOfTrees hs
      → Has (joined (map (place_items s f) hs)) k → IsOfForm fs k
  at_places fs f hs k among each h = made (in_joined (place_items s f) hs h.list k h.there h.has)
    where
      made : HasFrom (place_items s f) hs k → IsOfForm fs k
      made g =
          let halves = g.from in
          let of = all_at_place hs halves each g.among in
          let named = under_name f (content_item s f.content f.code halves.0 halves.1) k g.holds in
          record {
            form = f;
            among = among;
            name = named.0;
            value = of.0.0;
            companion = of.1.0;
            is = subst (λ (v : Option Value). content_item s f.content f.code v (option_map (value_of s) of.1.0) ≡ Some k.1) of.0.1
                (subst (λ (c : Option Value). content_item s f.content f.code halves.0 c ≡ Some k.1) of.1.1 named.1);
          }

  -- the same, if the places are there
  at_all_places : (fs : List Form) (f : Form) (o : Option (List Halves)) (k : Named) → Contains fs f
      → ((hs : List Halves) → o ≡ Some hs → AllByRecursion AreOfTrees hs)
      → Has (option_and_then (λ hs. joined (map (place_items s f) hs)) o) k → IsOfForm fs k
  at_all_places fs f None k among each h = absurd (none-some h.list h.there)
  at_all_places fs f (Some hs) k among each h = at_places fs f hs k among (each hs refl) h

  -- an item of one of the forms is of that form
  of_one_form : (fs : List Form) (f : Form) (ms : Members) (k : Named) → Contains fs f → Has (form_items s (fields_of s ms) f) k → IsOfForm fs k
  of_one_form fs f ms k among h =
      let v = held_of_tree f.property ms in
      let c = companion_of_tree f ms in
      at_all_places fs f (places_of f.repeats (value_in f (fields_of s ms)) (companion_in f (fields_of s ms))) k among
      (λ hs is. places_of_trees f.repeats v.0 c.0 hs
      (subst (λ (w : Option Held). places_of f.repeats w (option_map (held_of s) c.0) ≡ Some hs) v.1
      (subst (λ (d : Option Held). places_of f.repeats (value_in f (fields_of s ms)) d ≡ Some hs) c.1 is)))
      h

  -- each child of an object is of one of its forms
  of_object : (frame : Frame) (ms : Members) (kids : List Named) (k : Named) → object_kids s frame (fields_of s ms) ≡ Some kids → Contains kids k
      → IsOfForm (forms_in s frame) k
  of_object frame ms kids k is has =
      go (nat_lt 0 (length (fields_of s ms)) && list_all (λ x. is_known s frame x.name) (fields_of s ms)) is
    where
      made : HasFrom (form_items s (fields_of s ms)) (forms_in s frame) k → IsOfForm (forms_in s frame) k
      made g = of_one_form (forms_in s frame) g.from ms k g.among g.holds

      go : (b : Bool) → cond b (joined (map (form_items s (fields_of s ms)) (forms_in s frame))) None ≡ Some kids → IsOfForm (forms_in s frame) k
      go true is = made (in_joined (form_items s (fields_of s ms)) (forms_in s frame) kids k is has)
      go false is = absurd (none-some kids is)

  -- the same of a tree, which has children only if it is an object
  of_tree : (t : Tree) (frame : Frame) (kids : List Named) (k : Named) → kids_as s t frame ≡ Some kids → Contains kids k → IsOfForm (forms_in s frame) k
  of_tree null frame kids k is has = absurd (none-some kids is)
  of_tree (boolean b) frame kids k is has = absurd (none-some kids is)
  of_tree (number n) frame kids k is has = absurd (none-some kids is)
  of_tree (string t) frame kids k is has = absurd (none-some kids is)
  of_tree (array ts) frame kids k is has = absurd (none-some kids is)
  of_tree (object ms) frame kids k is has = of_object frame ms kids k is has

  -- the children that are made of a list are that list
  children_in : (ks : List Named) → children_of (kids_in ks) ≡ ks
  children_in [] = refl
  children_in (k ∷ ks) = ap (λ (l : List Named). k ∷ l) (children_in ks)

  -- each child of an item that a node types is of one of the node's forms
  pub child_of_form : (by : NodeRef) (x : Item) (k : Named) → IsTypedBy s by x → Contains (children_of (kids_of x)) k → IsOfForm (forms s by) k
  child_of_form by x k (childless none) has =
      absurd (contains_none k (subst (λ (ks : Kids). Contains (children_of ks) k) none has))
  child_of_form by x k (an_object typed) has =
      let frame : Frame = record { node = by; role = typed.role } in
      let among : Contains typed.kids k =
      subst (λ (l : List Named). Contains l k) (ap children_of typed.children ∙ children_in typed.kids) has in
      let of = of_tree typed.tree frame typed.kids k typed.typed among in
      record {
        form = of.form;
        among = from_filter (is_of_role typed.role) (forms s by) of.form of.among;
        name = of.name;
        value = of.value;
        companion = of.companion;
        is = of.is;
      }
