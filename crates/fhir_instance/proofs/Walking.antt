-- The items of the forms that an object's properties belong to, form by form: those of all forms, since a form that none
-- belongs to has no items.
use Rattle.std.proofs.Common.{◌≡◌, ℕ, zero, suc, ◌+◌, ◌<◌, ◌≤◌, Bool, true, false, List, [], ◌∷◌, map, length, drop, take, nat_eq, refl, sym, ap, ap₂, ◌∙◌, subst, Option, Some, IsTrue, arith, ◌⊎◌, inl, inr}
use Rattle.std.proofs.lemmas.Bool.Decides.{nat_tests}
use Rattle.std.specs.List.{filter, slice_get}
use Rattle.fhir_json.specs.declared.json.Member.{Member}
use Rattle.fhir_json.specs.Tree.{names}
use Rattle.fhir_json.specs.Views.{members_view}
use Rattle.fhir_forms.specs.Forms.{Form, are_apart}
use Rattle.fhir_schema.specs.Schemas.{SchemaValue, forms}
use Rattle.fhir_instance.specs.Items.{Named}
use Rattle.fhir_instance.specs.Typing.{Frame, is_of_role, forms_in, both, joined, form_items, items_from}
use Rattle.fhir_instance.specs.Found.{fields_in, held_at}
use Rattle.fhir_instance.specs.declared.spelled.Spelled.{Spelled}
use Rattle.fhir_instance.specs.declared.spelled.Places.{Places}
use Rattle.fhir_instance.specs.Spelled.{spelled_from, of_form, count_front, first_form, places_among, places_from}
use Rattle.fhir_instance.proofs.Joining.{both_first, both_both, both_nothing, form_held}
use Rattle.fhir_instance.proofs.Ordered.{Ascends, none_below, front_is, behind_front, others_behind, ascends_lower}
use Rattle.fhir_instance.proofs.Spots.{one_of_role, places_found}

itself : (k : ℕ) → nat_eq k k ≡ true
itself k = grind (arith, nat_tests)

apart_numbers : (k m : ℕ) → m < k → nat_eq k m ≡ false
apart_numbers k m h = grind (arith, nat_tests)

same_number : (k m : ℕ) → nat_eq k m ≡ true → k ≡ m
same_number k m e = grind (arith, nat_tests)

get_within : {X : Type 0} (xs : List X) (k : ℕ) (x : X) → slice_get xs k ≡ Some x → k < length xs
get_within [] k x e = absurd cc
get_within (y ∷ xs) zero x e = omega arith
get_within (y ∷ xs) (suc k) x e = let h = get_within xs k x e in omega arith

ascends_first : (es : List Spelled) → Ascends 0 es → Ascends (first_form es) es
ascends_first [] h = tt
ascends_first (e ∷ es) h = (omega arith, h.1)

pub some_counted : (es : List Spelled) → 0 < length es → 0 < count_front (first_form es) es
some_counted [] h = h
some_counted (e ∷ es) h = rw (itself e.form) (omega arith)

drop_beyond : {X : Type 0} (xs : List X) (i : ℕ) → length xs ≤ i → drop i xs ≡ []
drop_beyond [] zero h = refl
drop_beyond [] (suc i) h = refl
drop_beyond (x ∷ xs) zero h = absurd (omega arith)
drop_beyond (x ∷ xs) (suc i) h = drop_beyond xs i (omega arith)

pub drop_more : {X : Type 0} → (xs : List X) (i n m : ℕ) → i + n ≡ m → drop m xs ≡ drop n (drop i xs)
drop_more {X = X} [] i n m e = nothing m ∙ sym (ap (λ (l : List X). drop n l) (nothing i) ∙ nothing n)
  where
    nothing : (k : ℕ) → drop {A = X} k [] ≡ []
    nothing k = drop_beyond [] k (omega arith)
drop_more (x ∷ xs) zero n m e = let same : m ≡ n = omega arith in ap (λ (k : ℕ). drop k (x ∷ xs)) same
drop_more (x ∷ xs) (suc i) n zero e = absurd (omega arith)
drop_more (x ∷ xs) (suc i) n (suc m) e = drop_more xs i n m (omega arith)

-- the items where some property is there, and no items where none is
abbrev pub where_some : List Spelled → Option (List Named) → Option (List Named)
where_some [] items = Some []
where_some (e ∷ es) items = items

module _ (items : Form → Option (List Named)) where
  -- the items of the forms of a list, whose places begin at a number, that the properties belong to
  abbrev pub items_of : ℕ → List Form → List Spelled → Option (List Named)
  items_of n [] es = Some []
  items_of n (f ∷ fs) es = both (where_some (of_form n es) (items f)) (items_of (suc n) fs es)

  pub items_of_none : (n : ℕ) (fs : List Form) → items_of n fs [] ≡ Some []
  items_of_none n [] = refl
  items_of_none n (f ∷ fs) = both_first (items_of (suc n) fs []) ∙ items_of_none (suc n) fs

  -- the forms behind the one whose properties fall away
  items_later : (n k : ℕ) (fs : List Form) (es rest : List Spelled) → k < n → ((j : ℕ) → nat_eq j k ≡ false → of_form j rest ≡ of_form j es)
      → items_of n fs es ≡ items_of n fs rest
  items_later n k [] es rest h same = refl
  items_later n k (f ∷ fs) es rest h same =
      ap₂ (λ (l : List Spelled) (b : Option (List Named)). both (where_some l (items f)) b) (sym (same n (apart_numbers n k h)))
      (items_later (suc n) k fs es rest (omega arith) same)

  -- the form whose properties fall away
  items_front : (n d k : ℕ) (fs : List Form) (f : Form) (e : Spelled) (es rest front : List Spelled) → n + d ≡ k → slice_get fs d ≡ Some f
      → of_form k es ≡ e ∷ front → of_form k rest ≡ []
      → ((j : ℕ) → j < k → of_form j es ≡ []) → ((j : ℕ) → j < k → of_form j rest ≡ []) → ((j : ℕ) → nat_eq j k ≡ false → of_form j rest ≡ of_form j es)
      → items_of n fs es ≡ both (items f) (items_of n fs rest)
  items_front n d k [] f e es rest front sum at some none below low same = absurd cc
  items_front n zero k (g ∷ fs) f e es rest front sum at some none below low same =
      let here : n ≡ k = omega arith in
      let g_is : g ≡ f = cc in
      let some_here : of_form n es ≡ e ∷ front = ap (λ (j : ℕ). of_form j es) here ∙ some in
      let none_here : of_form n rest ≡ [] = ap (λ (j : ℕ). of_form j rest) here ∙ none in
      rw (some_here, none_here)
      (ap₂ (λ (h : Form) (b : Option (List Named)). both (items h) b) g_is
      (items_later (suc n) k fs es rest (omega arith) same ∙ sym (both_first (items_of (suc n) fs rest))))
  items_front n (suc d) k (g ∷ fs) f e es rest front sum at some none below low same =
      let next : suc n + d ≡ k = omega arith in
      let ih = items_front (suc n) d k fs f e es rest front next at some none below low same in
      rw (below n (omega arith), low n (omega arith))
      (both_first (items_of (suc n) fs es) ∙ ih ∙ ap (λ (b : Option (List Named)). both (items f) b) (sym (both_first (items_of (suc n) fs rest))))

  -- all of them
  items_all : (p : Form → Bool) (n : ℕ) (fs : List Form) (es : List Spelled)
      → ((d : ℕ) (f : Form) → slice_get fs d ≡ Some f → p f ≡ true → of_form (n + d) es ≡ [] → items f ≡ Some [])
      → ((d : ℕ) (f : Form) → slice_get fs d ≡ Some f → p f ≡ false → of_form (n + d) es ≡ [])
      → items_of n fs es ≡ joined (map items (filter p fs))
  items_all p n [] es has hasnt = refl
  items_all p n (f ∷ fs) es has hasnt =
      go (p f) refl (of_form n es) refl (items_all p (suc n) fs es (λ d g at is none. has (suc d) g at is
      (subst (λ (k : ℕ). of_form k es ≡ []) (omega arith) none))
      (λ d g at is. subst (λ (k : ℕ). of_form k es ≡ []) (omega arith) (hasnt (suc d) g at is)))
    where
      zeroth : n + 0 ≡ n
      zeroth = omega arith

      go : (b : Bool) → p f ≡ b → (l : List Spelled) → of_form n es ≡ l → items_of (suc n) fs es ≡ joined (map items (filter p fs))
          → items_of n (f ∷ fs) es ≡ joined (map items (filter p (f ∷ fs)))
      go true is [] l_is ih =
          let none : items f ≡ Some [] = has 0 f refl is (ap (λ (k : ℕ). of_form k es) zeroth ∙ l_is) in
          rw (is, l_is, none) (ap (λ (b : Option (List Named)). both (Some []) b) ih)
      go true is (e ∷ l) l_is ih = rw (is, l_is) (ap (λ (b : Option (List Named)). both (items f) b) ih)
      go false is l l_is ih =
          let none : of_form n es ≡ [] = ap (λ (k : ℕ). of_form k es) (sym zeroth) ∙ hasnt 0 f refl is in
          rw (is, none) (both_first (items_of (suc n) fs es) ∙ ih)

-- ---- what is left of an object's properties

module _ (s : SchemaValue) (fr : Frame) (ms : List Member) where
  abbrev pub all_spelled : List Spelled
  all_spelled = spelled_from s fr 0 (names (members_view ms))

  abbrev pub rest_items : List Spelled → Option (List Named)
  rest_items es = items_of (form_items s (fields_in s ms)) 0 (forms s fr.node) es

  -- they ascend, and of each form all are left or none
  pub record IsRest (es : List Spelled) : Type 0 where
    pub ascends : Ascends 0 es
    pub whole : (j : ℕ) → (of_form j es ≡ []) ⊎ (of_form j es ≡ of_form j all_spelled)

  -- ---- the first of what is left

  head_found : (es : List Spelled) → IsRest es → 0 < length es → (e : Spelled) × (front : List Spelled) × (of_form (first_form es) all_spelled ≡ e ∷ front) ×
      (of_form (first_form es) es ≡ e ∷ front)
  head_found [] r some = absurd (omega arith)
  head_found (e ∷ es) r some = go (r.whole e.form)
    where
      here : of_form e.form (e ∷ es) ≡ e ∷ of_form e.form es
      here = rw (itself e.form) refl

      go : (of_form e.form (e ∷ es) ≡ []) ⊎ (of_form e.form (e ∷ es) ≡ of_form e.form all_spelled)
          → (x : Spelled) × (front : List Spelled) × (of_form e.form all_spelled ≡ x ∷ front) × (of_form e.form (e ∷ es) ≡ x ∷ front)
      go (inl none) = let clash : e ∷ of_form e.form es ≡ [] = sym here ∙ none in absurd cc
      go (inr same) = (e, of_form e.form es, sym same ∙ here, here)

  first_at : (es : List Spelled) → IsRest es → 0 < length es → (f : Form) × (slice_get (forms s fr.node) (first_form es) ≡ Some f) ×
      (is_of_role fr.role f ≡ true)
  first_at es r some =
      let h = head_found es r some in
      one_of_role s fr 0 (names (members_view ms)) (first_form es) h.0 h.1 h.2

  pub first_within : (es : List Spelled) → IsRest es → 0 < length es → first_form es < length (forms s fr.node)
  first_within es r some = let h = first_at es r some in get_within (forms s fr.node) (first_form es) h.0 h.1

  first_is : (es : List Spelled) (f : Form) → IsRest es → 0 < length es → slice_get (forms s fr.node) (first_form es) ≡ Some f → is_of_role fr.role f ≡ true
  first_is es f r some at =
      let h = first_at es r some in
      let both_are : Some h.0 ≡ Some f = sym h.1 ∙ at in
      let same : h.0 ≡ f = cc in
      ap (is_of_role fr.role) (sym same) ∙ h.2

  -- its form's properties are where its names are
  pub first_places : (es : List Spelled) (f : Form) (at : Places) → IsTrue (are_apart (forms s fr.node)) → IsRest es → 0 < length es
      → slice_get (forms s fr.node) (first_form es) ≡ Some f
      → at ≡ places_among (take (count_front (first_form es) es) es) → at ≡ places_from 0 (names (members_view ms)) f
  first_places es f at apart r some is at_is =
      let h = head_found es r some in
      at_is ∙ ap places_among (sym (front_is (first_form es) es (ascends_first es r.ascends)) ∙ h.3 ∙ sym h.2)
      ∙ places_found s fr (first_form es) f apart is (first_is es f r some is) 0 (names (members_view ms))

  -- its items, and those of what is behind
  pub first_items : (es : List Spelled) (f : Form) → IsRest es → 0 < length es → slice_get (forms s fr.node) (first_form es) ≡ Some f
      → rest_items es ≡ both (form_items s (fields_in s ms) f) (rest_items (drop (count_front (first_form es) es) es))
  first_items es f r some is =
      let h = head_found es r some in
      let k = first_form es in
      let behind = behind_front k es (ascends_first es r.ascends) in
      items_front (form_items s (fields_in s ms)) 0 k k (forms s fr.node) f h.0 es (drop (count_front k es) es) h.1 (omega arith) is h.3
      (none_below k (suc k) _ (omega arith) behind) (λ j low. none_below j k es low (ascends_first es r.ascends))
      (λ j low. none_below j (suc k) _ (omega arith) behind)
      (λ j other. others_behind j k es other)

  pub first_rest : (es : List Spelled) → IsRest es → 0 < length es → IsRest (drop (count_front (first_form es) es) es)
  first_rest es r some =
      let k = first_form es in
      let behind = behind_front k es (ascends_first es r.ascends) in
      record { ascends = ascends_lower 0 (suc k) _ (omega arith) behind; whole = λ j. go j behind (nat_eq j k) refl (r.whole j) }
    where
      go : (j : ℕ) → Ascends (suc (first_form es)) (drop (count_front (first_form es) es) es) → (b : Bool) → nat_eq j (first_form es) ≡ b
          → (of_form j es ≡ []) ⊎ (of_form j es ≡ of_form j all_spelled)
          → (of_form j (drop (count_front (first_form es) es) es) ≡ []) ⊎ (of_form j (drop (count_front (first_form es) es) es) ≡ of_form j all_spelled)
      go j behind true e w = inl (none_below j (suc (first_form es)) _ (let same = same_number j (first_form es) e in omega arith) behind)
      go j behind false e (inl none) = inl (others_behind j (first_form es) es e ∙ none)
      go j behind false e (inr same) = inr (others_behind j (first_form es) es e ∙ same)

  -- the items of the first are added
  pub walk_step : (es rest : List Spelled) (f : Form) (at : Places) (old new all : Option (List Named)) → IsTrue (are_apart (forms s fr.node)) → IsRest es
      → 0 < length es
      → slice_get (forms s fr.node) (first_form es) ≡ Some f → at ≡ places_among (take (count_front (first_form es) es) es)
      → rest ≡ drop (count_front (first_form es) es) es
      → new ≡ both old (items_from s f (held_at s ms at.value) (held_at s ms at.companion)) → both old (rest_items es) ≡ all → both new (rest_items rest) ≡ all
  walk_step es rest f at old new all apart r some form_is at_is rest_is new_is was =
      let held = form_held s ms f at (first_places es f at apart r some form_is at_is) in
      ap₂ (λ (a : Option (List Named)) (l : List Spelled). both a (rest_items l)) (new_is ∙ ap (λ (b : Option (List Named)). both old b) held) rest_is
      ∙ both_both old (form_items s (fields_in s ms) f) (rest_items (drop (count_front (first_form es) es) es))
      ∙ ap (λ (b : Option (List Named)). both old b) (sym (first_items es f r some form_is)) ∙ was

  pub walk_end : (es : List Spelled) (i : ℕ) (old all : Option (List Named)) → length es ≤ i → both old (rest_items (drop i es)) ≡ all → old ≡ all
  walk_end es i old all h was =
      sym (ap (λ (l : List Spelled). both old (rest_items l)) (drop_beyond es i h)
      ∙ ap (λ (b : Option (List Named)). both old b) (items_of_none (form_items s (fields_in s ms)) 0 (forms s fr.node)) ∙ both_nothing old) ∙ was

  -- ---- the whole

  pub all_rest : (es : List Spelled) → Ascends 0 es → ((k : ℕ) → of_form k es ≡ of_form k all_spelled) → IsRest es
  all_rest es up stable = record { ascends = up; whole = λ j. inr (stable j) }

  pub all_items : (es : List Spelled) → IsTrue (are_apart (forms s fr.node)) → ((k : ℕ) → of_form k es ≡ of_form k all_spelled)
      → rest_items es ≡ joined (map (form_items s (fields_in s ms)) (forms_in s fr))
  all_items es apart stable =
      items_all (form_items s (fields_in s ms)) (is_of_role fr.role) 0 (forms s fr.node) es
      (λ d f at is none. has d f at is (sym (stable d) ∙ ap (λ (k : ℕ). of_form k es) (sym (zero_plus d)) ∙ none))
      (λ d f at is. ap (λ (k : ℕ). of_form k es) (zero_plus d) ∙ stable d ∙ hasnt d f at is (of_form d all_spelled) refl)
    where
      zero_plus : (d : ℕ) → 0 + d ≡ d
      zero_plus d = omega arith

      has : (d : ℕ) (f : Form) → slice_get (forms s fr.node) d ≡ Some f → is_of_role fr.role f ≡ true → of_form d all_spelled ≡ []
          → form_items s (fields_in s ms) f ≡ Some []
      has d f at is none =
          let nowhere : places_among [] ≡ places_from 0 (names (members_view ms)) f =
          ap places_among (sym none) ∙ places_found s fr d f apart at is 0 (names (members_view ms)) in
          sym (form_held s ms f (places_among []) nowhere)

      hasnt : (d : ℕ) (f : Form) → slice_get (forms s fr.node) d ≡ Some f → is_of_role fr.role f ≡ false → (l : List Spelled) → of_form d all_spelled ≡ l
          → l ≡ []
      hasnt d f at is [] l_is = refl
      hasnt d f at is (e ∷ l) l_is =
          let r = one_of_role s fr 0 (names (members_view ms)) d e l l_is in
          let both_are : Some r.0 ≡ Some f = sym r.1 ∙ at in
          let same : r.0 ≡ f = cc in
          let clash : true ≡ false = sym r.2 ∙ ap (is_of_role fr.role) same ∙ is in absurd cc
