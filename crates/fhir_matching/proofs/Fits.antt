-- Fitting is reflexive and transitive; of equal trees the second fits the first.
use Rattle.std.proofs.Common.{◌≡◌, Bool, true, false, ◌⊎◌, inl, inr, refl, sym, ap, ◌∙◌}
use Rattle.std.proofs.lemmas.Bool.{and_parts, and_from, or_cases, or_left, or_right, false≢true}
use Rattle.fhir_json.specs.Tree.{Text, Tree, null, boolean, number, string, array, object, Items, no_items, item, Members, no_members, member, names}
use Rattle.fhir_json.specs.Sound.{sound}
use Rattle.fhir_matching.specs.Equality.{equal, items_equal, members_within, has_passing, are_among}
use Rattle.fhir_matching.specs.Fitting.{fits, pattern_test, some_passing, each_fitted, has_fitting}
use Rattle.fhir_matching.proofs.Members.{text_is, StandsIn, passing-stands, stands-passing, members_within-at}
use Rattle.fhir_matching.proofs.Laws.{equal-refl, equal-sym, flag_is}

-- ---- items

-- a value stands in an array
abbrev pub IsIn : Tree → Items → Type 0
IsIn t no_items = ⊥
IsIn t (item u us) = (t ≡ u) ⊎ IsIn t us

passing-is_in : (ts : Items) (p : Tree → Bool) → some_passing p ts ≡ true → (t : Tree) × IsIn t ts × (p t ≡ true)
passing-is_in no_items p h = absurd (false≢true h)
passing-is_in (item u us) p h =
    elim (or_cases (p u) (some_passing p us) h) [
      | inl k ↦ (u, inl refl, k)
      | inr k ↦ let w = passing-is_in us p k in (w.0, inr w.1, w.2)
    ]

is_in-passing : (ts : Items) (p : Tree → Bool) (t : Tree) → IsIn t ts → p t ≡ true → some_passing p ts ≡ true
is_in-passing no_items p t i h = absurd i
is_in-passing (item u us) p t i h =
    elim i [
      | inl e ↦ or_left _ _ (ap p (sym e) ∙ h)
      | inr j ↦ or_right (p u) _ (is_in-passing us p t j h)
    ]

-- each pattern has its item
each_fitted-from : (ps ts : Items) → ((p : Tree) → IsIn p ps → some_passing (pattern_test p) ts ≡ true) → each_fitted ps ts ≡ true
each_fitted-from no_items ts h = refl
each_fitted-from (item p ps) ts h = and_from _ _ (h p (inl refl)) (each_fitted-from ps ts (λ q i. h q (inr i)))

each_fitted-at : (ps ts : Items) → each_fitted ps ts ≡ true → (p : Tree) → IsIn p ps → some_passing (pattern_test p) ts ≡ true
each_fitted-at no_items ts h p i = absurd i
each_fitted-at (item q ps) ts h p i =
    let both = and_parts (some_passing (pattern_test q) ts) (each_fitted ps ts) h in
    elim i [
      | inl e ↦ ap (λ (r : Tree). some_passing (pattern_test r) ts) e ∙ both.0
      | inr j ↦ each_fitted-at ps ts both.1 p j
    ]

-- ---- members

has_fitting-from : (ps ms : Members) → ((x : Text) (p : Tree) → StandsIn x p ps → has_passing x (pattern_test p) ms ≡ true) → has_fitting ps ms ≡ true
has_fitting-from no_members ms h = refl
has_fitting-from (member n p ps) ms h =
    and_from _ _ (h n p (inl (refl, refl))) (has_fitting-from ps ms (λ x q i. h x q (inr i)))

has_fitting-at : (ps ms : Members) → has_fitting ps ms ≡ true → (x : Text) (p : Tree) → StandsIn x p ps → has_passing x (pattern_test p) ms ≡ true
has_fitting-at no_members ms h x p i = absurd i
has_fitting-at (member n q ps) ms h x p i =
    let both = and_parts (has_passing n (pattern_test q) ms) (has_fitting ps ms) h in
    elim i [
      | inl e ↦ ap (λ (z : Text). has_passing z (pattern_test p) ms) e.0 ∙ ap (λ (v : Tree). has_passing n (pattern_test v) ms) e.1 ∙ both.0
      | inr j ↦ has_fitting-at ps ms both.1 x p j
    ]

-- ---- the second of two equal trees fits the first

mutual
  pub equal-fits : (t u : Tree) → equal t u ≡ true → fits u t ≡ true
  equal-fits null u h = h
  equal-fits (boolean b) u h = h
  equal-fits (number n) u h = h
  equal-fits (string s) u h = h
  equal-fits (array ts) (array us) h = each_fitted-from ts us (λ p i. items-equal-fits ts us h p i)
  equal-fits (array ts) _ h = absurd (false≢true h)
  equal-fits (object ms) (object ns) h =
      let both = and_parts (members_within ms ns) (are_among (names ns) (names ms)) h in
      has_fitting-from ms ns (λ x p i.
      let w = passing-stands ns x (equal p) (members_within-at ms ns both.0 x p i) in
      stands-passing ns x (pattern_test p) w.0 w.1 (member-equal-fits ms x p i w.0 w.2))
  equal-fits (object ms) _ h = absurd (false≢true h)

  items-equal-fits : (ts us : Items) → items_equal ts us ≡ true → (p : Tree) → IsIn p ts → some_passing (pattern_test p) us ≡ true
  items-equal-fits no_items us h p i = absurd i
  items-equal-fits (item t ts) no_items h p i = absurd (false≢true h)
  items-equal-fits (item t ts) (item u us) h p i =
      let both = and_parts (equal t u) (items_equal ts us) h in
      elim i [
        | inl e ↦ or_left _ _ (ap (λ (q : Tree). pattern_test q u) e ∙ equal-fits t u both.0)
        | inr j ↦ or_right (pattern_test p u) _ (items-equal-fits ts us both.1 p j)
      ]

  member-equal-fits : (ms : Members) (x : Text) (p : Tree) → StandsIn x p ms → (u : Tree) → equal p u ≡ true → fits u p ≡ true
  member-equal-fits no_members x p i u h = absurd i
  member-equal-fits (member n q ms) x p i u h =
      elim i [
        | inl e ↦ ap (λ (z : Tree). pattern_test z u) e.1 ∙ equal-fits q u (ap (λ (z : Tree). equal z u) (sym e.1) ∙ h)
        | inr j ↦ member-equal-fits ms x p j u h
      ]

pub fits-refl : (t : Tree) → fits t t ≡ true
fits-refl t = equal-fits t t (equal-refl t)

-- ---- transitive

-- what fits the second of two trees, of which the second fits the first, fits the first
mutual
  through : (p u v : Tree) → fits u p ≡ true → fits v u ≡ true → fits v p ≡ true
  through null null v h k = k
  through null _ v h k = absurd (false≢true h)
  through (boolean a) (boolean b) v h k = ap (λ (c : Bool). fits v (boolean c)) (flag_is a b h) ∙ k
  through (boolean a) _ v h k = absurd (false≢true h)
  through (number m) (number n) v h k = ap (λ (c : Text). fits v (number c)) (text_is m n h) ∙ k
  through (number m) _ v h k = absurd (false≢true h)
  through (string m) (string n) v h k = ap (λ (c : Text). fits v (string c)) (text_is m n h) ∙ k
  through (string m) _ v h k = absurd (false≢true h)
  through (array ps) (array us) (array vs) h k =
      each_fitted-from ps vs (λ p i.
      let b = passing-is_in us (pattern_test p) (each_fitted-at ps us h p i) in
      let c = passing-is_in vs (pattern_test b.0) (each_fitted-at us vs k b.0 b.1) in
      is_in-passing vs (pattern_test p) c.0 c.1 (item-through ps p i b.0 c.0 b.2 c.2))
  through (array ps) (array us) _ h k = absurd (false≢true k)
  through (array ps) _ v h k = absurd (false≢true h)
  through (object ps) (object ms) (object ns) h k =
      has_fitting-from ps ns (λ x p i.
      let b = passing-stands ms x (pattern_test p) (has_fitting-at ps ms h x p i) in
      let c = passing-stands ns x (pattern_test b.0) (has_fitting-at ms ns k x b.0 b.1) in
      stands-passing ns x (pattern_test p) c.0 c.1 (member-through ps x p i b.0 c.0 b.2 c.2))
  through (object ps) (object ms) _ h k = absurd (false≢true k)
  through (object ps) _ v h k = absurd (false≢true h)

  item-through : (ps : Items) (p : Tree) → IsIn p ps → (u v : Tree) → fits u p ≡ true → fits v u ≡ true → fits v p ≡ true
  item-through no_items p i u v h k = absurd i
  item-through (item q ps) p i u v h k =
      elim i [
        | inl e ↦ ap (fits v) e ∙ through q u v (ap (fits u) (sym e) ∙ h) k
        | inr j ↦ item-through ps p j u v h k
      ]

  member-through : (ps : Members) (x : Text) (p : Tree) → StandsIn x p ps → (u v : Tree) → fits u p ≡ true → fits v u ≡ true → fits v p ≡ true
  member-through no_members x p i u v h k = absurd i
  member-through (member n q ps) x p i u v h k =
      elim i [
        | inl e ↦ ap (fits v) e.1 ∙ through q u v (ap (fits u) (sym e.1) ∙ h) k
        | inr j ↦ member-through ps x p j u v h k
      ]

pub fits-trans : (t u v : Tree) → fits t u ≡ true → fits u v ≡ true → fits t v ≡ true
fits-trans t u v h k = through v u t k h

-- ---- equal trees

both_ways : (a b : Bool) → (a ≡ true → b ≡ true) → (b ≡ true → a ≡ true) → a ≡ b
both_ways true b f g = sym (f refl)
both_ways false true f g = g refl
both_ways false false f g = refl

pub equal-values : (t u p : Tree) → sound u ≡ true → equal t u ≡ true → fits t p ≡ fits u p
equal-values t u p s h =
    both_ways (fits t p) (fits u p)
    (λ k. fits-trans u t p (equal-fits t u h) k)
    (λ k. fits-trans t u p (equal-fits u t (equal-sym t u s h)) k)

pub equal-patterns : (v t u : Tree) → sound u ≡ true → equal t u ≡ true → fits v t ≡ fits v u
equal-patterns v t u s h =
    both_ways (fits v t) (fits v u)
    (λ k. fits-trans v t u k (equal-fits u t (equal-sym t u s h)))
    (λ k. fits-trans v u t k (equal-fits t u h))
