-- Equality is reflexive and transitive, and symmetric where the names of the second differ.
use Rattle.std.proofs.Common.{◌≡◌, Bool, true, false, inl, inr, refl, sym, ap, ◌∙◌}
use Rattle.std.specs.Str.{bytes_eq}
use Rattle.std.proofs.lemmas.Bool.{and_parts, and_from, false≢true}
use Rattle.fhir_json.specs.Tree.{Text, Tree, null, boolean, number, string, array, object, Items, no_items, item, Members, no_members, member, names}
use Rattle.fhir_json.specs.Sound.{differ, sound, items_sound, members_sound}
use Rattle.fhir_matching.specs.Equality.{same_flag, equal, items_equal, members_within, are_among}
use Rattle.fhir_matching.proofs.Members.{same_text, text_is, are_among-from, are_among-at, StandsIn, stands-named, named-stands, passing-stands, stands-passing}
use Rattle.fhir_matching.proofs.Members.{members_within-from, members_within-at, stands-sound, stands-once}

same_flag-refl : (b : Bool) → same_flag b b ≡ true
same_flag-refl true = refl
same_flag-refl false = refl

pub flag_is : (a b : Bool) → same_flag a b ≡ true → a ≡ b
flag_is true b h = sym h
flag_is false true h = absurd (false≢true h)
flag_is false false h = refl

-- ---- reflexive

mutual
  pub equal-refl : (t : Tree) → equal t t ≡ true
  equal-refl null = refl
  equal-refl (boolean b) = same_flag-refl b
  equal-refl (number n) = same_text n
  equal-refl (string s) = same_text s
  equal-refl (array ts) = items-refl ts
  equal-refl (object ms) =
      and_from _ _
      (members_within-from ms ms (λ x t i. stands-passing ms x (equal t) t i (member-refl ms x t i)))
      (are_among-from (names ms) (names ms) (λ x i. i))

  items-refl : (ts : Items) → items_equal ts ts ≡ true
  items-refl no_items = refl
  items-refl (item t ts) = and_from _ _ (equal-refl t) (items-refl ts)

  member-refl : (ms : Members) (x : Text) (t : Tree) → StandsIn x t ms → equal t t ≡ true
  member-refl no_members x t i = absurd i
  member-refl (member n u ms) x t i =
      elim i [
        | inl e ↦ ap (λ (v : Tree). equal v v) e.1 ∙ equal-refl u
        | inr j ↦ member-refl ms x t j
      ]

-- ---- symmetric

mutual
  pub equal-sym : (t u : Tree) → sound u ≡ true → equal t u ≡ true → equal u t ≡ true
  equal-sym null null s h = refl
  equal-sym null _ s h = absurd (false≢true h)
  equal-sym (boolean a) (boolean b) s h = ap (λ (c : Bool). same_flag b c) (flag_is a b h) ∙ same_flag-refl b
  equal-sym (boolean a) _ s h = absurd (false≢true h)
  equal-sym (number m) (number n) s h = ap (bytes_eq n) (text_is m n h) ∙ same_text n
  equal-sym (number m) _ s h = absurd (false≢true h)
  equal-sym (string m) (string n) s h = ap (bytes_eq n) (text_is m n h) ∙ same_text n
  equal-sym (string m) _ s h = absurd (false≢true h)
  equal-sym (array ts) (array us) s h = items-sym ts us s h
  equal-sym (array ts) _ s h = absurd (false≢true h)
  equal-sym (object ms) (object ns) s h =
      let sounds = and_parts (members_sound ns) (differ (names ns)) s in
      let both = and_parts (members_within ms ns) (are_among (names ns) (names ms)) h in
      and_from _ _
      (members_within-from ns ms (λ x u i.
      let other = named-stands ms x (are_among-at (names ns) (names ms) both.1 x (stands-named ns x u i)) in
      let its = passing-stands ns x (equal other.0) (members_within-at ms ns both.0 x other.0 other.1) in
      let same : its.0 ≡ u = stands-once ns sounds.1 x its.0 u its.1 i in
      stands-passing ms x (equal u) other.0 other.1
      (member-sym ms x other.0 other.1 u (stands-sound ns sounds.0 x u i) (ap (equal other.0) (sym same) ∙ its.2))))
      (are_among-from (names ms) (names ns) (λ x i.
      let w = named-stands ms x i in
      let its = passing-stands ns x (equal w.0) (members_within-at ms ns both.0 x w.0 w.1) in
      stands-named ns x its.0 its.1))
  equal-sym (object ms) _ s h = absurd (false≢true h)

  items-sym : (ts us : Items) → items_sound us ≡ true → items_equal ts us ≡ true → items_equal us ts ≡ true
  items-sym no_items no_items s h = refl
  items-sym no_items (item u us) s h = absurd (false≢true h)
  items-sym (item t ts) no_items s h = absurd (false≢true h)
  items-sym (item t ts) (item u us) s h =
      let sounds = and_parts (sound u) (items_sound us) s in
      let both = and_parts (equal t u) (items_equal ts us) h in
      and_from _ _ (equal-sym t u sounds.0 both.0) (items-sym ts us sounds.1 both.1)

  member-sym : (ms : Members) (x : Text) (t : Tree) → StandsIn x t ms → (u : Tree) → sound u ≡ true → equal t u ≡ true → equal u t ≡ true
  member-sym no_members x t i u s h = absurd i
  member-sym (member n v ms) x t i u s h =
      elim i [
        | inl e ↦ ap (equal u) e.1 ∙ equal-sym v u s (ap (λ (w : Tree). equal w u) (sym e.1) ∙ h)
        | inr j ↦ member-sym ms x t j u s h
      ]

-- ---- transitive

mutual
  pub equal-trans : (t u v : Tree) → equal t u ≡ true → equal u v ≡ true → equal t v ≡ true
  equal-trans null null v h k = k
  equal-trans null _ v h k = absurd (false≢true h)
  equal-trans (boolean a) (boolean b) v h k = ap (λ (c : Bool). equal (boolean c) v) (flag_is a b h) ∙ k
  equal-trans (boolean a) _ v h k = absurd (false≢true h)
  equal-trans (number m) (number n) v h k = ap (λ (c : Text). equal (number c) v) (text_is m n h) ∙ k
  equal-trans (number m) _ v h k = absurd (false≢true h)
  equal-trans (string m) (string n) v h k = ap (λ (c : Text). equal (string c) v) (text_is m n h) ∙ k
  equal-trans (string m) _ v h k = absurd (false≢true h)
  equal-trans (array ts) (array us) (array vs) h k = items-trans ts us vs h k
  equal-trans (array ts) (array us) _ h k = absurd (false≢true k)
  equal-trans (array ts) _ v h k = absurd (false≢true h)
  equal-trans (object ls) (object ms) (object ns) h k =
      let first = and_parts (members_within ls ms) (are_among (names ms) (names ls)) h in
      let second = and_parts (members_within ms ns) (are_among (names ns) (names ms)) k in
      and_from _ _
      (members_within-from ls ns (λ x t i.
      let b = passing-stands ms x (equal t) (members_within-at ls ms first.0 x t i) in
      let c = passing-stands ns x (equal b.0) (members_within-at ms ns second.0 x b.0 b.1) in
      stands-passing ns x (equal t) c.0 c.1 (member-trans ls x t i b.0 c.0 b.2 c.2)))
      (are_among-from (names ns) (names ls) (λ x i.
      are_among-at (names ms) (names ls) first.1 x (are_among-at (names ns) (names ms) second.1 x i)))
  equal-trans (object ls) (object ms) _ h k = absurd (false≢true k)
  equal-trans (object ls) _ v h k = absurd (false≢true h)

  items-trans : (ts us vs : Items) → items_equal ts us ≡ true → items_equal us vs ≡ true → items_equal ts vs ≡ true
  items-trans no_items no_items vs h k = k
  items-trans no_items (item u us) vs h k = absurd (false≢true h)
  items-trans (item t ts) no_items vs h k = absurd (false≢true h)
  items-trans (item t ts) (item u us) no_items h k = absurd (false≢true k)
  items-trans (item t ts) (item u us) (item v vs) h k =
      let first = and_parts (equal t u) (items_equal ts us) h in
      let second = and_parts (equal u v) (items_equal us vs) k in
      and_from _ _ (equal-trans t u v first.0 second.0) (items-trans ts us vs first.1 second.1)

  member-trans : (ms : Members) (x : Text) (t : Tree) → StandsIn x t ms → (u v : Tree) → equal t u ≡ true → equal u v ≡ true → equal t v ≡ true
  member-trans no_members x t i u v h k = absurd i
  member-trans (member n w ms) x t i u v h k =
      elim i [
        | inl e ↦ ap (λ (z : Tree). equal z v) e.1 ∙ equal-trans w u v (ap (λ (z : Tree). equal z u) (sym e.1) ∙ h) k
        | inr j ↦ member-trans ms x t j u v h k
      ]
