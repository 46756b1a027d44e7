-- What the tests of members say, member by member.
use Rattle.std.proofs.Common.{◌≡◌, Bool, true, not, ◌&&◌, List, [], ◌∷◌, ◌⊎◌, inl, inr, refl, sym, ap, ◌∙◌}
use Rattle.std.specs.Str.{bytes_eq, is_utf8}
use Rattle.std.proofs.lemmas.Bool.{and_parts, and_from, or_cases, or_left, or_right, not-true, false≢true}
use Rattle.std.proofs.lemmas.Slice.Eq.{bytes_eq-Decides}
use Rattle.fhir_json.specs.Tree.{Text, Tree, Members, no_members, member, names}
use Rattle.fhir_json.specs.Sound.{is_among, differ, sound, members_sound}
use Rattle.fhir_matching.specs.Equality.{equal, members_within, has_passing, are_among}

-- ---- texts

pub same_text : (x : Text) → bytes_eq x x ≡ true
same_text x = (bytes_eq-Decides x x).1 refl

pub text_is : (x y : Text) → bytes_eq x y ≡ true → x ≡ y
text_is x y = (bytes_eq-Decides x y).0

text_eq : (x y : Text) → x ≡ y → bytes_eq x y ≡ true
text_eq x y = (bytes_eq-Decides x y).1

-- each of the first is among the second
pub are_among-from : (xs ys : List Text) → ((x : Text) → is_among x xs ≡ true → is_among x ys ≡ true) → are_among xs ys ≡ true
are_among-from [] ys h = refl
are_among-from (x ∷ xs) ys h =
    and_from _ _ (h x (or_left _ _ (same_text x))) (are_among-from xs ys (λ z i. h z (or_right (bytes_eq z x) _ i)))

pub are_among-at : (xs ys : List Text) → are_among xs ys ≡ true → (x : Text) → is_among x xs ≡ true → is_among x ys ≡ true
are_among-at [] ys h x i = absurd (false≢true i)
are_among-at (y ∷ xs) ys h x i =
    let both = and_parts (is_among y ys) (are_among xs ys) h in
    elim (or_cases (bytes_eq x y) (is_among x xs) i) [
      | inl e ↦ ap (λ (z : Text). is_among z ys) (text_is x y e) ∙ both.0
      | inr j ↦ are_among-at xs ys both.1 x j
    ]

-- ---- members

-- a value stands in an object under a name
abbrev pub StandsIn : Text → Tree → Members → Type 0
StandsIn x t no_members = ⊥
StandsIn x t (member n u ms) = ((x ≡ n) × (t ≡ u)) ⊎ StandsIn x t ms

pub stands-named : (ms : Members) (x : Text) (t : Tree) → StandsIn x t ms → is_among x (names ms) ≡ true
stands-named no_members x t i = absurd i
stands-named (member n u ms) x t i =
    elim i [
      | inl e ↦ or_left _ _ (text_eq x n e.0)
      | inr j ↦ or_right (bytes_eq x n) _ (stands-named ms x t j)
    ]

pub named-stands : (ms : Members) (x : Text) → is_among x (names ms) ≡ true → (t : Tree) × StandsIn x t ms
named-stands no_members x h = absurd (false≢true h)
named-stands (member n u ms) x h =
    elim (or_cases (bytes_eq x n) (is_among x (names ms)) h) [
      | inl e ↦ (u, inl (text_is x n e, refl))
      | inr j ↦ let w = named-stands ms x j in (w.0, inr w.1)
    ]

pub passing-stands : (ms : Members) (x : Text) (p : Tree → Bool) → has_passing x p ms ≡ true → (t : Tree) × StandsIn x t ms × (p t ≡ true)
passing-stands no_members x p h = absurd (false≢true h)
passing-stands (member n u ms) x p h =
    elim (or_cases (bytes_eq x n && p u) (has_passing x p ms) h) [
      | inl k ↦ let both = and_parts (bytes_eq x n) (p u) k in (u, inl (text_is x n both.0, refl), both.1)
      | inr k ↦ let w = passing-stands ms x p k in (w.0, inr w.1, w.2)
    ]

pub stands-passing : (ms : Members) (x : Text) (p : Tree → Bool) (t : Tree) → StandsIn x t ms → p t ≡ true → has_passing x p ms ≡ true
stands-passing no_members x p t i h = absurd i
stands-passing (member n u ms) x p t i h =
    elim i [
      | inl e ↦ or_left _ _ (and_from _ _ (text_eq x n e.0) (ap p (sym e.1) ∙ h))
      | inr j ↦ or_right (bytes_eq x n && p u) _ (stands-passing ms x p t j h)
    ]

-- each member has its equal
pub members_within-from : (ms ns : Members) → ((x : Text) (t : Tree) → StandsIn x t ms → has_passing x (equal t) ns ≡ true) → members_within ms ns ≡ true
members_within-from no_members ns h = refl
members_within-from (member n u ms) ns h =
    and_from _ _ (h n u (inl (refl, refl))) (members_within-from ms ns (λ x t i. h x t (inr i)))

pub members_within-at : (ms ns : Members) → members_within ms ns ≡ true → (x : Text) (t : Tree) → StandsIn x t ms → has_passing x (equal t) ns ≡ true
members_within-at no_members ns h x t i = absurd i
members_within-at (member n u ms) ns h x t i =
    let both = and_parts (has_passing n (equal u) ns) (members_within ms ns) h in
    elim i [
      | inl e ↦ ap (λ (z : Text). has_passing z (equal t) ns) e.0 ∙ ap (λ (v : Tree). has_passing n (equal v) ns) e.1 ∙ both.0
      | inr j ↦ members_within-at ms ns both.1 x t j
    ]

-- ---- sound objects

pub stands-sound : (ms : Members) → members_sound ms ≡ true → (x : Text) (t : Tree) → StandsIn x t ms → sound t ≡ true
stands-sound no_members h x t i = absurd i
stands-sound (member n u ms) h x t i =
    let parts = and_parts (is_utf8 n && sound u) (members_sound ms) h in
    elim i [
      | inl e ↦ ap sound e.1 ∙ (and_parts (is_utf8 n) (sound u) parts.0).1
      | inr j ↦ stands-sound ms parts.1 x t j
    ]

-- where names differ, the first name is none of the others
not_again : (n x : Text) (t : Tree) (ms : Members) → not (is_among n (names ms)) ≡ true → x ≡ n → StandsIn x t ms → ⊥
not_again n x t ms h e i = false≢true (sym (not-true _ h) ∙ ap (λ (z : Text). is_among z (names ms)) (sym e) ∙ stands-named ms x t i)

-- and a name has one value
pub stands-once : (ms : Members) → differ (names ms) ≡ true → (x : Text) (t u : Tree) → StandsIn x t ms → StandsIn x u ms → t ≡ u
stands-once no_members h x t u i j = absurd i
stands-once (member n v ms) h x t u i j =
    let both = and_parts (not (is_among n (names ms))) (differ (names ms)) h in
    elim i [
      | inl e ↦ elim j [ inl f ↦ e.1 ∙ sym f.1 | inr g ↦ absurd (not_again n x u ms both.0 e.0 g) ]
      | inr k ↦ elim j [ inl f ↦ absurd (not_again n x t ms both.0 f.0 k) | inr g ↦ stands-once ms both.1 x t u k g ]
    ]
