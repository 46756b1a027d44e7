-- What is said of each profile of OLD by itself tells where a way is derived.
use Rattle.std.proofs.Common.{◌≡◌, ℕ, zero, suc, ◌+◌, Bool, true, false, not, ◌&&◌, ◌||◌, List, [], ◌∷◌, ◌++◌, Option, None, Some, is_none, is_some, IsTrue, IsSome}
use Rattle.std.proofs.Common.{refl, ap, subst, arith, if◌then◌else◌}
use Rattle.std.specs.Option.{option_and_then}
use Rattle.std.specs.List.{slice_get}
use Rattle.std.proofs.lemmas.Option.{none-some}
use Rattle.fhir_json.specs.Tree.{Text, Tree}
use Rattle.fhir_package.specs.Definitions.{ByUrl, Definitions}
use Rattle.fhir_schema.specs.Schemas.{SchemaValue, schema_of, is_usable, unusable}
use Rattle.fhir_derive_check.specs.Faults.{derive_refusal}
use Rattle.fhir_derive_check.specs.Reaching.{HasCertificate}
use Rattle.fhir_alike.specs.Profiles.{is_profile, has_profile}
use Rattle.fhir_alike.specs.Spreading.{is_marked}
use Rattle.fhir_beside.specs.Standing.{standing, profile_of}
use Rattle.fhir_compare.specs.Comparing.{ShownValue, narrows, fails as fails_by, cannot_be_used, is_narrowing, Direction, new_in_old, old_in_new, sides_by, NarrowsBy, IsShownBy, IsShown, lost_at, IsDerivedAt}
use Rattle.fhir_compare.specs.Owns.{OwnValue, own_both, own_unusable, own_only_in_old, own_other, IsOwnOf, IsOwnBy, IsOwnAt, AreOwnsFrom, shown_of, fails, all_fail}
use Rattle.fhir_compare.proofs.Refused.{refused_none}

-- ---- at a place

pub marked_own : (way : Direction) (owns : List OwnValue) (j : ℕ) (own : OwnValue) → slice_get owns j ≡ Some own
    → is_marked (all_fail way owns) j ≡ fails way own
marked_own way [] j own h = absurd (none-some own h)
marked_own way (o ∷ owns) zero own h = let same : o ≡ own = cc in ap (fails way) same
marked_own way (o ∷ owns) (suc j) own h = marked_own way owns j own h

-- ---- tests over plain variables

pub usable_both : {A : Type 0} (b : Bool) (u : Option A) → b ≡ true → u ≡ None → IsTrue (b && is_none u)
usable_both true None p q = refl
usable_both true (Some x) p q = cc
usable_both false u p q = cc

kept_all : {A : Type 0} (l lost : Option A) → is_some l ≡ false → l ≡ lost → IsTrue (is_none lost)
kept_all l None p q = refl
kept_all None (Some x) p q = cc
kept_all (Some y) (Some x) p q = cc

lost_some : {A : Type 0} (b : Bool) (l lost : Option A) → b ≡ true → (not b || is_some l) ≡ true → l ≡ lost → IsTrue (is_none lost) → ⊥
lost_some false l lost p f q n = cc
lost_some true None lost p f q n = cc
lost_some true (Some x) None p f q n = cc
lost_some true (Some x) (Some y) p f q n = cc

unusable_one : {A : Type 0} (b : Bool) (u : Option A) (i n : Bool) → IsTrue (i || n) → i ≡ not b → n ≡ is_some u → IsTrue (b && is_none u) → ⊥
unusable_one false u i n a p q c = cc
unusable_one true (Some x) i n a p q c = cc
unusable_one true None true n a p q c = cc
unusable_one true None false true a p q c = cc
unusable_one true None false false a p q c = cc

true_or_false : (b : Bool) → b ≡ false → IsTrue b → ⊥
true_or_false true p t = cc
true_or_false false p t = cc

module _ (old made : Definitions) (mark : Text) where
  pub own_there : (k : ℕ) (es : ByUrl) (owns : List OwnValue) → AreOwnsFrom old made mark k es owns → (j : ℕ) (e : Text × Tree)
      → slice_get es j ≡ Some e → (own : OwnValue) × (slice_get owns j ≡ Some own) × IsOwnAt old made mark (k + j) own
  own_there k [] owns a j e h = absurd (none-some e h)
  own_there k (x ∷ es) [] a j e h = absurd a
  own_there k (x ∷ es) (o ∷ owns) a zero e h =
      let here : k ≡ k + 0 = omega arith in
      (o, refl, subst (λ p. IsOwnAt old made mark p o) here a.0)
  own_there k (x ∷ es) (o ∷ owns) a (suc j) e h =
      let r = own_there (suc k) es owns a.1 j e h in
      let next : suc k + j ≡ k + suc j = omega arith in
      (r.0, r.1, subst (λ p. IsOwnAt old made mark p r.0) next r.2)

  -- what is marked stands somewhere
  pub mark_there : (way : Direction) (k : ℕ) (es : ByUrl) (owns : List OwnValue) → AreOwnsFrom old made mark k es owns → (j : ℕ)
      → is_marked (all_fail way owns) j ≡ true → (e : Text × Tree) × (slice_get es j ≡ Some e)
  mark_there way k [] [] a j h = absurd cc
  mark_there way k [] (o ∷ owns) a j h = absurd cc
  mark_there way k (x ∷ es) [] a j h = absurd a
  mark_there way k (x ∷ es) (o ∷ owns) a zero h = (x, refl)
  mark_there way k (x ∷ es) (o ∷ owns) a (suc j) h = mark_there way (suc k) es owns a.1 j h

  pub own_by : (place : ℕ) (e : Text × Tree) (own : OwnValue) → slice_get old.structure_definitions place ≡ Some e
      → IsOwnAt old made mark place own → IsOwnBy old made mark place (profile_of place e) own
  own_by place e own h a = subst (λ o. IsOwnBy old made mark place (option_and_then (profile_of place) o) own) h a

  by_profile : (place : ℕ) (e : Text × Tree) (own : OwnValue) (b : Bool) → b ≡ true
      → IsOwnBy old made mark place (if b then Some (standing place e) else None) own
      → IsOwnOf old made mark (schema_of old) (schema_of made) place (standing place e) own
  by_profile place e own true f a = a
  by_profile place e own false f a = absurd cc

  -- of a profile
  pub own_of : (place : ℕ) (e : Text × Tree) (own : OwnValue) → slice_get old.structure_definitions place ≡ Some e → is_profile e.1 ≡ true
      → IsOwnAt old made mark place own → IsOwnOf old made mark (schema_of old) (schema_of made) place (standing place e) own
  own_of place e own h p a = by_profile place e own (is_profile e.1) p (own_by place e own h a)

  by_other : (way : Direction) (place : ℕ) (e : Text × Tree) (own : OwnValue) (b : Bool) → fails way own ≡ true
      → IsOwnBy old made mark place (if b then Some (standing place e) else None) own → b ≡ true
  by_other way place e own true f a = refl
  by_other way place e own false f a = let other : fails way own ≡ false = ap (fails way) a in cc

  -- what fails is a profile
  pub fails_profile : (way : Direction) (place : ℕ) (e : Text × Tree) (own : OwnValue) → slice_get old.structure_definitions place ≡ Some e
      → IsOwnAt old made mark place own → fails way own ≡ true → is_profile e.1 ≡ true
  fails_profile way place e own h a f = by_other way place e own (is_profile e.1) f (own_by place e own h a)

  -- ---- where a way is derived

  narrowing_has : (s : SchemaValue) (sides : Text × Text) (shows : Text → Type 0) (shown : ShownValue) → IsShownBy s sides shows shown
      → is_narrowing shown ≡ true → NarrowsBy s sides
  narrowing_has s sides shows narrows is e = is
  narrowing_has s sides shows (fails_by pair rule resource) is e = absurd cc
  narrowing_has s sides shows cannot_be_used is e = absurd cc

  some_of : {A : Type 0} (o : Option A) → IsSome o → (x : A) × (o ≡ Some x)
  some_of None h = absurd cc
  some_of (Some x) h = (x, refl)

  other_has : (s : SchemaValue) (sides : Text × Text) (shows : Text → Type 0) (shown : ShownValue) → IsShownBy s sides shows shown
      → is_narrowing shown ≡ false → HasCertificate s sides.0 sides.1 → ⊥
  other_has s sides shows narrows is e = cc
  other_has s sides shows (fails_by pair rule resource) is e = is.0
  other_has s sides shows cannot_be_used is e =
      let it = some_of (derive_refusal s sides.0 sides.1) is in
      refused_none s sides.0 sides.1 it.0 it.1

  shown_by : (way : Direction) (url : Text) (n o : ShownValue) → IsShown new_in_old (schema_of old) (schema_of made) url (mark ++ url) n
      → IsShown old_in_new (schema_of old) (schema_of made) url (mark ++ url) o
      → IsShown way (schema_of old) (schema_of made) url (mark ++ url) (shown_of way n o)
  shown_by new_in_old url n o a b = a
  shown_by old_in_new url n o a b = b

  pub derived_from : (way : Direction) (place : ℕ) (e : Text × Tree) (own : OwnValue)
      → IsOwnOf old made mark (schema_of old) (schema_of made) place (standing place e) own → fails way own ≡ false
      → IsDerivedAt old made mark way place e
  derived_from way place e (own_both n o l) a f =
      let narrowing : is_narrowing (shown_of way n o) ≡ true = grind arith in
      let kept : is_some l ≡ false = grind arith in
      let shown = shown_by way e.0 n o a.3.1 a.3.2 in
      (a.0, usable_both (is_usable (schema_of old) place) (unusable (schema_of made) e.0) a.1 a.2, kept_all l (lost_at old made place e) kept a.3.0, narrowing_has (schema_of made) (sides_by way e.0 (mark ++ e.0)) _ (shown_of way n o) shown narrowing)
  derived_from way place e (own_unusable in_old in_new) a f = absurd cc
  derived_from way place e own_only_in_old a f = absurd cc
  derived_from way place e own_other a f = absurd a

  pub not_derived : (way : Direction) (place : ℕ) (e : Text × Tree) (own : OwnValue)
      → IsOwnOf old made mark (schema_of old) (schema_of made) place (standing place e) own → fails way own ≡ true
      → IsDerivedAt old made mark way place e → ⊥
  not_derived way place e (own_both n o l) a f d = go (is_narrowing (shown_of way n o)) refl
    where
      go : (b : Bool) → is_narrowing (shown_of way n o) ≡ b → ⊥
      go false is =
          other_has (schema_of made) (sides_by way e.0 (mark ++ e.0)) _ (shown_of way n o) (shown_by way e.0 n o a.3.1 a.3.2) is d.3.0
      go true is = lost_some (is_narrowing (shown_of way n o)) l (lost_at old made place e) is f a.3.0 d.2
  not_derived way place e (own_unusable in_old in_new) a f d =
      unusable_one (is_usable (schema_of old) place) (unusable (schema_of made) e.0) in_old in_new a.1 a.2 a.3 d.1
  not_derived way place e own_only_in_old a f d = true_or_false (has_profile made e.0) a d.0
  not_derived way place e own_other a f d = absurd a
