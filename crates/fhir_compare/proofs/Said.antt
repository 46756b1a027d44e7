-- All that is said of OLD's profiles, put together, is a comparison.
use Rattle.std.proofs.Common.{◌≡◌, ℕ, zero, suc, ◌+◌, Bool, true, false, List, [], ◌∷◌, ◌++◌, Option, None, Some, IfSome, drop, if◌then◌else◌}
use Rattle.std.proofs.Common.{refl, ap, sym, ◌∙◌, subst, arith}
use Rattle.std.specs.Option.{option_map, option_and_then}
use Rattle.std.specs.List.{slice_get}
use Rattle.fhir_json.specs.Tree.{Text, Tree}
use Rattle.fhir_package.specs.Definitions.{ByUrl, Definitions}
use Rattle.fhir_schema.specs.Schemas.{schema_of, is_usable, unusable}
use Rattle.fhir_alike.specs.Profiles.{is_profile}
use Rattle.fhir_alike.specs.Spreading.{is_marked, told_at, IsSpread}
use Rattle.fhir_beside.specs.Standing.{standing}
use Rattle.fhir_compare.specs.Comparing.{ShownValue, Direction, new_in_old, old_in_new, IsShown, way_of, ways_with, VerdictValue, both, unusable_in, only_in_old, Said, edges, IsDerivedAt, FailsAt, Holds, IsBlamed, IsWay, IsVerdict, SaysFirst, AreOld, IsComparison, all_new}
use Rattle.fhir_compare.specs.Owns.{OwnValue, own_both, own_unusable, own_only_in_old, own_other, IsOwnOf, IsOwnBy, IsOwnAt, AreOwnsFrom, AreOwns, fails, all_fail, blamed_url, way_with, verdict_by, said_with, said_by, all_said_by}
use Rattle.fhir_compare.proofs.Owned.{usable_both, marked_own, own_there, mark_there, own_by, own_of, fails_profile, derived_from, not_derived}

module _ (old made : Definitions) (mark : Text) (owns : List OwnValue) (are : AreOwns old made mark owns) (way : Direction)
    (told : List (Option ℕ)) (spread : IsSpread (edges old) (all_fail way owns) told) where
  -- what is said of the definition at a place
  OwnThere : ℕ → Type 0
  OwnThere place = (own : OwnValue) × (is_marked (all_fail way owns) place ≡ fails way own) × IsOwnAt old made mark place own

  there : (place : ℕ) (e : Text × Tree) → slice_get old.structure_definitions place ≡ Some e → OwnThere place
  unfolding OwnThere
  there place e h =
      let r = own_there old made mark 0 old.structure_definitions owns are place e h in
      let same : 0 + place ≡ place = omega arith in
      (r.0, marked_own way owns place r.0 r.1, subst (λ p. IsOwnAt old made mark p r.0) same r.2)

  -- a marked place fails
  marked_fails : (place : ℕ) (e : Text × Tree) → slice_get old.structure_definitions place ≡ Some e → is_marked (all_fail way owns) place ≡ true
      → FailsAt old made mark way place
  unfolding OwnThere
  marked_fails place e h m =
      let own = there place e h in
      let f : fails way own.0 ≡ true = sym own.1 ∙ m in
      let p : is_profile e.1 ≡ true = fails_profile old made mark way place e own.0 h own.2 f in
      (e, h, p, not_derived old made mark way place e own.0 (own_of old made mark place e own.0 h p own.2) f)

  -- one that isn't is derived, if it is a profile
  unmarked_derived : (place : ℕ) (e : Text × Tree) → slice_get old.structure_definitions place ≡ Some e → is_profile e.1 ≡ true
      → is_marked (all_fail way owns) place ≡ false → IsDerivedAt old made mark way place e
  unfolding OwnThere
  unmarked_derived place e h p m =
      let own = there place e h in
      derived_from old made mark way place e own.0 (own_of old made mark place e own.0 h p own.2) (sym own.1 ∙ m)

  url_told : (place at : ℕ) (e : Text × Tree) → told_at told place ≡ Some at → slice_get old.structure_definitions at ≡ Some e
      → blamed_url old told place ≡ Some e.0
  url_told place at e h there =
      ap (λ o. option_and_then (λ p. option_map (λ d. d.0) (slice_get old.structure_definitions p)) o) h ∙ ap (option_map (λ d. d.0)) there

  url_untold : (place : ℕ) → told_at told place ≡ None → blamed_url old told place ≡ None
  url_untold place h = ap (λ o. option_and_then (λ p. option_map (λ d. d.0) (slice_get old.structure_definitions p)) o) h

  -- what is told of a place is blamed
  pub blamed_is : (place : ℕ) → IfSome (blamed_url old told place) (IsBlamed old made mark way place)
  blamed_is place = go (told_at told place) refl
    where
      go : (o : Option ℕ) → told_at told place ≡ o → IfSome (blamed_url old told place) (IsBlamed old made mark way place)
      go None h = subst (λ b. IfSome b (IsBlamed old made mark way place)) (sym (url_untold place h)) tt
      go (Some at) h =
          let found = spread.found place at h in
          let e = mark_there old made mark way 0 old.structure_definitions owns are at found.1 in
          subst (λ b. IfSome b (IsBlamed old made mark way place)) (sym (url_told place at e.0 h e.1))
          (at, e.0, e.1, refl, found.0, marked_fails at e.0 e.1 found.1)

  pub holds_is : (place : ℕ) → blamed_url old told place ≡ None → Holds old made mark way place
  holds_is place b other e r h p = unmarked_derived other e h (search (p)) (spread.none place other (go (told_at told place) refl) r)
    where
      go : (o : Option ℕ) → told_at told place ≡ o → told_at told place ≡ None
      go None h = h
      go (Some at) h =
          let found = spread.found place at h in
          let e = mark_there old made mark way 0 old.structure_definitions owns are at found.1 in
          let wrong = url_told place at e.0 h e.1 in
          cc

  pub own_blamed : (place : ℕ) (e : Text × Tree) → slice_get old.structure_definitions place ≡ Some e → is_profile e.1 ≡ true
      → (IsDerivedAt old made mark way place e → ⊥) → blamed_url old told place ≡ Some e.0
  own_blamed place e h p n = go (is_marked (all_fail way owns) place) refl
    where
      go : (b : Bool) → is_marked (all_fail way owns) place ≡ b → blamed_url old told place ≡ Some e.0
      go true m = url_told place place e (spread.own place m) h
      go false m = absurd (n (unmarked_derived place e h p m))

  pub way_is : (place : ℕ) (e : Text × Tree) (shown : ShownValue) → slice_get old.structure_definitions place ≡ Some e → is_profile e.1 ≡ true
      → IsShown way (schema_of old) (schema_of made) e.0 (mark ++ e.0) shown
      → IsWay old made mark way place e (way_with shown (blamed_url old told place))
  way_is place e shown h p is = record {
    is_shown = is;
    blamed = blamed_is place;
    own = own_blamed place e h p;
    holds = holds_is place;
  }

-- ---- a list behind a place

at_drop : {A : Type 0} (xs : List A) (k : ℕ) (x : A) (rest : List A) → drop k xs ≡ x ∷ rest → slice_get xs k ≡ Some x
at_drop [] zero x rest h = cc
at_drop [] (suc k) x rest h = cc
at_drop (y ∷ ys) zero x rest h = cc
at_drop (y ∷ ys) (suc k) x rest h = at_drop ys k x rest h

next_drop : {A : Type 0} (xs : List A) (k : ℕ) (x : A) (rest : List A) → drop k xs ≡ x ∷ rest → drop (suc k) xs ≡ rest
next_drop [] zero x rest h = cc
next_drop [] (suc k) x rest h = cc
next_drop (y ∷ ys) zero x rest h = cc
next_drop (y ∷ ys) (suc k) x rest h = next_drop ys k x rest h

-- ---- all of it

module _ (old made : Definitions) (mark : Text) (owns : List OwnValue) (are : AreOwns old made mark owns) (in_old in_new : List (Option ℕ))
    (of_old : IsSpread (edges old) (all_fail new_in_old owns) in_old) (of_new : IsSpread (edges old) (all_fail old_in_new owns) in_new) where
  ways_are : (place : ℕ) (e : Text × Tree) (n o : ShownValue) (lost : Option Text) → slice_get old.structure_definitions place ≡ Some e
      → is_profile e.1 ≡ true → IsShown new_in_old (schema_of old) (schema_of made) e.0 (mark ++ e.0) n
      → IsShown old_in_new (schema_of old) (schema_of made) e.0 (mark ++ e.0) o → (way : Direction)
      → IsWay old made mark way place e (way_of (ways_with (way_with n (blamed_url old in_old place)) (way_with o (blamed_url old in_new place)) lost) way)
  ways_are place e n o lost h p a b new_in_old = way_is old made mark owns are new_in_old in_old of_old place e n h p a
  ways_are place e n o lost h p a b old_in_new = way_is old made mark owns are old_in_new in_new of_new place e o h p b

  verdict_is : (place : ℕ) (e : Text × Tree) (own : OwnValue) → slice_get old.structure_definitions place ≡ Some e → is_profile e.1 ≡ true
      → IsOwnOf old made mark (schema_of old) (schema_of made) place (standing place e) own
      → (v : VerdictValue) × (verdict_by old in_old in_new place own ≡ Some v) × IsVerdict old made mark place e v
  verdict_is place e (own_both n o l) h p a = (
    both (ways_with (way_with n (blamed_url old in_old place)) (way_with o (blamed_url old in_new place)) l),
    refl,
    (
      a.0,
      usable_both (is_usable (schema_of old) place) (unusable (schema_of made) e.0) a.1 a.2,
      a.3.0,
      ways_are place e n o l h p a.3.1 a.3.2,
    ),
  )
  verdict_is place e (own_unusable a b) h p is = (unusable_in a b, refl, is)
  verdict_is place e own_only_in_old h p a = (only_in_old, refl, a)
  verdict_is place e own_other h p a = absurd a

  by_none : (place : ℕ) (e : Text × Tree) (own : OwnValue) (b : Bool) → b ≡ false
      → IsOwnBy old made mark place (if b then Some (standing place e) else None) own → own ≡ own_other
  by_none place e own true p a = cc
  by_none place e own false p a = a

  said_at : (place : ℕ) (e : Text × Tree) (own : OwnValue) → slice_get old.structure_definitions place ≡ Some e
      → said_by old in_old in_new place own ≡ said_with (Some e) (verdict_by old in_old in_new place own)
  said_at place e own h = ap (λ o. said_with o (verdict_by old in_old in_new place own)) h

  said_first : (place : ℕ) (e : Text × Tree) (own : OwnValue) (rest : List Said) (Rest : List Said → Type 0)
      → slice_get old.structure_definitions place ≡ Some e → IsOwnAt old made mark place own → Rest rest
      → SaysFirst old made mark (is_profile e.1) place e Rest (said_by old in_old in_new place own ++ rest)
  said_first place e own rest Rest h a r = go (is_profile e.1) refl
    where
      go : (b : Bool) → is_profile e.1 ≡ b → SaysFirst old made mark b place e Rest (said_by old in_old in_new place own ++ rest)
      go true p =
          let v = verdict_is place e own h p (own_of old made mark place e own h p a) in
          (v.0, rest, ap (λ s. s ++ rest) (said_at place e own h ∙ ap (said_with (Some e)) v.1), v.2, r)
      go false p =
          let other : own ≡ own_other = by_none place e own (is_profile e.1) p (own_by old made mark place e own h a) in
          let nothing : said_by old in_old in_new place own ≡ [] =
          said_at place e own h ∙ ap (λ o. said_with (Some e) (verdict_by old in_old in_new place o)) other in
          subst Rest (sym (ap (λ s. s ++ rest) nothing)) r

  all_said : (k : ℕ) (es : ByUrl) (rest : List OwnValue) → drop k old.structure_definitions ≡ es → AreOwnsFrom old made mark k es rest
      → AreOld old made mark k es (all_said_by old in_old in_new k rest)
  all_said k [] [] d a = refl
  all_said k [] (own ∷ rest) d a = absurd cc
  all_said k (e ∷ es) [] d a = absurd a
  all_said k (e ∷ es) (own ∷ rest) d a =
      said_first k e own (all_said_by old in_old in_new (suc k) rest) (AreOld old made mark (suc k) es) (at_drop old.structure_definitions k e es d)
      a.0 (all_said (suc k) es rest (next_drop old.structure_definitions k e es d) a.1)

  pub comparison_of : (said : List Said) → said ≡ all_said_by old in_old in_new 0 owns ++ all_new old made mark → IsComparison old made mark said
  comparison_of said h = (all_said_by old in_old in_new 0 owns, all_said 0 old.structure_definitions owns refl are, h)
