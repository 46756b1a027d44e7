-- The rounds come to rest: what they find is closed, and nothing closed is smaller.
use Rattle.std.proofs.Common.{◌≡◌, ℕ, zero, suc, ◌<◌, ◌≤◌, ◌+◌, List, [], ◌∷◌, map, length, get_or, true, false, Bool, ◌&&◌, ◌||◌, not, nat_le, refl, ap, sym}
use Rattle.std.proofs.Common.{◌∙◌, Some, None, Option, is_some, is_none, IsTrue, arith}
use Rattle.std.specs.List.{slice_get, list_all}
use Rattle.std.specs.Option.{option_map_or, option_or}
use Rattle.std.proofs.lemmas.Bool.Decides.{nat_tests}
use Rattle.std.proofs.lemmas.List.{length-map}
use Rattle.fhir_json.specs.Tree.{Text}
use Rattle.fhir_elements.specs.declared.reason.Reason.{Reason}
use Rattle.fhir_elements.specs.declared.reason.Reason.TheVariants.{UnusableType, NoTree, MissingContent}
use Rattle.fhir_elements.specs.TypeEntry.{TypeEntry}
use Rattle.fhir_elements.specs.Element.{Element}
use Rattle.fhir_elements.specs.Tests.{first_of, all_hold}
use Rattle.fhir_definition.specs.Snapshot.{is_root}
use Rattle.fhir_definition.specs.Definition.{Definition}
use Rattle.fhir_nodes.specs.Types.{type_place, is_system}
use Rattle.fhir_schema.specs.Settling.{Reasons, reason_at, is_usable_type, entry_is_usable, element_is_usable, types_are_usable, target_place, target_is_usable, targets_are_usable}
use Rattle.fhir_schema.specs.Settling.{fault_of, has_tree, lasting_tests, tests, reason_of, round, rounds, no_reasons, all_reasons}
use Rattle.fhir_schema.specs.Usability.{AllApply, IsClosed, IsWithin}
use Rattle.fhir_schema.specs.Resting.{first_reasons}
use Rattle.fhir_schema.proofs.Rounds.{rounds_fixed, one_more}
use Rattle.fhir_schema.proofs.Failing.{none_fails, hold_none, both_hold_more}

-- ---- lists of reasons

-- what the first has reasons, the second has reasons at the same places
Extends : Reasons → Reasons → Type 0
Extends xs ys = (i : ℕ) (r : Reason) → get_or xs i None ≡ Some r → get_or ys i None ≡ Some r

how_many : Reasons → ℕ
how_many [] = 0
how_many (None ∷ xs) = how_many xs
how_many (Some r ∷ xs) = suc (how_many xs)

how_many_most : (xs : Reasons) → how_many xs ≤ length xs
unfolding how_many
how_many_most [] = omega arith
how_many_most (None ∷ xs) = let h = how_many_most xs in omega arith
how_many_most (Some r ∷ xs) = let h = how_many_most xs in omega arith

extends_count : (xs ys : Reasons) → length xs ≡ length ys → Extends xs ys → how_many xs ≤ how_many ys
unfolding Extends how_many
extends_count [] ys e h = omega arith
extends_count (x ∷ xs) [] e h = absurd (omega arith)
extends_count (None ∷ xs) (None ∷ ys) e h =
    extends_count xs ys (omega arith) (λ i r. h (suc i) r)
extends_count (None ∷ xs) (Some s ∷ ys) e h =
    let rest : how_many xs ≤ how_many ys = extends_count xs ys (omega arith) (λ i r. h (suc i) r) in omega arith
extends_count (Some r ∷ xs) (None ∷ ys) e h =
    let no : None ≡ Some r = h 0 r refl in cc
extends_count (Some r ∷ xs) (Some s ∷ ys) e h =
    let rest : how_many xs ≤ how_many ys = extends_count xs ys (omega arith) (λ i r. h (suc i) r) in omega arith

-- where the second has reasons no more, it is the first
extends_same : (xs ys : Reasons) → length xs ≡ length ys → Extends xs ys → how_many ys ≤ how_many xs → ys ≡ xs
unfolding Extends how_many
extends_same [] [] e h n = refl
extends_same [] (y ∷ ys) e h n = absurd (omega arith)
extends_same (x ∷ xs) [] e h n = absurd (omega arith)
extends_same (None ∷ xs) (None ∷ ys) e h n =
    ap (λ l. None ∷ l) (extends_same xs ys (omega arith) (λ i r. h (suc i) r) n)
extends_same (None ∷ xs) (Some s ∷ ys) e h n =
    let rest : how_many xs ≤ how_many ys = extends_count xs ys (omega arith) (λ i r. h (suc i) r) in absurd (omega arith)
extends_same (Some r ∷ xs) (None ∷ ys) e h n =
    let no : None ≡ Some r = h 0 r refl in cc
extends_same (Some r ∷ xs) (Some s ∷ ys) e h n =
    let same : Some s ≡ Some r = h 0 r refl in
    let fewer : how_many ys ≤ how_many xs = omega arith in
    let rest : ys ≡ xs = extends_same xs ys (omega arith) (λ i r. h (suc i) r) fewer in cc

-- ---- what fewer findings leave usable

pub Fewer : Reasons → Reasons → Type 0
Fewer reasons next = (place : ℕ) → is_some (reason_at next place) ≡ false → is_some (reason_at reasons place) ≡ false

and_parts : (a b : Bool) → (a && b) ≡ true → (a ≡ true) × (b ≡ true)
and_parts true b e = (refl, e)
and_parts false b e = cc

and_both : (a b : Bool) → a ≡ true → b ≡ true → (a && b) ≡ true
and_both a b p q = rw (p, q) refl

or_more : (a b c : Bool) → (b ≡ true → c ≡ true) → (a || b) ≡ true → (a || c) ≡ true
or_more true b c m e = refl
or_more false b c m e = m e

not_false : (b : Bool) → not b ≡ true → b ≡ false
not_false true e = cc
not_false false e = refl

all_more : {A : Type 0} (p q : A → Bool) → ((x : A) → p x ≡ true → q x ≡ true) → (xs : List A) → list_all p xs ≡ true → list_all q xs ≡ true
all_more p q m [] e = refl
all_more p q m (x ∷ xs) e =
    let parts = and_parts (p x) (list_all p xs) e in
    and_both (q x) (list_all q xs) (m x parts.0) (all_more p q m xs parts.1)

module _ (ds : List Definition) (reasons next : Reasons) (fewer : Fewer reasons next) where
  place_more : (o : Option ℕ) → option_map_or (λ place. is_none (reason_at next place)) o false ≡ true
      → option_map_or (λ place. is_none (reason_at reasons place)) o false ≡ true
  unfolding Fewer
  place_more None e = e
  place_more (Some place) e = ap not (fewer place (not_false (is_some (reason_at next place)) e))

  type_more : (code : Text) → is_usable_type ds next code ≡ true → is_usable_type ds reasons code ≡ true
  type_more code e = place_more (type_place ds code) e

  entry_more : (x : TypeEntry) → entry_is_usable ds next x ≡ true → entry_is_usable ds reasons x ≡ true
  entry_more x e = or_more (is_system x.code) (is_usable_type ds next x.code) (is_usable_type ds reasons x.code) (type_more x.code) e

  element_more : (x : Element) → element_is_usable ds next x ≡ true → element_is_usable ds reasons x ≡ true
  element_more x e =
      or_more (is_root x) (list_all (entry_is_usable ds next) x.types) (list_all (entry_is_usable ds reasons) x.types)
      (all_more (entry_is_usable ds next) (entry_is_usable ds reasons) entry_more x.types) e

  types_more : (d : Definition) → types_are_usable ds next d ≡ true → types_are_usable ds reasons d ≡ true
  types_more d e =
      let parts = and_parts (is_usable_type ds next d.type) (list_all (element_is_usable ds next) d.elements) e in
      and_both (is_usable_type ds reasons d.type) (list_all (element_is_usable ds reasons) d.elements) (type_more d.type parts.0)
      (all_more (element_is_usable ds next) (element_is_usable ds reasons) element_more d.elements parts.1)

  target_more : (d : Definition) (x : Element) → target_is_usable ds next d x ≡ true → target_is_usable ds reasons d x ≡ true
  target_more d x e =
      or_more (is_none x.content_reference) (option_map_or (λ place. is_none (reason_at next place)) (target_place ds d x) false)
      (option_map_or (λ place. is_none (reason_at reasons place)) (target_place ds d x) false) (place_more (target_place ds d x)) e

  targets_more : (d : Definition) → targets_are_usable ds next d ≡ true → targets_are_usable ds reasons d ≡ true
  targets_more d e = all_more (target_is_usable ds next d) (target_is_usable ds reasons d) (target_more d) d.elements e

  pub tests_less : (d : Definition) → IsTrue (all_hold (tests ds next d)) → IsTrue (all_hold (tests ds reasons d))
  tests_less d h =
      both_hold_more (types_are_usable ds next d) (types_are_usable ds reasons d) UnusableType
      (targets_are_usable ds next d) (targets_are_usable ds reasons d) MissingContent
      ((has_tree ds d, NoTree) ∷ []) (lasting_tests ds d) (fault_of d) (types_more d) (targets_more d) h

module _ (ds : List Definition) (is_placed : (i : ℕ) (d : Definition) → slice_get ds i ≡ Some d → d.place ≡ i) where
  -- a round at a place
  round_at_from : (f : Definition → Option Reason) (ds : List Definition) (i : ℕ) (d : Definition) → slice_get ds i ≡ Some d → get_or (map f ds) i None ≡ f d
  round_at_from f [] i d h = cc
  round_at_from f (x ∷ xs) zero d h = let same : x ≡ d = cc in ap f same
  round_at_from f (x ∷ xs) (suc i) d h = round_at_from f xs i d h

  pub round_at : (reasons : Reasons) (d : Definition) → slice_get ds d.place ≡ Some d → reason_at (round ds reasons) d.place ≡ reason_of ds reasons d
  round_at reasons d h = round_at_from (reason_of ds reasons) ds d.place d h

  -- what has a reason has a definition
  has_definition : (xs : List Definition) (reasons : Reasons) (i : ℕ) (r : Reason) → length reasons ≡ length xs → get_or reasons i None ≡ Some r
      → (d : Definition) × (slice_get xs i ≡ Some d)
  has_definition [] [] i r e h = cc
  has_definition [] (y ∷ ys) i r e h = absurd (omega arith)
  has_definition (x ∷ xs) [] i r e h = absurd (omega arith)
  has_definition (x ∷ xs) (y ∷ ys) zero r e h = (x, refl)
  has_definition (x ∷ xs) (y ∷ ys) (suc i) r e h = has_definition xs ys i r (omega arith) h

  round_keeps : (reasons : Reasons) → length reasons ≡ length ds → Extends reasons (round ds reasons)
  unfolding Extends
  round_keeps reasons e i r h =
      let s = has_definition ds reasons i r e h in
      let d = s.0 in
      let p : d.place ≡ i = is_placed i d s.1 in
      let kept : reason_at reasons d.place ≡ Some r = ap (reason_at reasons) p ∙ h in
      let of : reason_of ds reasons d ≡ Some r = rw kept refl in
      round_at_from (reason_of ds reasons) ds i d s.1 ∙ of

  pub keeps : (reasons : Reasons) → length reasons ≡ length ds → (i : ℕ) (r : Reason) → reason_at reasons i ≡ Some r → reason_at (round ds reasons) i ≡ Some r
  unfolding Extends
  keeps reasons e i r h = round_keeps reasons e i r h

  pub length_round : (reasons : Reasons) → length (round ds reasons) ≡ length ds
  length_round reasons = length-map ds (reason_of ds reasons)

  -- ---- coming to rest

  rests : (n : ℕ) (reasons : Reasons) → length reasons ≡ length ds → length ds ≤ n + how_many reasons → round ds (rounds ds n reasons) ≡ rounds ds n reasons
  rests zero reasons e h =
      let long = length_round reasons in
      let most = how_many_most (round ds reasons) in
      extends_same reasons (round ds reasons) (e ∙ sym long) (round_keeps reasons e) (omega arith)
  rests (suc n) reasons e h = go (nat_le (how_many (round ds reasons)) (how_many reasons)) refl (λ more. rests n (round ds reasons) (length_round reasons) more)
    where
      go : (b : Bool) → nat_le (how_many (round ds reasons)) (how_many reasons) ≡ b
          → (length ds ≤ n + how_many (round ds reasons) → round ds (rounds ds n (round ds reasons)) ≡ rounds ds n (round ds reasons))
          → round ds (rounds ds n (round ds reasons)) ≡ rounds ds n (round ds reasons)
      go true is later =
          let fewer : how_many (round ds reasons) ≤ how_many reasons = grind (arith, nat_tests) in
          let same : round ds reasons ≡ reasons = extends_same reasons (round ds reasons) (e ∙ sym (length_round reasons)) (round_keeps reasons e) fewer in
          let fixed : rounds ds n (round ds reasons) ≡ reasons = ap (rounds ds n) same ∙ rounds_fixed ds n reasons same in
          ap (round ds) fixed ∙ same ∙ sym fixed
      go false is later =
          let more : how_many reasons < how_many (round ds reasons) = grind (arith, nat_tests) in
          later (omega arith)

  none_at : (xs : List Definition) (i : ℕ) → get_or (no_reasons xs) i None ≡ None
  none_at [] i = refl
  none_at (x ∷ xs) zero = refl
  none_at (x ∷ xs) (suc i) = none_at xs i

  pub none_fewer : Fewer (no_reasons ds) (all_reasons ds)
  unfolding Fewer
  none_fewer place h = ap is_some (none_at ds place)

  length_none : (xs : List Definition) → length (no_reasons xs) ≡ length xs
  length_none xs = length-map xs (λ d. None)

  length_rounds : (n : ℕ) (reasons : Reasons) → length reasons ≡ length ds → length (rounds ds n reasons) ≡ length ds
  length_rounds zero reasons e = e
  length_rounds (suc n) reasons e = length_rounds n (round ds reasons) (length_round reasons)

  pub at_rest : round ds (all_reasons ds) ≡ all_reasons ds
  at_rest = rests (length ds) (no_reasons ds) (length_none ds) (omega arith)

  pub closed : IsClosed ds (all_reasons ds)
  closed d at none =
      let of : reason_of ds (all_reasons ds) d ≡ None =
      sym (round_at (all_reasons ds) d at) ∙ ap (λ l. reason_at l d.place) at_rest ∙ none in
      none_fails (tests ds (all_reasons ds) d) (rw none at of)

  pub length_all : length (all_reasons ds) ≡ length ds
  length_all = length_rounds (length ds) (no_reasons ds) (length_none ds)

  -- ---- the first round

  first_same : (d : Definition) → first_of (tests ds (no_reasons ds) d) ≡ reason_of ds (no_reasons ds) d
  first_same d = rw (none_at ds d.place) refl

  pub first_round : first_reasons ds ≡ round ds (no_reasons ds)
  first_round = λ i. map (λ d. first_same d i) ds

  -- ---- the reasons apply to what the rounds before have found

  apply_from : (d : Definition) (r : Reason) → slice_get ds d.place ≡ Some d → (n : ℕ) → reason_at (rounds ds n (no_reasons ds)) d.place ≡ Some r
      → (m : ℕ) × (reason_at (rounds ds m (no_reasons ds)) d.place ≡ None) × (first_of (tests ds (rounds ds m (no_reasons ds)) d) ≡ Some r)
  apply_from d r at zero h = let no : None ≡ Some r = sym (none_at ds d.place) ∙ h in cc
  apply_from d r at (suc n) h = go (reason_at (rounds ds n (no_reasons ds)) d.place) refl (apply_from d r at n)
    where
      now : reason_of ds (rounds ds n (no_reasons ds)) d ≡ Some r
      now = sym (round_at (rounds ds n (no_reasons ds)) d at) ∙ ap (λ l. reason_at l d.place) (sym (one_more ds n (no_reasons ds))) ∙ h

      go : (o : Option Reason) → reason_at (rounds ds n (no_reasons ds)) d.place ≡ o
          → (reason_at (rounds ds n (no_reasons ds)) d.place ≡ Some r
          → (m : ℕ) × (reason_at (rounds ds m (no_reasons ds)) d.place ≡ None) × (first_of (tests ds (rounds ds m (no_reasons ds)) d) ≡ Some r))
          → (m : ℕ) × (reason_at (rounds ds m (no_reasons ds)) d.place ≡ None) × (first_of (tests ds (rounds ds m (no_reasons ds)) d) ≡ Some r)
      go None is before = (n, is, ap (λ o. option_or o (first_of (tests ds (rounds ds n (no_reasons ds)) d))) (sym is) ∙ now)
      go (Some x) is before =
          let same : Some x ≡ Some r = ap (λ o. option_or o (first_of (tests ds (rounds ds n (no_reasons ds)) d))) (sym is) ∙ now in
          before (is ∙ same)

  pub apply : AllApply ds (all_reasons ds)
  apply d r at h = apply_from d r at (length ds) h

  -- ---- nothing closed is smaller

  within_fewer : (reasons other : Reasons) → IsWithin reasons other → Fewer reasons other
  unfolding Fewer
  within_fewer reasons other h place none = go (is_some (reason_at reasons place)) refl
    where
      go : (b : Bool) → is_some (reason_at reasons place) ≡ b → b ≡ false
      go false is = refl
      go true is = let some : is_some (reason_at other place) ≡ true = h place is in cc

  none_from : (o : Option Reason) → is_some o ≡ false → o ≡ None
  none_from None e = refl
  none_from (Some x) e = cc

  round_within : (reasons other : Reasons) → length reasons ≡ length ds → IsClosed ds other → IsWithin reasons other → IsWithin (round ds reasons) other
  unfolding Fewer
  round_within reasons other e shut h place some = go (reason_at (round ds reasons) place) refl (reason_at other place) refl
    where
      go : (o : Option Reason) → reason_at (round ds reasons) place ≡ o → (x : Option Reason) → reason_at other place ≡ x
          → is_some (reason_at other place) ≡ true
      go None is x at = let no : is_some (reason_at (round ds reasons) place) ≡ false = ap is_some is in cc
      go (Some r) is (Some y) at = ap is_some at
      go (Some r) is None at =
          let s = has_definition ds (round ds reasons) place r (length_round reasons) is in
          let d = s.0 in
          let p : d.place ≡ place = is_placed place d s.1 in
          let here : slice_get ds d.place ≡ Some d = ap (slice_get ds) p ∙ s.1 in
          let other_at : reason_at other d.place ≡ None = ap (reason_at other) p ∙ at in
          let found_none : reason_at reasons d.place ≡ None =
          none_from (reason_at reasons d.place) (within_fewer reasons other h d.place (ap is_some other_at)) in
          let rest : first_of (tests ds reasons d) ≡ None =
          hold_none (tests ds reasons d) (tests_less ds reasons other (within_fewer reasons other h) d (shut d here other_at)) in
          let of_found : reason_of ds reasons d ≡ None = rw found_none rest in
          let r_is : reason_of ds reasons d ≡ Some r = sym (round_at reasons d here) ∙ ap (reason_at (round ds reasons)) p ∙ is in cc

  rounds_within : (n : ℕ) (reasons other : Reasons) → length reasons ≡ length ds → IsClosed ds other → IsWithin reasons other
      → IsWithin (rounds ds n reasons) other
  rounds_within zero reasons other e shut h = h
  rounds_within (suc n) reasons other e shut h =
      rounds_within n (round ds reasons) other (length_round reasons) shut (round_within reasons other e shut h)

  pub least : (other : Reasons) → IsClosed ds other → IsWithin (all_reasons ds) other
  least other shut =
      rounds_within (length ds) (no_reasons ds) other (length_none ds) shut
      (λ place some. (let no : is_some (reason_at (no_reasons ds) place) ≡ false = ap is_some (none_at ds place) in cc))
