-- A chain of bases, one step at a time.
use Rattle.std.proofs.Common.{◌≡◌, ℕ, zero, suc, ◌+◌, ◌-◌, ◌<◌, ◌≤◌, List, length, Bool, true, false, ◌||◌, Option, None, Some, is_some, IsTrue, nat_eq, inl, inr, sym, ap, ◌∙◌, arith}
use Rattle.std.proofs.lemmas.Bool.{or_cases, or_left, or_right, eqb-true, false≢true, false_from_ne_true}
use Rattle.std.specs.Borrow.{Bor}
use Rattle.fhir_json.specs.Tree.{Text}
use Rattle.fhir_json.specs.Views.{text_seen}
use Rattle.fhir_definition.specs.Definition.{Definition}
use Rattle.fhir_schema.specs.Settling.{base_of_place, ends_within}
use Rattle.fhir_schema.specs.Covers.{meets_within}
use Rattle.fhir_targets.specs.Chains.{IsReaching, AreReaching, IsAnswer}

-- the climb from a place is at another, and no place before that has a code
pub record Climbs (ds : List Definition) (at : ℕ → Option Text) (start all steps place : ℕ) : Type 0 where
  pub onwards : (goal k : ℕ) → IsTrue (meets_within ds goal k (Some place)) → IsTrue (meets_within ds goal (steps + k) (Some start))
  pub left : (goal : ℕ) → IsTrue (is_some (at goal)) → meets_within ds goal all (Some start) ≡ meets_within ds goal (all - steps) (Some place)

-- a place with a code isn't one without
pub apart : (at : ℕ → Option Text) (goal place : ℕ) → IsTrue (is_some (at goal)) → at place ≡ None → nat_eq goal place ≡ false
apart at goal place has none =
    false_from_ne_true (nat_eq goal place)
    (λ same. false≢true (sym (ap (λ (p : ℕ). is_some (at p)) (eqb-true goal place same) ∙ ap is_some none) ∙ has))

module _ (ds : List Definition) where
  -- a chain that ends comes by what it meets in as many steps as it has
  pub settles : (n k goal : ℕ) (place : Option ℕ) → IsTrue (ends_within ds n place) → IsTrue (meets_within ds goal k place)
      → IsTrue (meets_within ds goal n place)
  settles n k goal None ends meets = absurd (false≢true meets)
  settles zero k goal (Some p) ends meets = absurd (false≢true ends)
  settles (suc n) zero goal (Some p) ends meets = absurd (false≢true meets)
  settles (suc n) (suc k) goal (Some p) ends meets =
      elim (or_cases (nat_eq goal p) (meets_within ds goal k (base_of_place ds p)) meets) [
        | inl here ↦ or_left (nat_eq goal p) (meets_within ds goal n (base_of_place ds p)) here
        | inr there ↦
            or_right (nat_eq goal p) (meets_within ds goal n (base_of_place ds p)) (settles n k goal (base_of_place ds p) ends there)
      ]

  same_count : (goal a b : ℕ) (place : Option ℕ) → a ≡ b → meets_within ds goal a place ≡ meets_within ds goal b place
  same_count goal a b place e = ap (λ (k : ℕ). meets_within ds goal k place) e

  -- one step further, where the first place isn't the goal
  further : (goal n place : ℕ) → nat_eq goal place ≡ false
      → meets_within ds goal (suc n) (Some place) ≡ meets_within ds goal n (base_of_place ds place)
  further goal n place other = ap (λ (b : Bool). b || meets_within ds goal n (base_of_place ds place)) other

  pub climb_begins : (at : ℕ → Option Text) (start all : ℕ) → Climbs ds at start all 0 start
  climb_begins at start all = record {
    onwards = λ goal k meets. same_count goal (0 + k) k (Some start) (omega arith) ∙ meets;
    left = λ goal has. same_count goal all (all - 0) (Some start) (omega arith);
  }

  pub climb_goes_on : (at : ℕ → Option Text) (start all steps place base : ℕ) → steps < all → at place ≡ None
      → base_of_place ds place ≡ Some base → Climbs ds at start all steps place → Climbs ds at start all (steps + 1) base
  climb_goes_on at start all steps place base lt none on h = record {
    onwards = λ goal k meets.
        same_count goal (steps + 1 + k) (steps + suc k) (Some start) (omega arith)
        ∙ h.onwards goal (suc k) (or_right (nat_eq goal place) (meets_within ds goal k (base_of_place ds place))
        (ap (meets_within ds goal k) on ∙ meets));
    left = λ goal has.
        h.left goal has ∙ same_count goal (all - steps) (suc (all - (steps + 1))) (Some place) (omega arith)
        ∙ further goal (all - (steps + 1)) place (apart at goal place has none) ∙ ap (meets_within ds goal (all - (steps + 1))) on;
  }

  module _ (codes : Text → Bool) (at : ℕ → Option Text) (h : AreReaching ds codes at) (start : ℕ) where
    -- the code is found
    pub climb_finds : (steps place : ℕ) (code : Text) → Climbs ds at start (length ds) steps place → at place ≡ Some code
        → IsReaching ds codes start code
    climb_finds steps place code c found =
        let r = h.each place code found in
        record { named = r.named; resource = r.resource; goal = r.goal; at = r.at; steps = steps + r.steps; meets = c.onwards r.goal r.steps r.meets }

    -- the chain ends
    pub climb_ends : (steps place : ℕ) → steps < length ds → Climbs ds at start (length ds) steps place → at place ≡ None
        → base_of_place ds place ≡ None → IsAnswer ds codes start None
    climb_ends steps place lt c none on = λ code goal named resource is.
        let has = h.all code goal named resource is in
        c.left goal has ∙ same_count goal (length ds - steps) (suc (length ds - (steps + 1))) (Some place) (omega arith)
        ∙ further goal (length ds - (steps + 1)) place (apart at goal place has none)
        ∙ ap (meets_within ds goal (length ds - (steps + 1))) on

    -- there are no more places than definitions
    pub climb_is_over : (steps place : ℕ) → length ds ≤ steps → Climbs ds at start (length ds) steps place → IsAnswer ds codes start None
    climb_is_over steps place ge c = λ code goal named resource is.
        c.left goal (h.all code goal named resource is) ∙ same_count goal (length ds - steps) 0 (Some place) (omega arith)

-- ---- what is looked up at a place

pub none_at : (seen : Option (Bor Text)) (o : Option Text) → text_seen seen ≡ o → is_some seen ≡ false → o ≡ None
none_at None o is none = sym is
none_at (Some x) o is none = absurd (false≢true (sym none))

pub found_at : (ds : List Definition) (codes : Text → Bool) (at : ℕ → Option Text) (start steps place : ℕ) (seen : Option (Bor Text))
    → AreReaching ds codes at → Climbs ds at start (length ds) steps place → text_seen seen ≡ at place → is_some seen ≡ true
    → IsAnswer ds codes start (text_seen seen)
found_at ds codes at start steps place None h c is some = absurd (false≢true some)
found_at ds codes at start steps place (Some x) h c is some = climb_finds ds codes at h start steps place x.now c (sym is)
