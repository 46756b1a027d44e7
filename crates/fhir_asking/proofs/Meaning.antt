-- What it says to have an answer, and to need itself.
use Rattle.std.proofs.Common.{◌≡◌, ◌↔◌, ℕ, zero, suc, ◌+◌, List, [], true, not, codes, Option, Some, refl, ap, sym, ◌∙◌, arith}
use Rattle.std.specs.Option.{option_map, option_map_or}
use Rattle.std.specs.Map.{lookup}
use Rattle.std.specs.Str.{bytes_eq}
use Rattle.fhir_json.specs.Tree.{Text}
use Rattle.fhir_asking.specs.Asking.{Asking, given, asks, Answer, wants, found, is_wanting, once, run, answer, Has, NeedsItself, ComesTo, Holds}
use Rattle.fhir_asking.specs.Example.{is_odd}
use Rattle.fhir_asking.proofs.Chains.{run_more, answer_more, wanting_once, found_same}

module _ {A : Type 0} where
  -- ---- to need itself

  not_both : (asking : Text → Asking A) (name : Text) → NeedsItself asking name → (thing : Option A) → ¬ Has asking name thing
  not_both asking name needs thing has = let w = needs has.0 in let e = has.1 in cc

  wanting_at : (asking : Text → Asking A) (name : Text) (bound : ℕ) → ((thing : Option A) → ¬ Has asking name thing) → (r : Answer A) → answer asking bound name ≡ r → is_wanting r ≡ true
  wanting_at asking name bound never (wants y) is = refl
  wanting_at asking name bound never (found o) is = absurd (never o (bound, is))

  pub needs_itself_is : (asking : Text → Asking A) (name : Text) → (NeedsItself asking name) ↔ ((thing : Option A) → ¬ Has asking name thing)
  needs_itself_is asking name =
      (not_both asking name, λ never bound. wanting_at asking name bound never (answer asking bound name) refl)

  -- ---- to have an answer

  comes_at : (asking : Text → Asking A) (bound : ℕ) (z : Text) (k : Option A → Asking A) (thing : Option A) → ((o : Option A) → run (answer asking bound) (k o) ≡ found thing → ComesTo asking (k o) thing) → (r : Answer A) → answer asking bound z ≡ r → once r (λ o. run (answer asking bound) (k o)) ≡ found thing → ComesTo asking (asks z k) thing
  comes_at asking bound z k thing ih (wants y) is e = cc
  comes_at asking bound z k thing ih (found o) is e = (o, (bound, is), ih o e)

  comes : (asking : Text → Asking A) (bound : ℕ) (a : Asking A) (thing : Option A) → run (answer asking bound) a ≡ found thing → ComesTo asking a thing
  comes asking bound (given o) thing e = found_same o thing e
  comes asking bound (asks z k) thing e =
      comes_at asking bound z k thing (λ o. comes asking bound (k o) thing) (answer asking bound z) refl e

  comes_of : (asking : Text → Asking A) (name : Text) (thing : Option A) (bound : ℕ) → answer asking bound name ≡ found thing → ComesTo asking (asking name) thing
  comes_of asking name thing zero e = cc
  comes_of asking name thing (suc bound) e = comes asking bound (asking name) thing e

  runs : (asking : Text → Asking A) (a : Asking A) (thing : Option A) → ComesTo asking a thing → (bound : ℕ) × (run (answer asking bound) a ≡ found thing)
  runs asking (given o) thing e = (0, ap found e)
  runs asking (asks z k) thing h =
      let later = runs asking (k h.0) thing h.2 in
      let n : ℕ = h.1.0 in
      let m : ℕ = later.0 in
      let here : answer asking (m + n) z ≡ found h.0 = answer_more asking n m z h.0 h.1.1 in
      let order : n + m ≡ m + n = omega arith in
      let more : (y : Text) (o : Option A) → answer asking m y ≡ found o → answer asking (m + n) y ≡ found o =
      λ y o e. ap (λ b. answer asking b y) (sym order) ∙ answer_more asking m n y o e in
      (m + n, ap (λ r. once r (λ o. run (answer asking (m + n)) (k o))) here ∙ run_more (answer asking m) (answer asking (m + n)) more (k h.0) thing later.1)

  has_of : (asking : Text → Asking A) (name : Text) (thing : Option A) → ComesTo asking (asking name) thing → Has asking name thing
  has_of asking name thing h = let r = runs asking (asking name) thing h in (suc r.0, r.1)

  pub has_is : (asking : Text → Asking A) (name : Text) (thing : Option A) → (Has asking name thing) ↔ (ComesTo asking (asking name) thing)
  has_is asking name thing = (λ h. comes_of asking name thing h.0 h.1, has_of asking name thing)

  -- ---- tables

  pub empty_holds : (asking : Text → Asking A) → Holds asking []
  empty_holds asking = (0, λ name thing e. e)

  pub holds_has : (asking : Text → Asking A) (table : List (Text × Option A)) (name : Text) (thing : Option A) → Holds asking table → lookup (bytes_eq name) table ≡ Some thing → Has asking name thing
  holds_has asking table name thing holds e =
      (holds.0, holds.1 name thing (ap (λ o. option_map_or found o (wants name)) e))

-- ---- the example

pub ring : (bound : ℕ) → (is_wanting (answer is_odd bound (codes "hen")) ≡ true) × (is_wanting (answer is_odd bound (codes "egg")) ≡ true)
ring zero = (refl, refl)
ring (suc bound) =
    let before = ring bound in
    (wanting_once (answer is_odd bound (codes "egg")) (λ o. found (option_map not o)) before.1, wanting_once (answer is_odd bound (codes "hen")) (λ o. found (option_map not o)) before.0)
