-- Chains of bases, compared by powers of the step to the base.
use Rattle.std.proofs.Common.{◌≡◌, ◌<◌, ◌≤◌, ℕ, zero, suc, ◌+◌, ◌-◌, ◌*◌, ◌/◌, ◌%◌, ◌^◌, List, [], ◌∷◌, ◌++◌, map, length, get_or, drop}
use Rattle.std.proofs.Common.{Option, None, Some, Bool, true, false, cond, not}
use Rattle.std.proofs.Common.{is_some, IsTrue, nat_eq, nat_le, ◌&&◌, inl, inr, refl, ap, ap₂, sym, subst, ◌∙◌, arith, length-append}
use Rattle.std.proofs.Math.Nat.{pow-succ', mul-le-mul_right, mul-le-mul_left}
use Rattle.std.proofs.Math.Seq.{drop-cons}
use Rattle.std.proofs.lemmas.Bool.{and_parts, and_from, or_cases, or_left, or_right, eqb-true, false≢true}
use Rattle.std.proofs.lemmas.Bool.Decides.{nat_tests}
use Rattle.std.proofs.lemmas.Nat.{pow_pos}
use Rattle.std.proofs.lemmas.List.{length-map}
use Rattle.std.specs.Option.{option_and_then, option_map_or}
use Rattle.fhir_definition.specs.Snapshot.{is_at}
use Rattle.fhir_definition.specs.Definition.{Definition}
use Rattle.fhir_schema.specs.Settling.{base_place, base_of_place, ends_within}
use Rattle.fhir_schema.specs.Chains.{base_after, bases_after}
use Rattle.fhir_schema.specs.Covers.{meets_within, reaches}
use Rattle.fhir_schema.specs.Lineages.{powers_from, IsLineage, step_by, after, climb_once, climb, is_between, comes_by}
use Rattle.fhir_schema.proofs.Stepping.{after-none, after-sum, ends-after, further, step_by-sum}

-- a place, and how many steps of that size lead to it: where the chain ends within them all, the next step leads nowhere
record Climbs (ds : List Definition) (n all start : ℕ) (last : ℕ × ℕ) : Type 0 where
  leads : base_after ds (last.1 * suc n) (Some start) ≡ Some last.0
  ends : base_after ds all (Some start) ≡ None → base_after ds (suc n) (Some last.0) ≡ None

module _ (ds : List Definition) where
  same_steps : (a b : ℕ) (place : Option ℕ) → a ≡ b → base_after ds a place ≡ base_after ds b place
  same_steps a b place e = ap (λ (k : ℕ). base_after ds k place) e

  -- ---- so many steps by powers

  halved-steps : (n steps : ℕ) (place : Option ℕ) (odd : Bool) (rest : Option ℕ → Option ℕ)
      → ((w : Option ℕ) → rest w ≡ base_after ds (steps / 2 * suc (n + suc n)) w) → (odd ≡ true → steps % 2 ≡ 1)
      → (odd ≡ false → steps % 2 ≡ 0) → rest (cond odd (step_by (bases_after ds n) place) place) ≡ base_after ds (steps * suc n) place
  halved-steps n steps place true rest leads is_odd is_even =
      let odd : steps % 2 ≡ 1 = is_odd refl in
      let whole : steps ≡ 2 * (steps / 2) + 1 = omega arith in
      let sum : suc n + steps / 2 * suc (n + suc n) ≡ steps * suc n = omega (arith, ap (λ (k : ℕ). k * suc n) whole) in
      leads (step_by (bases_after ds n) place)
      ∙ ap (base_after ds (steps / 2 * suc (n + suc n))) (further ds n place)
      ∙ after-sum ds (suc n) (steps / 2 * suc (n + suc n)) place
      ∙ same_steps (suc n + steps / 2 * suc (n + suc n)) (steps * suc n) place sum
  halved-steps n steps place false rest leads is_odd is_even =
      let even : steps % 2 ≡ 0 = is_even refl in
      let whole : steps ≡ 2 * (steps / 2) = omega arith in
      let sum : steps / 2 * suc (n + suc n) ≡ steps * suc n = omega (arith, ap (λ (k : ℕ). k * suc n) whole) in
      leads place ∙ same_steps (steps / 2 * suc (n + suc n)) (steps * suc n) place sum

  after_powers : (count n steps : ℕ) (place : Option ℕ) → steps < 2 ^ count
      → after (powers_from ds count n) steps place ≡ base_after ds (steps * suc n) place
  after_powers zero n steps place few =
      let none : steps ≡ 0 = omega arith in
      same_steps 0 (steps * suc n) place (omega (arith, ap (λ (k : ℕ). k * suc n) none))
  after_powers (suc count) n steps place few =
      let e : 2 ^ suc count ≡ 2 * 2 ^ count = pow-succ' 2 count in
      let half : steps / 2 < 2 ^ count = omega arith in
      halved-steps n steps place (nat_eq (steps % 2) 1) (λ w. after (powers_from ds count (n + suc n)) (steps / 2) w)
      (λ w. after_powers count (n + suc n) (steps / 2) w half) (λ is. grind (arith, nat_tests)) (λ is. grind (arith, nat_tests))

  after_steps : (count steps : ℕ) (place : Option ℕ) → steps < 2 ^ count
      → after (powers_from ds count 0) steps place ≡ base_after ds steps place
  after_steps count steps place few = after_powers count 0 steps place few ∙ same_steps (steps * 1) steps place (omega arith)

  -- ---- to the end of a chain

  climb_step : (n all start place steps : ℕ) (next : Option ℕ) → base_after ds (suc n) (Some place) ≡ next
      → Climbs ds (n + suc n) all start (place, steps)
      → Climbs ds n all start (option_map_or (λ base. (base, steps * 2 + 1)) next (place, steps * 2))
  climb_step n all start place steps None is h = record {
    leads = same_steps (steps * 2 * suc n) (steps * suc (n + suc n)) (Some start) (omega arith) ∙ h.leads;
    ends = λ _. is;
  }
  climb_step n all start place steps (Some base) is h = record {
    leads =
        same_steps ((steps * 2 + 1) * suc n) (steps * suc (n + suc n) + suc n) (Some start) (omega arith)
        ∙ sym (after-sum ds (steps * suc (n + suc n)) (suc n) (Some start))
        ∙ ap (base_after ds (suc n)) h.leads ∙ is;
    ends = λ ended.
        ap (base_after ds (suc n)) (sym is) ∙ after-sum ds (suc n) (suc n) (Some place)
        ∙ same_steps (suc n + suc n) (suc (n + suc n)) (Some place) (omega arith) ∙ h.ends ended;
  }

  climbs : (count n all start : ℕ) → all ≡ 2 ^ count * suc n → Climbs ds n all start (climb (powers_from ds count n) start)
  climbs zero n all start is = record {
    leads = same_steps (0 * suc n) 0 (Some start) (omega arith);
    ends = λ ended. same_steps (suc n) all (Some start) (omega (arith, is)) ∙ ended;
  }
  climbs (suc count) n all start is =
      let last = climb (powers_from ds count (n + suc n)) start in
      let more : all ≡ 2 ^ count * suc (n + suc n) = omega (arith, is, ap (λ (k : ℕ). k * suc n) (pow-succ' 2 count)) in
      climb_step n all start last.0 last.1 (step_by (bases_after ds n) (Some last.0)) (sym (further ds n (Some last.0)))
      (climbs count (n + suc n) all start more)

  -- ---- where a chain comes by a place

  -- a chain is at a place no later than it ends
  not_behind : (a b x : ℕ) (place : Option ℕ) → base_after ds a place ≡ Some x → base_after ds b place ≡ None → a < b
  not_behind zero zero x place at ended = cc
  not_behind zero (suc b) x place at ended = omega arith
  not_behind (suc a) zero x place at ended =
      let gone : base_after ds (suc a) place ≡ None = ap (base_after ds (suc a)) ended ∙ after-none ds (suc a) in
      cc
  not_behind (suc a) (suc b) x place at ended =
      let h : a < b = not_behind a b x (option_and_then (base_of_place ds) place) at ended in
      omega arith

  meets_at : (k n goal : ℕ) (place : Option ℕ) → k < n → base_after ds k place ≡ Some goal → IsTrue (meets_within ds goal n place)
  meets_at k n goal None within at = let gone : base_after ds k None ≡ None = after-none ds k in cc
  meets_at k zero goal (Some p) within at = absurd (omega arith)
  meets_at zero (suc n) goal (Some p) within at =
      let same : goal ≡ p = cc in
      or_left (nat_eq goal p) (meets_within ds goal n (base_of_place ds p)) (grind (arith, nat_tests))
  meets_at (suc k) (suc n) goal (Some p) within at =
      or_right (nat_eq goal p) (meets_within ds goal n (base_of_place ds p)) (meets_at k n goal (base_of_place ds p) (omega arith) at)

  meets_where : (n goal : ℕ) (place : Option ℕ) → IsTrue (meets_within ds goal n place) → (k : ℕ) × (base_after ds k place ≡ Some goal)
  meets_where n goal None meets = absurd (false≢true meets)
  meets_where zero goal (Some p) meets = absurd (false≢true meets)
  meets_where (suc n) goal (Some p) meets =
      elim (or_cases (nat_eq goal p) (meets_within ds goal n (base_of_place ds p)) meets) [
        | inl here ↦ (0, ap (λ (q : ℕ). Some q) (sym (eqb-true goal p here)))
        | inr there ↦ let r = meets_where n goal (base_of_place ds p) there in (suc r.0, r.1)
      ]

  -- ---- the question

  and_where : (a x y : Bool) → (IsTrue a → x ≡ y) → (a && x) ≡ (a && y)
  and_where true x y h = h refl
  and_where false x y h = refl

  both_ways : (x y : Bool) → (IsTrue x → IsTrue y) → (IsTrue y → IsTrue x) → x ≡ y
  both_ways true y there back = sym (there refl)
  both_ways false true there back = back refl
  both_ways false false there back = refl

  none_where : (n : ℕ) (place : Option ℕ) → IsTrue (ends_within ds n place) → base_after ds n place ≡ None
  none_where n None h = after-none ds n
  none_where zero (Some p) h = absurd (false≢true h)
  none_where (suc n) (Some p) h = none_where n (base_of_place ds p) h

  -- one that isn't left after so many steps isn't left after more
  none_later : (a b : ℕ) (place : Option ℕ) → a ≤ b → base_after ds a place ≡ None → base_after ds b place ≡ None
  none_later a b place h none =
      same_steps b (a + (b - a)) place (omega arith) ∙ sym (after-sum ds a (b - a) place) ∙ ap (base_after ds (b - a)) none ∙ after-none ds (b - a)

  at_place : (goal : ℕ) (place : Option ℕ) → IsTrue (is_at goal place) → place ≡ Some goal
  at_place goal None h = absurd (false≢true h)
  at_place goal (Some p) h = ap (λ (q : ℕ). Some q) (sym (eqb-true goal p h))

  is_at_itself : (goal : ℕ) (place : Option ℕ) → place ≡ Some goal → IsTrue (is_at goal place)
  is_at_itself goal None is = cc
  is_at_itself goal (Some p) is = let same : goal ≡ p = cc in grind (arith, nat_tests)

  -- a place that is so many steps on is met
  found_meets : (powers : List (List (Option ℕ))) (start goal n a b : ℕ) → base_after ds n (Some start) ≡ None
      → after powers (a - b) (Some start) ≡ base_after ds (a - b) (Some start) → IsTrue (is_between powers start goal a b)
      → IsTrue (meets_within ds goal n (Some start))
  found_meets powers start goal n a b none is found =
      let parts = and_parts (nat_le b a) (is_at goal (after powers (a - b) (Some start))) found in
      let at : base_after ds (a - b) (Some start) ≡ Some goal = sym is ∙ at_place goal (after powers (a - b) (Some start)) parts.1 in
      meets_at (a - b) n goal (Some start) (not_behind (a - b) n goal (Some start) at none) at

  -- a place that is met is so many steps on
  meets_found : (powers : List (List (Option ℕ))) (start goal k a b : ℕ) → b + k ≡ a
      → after powers (a - b) (Some start) ≡ base_after ds (a - b) (Some start) → base_after ds k (Some start) ≡ Some goal
      → IsTrue (is_between powers start goal a b)
  meets_found powers start goal k a b sum is at =
      let place = after powers (a - b) (Some start) in
      let there : place ≡ Some goal = is ∙ same_steps (a - b) k (Some start) (omega arith) ∙ at in
      and_from (nat_le b a) (is_at goal place) (grind (arith, nat_tests)) (is_at_itself goal place there)

  one_size : (count start : ℕ) → Climbs ds 0 (2 ^ count) start (climb (powers_from ds count 0) start)
  one_size count start = climbs count 0 (2 ^ count) start (omega arith)

  leads_on : (all start : ℕ) (last : ℕ × ℕ) → Climbs ds 0 all start last → base_after ds last.1 (Some start) ≡ Some last.0
  leads_on all start last h = same_steps last.1 (last.1 * 1) (Some start) (omega arith) ∙ h.leads

  ends_behind : (all start : ℕ) (last : ℕ × ℕ) → Climbs ds 0 all start last → base_after ds all (Some start) ≡ None
      → base_after ds (last.1 + 1) (Some start) ≡ None
  ends_behind all start last h ended =
      sym (after-sum ds last.1 1 (Some start)) ∙ ap (base_after ds 1) (leads_on all start last h) ∙ h.ends ended

  -- the steps of two chains to their ends, of which one comes by the start of the other
  steps_between : (all start goal k : ℕ) (from to : ℕ × ℕ) → base_after ds all (Some start) ≡ None → Climbs ds 0 all start from
      → Climbs ds 0 all goal to → base_after ds k (Some start) ≡ Some goal → to.1 + k ≡ from.1
  steps_between all start goal k from to ended f t at =
      let onwards = λ (m : ℕ). sym (after-sum ds k m (Some start)) ∙ ap (base_after ds m) at in
      let goal_ended : base_after ds all (Some goal) ≡ None = sym (onwards all) ∙ none_later all (k + all) (Some start) (omega arith) ended in
      let end : base_after ds (k + (to.1 + 1)) (Some start) ≡ None = onwards (to.1 + 1) ∙ ends_behind all goal to t goal_ended in
      let low = not_behind from.1 (k + (to.1 + 1)) from.0 (Some start) (leads_on all start from f) end in
      let there : base_after ds (k + to.1) (Some start) ≡ Some to.0 = onwards to.1 ∙ leads_on all goal to t in
      let high = not_behind (k + to.1) (from.1 + 1) to.0 (Some start) there (ends_behind all start from f ended) in
      omega (arith, low, high)

  comes_by_meets : (count start goal n : ℕ) → n ≤ 2 ^ count → base_after ds n (Some start) ≡ None
      → comes_by (powers_from ds count 0) start goal ≡ meets_within ds goal n (Some start)
  comes_by_meets count start goal n within none =
      let powers = powers_from ds count 0 in
      let from = climb powers start in
      let to = climb powers goal in
      let f = one_size count start in
      let ended : base_after ds (2 ^ count) (Some start) ≡ None = none_later n (2 ^ count) (Some start) within none in
      let few : from.1 < n = not_behind from.1 n from.0 (Some start) (leads_on (2 ^ count) start from f) none in
      let is = after_steps count (from.1 - to.1) (Some start) (omega arith) in
      let sum = λ (k : ℕ). steps_between (2 ^ count) start goal k from to ended f (one_size count goal) in
      both_ways (comes_by powers start goal) (meets_within ds goal n (Some start))
      (found_meets powers start goal n from.1 to.1 none is)
      (λ meets. let k = meets_where n goal (Some start) meets in meets_found powers start goal k.0 from.1 to.1 (sum k.0 k.1) is k.1)

  -- the chain ends, and comes by the goal
  reaches_by : (powers : List (List (Option ℕ))) (start goal : ℕ) → IsLineage ds powers
      → (not (is_some (after powers (length ds) (Some start))) && comes_by powers start goal) ≡ reaches ds start goal
  reaches_by powers start goal h =
      let count = length powers in
      let steps = after_steps count (length ds) (Some start) h.1 in
      let ends = ap (λ (o : Option ℕ). not (is_some o)) steps ∙ ends-after ds (length ds) (Some start) in
      let meets = λ (is : IsTrue (ends_within ds (length ds) (Some start))).
      comes_by_meets count start goal (length ds) (omega (arith, h.1)) (none_where (length ds) (Some start) is) in
      ap (λ (ps : List (List (Option ℕ))). not (is_some (after ps (length ds) (Some start))) && comes_by ps start goal) h.0
      ∙ ap (λ (b : Bool). b && comes_by (powers_from ds count 0) start goal) ends
      ∙ and_where (ends_within ds (length ds) (Some start)) (comes_by (powers_from ds count 0) start goal)
      (meets_within ds goal (length ds) (Some start)) meets

  pub unended : (powers : List (List (Option ℕ))) (start goal places : ℕ) (left : Bool) → IsLineage ds powers → places ≡ length ds
      → left ≡ is_some (after powers places (Some start)) → left ≡ true → false ≡ reaches ds start goal
  unended powers start goal places left h all is more =
      let e : true ≡ is_some (after powers (length ds) (Some start)) =
      sym more ∙ is ∙ ap (λ (n : ℕ). is_some (after powers n (Some start))) all in
      ap (λ (b : Bool). not b && comes_by powers start goal) e ∙ reaches_by powers start goal h

  pub ended_by : (powers : List (List (Option ℕ))) (start goal places : ℕ) (left : Bool) → IsLineage ds powers → places ≡ length ds
      → left ≡ is_some (after powers places (Some start)) → left ≡ false → comes_by powers start goal ≡ reaches ds start goal
  ended_by powers start goal places left h all is none =
      let e : false ≡ is_some (after powers (length ds) (Some start)) =
      sym none ∙ is ∙ ap (λ (n : ℕ). is_some (after powers n (Some start))) all in
      ap (λ (b : Bool). not b && comes_by powers start goal) e ∙ reaches_by powers start goal h

-- ---- the lists are worked out

-- so many lists, and that of the next power, with the rest of the number of definitions
pub record AreDoubled (ds : List Definition) (powers : List (List (Option ℕ))) (power : List (Option ℕ)) (left : ℕ) : Type 0 where
  pub before : ℕ
  pub size : suc before ≡ 2 ^ length powers
  pub are : powers ≡ powers_from ds (length powers) 0
  pub next : power ≡ bases_after ds before
  pub enough : length ds < suc left * 2 ^ length powers
  pub within : left * 2 ^ length powers ≤ length ds
  pub small : 2 ^ length powers ≤ 2 ^ 64

one_more : (ds : List Definition) (count n m : ℕ) → suc m ≡ 2 ^ count * suc n
    → powers_from ds (suc count) n ≡ powers_from ds count n ++ bases_after ds m ∷ []
one_more ds zero n m is = let e : n ≡ m = omega (arith, is) in ap (λ (k : ℕ). bases_after ds k ∷ []) e
one_more ds (suc count) n m is =
    let e : suc m ≡ 2 ^ count * suc (n + suc n) = omega (arith, is, ap (λ (k : ℕ). k * suc n) (pow-succ' 2 count)) in
    ap (λ (ps : List (List (Option ℕ))). bases_after ds n ∷ ps) (one_more ds count (n + suc n) m e)

pub doubled : (ds : List Definition) (powers more : List (List (Option ℕ))) (power next : List (Option ℕ)) (left : ℕ) → 0 < left
    → length ds < 2 ^ 63 → more ≡ powers ++ power ∷ [] → next ≡ map (step_by power) power → AreDoubled ds powers power left
    → AreDoubled ds more next (left / 2)
doubled ds powers more power next left some bound more_is next_is h =
    let count = length powers in
    let half = left / 2 in
    let rest = left % 2 in
    let width = 2 ^ count in
    let longer : length more ≡ suc count = ap length more_is ∙ omega (arith, length-append powers (power ∷ [])) in
    let twice : 2 ^ length more ≡ 2 * width = ap (λ (k : ℕ). 2 ^ k) longer ∙ pow-succ' 2 count in
    let split : left * width ≡ (2 * half + rest) * width = ap (λ (k : ℕ). k * width) (omega arith) in
    let part : rest * width ≤ 1 * width = mul-le-mul_right width (omega arith) in
    let one : 1 * width ≤ left * width = mul-le-mul_right width (omega arith) in
    let halves : half * 2 ^ length more ≡ half * (2 * width) = ap (λ (k : ℕ). half * k) twice in
    record {
      before = h.before + suc h.before;
      size = omega (arith, h.size, twice);
      are =
          more_is ∙ ap₂ (λ (ps : List (List (Option ℕ))) (p : List (Option ℕ)). ps ++ p ∷ []) h.are h.next
          ∙ sym (one_more ds count 0 h.before (omega (arith, h.size)))
          ∙ ap (λ (k : ℕ). powers_from ds k 0) (sym longer);
      next = next_is ∙ step_by-sum ds h.before h.before power power h.next h.next;
      enough = omega (arith, h.enough, twice, split, part, halves);
      within = omega (arith, h.within, split, halves);
      small = omega (arith, h.within, one, twice, bound);
    }

pub as_many : (ds : List Definition) (powers : List (List (Option ℕ))) (power : List (Option ℕ)) (left : ℕ) → AreDoubled ds powers power left
    → length power ≡ length ds
as_many ds powers power left h = ap length h.next ∙ length-map ds (λ d. base_after ds h.before (base_place ds d))

-- ---- the steps are counted within a word

-- the climb by all lists but the first ones, and few enough steps for the climb by these
pub record Counted (powers : List (List (Option ℕ))) (start i : ℕ) (last : ℕ × ℕ) : Type 0 where
  pub within : i ≤ length powers
  pub last_is : last ≡ climb (drop i powers) start
  pub few : suc last.1 * 2 ^ i ≤ 2 ^ length powers

twice_as_many : (i : ℕ) → 0 < i → 2 ^ i ≡ 2 * 2 ^ (i - 1)
twice_as_many i some = let e : i ≡ suc (i - 1) = omega arith in ap (λ (k : ℕ). 2 ^ k) e ∙ pow-succ' 2 (i - 1)

pub counted : (powers : List (List (Option ℕ))) (start i : ℕ) (last : ℕ × ℕ) → 0 < i → Counted powers start i last → 2 ^ length powers ≤ 2 ^ 64
    → last.1 * 2 + 1 < 2 ^ 64
counted powers start i last some h small =
    let all : suc last.1 * 2 ^ i ≡ suc last.1 * 2 * 2 ^ (i - 1) = omega (arith, ap (λ (k : ℕ). suc last.1 * k) (twice_as_many i some)) in
    let part : suc last.1 * 2 * 1 ≤ suc last.1 * 2 * 2 ^ (i - 1) = mul-le-mul_left (suc last.1 * 2) (pow_pos (i - 1)) in
    omega (arith, h.few)

few_climbed : (next : Option ℕ) (place steps i count : ℕ) → 0 < i → suc steps * 2 ^ i ≤ 2 ^ count
    → suc (option_map_or {U = ℕ × ℕ} (λ base. (base, steps * 2 + 1)) next (place, steps * 2)).1 * 2 ^ (i - 1) ≤ 2 ^ count
few_climbed None place steps i count some few = omega (arith, ap (λ (k : ℕ). suc steps * k) (twice_as_many i some))
few_climbed (Some base) place steps i count some few = omega (arith, ap (λ (k : ℕ). suc steps * k) (twice_as_many i some))

at_map : {A B : Type 0} (f : A → B) (xs : List A) (i : ℕ) (x : A) → f (get_or xs i x) ≡ get_or (map f xs) i (f x)
at_map f [] i x = refl
at_map f (y ∷ ys) zero x = refl
at_map f (y ∷ ys) (suc i) x = at_map f ys i x

pub at_shown : {A B : Type 0} (f : A → B) (xs : List A) (shown : List B) (i : ℕ) (x : A) (y : B) → map f xs ≡ shown → x ≡ get_or xs i x
    → y ≡ f x → y ≡ get_or shown i y
at_shown {B = B} f xs shown i x y is at same =
    same ∙ ap f at ∙ at_map f xs i x ∙ ap₂ (λ (l : List B) (z : B). get_or l i z) is (sym same)

pub one_up : (powers : List (List (Option ℕ))) (power : List (Option ℕ)) (start i : ℕ) (last next : ℕ × ℕ) → 0 < i
    → power ≡ get_or powers (i - 1) power → next ≡ climb_once power (last.0, last.1) → Counted powers start i last
    → Counted powers start (i - 1) next
one_up powers power start i last next some power_is next_is h =
    let below = i - 1 in
    let step : i ≡ suc (i - 1) = omega arith in
    let within : below < length powers = omega (arith, h.within) in
    record {
      within = omega arith;
      last_is =
          next_is ∙ ap (climb_once power) (h.last_is ∙ ap (λ (k : ℕ). climb (drop k powers) start) step)
          ∙ ap (λ (p : List (Option ℕ)). climb_once p (climb (drop (suc below) powers) start)) power_is
          ∙ ap (λ (ps : List (List (Option ℕ))). climb ps start) (sym (drop-cons powers below power within));
      few =
          subst (λ (r : ℕ × ℕ). suc r.1 * 2 ^ below ≤ 2 ^ length powers) (sym next_is)
          (few_climbed (step_by power (Some last.0)) last.0 last.1 i (length powers) some h.few);
    }
