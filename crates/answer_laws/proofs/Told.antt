-- The verdicts of a run, told one behind the other.
use Rattle.std.proofs.Common.{◌≡◌, ℕ, suc, ◌+◌, ◌<◌, ◌≤◌, Bool, true, false, ◌||◌, cond, eqb, ltb, List, [], ◌∷◌, length, map, fold, count_by, refl, sym, ap, ◌∙◌, arith}
use Rattle.std.proofs.lemmas.Bool.{eqb-true, lt-ltb}
use Rattle.std.proofs.lemmas.List.Sums.{sum_by-cons}
use Rattle.fhir_commands.specs.declared.reply.Standing.{Standing}
use Rattle.fhir_commands.specs.declared.reply.Standing.TheVariants as standings
use Rattle.fhir_telling.specs.declared.verdict.LineVerdict.{LineVerdict}
use Rattle.fhir_telling.specs.declared.verdict.LineVerdict.TheVariants.{Conforms, Violates, Open, Fault, NoMemory, Empty}
use Rattle.fhir_telling.specs.Verdicts.{verdict_of, worse, worst}
use Rattle.fhir_answers.specs.Status.{code_of, standing_status}
use Rattle.fhir_answers.specs.declared.reply.Status.{Status}
use Rattle.fhir_answers.specs.declared.reply.Status.TheVariants as statuses
use Rattle.fhir_bulk.specs.declared.tally.Tally.{Tally}
use Rattle.fhir_bulk.specs.Counting.{most, more, no_tally, tallied}
use Rattle.fhir_bulk_engine.specs.Ending.{tally_status}
use Rattle.answer_laws.specs.Runs.{tally_of, counted, count_in, is_same, has, status_said, total}

-- ---- what has been told stays told

or_false : (b : Bool) → (b || false) ≡ b
or_false true = refl
or_false false = refl

or_true : (b : Bool) → (b || true) ≡ true
or_true true = refl
or_true false = refl

or_assoc : (a b c : Bool) → ((a || b) || c) ≡ (a || (b || c))
or_assoc true b c = refl
or_assoc false b c = refl

some_more : (n : ℕ) → ltb 0 (more n) ≡ (ltb 0 n || true)
some_more n = by (eqb n most) refl ∙ sym (or_true (ltb 0 n))
  where
    by : (b : Bool) → eqb n most ≡ b → ltb 0 (cond b n (n + 1)) ≡ true
    by true e = lt-ltb 0 n (omega (arith, eqb-true n most e))
    by false e = lt-ltb 0 (n + 1) (omega arith)

-- of one verdict, whose count a tally has
module _ (which : LineVerdict) (one : (v : LineVerdict) (t : Tally) → ltb 0 (count_in which (tallied v t)) ≡ (ltb 0 (count_in which t) || is_same which v)) where
  since : (vs : List LineVerdict) (t : Tally) → ltb 0 (count_in which (fold counted t vs)) ≡ (ltb 0 (count_in which t) || has which vs)
  since [] t = sym (or_false (ltb 0 (count_in which t)))
  since (v ∷ vs) t =
      since vs (tallied v t) ∙ ap (λ b. b || has which vs) (one v t) ∙ or_assoc (ltb 0 (count_in which t)) (is_same which v) (has which vs)

one_violates : (v : LineVerdict) (t : Tally) → ltb 0 (count_in Violates (tallied v t)) ≡ (ltb 0 (count_in Violates t) || is_same Violates v)
one_violates Conforms t = sym (or_false (ltb 0 t.violates))
one_violates Violates t = some_more t.violates
one_violates Open t = sym (or_false (ltb 0 t.violates))
one_violates Fault t = sym (or_false (ltb 0 t.violates))
one_violates NoMemory t = sym (or_false (ltb 0 t.violates))
one_violates Empty t = sym (or_false (ltb 0 t.violates))

one_memory : (v : LineVerdict) (t : Tally) → ltb 0 (count_in NoMemory (tallied v t)) ≡ (ltb 0 (count_in NoMemory t) || is_same NoMemory v)
one_memory Conforms t = sym (or_false (ltb 0 t.no_memory))
one_memory Violates t = sym (or_false (ltb 0 t.no_memory))
one_memory Open t = sym (or_false (ltb 0 t.no_memory))
one_memory Fault t = sym (or_false (ltb 0 t.no_memory))
one_memory NoMemory t = some_more t.no_memory
one_memory Empty t = sym (or_false (ltb 0 t.no_memory))

one_fault : (v : LineVerdict) (t : Tally) → ltb 0 (count_in Fault (tallied v t)) ≡ (ltb 0 (count_in Fault t) || is_same Fault v)
one_fault Conforms t = sym (or_false (ltb 0 t.faults))
one_fault Violates t = sym (or_false (ltb 0 t.faults))
one_fault Open t = sym (or_false (ltb 0 t.faults))
one_fault Fault t = some_more t.faults
one_fault NoMemory t = sym (or_false (ltb 0 t.faults))
one_fault Empty t = sym (or_false (ltb 0 t.faults))

one_open : (v : LineVerdict) (t : Tally) → ltb 0 (count_in Open (tallied v t)) ≡ (ltb 0 (count_in Open t) || is_same Open v)
one_open Conforms t = sym (or_false (ltb 0 t.opens))
one_open Violates t = sym (or_false (ltb 0 t.opens))
one_open Open t = some_more t.opens
one_open Fault t = sym (or_false (ltb 0 t.opens))
one_open NoMemory t = sym (or_false (ltb 0 t.opens))
one_open Empty t = sym (or_false (ltb 0 t.opens))

-- the status by four tests
abbrev by_tests : Bool → Bool → Bool → Bool → Status
by_tests violates memory fault is_open =
    cond violates statuses.No (cond memory statuses.NoMemory (cond fault statuses.Fault (cond is_open statuses.Open statuses.Yes)))

code_by_tests : (violates memory fault is_open : Bool)
    → code_of (by_tests violates memory fault is_open) ≡ cond violates 1 (cond memory 5 (cond fault 3 (cond is_open 2 0)))
code_by_tests true memory fault is_open = refl
code_by_tests false true fault is_open = refl
code_by_tests false false true is_open = refl
code_by_tests false false false true = refl
code_by_tests false false false false = refl

by_told : (vs : List LineVerdict) → tally_status (tally_of vs) ≡ by_tests (has Violates vs) (has NoMemory vs) (has Fault vs) (has Open vs)
by_told vs =
    let t = tally_of vs in
    ap (λ b. by_tests b (ltb 0 t.no_memory) (ltb 0 t.faults) (ltb 0 t.opens)) (since Violates one_violates vs no_tally)
    ∙ ap (λ b. by_tests (has Violates vs) b (ltb 0 t.faults) (ltb 0 t.opens)) (since NoMemory one_memory vs no_tally)
    ∙ ap (λ b. by_tests (has Violates vs) (has NoMemory vs) b (ltb 0 t.opens)) (since Fault one_fault vs no_tally)
    ∙ ap (λ b. by_tests (has Violates vs) (has NoMemory vs) (has Fault vs) b) (since Open one_open vs no_tally)

pub worst_told : (vs : List LineVerdict) → code_of (tally_status (tally_of vs)) ≡ status_said vs
worst_told vs = ap code_of (by_told vs) ∙ code_by_tests (has Violates vs) (has NoMemory vs) (has Fault vs) (has Open vs)

pub blank_told : (vs : List LineVerdict) → tally_status (tally_of (Empty ∷ vs)) ≡ tally_status (tally_of vs)
blank_told vs = by_told (Empty ∷ vs) ∙ sym (by_told vs)

-- ---- the worst of a resource's profiles

pub alone_told : (standing : Standing) → tally_status (tally_of (verdict_of standing ∷ [])) ≡ standing_status standing
alone_told standings.Conforms = refl
alone_told standings.Violates = refl
alone_told standings.Open = refl
alone_told standings.Fault = refl

one_worse : (a b : Standing) (vs : List LineVerdict) → status_said (verdict_of (worse a b) ∷ vs) ≡ status_said (verdict_of a ∷ verdict_of b ∷ vs)
one_worse standings.Conforms standings.Conforms vs = refl
one_worse standings.Conforms standings.Violates vs = refl
one_worse standings.Conforms standings.Open vs = refl
one_worse standings.Conforms standings.Fault vs = refl
one_worse standings.Violates standings.Conforms vs = refl
one_worse standings.Violates standings.Violates vs = refl
one_worse standings.Violates standings.Open vs = refl
one_worse standings.Violates standings.Fault vs = refl
one_worse standings.Open standings.Conforms vs = refl
one_worse standings.Open standings.Violates vs = refl
one_worse standings.Open standings.Open vs = refl
one_worse standings.Open standings.Fault vs = refl
one_worse standings.Fault standings.Conforms vs = refl
one_worse standings.Fault standings.Violates vs = refl
one_worse standings.Fault standings.Open vs = refl
one_worse standings.Fault standings.Fault vs = refl

alone_said : (standing : Standing) → code_of (standing_status standing) ≡ status_said (verdict_of standing ∷ [])
alone_said standings.Conforms = refl
alone_said standings.Violates = refl
alone_said standings.Open = refl
alone_said standings.Fault = refl

worst_since : (standings : List Standing) (a : Standing)
    → code_of (standing_status (fold worse a standings)) ≡ status_said (verdict_of a ∷ map verdict_of standings)
worst_since [] a = alone_said a
worst_since (b ∷ standings) a = worst_since standings (worse a b) ∙ one_worse a b (map verdict_of standings)

pub own_told : (standings : List Standing)
    → code_of (tally_status (tally_of (map verdict_of standings))) ≡ code_of (standing_status (worst standings))
own_told each = worst_told (map verdict_of each) ∙ sym (worst_since each standings.Conforms)

-- ---- counts

one_more : (n : ℕ) → n < most → more n ≡ n + 1
one_more n under = by (eqb n most) refl
  where
    by : (b : Bool) → eqb n most ≡ b → cond b n (n + 1) ≡ n + 1
    by true e = absurd (omega (arith, eqb-true n most e, under))
    by false e = refl

none_more : (n : ℕ) → n ≡ n + 0
none_more n = omega arith

-- what is counted, as one more line is told
counted_one : (which v : LineVerdict) (t : Tally) → count_in which t < most → count_in which (tallied v t) ≡ count_in which t + cond (is_same which v) 1 0
counted_one Conforms Conforms t under = one_more t.conforms under
counted_one Conforms Violates t under = none_more t.conforms
counted_one Conforms Open t under = none_more t.conforms
counted_one Conforms Fault t under = none_more t.conforms
counted_one Conforms NoMemory t under = none_more t.conforms
counted_one Conforms Empty t under = none_more t.conforms
counted_one Violates Conforms t under = none_more t.violates
counted_one Violates Violates t under = one_more t.violates under
counted_one Violates Open t under = none_more t.violates
counted_one Violates Fault t under = none_more t.violates
counted_one Violates NoMemory t under = none_more t.violates
counted_one Violates Empty t under = none_more t.violates
counted_one Open Conforms t under = none_more t.opens
counted_one Open Violates t under = none_more t.opens
counted_one Open Open t under = one_more t.opens under
counted_one Open Fault t under = none_more t.opens
counted_one Open NoMemory t under = none_more t.opens
counted_one Open Empty t under = none_more t.opens
counted_one Fault Conforms t under = none_more t.faults
counted_one Fault Violates t under = none_more t.faults
counted_one Fault Open t under = none_more t.faults
counted_one Fault Fault t under = one_more t.faults under
counted_one Fault NoMemory t under = none_more t.faults
counted_one Fault Empty t under = none_more t.faults
counted_one NoMemory Conforms t under = none_more t.no_memory
counted_one NoMemory Violates t under = none_more t.no_memory
counted_one NoMemory Open t under = none_more t.no_memory
counted_one NoMemory Fault t under = none_more t.no_memory
counted_one NoMemory NoMemory t under = one_more t.no_memory under
counted_one NoMemory Empty t under = none_more t.no_memory
counted_one Empty Conforms t under = none_more t.empties
counted_one Empty Violates t under = none_more t.empties
counted_one Empty Open t under = none_more t.empties
counted_one Empty Fault t under = none_more t.empties
counted_one Empty NoMemory t under = none_more t.empties
counted_one Empty Empty t under = one_more t.empties under

one_at_most : (b : Bool) → cond b 1 0 ≤ 1
one_at_most true = omega arith
one_at_most false = omega arith

-- ---- on numbers alone

room : (n l k : ℕ) → n + suc l ≤ k → n < k
room n l k fits = omega (arith, fits)

room_behind : (n l k x n' : ℕ) → n' ≡ n + x → x ≤ 1 → n + suc l ≤ k → n' + l ≤ k
room_behind n l k x n' more least fits = omega (arith, more, least, fits)

onward : (n x m n' r m' : ℕ) → n' ≡ n + x → r ≡ n' + m → m' ≡ x + m → r ≡ n + m'
onward n x m n' r m' more rest all = omega (arith, more, rest, all)

from_none : (z l k : ℕ) → z ≡ 0 → l ≤ k → z + l ≤ k
from_none z l k none fits = omega (arith, none, fits)

none_before : (z c : ℕ) → z ≡ 0 → z + c ≡ c
none_before z c none = omega (arith, none)

six_more : (a b c d e f u v w x y z n a' b' c' d' e' f' : ℕ) → a' ≡ u + a → b' ≡ v + b → c' ≡ w + c → d' ≡ x + d → e' ≡ y + e → f' ≡ z + f
    → a + b + c + d + e + f ≡ n → u + v + w + x + y + z ≡ 1 → a' + b' + c' + d' + e' + f' ≡ suc n
six_more a b c d e f u v w x y z n a' b' c' d' e' f' p q r s t o all one = omega (arith, p, q, r, s, t, o, all, one)

six_same : (a b c d e f a' b' c' d' e' f' n : ℕ) → a ≡ a' → b ≡ b' → c ≡ c' → d ≡ d' → e ≡ e' → f ≡ f'
    → a' + b' + c' + d' + e' + f' ≡ n → a + b + c + d + e + f ≡ n
six_same a b c d e f a' b' c' d' e' f' n p q r s t o all = omega (arith, p, q, r, s, t, o, all)

-- ---- of all lines

-- what one line counts for a verdict
abbrev one_of : LineVerdict → LineVerdict → ℕ
one_of which v = cond (is_same which v) 1 0

-- how often a verdict is among some
abbrev many : LineVerdict → List LineVerdict → ℕ
many which vs = count_by (is_same which) vs

many_more : (which v : LineVerdict) (vs : List LineVerdict) → many which (v ∷ vs) ≡ one_of which v + many which vs
many_more which v vs = sum_by-cons (one_of which) v vs

counted_since : (which : LineVerdict) (vs : List LineVerdict) (t : Tally) → count_in which t + length vs ≤ most
    → count_in which (fold counted t vs) ≡ count_in which t + many which vs
counted_since which [] t fits = none_more (count_in which t)
counted_since which (v ∷ vs) t fits =
    let one = counted_one which v t (room (count_in which t) (length vs) most fits) in
    let behind = room_behind (count_in which t) (length vs) most (one_of which v) (count_in which (tallied v t)) one (one_at_most (is_same which v)) fits in
    onward (count_in which t) (one_of which v) (many which vs) (count_in which (tallied v t)) (count_in which (fold counted (tallied v t) vs)) (many which (v ∷ vs)) one
    (counted_since which vs (tallied v t) behind) (many_more which v vs)

none_told : (which : LineVerdict) → count_in which no_tally ≡ 0
none_told Conforms = refl
none_told Violates = refl
none_told Open = refl
none_told Fault = refl
none_told NoMemory = refl
none_told Empty = refl

pub counted_told : (which : LineVerdict) (vs : List LineVerdict) → length vs ≤ most → count_in which (tally_of vs) ≡ many which vs
counted_told which vs fits =
    counted_since which vs no_tally (from_none (count_in which no_tally) (length vs) most (none_told which) fits)
    ∙ none_before (count_in which no_tally) (many which vs) (none_told which)

-- each verdict is just one of the six
one_of_six : (v : LineVerdict) → one_of Conforms v + one_of Violates v + one_of Open v + one_of Fault v + one_of NoMemory v + one_of Empty v ≡ 1
one_of_six Conforms = refl
one_of_six Violates = refl
one_of_six Open = refl
one_of_six Fault = refl
one_of_six NoMemory = refl
one_of_six Empty = refl

six : (vs : List LineVerdict) → many Conforms vs + many Violates vs + many Open vs + many Fault vs + many NoMemory vs + many Empty vs ≡ length vs
six [] = refl
six (v ∷ vs) =
    six_more (many Conforms vs) (many Violates vs) (many Open vs) (many Fault vs) (many NoMemory vs) (many Empty vs)
    (one_of Conforms v) (one_of Violates v) (one_of Open v) (one_of Fault v) (one_of NoMemory v) (one_of Empty v) (length vs)
    (many Conforms (v ∷ vs)) (many Violates (v ∷ vs)) (many Open (v ∷ vs)) (many Fault (v ∷ vs)) (many NoMemory (v ∷ vs)) (many Empty (v ∷ vs))
    (many_more Conforms v vs) (many_more Violates v vs) (many_more Open v vs) (many_more Fault v vs) (many_more NoMemory v vs) (many_more Empty v vs)
    (six vs) (one_of_six v)

pub all_told : (vs : List LineVerdict) → length vs ≤ most → total (tally_of vs) ≡ length vs
all_told vs fits =
    let t = tally_of vs in
    six_same t.conforms t.violates t.opens t.faults t.no_memory t.empties
    (many Conforms vs) (many Violates vs) (many Open vs) (many Fault vs) (many NoMemory vs) (many Empty vs) (length vs)
    (counted_told Conforms vs fits) (counted_told Violates vs fits) (counted_told Open vs fits) (counted_told Fault vs fits)
    (counted_told NoMemory vs fits) (counted_told Empty vs fits) (six vs)
