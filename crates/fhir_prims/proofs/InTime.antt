-- Moments with a time are in the order of their minutes from one start.
use Rattle.std.proofs.Common.{◌≡◌, ℕ, zero, suc, ◌+◌, ◌-◌, ◌*◌, ◌/◌, ◌%◌, ◌<◌, ◌≤◌, refl, sym, ap, ap₂, subst, ◌∙◌, arith, true, Some}
use Rattle.std.proofs.lemmas.Cmp.{ranked}
use Rattle.std.specs.declared.cmp.Ordering.{Ordering}
use Rattle.std.specs.declared.cmp.Ordering.TheVariants.{Less, Equal, Greater}
use Rattle.std.specs.Ordering.{MatchOrdering, nat_cmp, ordering_then, partial_ordering_then}
use Rattle.std.specs.Cmp.{nat_cmp_is}
use Rattle.fhir_decimal.specs.Value.{Value, value_order}
use Rattle.fhir_prims.specs.declared.calendar.Day.{Day}
use Rattle.fhir_prims.specs.Moments.{days_in}
use Rattle.fhir_prims.specs.Calendar.{is_day, days_of_months, days_of_years, day_number, minutes_since}
use Rattle.fhir_prims.specs.Order.{moment_order}
use Rattle.fhir_prims.proofs.Days.{day_parts, month_next, year_next}
use Rattle.fhir_prims.specs.Reading.{moment_fields}

ranks : (x y : ℕ) → MatchOrdering (nat_cmp x y) (x < y) (x ≡ y) (y < x)
ranks x y = ranked x y (nat_cmp x y) refl

level : (a b r s : ℕ) → a ≡ b → nat_cmp (a + r) (b + s) ≡ nat_cmp r s
level a b r s e = sym (nat_cmp_is (a + r) (b + s) (nat_cmp r s) (raised (nat_cmp r s) (ranks r s)))
  where
    raised : (o : Ordering) → MatchOrdering o (r < s) (r ≡ s) (s < r) → MatchOrdering o (a + r < b + s) (a + r ≡ b + s) (b + s < a + r)
    raised Less h = omega arith
    raised Equal h = omega arith
    raised Greater h = omega arith

lowered : (x y : ℕ) → 1 ≤ x → 1 ≤ y → nat_cmp (x - 1) (y - 1) ≡ nat_cmp x y
lowered x y p q =
    let x_is : 1 + (x - 1) ≡ x = omega arith in
    let y_is : 1 + (y - 1) ≡ y = omega arith in
    sym (level 1 1 (x - 1) (y - 1) refl) ∙ ap (λ z. nat_cmp z (1 + (y - 1))) x_is ∙ ap (nat_cmp x) y_is

-- ---- steps of which the first i have f i places, and step i has g i

module _ (f g : ℕ → ℕ) (next : (i : ℕ) → f (suc i) ≡ f i + g i) where
  further : (i n : ℕ) → f (suc i) ≤ f (suc i + n)
  further i zero =
      let none : suc i ≡ suc i + 0 = omega arith in
      let same : f (suc i) ≡ f (suc i + 0) = ap f none in
      omega arith
  further i (suc n) =
      let one : suc (suc i + n) ≡ suc i + suc n = omega arith in
      let same : f (suc (suc i + n)) ≡ f (suc i + suc n) = ap f one in
      let before = further i n in
      let step = next (suc i + n) in
      omega arith

  above : (i j : ℕ) → i < j → f (suc i) ≤ f j
  above i j less =
      let gap : suc i + (j - suc i) ≡ j = omega arith in
      subst (λ k. f (suc i) ≤ f k) gap (further i (j - suc i))

  below : (i j r s : ℕ) → r < g i → i < j → f i + r < f j + s
  below i j r s small less =
      let step = next i in
      let up = above i j less in
      omega arith

  by_steps : (i j r s : ℕ) (o : Ordering) → MatchOrdering o (i < j) (i ≡ j) (j < i) → r < g i → s < g j
      → nat_cmp (f i + r) (f j + s) ≡ ordering_then o (nat_cmp r s)
  by_steps i j r s Less h p q = sym (nat_cmp_is (f i + r) (f j + s) Less (below i j r s p h))
  by_steps i j r s Equal h p q = level (f i) (f j) r s (ap f h)
  by_steps i j r s Greater h p q = sym (nat_cmp_is (f i + r) (f j + s) Greater (below j i s r q h))

  pub stepped : (i j r s : ℕ) → r < g i → s < g j → nat_cmp (f i + r) (f j + s) ≡ ordering_then (nat_cmp i j) (nat_cmp r s)
  stepped i j r s p q = by_steps i j r s (nat_cmp i j) (ranks i j) p q

-- ---- days

-- the place of a day in its year, from 0
abbrev place_in_year : Day → ℕ
place_in_year d = days_of_months d.year (d.month - 1) + (d.day - 1)

in_month : (d : Day) → is_day d ≡ true → d.day - 1 < days_in d.year (suc (d.month - 1))
in_month d is =
    let parts = day_parts d is in
    let low = parts.0 in
    let first = parts.2 in
    let last = parts.3 in
    let month : suc (d.month - 1) ≡ d.month = omega arith in
    let last_of : d.day ≤ days_in d.year (suc (d.month - 1)) = subst (λ m. d.day ≤ days_in d.year m) (sym month) last in
    omega arith

in_year : (d : Day) → is_day d ≡ true → place_in_year d < days_of_months d.year 12
in_year d is =
    let parts = day_parts d is in
    let low = parts.0 in
    let high = parts.1 in
    let small = in_month d is in
    let next = month_next d.year (d.month - 1) in
    let rest = further (days_of_months d.year) (λ i. days_in d.year (suc i)) (month_next d.year) (d.month - 1) (12 - d.month) in
    let all : suc (d.month - 1) + (12 - d.month) ≡ 12 = omega arith in
    let up : days_of_months d.year (suc (d.month - 1)) ≤ days_of_months d.year 12 =
    subst (λ k. days_of_months d.year (suc (d.month - 1)) ≤ days_of_months d.year k) all rest in
    omega arith

number_is : (d : Day) → day_number d ≡ days_of_years d.year + place_in_year d
number_is d = omega arith

-- ---- orders

where_equal : (o r s : Ordering) → (o ≡ Equal → r ≡ s) → ordering_then o r ≡ ordering_then o s
where_equal Less r s same = refl
where_equal Equal r s same = same refl
where_equal Greater r s same = refl

pub equal_numbers : (x y : ℕ) → nat_cmp x y ≡ Equal → x ≡ y
equal_numbers x y e = ranked x y Equal (sym e)

-- the order of days by year, month and day
abbrev pub by_fields : Day → Day → Ordering
by_fields d e = ordering_then (nat_cmp d.year e.year) (ordering_then (nat_cmp d.month e.month) (nat_cmp d.day e.day))

in_one_year : (d e : Day) → is_day d ≡ true → is_day e ≡ true → d.year ≡ e.year
    → nat_cmp (place_in_year d) (place_in_year e) ≡ ordering_then (nat_cmp d.month e.month) (nat_cmp d.day e.day)
in_one_year d e p q same =
    let one = day_parts d p in
    let other = day_parts e q in
    let small : e.day - 1 < days_in d.year (suc (e.month - 1)) = subst (λ y. e.day - 1 < days_in y (suc (e.month - 1))) (sym same) (in_month e q) in
    let place : place_in_year e ≡ days_of_months d.year (e.month - 1) + (e.day - 1) = ap (λ y. days_of_months y (e.month - 1) + (e.day - 1)) (sym same) in
    ap (nat_cmp (place_in_year d)) place
    ∙ stepped (days_of_months d.year) (λ i. days_in d.year (suc i)) (month_next d.year) (d.month - 1) (e.month - 1) (d.day - 1) (e.day - 1) (in_month d p) small
    ∙ ap₂ ordering_then (lowered d.month e.month one.0 other.0) (lowered d.day e.day one.2 other.2)

days_ordered : (d e : Day) → is_day d ≡ true → is_day e ≡ true → nat_cmp (day_number d) (day_number e) ≡ by_fields d e
days_ordered d e p q =
    ap₂ nat_cmp (number_is d) (number_is e)
    ∙ stepped days_of_years (λ y. days_of_months y 12) year_next d.year e.year (place_in_year d) (place_in_year e) (in_year d p) (in_year e q)
    ∙ where_equal (nat_cmp d.year e.year) (nat_cmp (place_in_year d) (place_in_year e)) (ordering_then (nat_cmp d.month e.month) (nat_cmp d.day e.day))
    (λ y. in_one_year d e p q (equal_numbers d.year e.year y))

-- ---- minutes

even : (k i : ℕ) → k * suc i ≡ k * i + k
even k i = grind arith

minutes_ordered : (m n : ℕ) → nat_cmp m n ≡ ordering_then (nat_cmp (m / 60) (n / 60)) (nat_cmp (m % 60) (n % 60))
minutes_ordered m n =
    let m_is : m ≡ 60 * (m / 60) + m % 60 = omega arith in
    let n_is : n ≡ 60 * (n / 60) + n % 60 = omega arith in
    let m_small : m % 60 < 60 = omega arith in
    let n_small : n % 60 < 60 = omega arith in
    ap₂ nat_cmp m_is n_is ∙ stepped (λ i. 60 * i) (λ i. 60) (even 60) (m / 60) (n / 60) (m % 60) (n % 60) m_small n_small

pub counted : (d e : Day) (m n : ℕ) → is_day d ≡ true → is_day e ≡ true → m < 1440 → n < 1440
    → nat_cmp (minutes_since d m) (minutes_since e n) ≡ ordering_then (by_fields d e) (ordering_then (nat_cmp (m / 60) (n / 60)) (nat_cmp (m % 60) (n % 60)))
counted d e m n p q small other =
    stepped (λ i. 1440 * i) (λ i. 1440) (even 1440) (day_number d) (day_number e) m n small other
    ∙ ap₂ ordering_then (days_ordered d e p q) (minutes_ordered m n)

-- ---- fields

six : (a b c d e f : Ordering)
    → partial_ordering_then (Some a)
    (partial_ordering_then (Some b) (partial_ordering_then (Some c) (partial_ordering_then (Some d) (partial_ordering_then (Some e) (Some f)))))
    ≡ Some (ordering_then (ordering_then (ordering_then a (ordering_then b c)) (ordering_then d e)) f)
six Less b c d e f = refl
six Greater b c d e f = refl
six Equal Less c d e f = refl
six Equal Greater c d e f = refl
six Equal Equal Less d e f = refl
six Equal Equal Greater d e f = refl
six Equal Equal Equal Less e f = refl
six Equal Equal Equal Greater e f = refl
six Equal Equal Equal Equal Less f = refl
six Equal Equal Equal Equal Greater f = refl
six Equal Equal Equal Equal Equal f = refl

pub in_time : (d e : Day) (m n : ℕ) (a b : Value) → is_day d ≡ true → is_day e ≡ true → m < 1440 → n < 1440
    → moment_order (moment_fields d m a) (moment_fields e n b) ≡ Some (ordering_then (nat_cmp (minutes_since d m) (minutes_since e n)) (value_order a b))
in_time d e m n a b p q small other =
    six (nat_cmp d.year e.year) (nat_cmp d.month e.month) (nat_cmp d.day e.day) (nat_cmp (m / 60) (n / 60)) (nat_cmp (m % 60) (n % 60)) (value_order a b)
    ∙ ap (λ o. Some (ordering_then o (value_order a b))) (sym (counted d e m n p q small other))
