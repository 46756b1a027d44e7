-- Numbers in digits, and the forms that are made of them.
use Rattle.std.proofs.Common.{◌≡◌, ◌∙◌, ap, sym, ℕ, ◌+◌, ◌-◌, ◌*◌, ◌/◌, ◌%◌, ◌≤◌, List, [], ◌∷◌, ◌++◌, length, Bool, true, false, ◌&&◌, ◌==◌, nat_le, arith}
use Rattle.std.specs.Prelude.{codes}
use Rattle.std.proofs.lemmas.Bool.{and_parts, and_from, and_left, leb-true, le-leb, eqb-true, ne_eqb}
use Rattle.std.specs.Char.{is_ascii_digit}
use Rattle.fhir_prims.specs.Shapes.{has_shape, all_fit, pair_at}
use Rattle.fhir_prims.specs.Moments.{year_of}
use Rattle.fhir_prims.specs.Utc.{day_at}
use Rattle.fhir_prims.specs.Written.{month, ahead, behind, two_digits, four_digits, day_text, minute_text, zone_text, text_of}

-- ---- two digits

tens : (n : ℕ) → n ≤ 99 → is_ascii_digit (48 + n / 10) ≡ true
tens n small = and_from (nat_le 48 (48 + n / 10)) (nat_le (48 + n / 10) 57) (le-leb 48 (48 + n / 10) (omega arith)) (le-leb (48 + n / 10) 57 (omega arith))

ones : (n : ℕ) → is_ascii_digit (48 + n % 10) ≡ true
ones n = and_from (nat_le 48 (48 + n % 10)) (nat_le (48 + n % 10) 57) (le-leb 48 (48 + n % 10) (omega arith)) (le-leb (48 + n % 10) 57 (omega arith))

pub two_fit : (n : ℕ) (rest : Bool) → n ≤ 99 → rest ≡ true → (is_ascii_digit (48 + n / 10) && (is_ascii_digit (48 + n % 10) && rest)) ≡ true
two_fit n rest small is =
    and_from (is_ascii_digit (48 + n / 10)) (is_ascii_digit (48 + n % 10) && rest) (tens n small) (and_from (is_ascii_digit (48 + n % 10)) rest (ones n) is)

-- the two bytes are digits
pub record ArePair (a b : ℕ) (rest : Bool) : Type 0 where
  pub text : two_digits (10 * (a - 48) + (b - 48)) ≡ a ∷ (b ∷ [])
  pub small : 10 * (a - 48) + (b - 48) ≤ 99
  pub behind : rest ≡ true

pub pair_back : (a b : ℕ) (rest : Bool) → (is_ascii_digit a && (is_ascii_digit b && rest)) ≡ true → ArePair a b rest
pair_back a b rest is =
    let one = and_parts (is_ascii_digit a) (is_ascii_digit b && rest) is in
    let two = and_parts (is_ascii_digit b) rest one.1 in
    let first = and_parts (nat_le 48 a) (nat_le a 57) one.0 in
    let second = and_parts (nat_le 48 b) (nat_le b 57) two.0 in
    let first_low = leb-true 48 a first.0 in
    let first_high = leb-true a 57 first.1 in
    let second_low = leb-true 48 b second.0 in
    let second_high = leb-true b 57 second.1 in
    let left : 48 + (10 * (a - 48) + (b - 48)) / 10 ≡ a = omega arith in
    let right : 48 + (10 * (a - 48) + (b - 48)) % 10 ≡ b = omega arith in
    record { text = cc; small = omega arith; behind = two.1 }

-- ---- lengths of shapes

pub shape_length : (shape s : List ℕ) → has_shape shape s ≡ true → length shape ≡ length s
shape_length shape s is = eqb-true (length shape) (length s) (and_parts (length shape == length s) (all_fit shape s) is).0

pub other_length : (shape s : List ℕ) → (length shape ≡ length s → ⊥) → has_shape shape s ≡ false
other_length shape s differ = and_left (length shape == length s) (all_fit shape s) (ne_eqb (length shape) (length s) differ)

-- ---- from the form to the text

-- the four bytes are digits
pub record AreFour (a b c d : ℕ) (rest : Bool) : Type 0 where
  pub text : four_digits (100 * (10 * (a - 48) + (b - 48)) + (10 * (c - 48) + (d - 48))) ≡ a ∷ (b ∷ (c ∷ (d ∷ [])))
  pub small : 100 * (10 * (a - 48) + (b - 48)) + (10 * (c - 48) + (d - 48)) ≤ 9999
  pub behind : rest ≡ true

halves : (x y a b c d : ℕ) → y ≤ 99 → two_digits x ≡ a ∷ (b ∷ []) → two_digits y ≡ c ∷ (d ∷ []) → four_digits (100 * x + y) ≡ a ∷ (b ∷ (c ∷ (d ∷ [])))
halves x y a b c d small front back =
    let century : (100 * x + y) / 100 ≡ x = omega arith in
    let rest : (100 * x + y) % 100 ≡ y = omega arith in
    ap (λ k. two_digits k ++ two_digits ((100 * x + y) % 100)) century ∙ ap (λ k. two_digits x ++ two_digits k) rest
    ∙ ap (λ t. t ++ two_digits y) front ∙ ap (λ t. a ∷ (b ∷ t)) back

four_back : (a b c d : ℕ) (rest : Bool) → (is_ascii_digit a && (is_ascii_digit b && (is_ascii_digit c && (is_ascii_digit d && rest)))) ≡ true
    → AreFour a b c d rest
four_back a b c d rest is =
    let front = pair_back a b (is_ascii_digit c && (is_ascii_digit d && rest)) is in
    let back = pair_back c d rest front.behind in
    let most = front.small in
    let more = back.small in
    record {
      text = halves (10 * (a - 48) + (b - 48)) (10 * (c - 48) + (d - 48)) a b c d back.small front.text back.text;
      small = omega arith;
      behind = back.behind;
    }

mark_back : (c mark : ℕ) (rest : Bool) → ((c == mark) && rest) ≡ true → (c ≡ mark) × (rest ≡ true)
mark_back c mark rest is =
    let both = and_parts (c == mark) rest is in
    (eqb-true c mark both.0, both.1)

pub year_back : (s : List ℕ) → has_shape (codes "0000") s ≡ true → (four_digits (year_of s) ≡ s) × (year_of s ≤ 9999)
year_back (a ∷ (b ∷ (c ∷ (d ∷ [])))) is =
    let year = four_back a b c d true is in
    (year.text, year.small)
year_back s is = let long = shape_length (codes "0000") s is in absurd (omega arith)

pub month_back : (s : List ℕ) → has_shape (codes "0000-00") s ≡ true → (text_of (month (year_of s) (pair_at s 5)) ≡ s) × (year_of s ≤ 9999)
month_back (a ∷ (b ∷ (c ∷ (d ∷ (e ∷ (f ∷ (g ∷ []))))))) is =
    let year = four_back a b c d _ is in
    let dash = mark_back e 45 _ year.behind in
    let month = pair_back f g true dash.1 in
    let mark = dash.0 in
    let y = year.text in
    let m = month.text in
    (cc, year.small)
month_back s is = let long = shape_length (codes "0000-00") s is in absurd (omega arith)

pub day_back : (s : List ℕ) → has_shape (codes "0000-00-00") s ≡ true → day_text (day_at s) ≡ s
day_back (a ∷ (b ∷ (c ∷ (d ∷ (e ∷ (f ∷ (g ∷ (h ∷ (i ∷ (j ∷ [])))))))))) is =
    let year = four_back a b c d _ is in
    let dash = mark_back e 45 _ year.behind in
    let month = pair_back f g _ dash.1 in
    let next = mark_back h 45 _ month.behind in
    let day = pair_back i j true next.1 in
    let mark = dash.0 in
    let other = next.0 in
    let y = year.text in
    let m = month.text in
    let d = day.text in
    cc
day_back s is = let long = shape_length (codes "0000-00-00") s is in absurd (omega arith)

-- hh:mm:ss
abbrev pub hms_text : ℕ → ℕ → ℕ → List ℕ
hms_text hour minute second = minute_text hour minute ++ (codes ":" ++ two_digits second)

pub clock_back : (s : List ℕ) → has_shape (codes "00:00:00") s ≡ true → hms_text (pair_at s 0) (pair_at s 3) (pair_at s 6) ≡ s
clock_back (a ∷ (b ∷ (c ∷ (d ∷ (e ∷ (f ∷ (g ∷ (h ∷ [])))))))) is =
    let hour = pair_back a b _ is in
    let colon = mark_back c 58 _ hour.behind in
    let minute = pair_back d e _ colon.1 in
    let next = mark_back f 58 _ minute.behind in
    let second = pair_back g h true next.1 in
    let mark = colon.0 in
    let other = next.0 in
    let x = hour.text in
    let y = minute.text in
    let z = second.text in
    cc
clock_back s is = let long = shape_length (codes "00:00:00") s is in absurd (omega arith)

pub zulu_back : (s : List ℕ) → has_shape (codes "Z") s ≡ true → codes "Z" ≡ s
zulu_back (a ∷ []) is = ap (λ k. k ∷ []) (sym (mark_back a 90 true is).0)
zulu_back s is = let long = shape_length (codes "Z") s is in absurd (omega arith)

pub ahead_back : (s : List ℕ) → has_shape (codes "+00:00") s ≡ true → zone_text (ahead (pair_at s 1) (pair_at s 4)) ≡ s
ahead_back (a ∷ (b ∷ (c ∷ (d ∷ (e ∷ (f ∷ [])))))) is =
    let sign = mark_back a 43 _ is in
    let hours = pair_back b c _ sign.1 in
    let colon = mark_back d 58 _ hours.behind in
    let minutes = pair_back e f true colon.1 in
    let mark = sign.0 in
    let other = colon.0 in
    let x = hours.text in
    let y = minutes.text in
    cc
ahead_back s is = let long = shape_length (codes "+00:00") s is in absurd (omega arith)

pub behind_back : (s : List ℕ) → has_shape (codes "-00:00") s ≡ true → zone_text (behind (pair_at s 1) (pair_at s 4)) ≡ s
behind_back (a ∷ (b ∷ (c ∷ (d ∷ (e ∷ (f ∷ [])))))) is =
    let sign = mark_back a 45 _ is in
    let hours = pair_back b c _ sign.1 in
    let colon = mark_back d 58 _ hours.behind in
    let minutes = pair_back e f true colon.1 in
    let mark = sign.0 in
    let other = colon.0 in
    let x = hours.text in
    let y = minutes.text in
    cc
behind_back s is = let long = shape_length (codes "-00:00") s is in absurd (omega arith)
