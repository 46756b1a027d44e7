-- The number that digits write, place by place.
use Rattle.std.proofs.Common.{◌≡◌, ℕ, zero, suc, ◌+◌, ◌-◌, ◌*◌, ◌^◌, ◌<◌, ◌≤◌, min, Bool, true, false, not, List, [], ◌∷◌, length, refl, sym, ap, ap₂, ◌∙◌}
use Rattle.std.proofs.Common.{arith, one-add}
use Rattle.std.specs.Prelude.{if◌then◌else◌}
use Rattle.std.proofs.Math.Nat.{pow-succ'}
use Rattle.std.proofs.lemmas.Nat.{mul-le}
use Rattle.std.proofs.lemmas.Bool.{lt-ltb, le-ltb}
use Rattle.fhir_decimal.specs.Value.{digit_value, number_of}
use Rattle.std.proofs.lemmas.List.{length-append}
use Rattle.fhir_decimal.specs.declared.rows.Row.{Row}
use Rattle.fhir_decimal.specs.Rows.{digits_in, places_in, number_in, digit_in, digit_from, apart, next_apart, signed_apart}

-- the number that the first digits write
abbrev pub prefix : (ℕ → ℕ) → ℕ → ℕ
prefix d zero = 0
prefix d (suc n) = 10 * prefix d n + d n

prefix_same : (d e : ℕ → ℕ) (n : ℕ) → ((k : ℕ) → k < n → d k ≡ e k) → prefix d n ≡ prefix e n
prefix_same d e zero h = refl
prefix_same d e (suc n) h = ap₂ (λ (a b : ℕ). 10 * a + b) (prefix_same d e n (λ k l. h k (omega arith))) (h n (omega arith))

prefix_zero : (d : ℕ → ℕ) (n : ℕ) → ((k : ℕ) → k < n → d k ≡ 0) → prefix d n ≡ 0
prefix_zero d zero h = refl
prefix_zero d (suc n) h = let p = prefix_zero d n (λ k l. h k (omega arith)) in let q = h n (omega arith) in omega arith

shifted : (p w q e : ℕ) → 10 * (p * w + q) + e ≡ p * (10 * w) + (10 * q + e)
shifted p w q e = grind arith

prefix_split : (d : ℕ → ℕ) (m n : ℕ) → prefix d (m + n) ≡ prefix d m * 10 ^ n + prefix (λ k. d (m + k)) n
prefix_split d m zero =
    let e : m + 0 ≡ m = omega arith in
    ap (prefix d) e ∙ omega arith
prefix_split d m (suc n) =
    let e : m + suc n ≡ suc (m + n) = omega arith in
    let later = prefix (λ k. d (m + k)) n in
    ap (prefix d) e ∙ ap (λ (z : ℕ). 10 * z + d (m + n)) (prefix_split d m n) ∙ shifted (prefix d m) (10 ^ n) later (d (m + n))
    ∙ ap (λ (w : ℕ). prefix d m * w + (10 * later + d (m + n))) (sym (pow-succ' 10 n))

pub prefix_number : (ds : List ℕ) → prefix (digit_in ds) (length ds) ≡ number_of ds
prefix_number [] = refl
prefix_number (x ∷ ds) =
    let n = length ds in
    let here = digit_in (x ∷ ds) in
    let e : suc n ≡ 1 + n = omega arith in
    let first : 10 * 0 + digit_value x ≡ digit_value x = omega arith in
    let later : prefix (λ k. here (1 + k)) n ≡ number_of ds = prefix_same (λ k. here (1 + k)) (digit_in ds) n (λ k l. ap here (one-add k)) ∙ prefix_number ds in
    ap (prefix here) e ∙ prefix_split here 1 n ∙ ap₂ (λ (a b : ℕ). a * 10 ^ n + b) first later

digits_behind : (ds : List ℕ) (k : ℕ) → digit_in ds (length ds + k) ≡ 0
digits_behind [] k = refl
digits_behind (x ∷ ds) k =
    let e : suc (length ds) + k ≡ suc (length ds + k) = omega arith in
    ap (digit_in (x ∷ ds)) e ∙ digits_behind ds k

before_start : (start : ℕ) (ds : List ℕ) (k : ℕ) → k < start → digit_from start ds k ≡ 0
before_start start ds k l = rw (lt-ltb k start l) refl

from_start : (start : ℕ) (ds : List ℕ) (k : ℕ) → digit_from start ds (start + k) ≡ digit_in ds k
from_start start ds k =
    let e : start + k - start ≡ k = omega arith in
    rw (le-ltb (start + k) start (omega arith), e) refl

pub row_number : (ds : List ℕ) (start behind n : ℕ) → n ≡ start + (length ds + behind) → prefix (digit_from start ds) n ≡ number_of ds * 10 ^ behind
row_number ds start behind n e =
    let d = digit_from start ds in
    let m = length ds + behind in
    let front : prefix d start ≡ 0 = prefix_zero d start (before_start start ds) in
    let tail : prefix (λ k. digit_in ds (length ds + k)) behind ≡ 0 = prefix_zero (λ k. digit_in ds (length ds + k)) behind (λ k l. digits_behind ds k) in
    let digits : prefix (λ k. d (start + k)) m ≡ number_of ds * 10 ^ behind + 0 =
    prefix_same (λ k. d (start + k)) (digit_in ds) m (λ k l. from_start start ds k)
    ∙ prefix_split (digit_in ds) (length ds) behind
    ∙ ap₂ (λ (a b : ℕ). a * 10 ^ behind + b) (prefix_number ds) tail
    in
    ap (prefix d) e ∙ prefix_split d start m ∙ ap₂ (λ (a b : ℕ). a * 10 ^ m + b) front digits ∙ omega arith

pub digit_small : (b : ℕ) → digit_value b ≤ 9
digit_small b = grind arith

pub number_below : (ds : List ℕ) → number_of ds < 10 ^ length ds
number_below [] = omega arith
number_below (d ∷ ds) =
    let w = 10 ^ length ds in
    let here : digit_value d * w ≤ 9 * w = mul-le (digit_value d) w 9 w (digit_small d) (omega arith) in
    let later : number_of ds < w = number_below ds in
    rw (pow-succ' 10 (length ds)) (omega arith)

-- ---- one digit more

near_step : (far x y a b t : ℕ) → 2 ≤ far → a ≤ 18 → b ≤ 18 → t + b ≡ 18 + a
    → min (2 * far) ((10 * min (2 * far) ((far + x) - y) + t) - (9 * far + 18)) ≡ min (2 * far) ((far + (10 * x + a)) - (10 * y + b))
near_step far x y a b t f p q e = omega arith

pub apart_step : (far : ℕ) (s t : Bool) (x y a b : ℕ) → 2 ≤ far → a ≤ 9 → b ≤ 9
    → next_apart far (signed_apart far s x t y) ((if s then 9 - a else 9 + a) + (if not t then 9 - b else 9 + b))
    ≡ signed_apart far s (10 * x + a) t (10 * y + b)
unfolding apart
apart_step far true true x y a b f p q = omega arith
apart_step far true false x y a b f p q = omega arith
apart_step far false true x y a b f p q = omega arith
apart_step far false false x y a b f p q = omega arith

pub apart_near : (far x y : ℕ) → apart far x y ≤ 2 * far
unfolding apart
apart_near far x y = omega arith

-- ---- the program's loop

pub apart_level : (far : ℕ) (s t : Bool) → far ≡ signed_apart far s 0 t 0
unfolding apart
apart_level far true true = omega arith
apart_level far true false = omega arith
apart_level far false true = omega arith
apart_level far false false = omega arith

pub place_step : (far : ℕ) (s t : Bool) (d e : ℕ → ℕ) (place before raise lower a b r : ℕ) → 2 ≤ far
    → before ≡ signed_apart far s (prefix d place) t (prefix e place) → a ≡ d place → b ≡ e place → a ≤ 9 → b ≤ 9
    → raise ≡ (if s then 9 - a else 9 + a) → lower ≡ (if not t then 9 - b else 9 + b) → r ≡ next_apart far before (raise + lower)
    → r ≡ signed_apart far s (prefix d (place + 1)) t (prefix e (place + 1))
place_step far s t d e place before raise lower a b r f is here there p q up down now =
    let next : place + 1 ≡ suc place = omega arith in
    now
    ∙ ap₂ (next_apart far) is (ap₂ (λ (v w : ℕ). v + w) up down)
    ∙ apart_step far s t (prefix d place) (prefix e place) a b f p q
    ∙ ap₂ (λ (v w : ℕ). signed_apart far s (10 * prefix d place + v) t (10 * prefix e place + w)) here there
    ∙ ap (λ (k : ℕ). signed_apart far s (prefix d k) t (prefix e k)) (sym next)

pub row_done : (r : Row) (start n : ℕ) → places_in r ≤ n → start ≡ n - places_in r → prefix (digit_from start (digits_in r)) n ≡ number_in r
unfolding number_in
row_done r start n room e =
    let digits : length (digits_in r) ≡ length r.front.now + length r.back.now = length-append r.front.now r.back.now in
    row_number (digits_in r) start r.zeros n (omega arith)

pub apart_same : (far : ℕ) (s s' t t' : Bool) (x x' y y' r : ℕ) → r ≡ signed_apart far s x t y → s ≡ s' → x ≡ x' → t ≡ t' → y ≡ y'
    → r ≡ signed_apart far s' x' t' y'
apart_same far s s' t t' x x' y y' r h a b c d =
    h ∙ ap₂ (λ (u v : Bool). signed_apart far u x v y) a c ∙ ap₂ (λ (v w : ℕ). signed_apart far s' v t' w) b d
