-- Decimals whose points an exponent moves, and negative ones.
use Rattle.std.proofs.Common.{◌≡◌, ℕ, ◌+◌, ◌*◌, ◌^◌, ◌<◌, ◌≤◌, Bool, true, false, not, List, [], ◌++◌, length, sym, ap, ap₂, ◌∙◌, arith}
use Rattle.std.specs.Prelude.{if◌then◌else◌, pos, ◌*ℤ◌}
use Rattle.std.specs.declared.cmp.Ordering.TheVariants.{Less}
use Rattle.std.specs.Ordering.{nat_cmp, int_cmp, is_eq}
use Rattle.std.specs.Cmp.{nat_cmp_is}
use Rattle.std.proofs.lemmas.Cmp.{tied_itself, int_cmp_total}
use Rattle.std.proofs.lemmas.List.{append-nil}
use Rattle.std.proofs.lemmas.Nat.{mul-le}
use Rattle.fhir_json.specs.Tree.{Text}
use Rattle.fhir_decimal.specs.Text.{Parts}
use Rattle.fhir_decimal.specs.Value.{number_of, integer_of, value_of, value_order, is_same_value}
use Rattle.fhir_decimal.specs.Rows.{sum_over}
use Rattle.fhir_decimal.proofs.Order.{signed_cmp, whole_order, ten_pos}

-- ---- the point

moved : (s : Bool) (ds es : List ℕ) (i j : ℕ) → ds ≡ es → i ≡ j
    → is_eq (int_cmp (integer_of s (number_of ds) *ℤ pos (10 ^ i)) (integer_of s (number_of es) *ℤ pos (10 ^ j))) ≡ true
moved s ds es i j e f =
    let last = integer_of s (number_of es) *ℤ pos (10 ^ j) in
    ap is_eq (ap₂ (λ (cs : List ℕ) (k : ℕ). int_cmp (integer_of s (number_of cs) *ℤ pos (10 ^ k)) last) e f ∙ tied_itself int_cmp_total last)

pub raised : (negative : Bool) (whole fraction exponent : Text) → number_of exponent ≡ length fraction
    → is_same_value
    (value_of (record { negative = negative; whole = whole; fraction = fraction; lowers = false; exponent = exponent }))
    (value_of (record { negative = negative; whole = whole ++ fraction; fraction = []; lowers = false; exponent = [] })) ≡ true
unfolding value_of value_order
raised negative whole fraction exponent h =
    moved negative (whole ++ fraction) ((whole ++ fraction) ++ []) (number_of exponent + 0) (0 + (length fraction + 0))
    (sym (append-nil (whole ++ fraction))) (omega arith)

pub lowered : (negative : Bool) (whole fraction exponent : Text) → number_of exponent ≡ length fraction
    → is_same_value
    (value_of (record { negative = negative; whole = whole ++ fraction; fraction = []; lowers = true; exponent = exponent }))
    (value_of (record { negative = negative; whole = whole; fraction = fraction; lowers = false; exponent = [] })) ≡ true
unfolding value_of value_order
lowered negative whole fraction exponent h =
    moved negative ((whole ++ fraction) ++ []) (whole ++ fraction) (0 + (length fraction + 0)) (0 + (0 + number_of exponent))
    (append-nil (whole ++ fraction)) (omega arith)

-- ---- the sign

turned_sum : (s t : Bool) (x y : ℕ) → sum_over (not s) x (not t) y ≡ sum_over t y s x
turned_sum true true x y = omega arith
turned_sum true false x y = omega arith
turned_sum false true x y = omega arith
turned_sum false false x y = omega arith

turned_cmp : (s t : Bool) (x y : ℕ) → signed_cmp (not s) x (not t) y ≡ signed_cmp t y s x
turned_cmp s t x y = ap₂ nat_cmp (turned_sum s t x y) (turned_sum t s y x)

pub turned : (p q : Parts) → value_order (value_of (record p { negative = not p.negative })) (value_of (record q { negative = not q.negative }))
    ≡ value_order (value_of q) (value_of p)
unfolding value_of value_order
turned p q =
    let n = number_of (p.whole ++ p.fraction) in
    let m = number_of (q.whole ++ q.fraction) in
    let up = if p.lowers then 0 else number_of p.exponent in
    let other_up = if q.lowers then 0 else number_of q.exponent in
    let down = length p.fraction + (if p.lowers then number_of p.exponent else 0) in
    let other_down = length q.fraction + (if q.lowers then number_of q.exponent else 0) in
    whole_order (not p.negative) (not q.negative) n m (up + other_down) (other_up + down)
    ∙ turned_cmp p.negative q.negative (n * 10 ^ (up + other_down)) (m * 10 ^ (other_up + down))
    ∙ sym (whole_order q.negative p.negative m n (other_up + down) (up + other_down))

less_signed : (s t : Bool) (x y : ℕ) → s ≡ true → t ≡ false → 0 < x → signed_cmp s x t y ≡ Less
less_signed true false x y d e h = sym (nat_cmp_is (sum_over true x false y) (sum_over false y true x) Less (omega arith))
less_signed true true x y d e h = absurd cc
less_signed false t x y d e h = absurd cc

more_than_none : (n k : ℕ) → 0 < n → 0 < n * 10 ^ k
more_than_none n k h =
    let least : 1 * 1 ≤ n * 10 ^ k = mul-le 1 1 n (10 ^ k) h (ten_pos k) in
    omega arith

pub below : (p q : Parts) → p.negative ≡ true → q.negative ≡ false → 0 < number_of (p.whole ++ p.fraction) → value_order (value_of p) (value_of q) ≡ Less
unfolding value_of value_order
below p q d e h =
    let n = number_of (p.whole ++ p.fraction) in
    let m = number_of (q.whole ++ q.fraction) in
    let up = if p.lowers then 0 else number_of p.exponent in
    let other_up = if q.lowers then 0 else number_of q.exponent in
    let down = length p.fraction + (if p.lowers then number_of p.exponent else 0) in
    let other_down = length q.fraction + (if q.lowers then number_of q.exponent else 0) in
    whole_order p.negative q.negative n m (up + other_down) (other_up + down)
    ∙ less_signed p.negative q.negative (n * 10 ^ (up + other_down)) (m * 10 ^ (other_up + down)) d e (more_than_none n (up + other_down) h)
