-- The move to UTC keeps the minutes.
use Rattle.std.proofs.Common.{◌≡◌, ℕ, suc, ◌+◌, ◌-◌, ◌*◌, ◌%◌, ◌<◌, ◌≤◌, List, refl, sym, ap, arith, Bool, true, false, true≢false, ◌&&◌, ◌||◌, nat_le, nat_lt}
use Rattle.std.specs.Prelude.{if◌then◌else◌, codes}
use Rattle.std.proofs.lemmas.Bool.{and_parts, leb-true, ltb-true, ltb-false}
use Rattle.fhir_prims.specs.declared.calendar.Day.{Day}
use Rattle.fhir_prims.specs.Shapes.{has_shape, pair_at}
use Rattle.fhir_prims.specs.Cut.{MomentParts}
use Rattle.fhir_prims.specs.Moments.{year_of, is_in_calendar, is_time_of_day, is_clock, is_fraction, is_offset_form, is_offset_size, is_moment}
use Rattle.fhir_prims.specs.Calendar.{is_day, day_after, day_before, day_number, minutes_since}
use Rattle.fhir_prims.specs.Utc.{day_at, minutes_at, offset_of, is_behind, day_of_minutes}
use Rattle.fhir_prims.specs.Reading.{minutes_of, day_of}
use Rattle.fhir_prims.proofs.Days.{number_after, number_before, day_after_exists, day_before_exists}
use Rattle.fhir_prims.proofs.Instants.{moment_facts, day_exists}

-- ---- where minutes from the start of the day before fall

landed_by : (n : ℕ) (d : Day) (a b : Bool) → nat_lt n 1440 ≡ a → nat_lt n 2880 ≡ b → n < 4320 → 1 ≤ d.year → is_day d ≡ true
    → minutes_since (if a then day_before d else (if b then d else day_after d)) (n % 1440) + 1440 ≡ 1440 * day_number d + n
landed_by n d true b p q small late is =
    let less = ltb-true n 1440 p in
    let number = number_before d late is in
    let times : 1440 * suc (day_number (day_before d)) ≡ 1440 * day_number d = ap (λ k. 1440 * k) number in
    let rest : n % 1440 ≡ n = omega arith in
    omega arith
landed_by n d false true p q small late is =
    let more = ltb-false n 1440 p in
    let less = ltb-true n 2880 q in
    let rest : n % 1440 ≡ n - 1440 = omega arith in
    omega arith
landed_by n d false false p q small late is =
    let more = ltb-false n 2880 q in
    let number = number_after d is in
    let times : 1440 * day_number (day_after d) ≡ 1440 * suc (day_number d) = ap (λ k. 1440 * k) number in
    let rest : n % 1440 ≡ n - 2880 = omega arith in
    omega arith

landed : (n : ℕ) (d : Day) → n < 4320 → 1 ≤ d.year → is_day d ≡ true → minutes_since (day_of_minutes n d) (n % 1440) + 1440 ≡ 1440 * day_number d + n
landed n d = landed_by n d (nat_lt n 1440) (nat_lt n 2880) refl refl

lands_by : (d : Day) (a b : Bool) → is_day d ≡ true → is_day (if a then day_before d else (if b then d else day_after d)) ≡ true
lands_by d true b is = day_before_exists d is
lands_by d false true is = is
lands_by d false false is = day_after_exists d is

lands : (n : ℕ) (d : Day) → is_day d ≡ true → is_day (day_of_minutes n d) ≡ true
lands n d = lands_by d (nat_lt n 1440) (nat_lt n 2880)

-- ---- the two ways of a move

move_ahead : (d : Day) (m o : ℕ) (b : Bool) → m < 1440 → o ≤ 840 → 1 ≤ d.year → is_day d ≡ true → b ≡ false
    → minutes_since (day_of_minutes (if b then 1440 + m + o else (1440 + m) - o) d) ((if b then 1440 + m + o else (1440 + m) - o) % 1440) + o
    ≡ minutes_since d m
move_ahead d m o true p q late is h = absurd (true≢false h)
move_ahead d m o false p q late is h =
    let there = landed ((1440 + m) - o) d (omega arith) late is in
    omega arith

move_behind : (d : Day) (m o : ℕ) (b : Bool) → m < 1440 → o ≤ 840 → 1 ≤ d.year → is_day d ≡ true → b ≡ true
    → minutes_since (day_of_minutes (if b then 1440 + m + o else (1440 + m) - o) d) ((if b then 1440 + m + o else (1440 + m) - o) % 1440)
    ≡ minutes_since d m + o
move_behind d m o false p q late is h = absurd (true≢false (sym h))
move_behind d m o true p q late is h =
    let there = landed (1440 + m + o) d (omega arith) late is in
    omega arith

-- ---- what an instant's text gives

minutes_small : (p : MomentParts) → is_moment p ≡ true → minutes_at p.time.clock 0 < 1440
minutes_small p is =
    let c = p.time.clock in
    let clock = (and_parts (is_clock c) (is_fraction p.time.fraction) (moment_facts p is).clock).0 in
    let day = (and_parts (has_shape (codes "00:00:00") c) (is_time_of_day (pair_at c 0) (pair_at c 3) (pair_at c 6)) clock).1 in
    let two = (and_parts (nat_le (pair_at c 0) 23 && nat_le (pair_at c 3) 59) (nat_le (pair_at c 6) 60) day).0 in
    let one = and_parts (nat_le (pair_at c 0) 23) (nat_le (pair_at c 3) 59) two in
    let hours = leb-true (pair_at c 0) 23 one.0 in
    let minutes = leb-true (pair_at c 3) 59 one.1 in
    omega arith

size_small : (h m : ℕ) → is_offset_size h m ≡ true → 60 * h + m ≤ 840
size_small h m is = grind arith

offset_by : (z : List ℕ) (b : Bool) → (b || (is_offset_form z && is_offset_size (pair_at z 1) (pair_at z 4))) ≡ true → (if b then 0 else minutes_at z 1) ≤ 840
offset_by z true is = omega arith
offset_by z false is = size_small (pair_at z 1) (pair_at z 4) (and_parts (is_offset_form z) (is_offset_size (pair_at z 1) (pair_at z 4)) is).1

offset_small : (p : MomentParts) → is_moment p ≡ true → offset_of p.time.zone ≤ 840
offset_small p is = offset_by p.time.zone (has_shape (codes "Z") p.time.zone) (moment_facts p is).zone

local_day : (p : MomentParts) → is_moment p ≡ true → is_day (day_at p.day) ≡ true
local_day p is =
    let d = day_at p.day in
    (and_parts (nat_le 1 d.year && nat_le d.year 9999) (is_in_calendar d.year d.month d.day) (day_exists p is)).1

local_year : (p : MomentParts) → is_moment p ≡ true → 1 ≤ year_of p.day
local_year p is =
    let d = day_at p.day in
    let years = (and_parts (nat_le 1 d.year && nat_le d.year 9999) (is_in_calendar d.year d.month d.day) (day_exists p is)).0 in
    leb-true 1 d.year (and_parts (nat_le 1 d.year) (nat_le d.year 9999) years).0

-- ---- the move

pub ahead : (p : MomentParts) → is_moment p ≡ true → is_behind p.time.zone ≡ false
    → minutes_since (day_of p) (minutes_of p.time % 1440) + offset_of p.time.zone ≡ minutes_since (day_at p.day) (minutes_at p.time.clock 0)
ahead p is =
    move_ahead (day_at p.day) (minutes_at p.time.clock 0) (offset_of p.time.zone) (is_behind p.time.zone) (minutes_small p is) (offset_small p is)
    (local_year p is) (local_day p is)

pub behind : (p : MomentParts) → is_moment p ≡ true → is_behind p.time.zone ≡ true
    → minutes_since (day_of p) (minutes_of p.time % 1440) ≡ minutes_since (day_at p.day) (minutes_at p.time.clock 0) + offset_of p.time.zone
behind p is =
    move_behind (day_at p.day) (minutes_at p.time.clock 0) (offset_of p.time.zone) (is_behind p.time.zone) (minutes_small p is) (offset_small p is)
    (local_year p is) (local_day p is)

pub on_a_day : (p : MomentParts) → is_moment p ≡ true → is_day (day_of p) ≡ true
on_a_day p is = lands (minutes_of p.time) (day_at p.day) (local_day p is)
