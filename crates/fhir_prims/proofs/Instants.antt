-- What is known of the parts of a moment's text.
use Rattle.std.proofs.Common.{◌≡◌, ◌∙◌, ap, ◌&&◌, ◌==◌, true}
use Rattle.std.specs.Prelude.{codes}
use Rattle.std.proofs.lemmas.Bool.{and_parts}
use Rattle.fhir_prims.specs.declared.calendar.Day.{Day}
use Rattle.fhir_prims.specs.Shapes.{has_shape, pair_at}
use Rattle.fhir_prims.specs.Cut.{MomentParts}
use Rattle.fhir_prims.specs.Moments.{year_of, has_day, is_day_text, is_zone, has_clock, is_moment}
use Rattle.fhir_prims.specs.Utc.{day_at}

pub record MomentFacts (p : MomentParts) : Type 0 where
  pub day : is_day_text p.day ≡ true
  pub mark : (p.mark == 84) ≡ true
  pub clock : has_clock p.time ≡ true
  pub zone : is_zone p.time.zone ≡ true

pub moment_facts : (p : MomentParts) → is_moment p ≡ true → MomentFacts p
moment_facts p is =
    let three = and_parts (is_day_text p.day && (p.mark == 84) && has_clock p.time) (is_zone p.time.zone) is in
    let two = and_parts (is_day_text p.day && (p.mark == 84)) (has_clock p.time) three.0 in
    let one = and_parts (is_day_text p.day) (p.mark == 84) two.0 in
    record { day = one.0; mark = one.1; clock = two.1; zone = three.1 }

pub day_exists : (p : MomentParts) → is_moment p ≡ true → has_day (year_of p.day) (pair_at p.day 5) (pair_at p.day 8) ≡ true
day_exists p is =
    (and_parts (has_shape (codes "0000-00-00") p.day) (has_day (year_of p.day) (pair_at p.day 5) (pair_at p.day 8)) (moment_facts p is).day).1

pub has_its_day : (p : MomentParts) (d : Day) → is_moment p ≡ true → d ≡ day_at p.day → has_day d.year d.month d.day ≡ true
has_its_day p d is day = ap (λ d. has_day d.year d.month d.day) day ∙ day_exists p is
