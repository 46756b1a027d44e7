-- What contracts see of what is said.
use Rattle.std.specs.Prelude.{List, map}
use Rattle.std.specs.Option.{option_map}
use Rattle.fhir_json.specs.Views.{text_seen}
use Rattle.fhir_cert_check.specs.Views.{rule_name}
use Rattle.fhir_compare.specs.declared.ways.Direction.{Direction as WayDirection}
use Rattle.fhir_compare.specs.declared.ways.Direction.TheVariants as directions
use Rattle.fhir_compare.specs.declared.verdict.Shown.{Shown}
use Rattle.fhir_compare.specs.declared.verdict.Shown.TheVariants as shown
use Rattle.fhir_compare.specs.declared.verdict.Way.{Way}
use Rattle.fhir_compare.specs.declared.verdict.Ways.{Ways}
use Rattle.fhir_compare.specs.declared.verdict.Verdict.{Verdict}
use Rattle.fhir_compare.specs.declared.verdict.Verdict.TheVariants as verdicts
use Rattle.fhir_compare.specs.declared.verdict.Compared.{Compared}
use Rattle.fhir_compare.specs.declared.owning.Own.{Own}
use Rattle.fhir_compare.specs.declared.owning.Own.TheVariants as owns
use Rattle.fhir_compare.specs.Owns.{OwnValue, own_both, own_unusable, own_only_in_old, own_other}
use Rattle.fhir_compare.specs.Comparing.{ShownValue, narrows, fails, cannot_be_used, Direction, new_in_old, old_in_new, WayValue, WaysValue, ways_with, VerdictValue, both, unusable_in, only_in_old, only_in_new, Said}

abbrev pub direction_seen : WayDirection → Direction
direction_seen directions.NewInOld = new_in_old
direction_seen directions.OldInNew = old_in_new

abbrev pub shown_seen : Shown → ShownValue
shown_seen shown.Narrows = narrows
shown_seen (shown.Fails pair rule resource) = fails pair (rule_name rule) (option_map (λ bytes. bytes.items) resource)
shown_seen shown.CannotBeUsed = cannot_be_used

abbrev pub way_seen : Way → WayValue
way_seen w = record { shown = shown_seen w.shown; blamed = text_seen w.blamed }

abbrev pub ways_seen : Ways → WaysValue
ways_seen w = ways_with (way_seen w.new_in_old) (way_seen w.old_in_new) (text_seen w.lost)

abbrev pub verdict_seen : Verdict → VerdictValue
verdict_seen (verdicts.Both ways) = both (ways_seen ways)
verdict_seen (verdicts.CannotBeUsed in_old in_new) = unusable_in in_old in_new
verdict_seen verdicts.OnlyInOld = only_in_old
verdict_seen verdicts.OnlyInNew = only_in_new

abbrev pub own_seen : Own → OwnValue
own_seen (owns.Both n o lost) = own_both (shown_seen n) (shown_seen o) (text_seen lost)
own_seen (owns.CannotBeUsed in_old in_new) = own_unusable in_old in_new
own_seen owns.OnlyInOld = own_only_in_old
own_seen owns.Other = own_other

abbrev pub all_owns : List Own → List OwnValue
all_owns os = map own_seen os

abbrev pub said_of : Compared → Said
said_of c = (c.url.now, verdict_seen c.verdict)

abbrev pub all_said : List Compared → List Said
all_said cs = map said_of cs
