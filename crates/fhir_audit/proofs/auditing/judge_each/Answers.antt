use Rattle.std.specs.Option.{option_map}
use Rattle.fhir_audit.specs.Views.{all_audited}
use Rattle.fhir_audit.proofs.Listing.{all_told}
use Rattle.fhir_audit.proofs.auditing.judge_each.Goals as goal

pub returns : goal.returns
returns g c =
    all_told (option_map (λ t. t.now) c.args.given) c.args.schema.now c.args.survey.now c.args.profiles.now c.loop-place.place
    (all_audited c.loop-place.all.items) c.loop-place-test.false c.loop-place.invariant
