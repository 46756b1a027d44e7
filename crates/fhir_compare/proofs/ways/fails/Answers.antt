use Rattle.std.proofs.Common.{ℕ, Vec, Global}
use Rattle.fhir_compare.specs.Comparing.{ShowsBetween}
use Rattle.fhir_compare.specs.Views.{direction_seen}
use Rattle.fhir_compare.proofs.Outcomes.{some_map}
use Rattle.fhir_compare.proofs.ways.fails.Goals as goal

pub returns : goal.returns
returns c =
    let two = c.args.two in (
      c.requires.none,
      c.requires.blamed,
      some_map (λ (bytes : Vec ℕ Global). bytes.items) c.in_ok-resource.resource
          (ShowsBetween (direction_seen c.args.direction) two.old_schema.now two.schema.now two.url.now) c.in_ok-resource.ensures,
    )
