use Rattle.std.specs.Option.{option_map}
use Rattle.fhir_audit.proofs.Said.{shown_by}
use Rattle.fhir_audit.proofs.judging.refuted.Goals as goal

pub returns : goal.returns
returns c =
    let texts = option_map (λ x. x.now) c.args.given in (
      option_map (λ bytes. bytes.items) c.in_ok-found.found,
      shown_by texts c.args.schema.now c.args.url.now c.args.base.now (λ bytes. bytes.items) c.in_ok-found.found c.in_ok-found.ensures.shown
          c.in_ok-found.ensures.line,
      c.with_resource.ensures,
    )
