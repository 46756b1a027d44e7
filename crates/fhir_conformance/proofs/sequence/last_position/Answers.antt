use Rattle.std.proofs.Common.{sym, ap, ◌∙◌}
use Rattle.std.specs.Option.{option_map, option_copied}
use Rattle.fhir_conformance.specs.declared.sequence.Standing.{Standing}
use Rattle.fhir_conformance.proofs.Standing.{last_is}
use Rattle.fhir_conformance.proofs.sequence.last_position.Goals as goal

pub returns-in-Some : goal.returns-in-Some
returns-in-Some c =
    ap (option_map (λ (one : Standing). one.position)) (sym (ap option_copied c.in-Some.is) ∙ c.last.ensures.value ∙ last_is c.args.standing.now)
