use Rattle.std.proofs.Common.{◌∙◌}
use Rattle.fhir_codes.specs.Concepts.{common}
use Rattle.fhir_codes.proofs.Looping.{gives_as}
use Rattle.fhir_codes.proofs.Members.{filter_common}
use Rattle.fhir_codes.proofs.combining.common_anew.Goals as goal

pub returns : goal.returns
returns c =
    gives_as (λ s. s) c.kept_in_all.result _ (common c.args.sets.now)
    (filter_common c.concepts.result.now c.args.sets.now c.smallest.result c.index-sets-smallest.result c.smallest.ensures (c.concepts.ensures ∙ c.index-sets-smallest.is)) c.kept_in_all.ensures
