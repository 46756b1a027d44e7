use Rattle.std.proofs.Common.{rules}
use Rattle.std.proofs.lemmas.Fn.{dedup_same}
use Rattle.fhir_codes.specs.Including.{are_of_one}
use Rattle.fhir_codes.proofs.SameSets.{distinct_same}
use Rattle.fhir_codes.proofs.included.distinct.Goals as goal

pub returns : goal.returns
returns c tables =
    distinct_same tables c.args.parts.items c.sort_unstable_by.new.self.items c.dedup_by.new.self.items
    c.sort_unstable_by.ensures.permutation (dedup_same _ are_of_one _ (λ x y b f' x' y' k. search rules) _ _ c.dedup_by.ensures.filtered)
