use Rattle.std.proofs.Common.{rules}
use Rattle.std.proofs.lemmas.Fn.{filter_same}
use Rattle.fhir_conformance.proofs.sequence.keep_behind.Goals as goal

pub returns : goal.returns
returns c = filter_same _ _ _ (λ x b f' k. search rules) c.args.standing.now.items c.retain.new.self.items c.retain.ensures.filtered
