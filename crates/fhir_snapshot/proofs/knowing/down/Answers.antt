use Rattle.std.proofs.Common.{rules, ◌≡◌, ◌∷◌, ◌++◌, [], Some, None, false, true, map, string_bytes, option_map, List, refl, sym, ap, subst, ◌∙◌}
use Rattle.fhir_snapshot.specs.Faults.{number_of}
use Rattle.fhir_snapshot.specs.Refusing.{HasOwn}
use Rattle.fhir_snapshot.proofs.Refused.{own_applies}
use Rattle.fhir_snapshot.proofs.knowing.down.Goals as goal

pub learn_fault-requires-clause-fault : goal.learn_fault-requires-clause-fault
learn_fault-requires-clause-fault c =
    let own : HasOwn c.args.sources.now c.args.url.now (number_of c.in-Nothing.fault) = search rules in
    own_applies c.args.sources.now c.args.url.now (number_of c.in-Nothing.fault) own
