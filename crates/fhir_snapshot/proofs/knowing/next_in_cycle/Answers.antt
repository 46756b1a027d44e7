use Rattle.std.proofs.Common.{rules, ◌≡◌, ◌∷◌, ◌++◌, [], Some, None, false, true, map, string_bytes, option_map, List, refl, sym, ap, subst, ◌∙◌}
use Rattle.fhir_snapshot.specs.declared.fault.SnapNumber.TheVariants.{S2}
use Rattle.fhir_snapshot.specs.Chains.{Rests}
use Rattle.fhir_snapshot.proofs.Known.{cycle_down}
use Rattle.fhir_snapshot.proofs.Refused.{own_applies}
use Rattle.fhir_snapshot.proofs.knowing.next_in_cycle.Goals as goal

pub learn_fault-requires-clause-fault : goal.learn_fault-requires-clause-fault
learn_fault-requires-clause-fault c = own_applies c.args.sources.now c.args.url.now S2 c.requires.cycle

pub returns-in-Base-clause-next : goal.returns-in-Base-clause-next
returns-in-Base-clause-next c =
    let rests : Rests c.args.sources.now c.args.url.now (string_bytes c.in-Base.base) = search rules in
    cycle_down c.args.sources.now c.args.url.now (string_bytes c.in-Base.base) rests c.requires.cycle
