use Rattle.std.proofs.Common.{is_some, ap, ◌∙◌}
use Rattle.fhir_matching.proofs.PlaceMaps.{found_within}
use Rattle.fhir_matching.proofs.indexed.place_in.Goals as goal

pub returns-in-Some-clause-named : goal.returns-in-Some-clause-named
returns-in-Some-clause-named c = ap is_some (c.copied.ensures ∙ c.get.ensures.value) ∙ (c.requires _ c.in-Some.is).named c.args.name.now

pub returns-in-Some-clause-within : goal.returns-in-Some-clause-within
returns-in-Some-clause-within c =
    found_within c.args.members.now _ _ (c.copied.ensures ∙ c.get.ensures.value) ((c.requires _ c.in-Some.is).within c.args.name.now)
