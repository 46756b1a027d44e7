use Rattle.std.proofs.Common.{[], ◌∷◌, ap, ◌∙◌, sym, rules}
use Rattle.std.proofs.lemmas.List.{map-append, length-map}
use Rattle.fhir_gather.specs.Places.{PutsAt}
use Rattle.fhir_gather.specs.Views.{taken_seen, all_seen}
use Rattle.fhir_gather.proofs.Firsts.{one_more, when_well}
use Rattle.fhir_gather.proofs.kept.KeptList.push.Goals as goal

pub invariant_of-self-else-is_err : goal.invariant_of-self-else-is_err
invariant_of-self-else-is_err c =
    one_more c.self.inside.places c.put.new.self (all_seen c.self.inside.all.items) (all_seen c.push.new.self.items) c.args.self.now (taken_seen c.args.kept)
    c.kind-kind.result c.as_str.result.now c.len-place.result c.self.invariant c.self.view_is
    (ap all_seen c.in_ok-push.ensures.items ∙ map-append taken_seen c.self.inside.all.items (c.args.kept ∷ []))
    (search (rules, length-map)) (search rules) (search rules) c.requires
    (when_well c.put.result (PutsAt c.self.inside.places c.put.new.self c.kind-kind.result c.as_str.result.now c.len-place.result) c.put.ensures.put (sym c.is_err.ensures.value ∙ c.if-is_err.false))
