use Rattle.std.proofs.Common.{rules, ◌≡◌, ◌++◌, ◌∷◌, [], List, ap, sym, ◌∙◌, map}
use Rattle.std.specs.List.{range_with_len}
use Rattle.std.proofs.lemmas.List.{append_assoc}
use Rattle.fhir_conformance.specs.Asks.{Ask, constraint_ask}
use Rattle.fhir_conformance.specs.Views.{asks_seen}
use Rattle.fhir_conformance.proofs.Lists.{counted_more}
use Rattle.fhir_conformance.proofs.asking.put_own_constraints.Goals as goal

pub loop-position-preserved : goal.loop-position-preserved
loop-position-preserved c =
    let n = c.args.node in
    let i = c.loop-position.position in
    let before : List Ask = asks_seen c.args.asked.now.items in
    let so_far : List Ask = map (constraint_ask n) (range_with_len 0 i) in
    let pushed : asks_seen c.put_constraint.new.asked.items ≡ asks_seen c.loop-position.asked.items ++ constraint_ask n i ∷ [] = search rules in
    pushed
    ∙ ap (λ (asks : List Ask). asks ++ constraint_ask n i ∷ []) c.loop-position.invariant
    ∙ append_assoc before so_far (constraint_ask n i ∷ [])
    ∙ ap (λ (asks : List Ask). before ++ asks) (sym (counted_more (constraint_ask n) i))
