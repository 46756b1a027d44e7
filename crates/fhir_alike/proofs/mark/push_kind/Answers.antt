use Rattle.std.proofs.Common.{◌++◌, ap, sym, ◌∙◌, map, arith}
use Rattle.std.specs.List.{flat_map}
use Rattle.fhir_package.specs.Definitions.{of_kind}
use Rattle.fhir_alike.specs.Mark.{definition_tails}
use Rattle.fhir_alike.proofs.Rests.{flat_turn, flat_end}
use Rattle.fhir_alike.proofs.Tails.{tails_each}
use Rattle.fhir_alike.proofs.mark.push_kind.Goals as goal

pub loop-place-preserved : goal.loop-place-preserved
loop-place-preserved c =
    flat_turn (definition_tails c.args.stem.now) (of_kind c.args.kind c.args.package.now) c.loop-place.place
    (map (λ t. t.now) c.loop-place.tails.items) (map (λ t. t.now) c.push_at.new.tails.items)
    (map (λ t. t.now) c.args.tails.now.items ++ flat_map (definition_tails c.args.stem.now) (of_kind c.args.kind c.args.package.now))
    (omega arith) c.loop-place.invariant c.in_ok-push_at.ensures

pub returns : goal.returns
returns c =
    flat_end (definition_tails c.args.stem.now) (of_kind c.args.kind c.args.package.now) c.loop-place.place
    (map (λ t. t.now) c.loop-place.tails.items)
    (map (λ t. t.now) c.args.tails.now.items ++ flat_map (definition_tails c.args.stem.now) (of_kind c.args.kind c.args.package.now))
    (omega arith) c.loop-place.invariant
    ∙ ap (λ xs. map (λ t. t.now) c.args.tails.now.items ++ xs) (sym (tails_each c.args.stem.now (of_kind c.args.kind c.args.package.now)))
