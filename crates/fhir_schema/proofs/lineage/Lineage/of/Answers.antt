use Rattle.std.proofs.Common.{ℕ, List, Option, ◌≡◌, map, ap, ap₂, ◌∙◌, length, ◌∷◌, [], ◌<◌, ◌^◌, arith}
use Rattle.std.proofs.lemmas.List.{map-append}
use Rattle.fhir_schema.specs.Lineages.{step_by}
use Rattle.fhir_schema.proofs.Climbing.{doubled, as_many}
use Rattle.fhir_schema.proofs.lineage.Lineage.of.Goals as goal

pub loop-left-preserved : goal.loop-left-preserved
loop-left-preserved c =
    let many : length c.loop-left.power.items ≡ length c.args.table.now =
    as_many c.args.table.now (map (λ v. v.items) c.loop-left.powers.items) c.loop-left.power.items c.loop-left.left c.loop-left.invariant in
    let bound : length c.args.table.now < 2 ^ 63 = omega arith in
    doubled c.args.table.now (map (λ v. v.items) c.loop-left.powers.items) (map (λ v. v.items) c.push.new.self.items) c.loop-left.power.items
    c.in_ok-doubled.doubled.items c.loop-left.left (omega arith) bound
    (ap (map (λ v. v.items)) c.in_ok-push.ensures.items ∙ map-append (λ v. v.items) c.loop-left.powers.items (c.loop-left.power ∷ []))
    (c.in_ok-doubled.ensures
    ∙ ap₂ (λ (f : List (Option ℕ)) (xs : List (Option ℕ)). map (step_by f) xs) c.deref-in-loop-left.ensures.value c.deref.ensures.value)
    c.loop-left.invariant
