use Rattle.std.proofs.Common.{◌≡◌, length, ap, ◌∙◌, is_some, Option, ℕ}
use Rattle.fhir_schema.proofs.Climbing.{unended, ended_by}
use Rattle.fhir_schema.proofs.covering.reaches.Goals as goal

pub returns-then-is_some : goal.returns-then-is_some
returns-then-is_some c =
    let all : length c.definitions-places.result.now ≡ length c.args.table.now = ap length c.definitions-places.ensures in
    unended c.args.table.now c.args.lineage.now c.args.start c.args.goal (length c.definitions-places.result.now) c.is_some.result c.requires all
    (c.is_some.ensures ∙ ap (λ (o : Option ℕ). is_some o) c.after.ensures) c.if-is_some.true

pub returns : goal.returns
returns c =
    let all : length c.definitions-places.result.now ≡ length c.args.table.now = ap length c.definitions-places.ensures in
    c.comes_by.ensures
    ∙ ended_by c.args.table.now c.args.lineage.now c.args.start c.args.goal (length c.definitions-places.result.now) c.is_some.result c.requires all
    (c.is_some.ensures ∙ ap (λ (o : Option ℕ). is_some o) c.after.ensures) c.if-is_some.false
