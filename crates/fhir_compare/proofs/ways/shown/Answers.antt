use Rattle.std.proofs.Common.{subst, IfOk}
use Rattle.fhir_json.specs.Tree.{Text}
use Rattle.fhir_compare.specs.Comparing.{IsShownBy, ShowsBetween}
use Rattle.fhir_compare.specs.Views.{direction_seen, shown_seen}
use Rattle.fhir_compare.proofs.ways.shown.Goals as goal

pub returns : goal.returns
returns c =
    let two = c.args.two in
    subst
    (λ (sides : Text × Text).
    IfOk c.shown_between.result (λ w.
    IsShownBy two.schema.now sides (ShowsBetween (direction_seen c.args.direction) two.old_schema.now two.schema.now two.url.now) (shown_seen w)))
    c.sides_of.ensures c.shown_between.ensures
