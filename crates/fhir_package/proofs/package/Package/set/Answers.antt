use Rattle.std.proofs.Common.{sym, ap, ◌∙◌}
use Rattle.fhir_json.specs.Tree.{Text}
use Rattle.fhir_json.specs.Views.{tree_of}
use Rattle.fhir_package.specs.Packing.{Definition}
use Rattle.fhir_package.proofs.Kept.{set_there, set_nowhere}
use Rattle.fhir_package.proofs.package.Package.set.Goals as goal

pub returns-in_default : goal.returns-in_default
returns-in_default c = λ h.
    let whole : Text → Definition = λ u. record { kind = c.definition.inside.kind; url = u; tree = tree_of c.definition.inside.tree } in
    absurd
    (set_nowhere c.args.definition c.args.self.now c.definition.inside.kind c.as_str.result.now (tree_of c.definition.inside.tree)
    (sym c.in_default.is ∙ c.place.ensures) (ap whole c.as_str.ensures.value ∙ c.definition.view_is) h)

pub returns : goal.returns
returns c = λ h.
    let whole : Text → Definition = λ u. record { kind = c.definition.inside.kind; url = u; tree = tree_of c.definition.inside.tree } in
    c.replace.ensures
    ∙ set_there c.args.definition c.args.self.now c.definition.inside.kind c.as_str.result.now (tree_of c.definition.inside.tree) c.in-Some.place
    (sym c.in-Some.is ∙ c.place.ensures) (ap whole c.as_str.ensures.value ∙ c.definition.view_is)
