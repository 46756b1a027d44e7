use Rattle.std.proofs.Common.{◌≡◌, false, sym, ap, ◌∙◌, ◌||◌, map, string_bytes}
use Rattle.std.proofs.lemmas.Result.{IfOk-weaker}
use Rattle.fhir_inheritance.specs.Elements.{names_under, sliced_names_under}
use Rattle.fhir_inheritance.specs.Laying.{has_new}
use Rattle.fhir_inheritance.proofs.laying.is_touched.Goals as goal

pub returns : goal.returns
returns c =
    let es = c.args.differential.now in
    let id = c.args.id.now in
    let names = map string_bytes c.args.names.now in
    let none : has_new names (names_under es id) ≡ false = ap (has_new names) (sym c.names_under.ensures) ∙ sym c.in_ok-has_other.ensures ∙ c.if-branch.false in
    IfOk-weaker c.has_other-2.result _ _
    (λ touched is. is ∙ ap (has_new names) c.sliced_names_under.ensures ∙ ap (λ b. b || has_new names (sliced_names_under es id)) (sym none)) c.has_other-2.ensures
