use Rattle.std.proofs.Common.{◌≡◌, ◌++◌, ◌∷◌, false, map, subst, arith}
use Rattle.fhir_json.specs.Sound.{differ}
use Rattle.fhir_forms.specs.FormTables.{companions_of}
use Rattle.fhir_forms.proofs.Spelled.{refused, not_behind}
use Rattle.fhir_forms.proofs.form_table.Names.add_form.Goals as goal

pub returns-then-not-branch : goal.returns-then-not-branch
returns-then-not-branch c xs h =
    let isnt : c.in_ok-add.field-0 ≡ false = grind arith in
    let more = companions_of c.args.place c.args.form.now in
    subst (λ name. differ (map (λ x. x.0) (xs ++ (name, record { form = c.args.place; is_companion = false }) ∷ more)) ≡ false) c.property.ensures
    (not_behind xs _ more (refused c.in_ok-add.field-0 _ _ _ isnt (c.in_ok-add.ensures xs h)))
