use Rattle.std.proofs.Common.{◌≡◌, ◌∙◌, ap, sym, Bool, List, []}
use Rattle.std.specs.Prelude.{if◌then◌else◌}
use Rattle.std.specs.Option.{option_map}
use Rattle.fhir_package.specs.Packing.{Definition}
use Rattle.fhir_package.specs.Changing.{has_twice}
use Rattle.fhir_registry.specs.Session.{accepted}
use Rattle.fhir_registry.proofs.Seen.{none_put_in}
use Rattle.fhir_registry.proofs.registry.Registry.put.Goals as goal

pub returns-in_default-clause-forgets : goal.returns-in_default-clause-forgets
returns-in_default-clause-forgets c =
    none_put_in c.args.self.now.definitions c.args.self.now.replies _ (ap accepted (sym c.in_ok-definitions.ensures ∙ ap (option_map (λ v. v.items)) c.in_default.is))

pub returns-then-branch-clause-forgets : goal.returns-then-branch-clause-forgets
returns-then-branch-clause-forgets c =
    let ds : List Definition = c.in-Some.definitions.items in
    let twice : has_twice ds ≡ _ = ap has_twice (sym c.deref.ensures.value) ∙ sym c.in_ok-has_twice.ensures ∙ c.if-branch.true in
    let none : List Definition = [] in
    none_put_in c.args.self.now.definitions c.args.self.now.replies _
    (ap accepted (sym c.in_ok-definitions.ensures ∙ ap (option_map (λ v. v.items)) c.in-Some.is) ∙ ap (λ (b : Bool). if b then none else ds) twice)
