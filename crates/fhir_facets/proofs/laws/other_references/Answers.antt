use Rattle.std.proofs.Common.{◌≡◌, Bool, true, false, ◌||◌, not, ap, ◌∙◌, refl}
use Rattle.std.specs.List.{list_any}
use Rattle.std.specs.Option.{option_map_or}
use Rattle.fhir_facets.specs.Targets.{has_targets, target_holds}
use Rattle.fhir_facets.proofs.laws.other_references.Goals as goal

either : (a : Bool) → (a || true) ≡ true
either true = refl
either false = refl

pub returns-clause-any : goal.returns-clause-any
returns-clause-any c s m e x none =
    ap (λ o. not (has_targets e) || option_map_or (λ type. list_any (target_holds s m type) e.targets) o true) none ∙ either (not (has_targets e))
