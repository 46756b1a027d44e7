use Rattle.std.proofs.Common.{true, not, sym, ap, ap₂, ◌∙◌, ◌||◌, option_map}
use Rattle.std.specs.List.{list_any}
use Rattle.std.specs.Option.{option_map_or}
use Rattle.fhir_schema.specs.Covers.{covers, type_at}
use Rattle.fhir_facets.specs.Targets.{target_holds}
use Rattle.fhir_facets.specs.Unread.{target}
use Rattle.conformance_laws.proofs.Found.{one_of}
use Rattle.conformance_laws.proofs.targets.targets_of_references.Goals as goal

pub returns-clause-named : goal.returns-clause-named
returns-clause-named c s m e x type has is =
    let same = ap₂ (λ b o. not b || option_map_or (λ t. list_any (target_holds s m t) e.targets) o true) has is in
    let some = one_of (target_holds s m type) e.targets in
    (λ h. some.0 (sym same ∙ h), λ one. same ∙ some.1 one)

pub returns-clause-used : goal.returns-clause-used
returns-clause-used c s m type canonical r is =
    ap (λ o. option_map_or (λ code. covers s code type) (option_map (type_at s) o) (m (target canonical))) is

pub returns-clause-unread : goal.returns-clause-unread
returns-clause-unread c s m type canonical is =
    ap (λ o. option_map_or (λ code. covers s code type) (option_map (type_at s) o) (m (target canonical))) is
