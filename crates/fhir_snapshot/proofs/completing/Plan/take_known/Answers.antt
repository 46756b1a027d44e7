use Rattle.std.proofs.Common.{rules, ◌≡◌, ◌∷◌, ◌++◌, [], Some, None, false, true, map, string_bytes, List, refl, sym, ap, subst, ◌∙◌}
use Rattle.std.specs.Map.{lookup}
use Rattle.std.specs.Str.{bytes_eq}
use Rattle.std.proofs.lemmas.List.{map-append}
use Rattle.fhir_json.specs.Tree.{Text, Tree}
use Rattle.fhir_json.specs.Views.{tree_of}
use Rattle.fhir_elements.specs.Element.{Element}
use Rattle.fhir_overlay.specs.Completed.{with_snapshot}
use Rattle.fhir_snapshot.specs.declared.outcome.Outcome.TheVariants.{Made, Faulty}
use Rattle.fhir_snapshot.specs.declared.fault.SnapNumber.{SnapNumber}
use Rattle.fhir_snapshot.specs.Faults.{number_of}
use Rattle.fhir_snapshot.specs.Planning.{PlanValue}
use Rattle.fhir_snapshot.specs.Snapshots.{IsSnapshot}
use Rattle.fhir_snapshot.proofs.Planned.{made_planned, faulty_planned}
use Rattle.fhir_snapshot.proofs.completing.Plan.take_known.Goals as goal

pub returns-in_ok-push-in-Some-Made : goal.returns-in_ok-push-in-Some-Made
returns-in_ok-push-in-Some-Made c p known =
    let url = c.args.url.now in
    let t = tree_of c.args.definition.now in
    let v = c.in-Some-Made.elements in
    let there : lookup (bytes_eq url) c.args.known.now ≡ Some (Made v) = search rules in
    let tree : tree_of c.in_ok-tree-in-Some-Made.tree ≡ with_snapshot v.items t = search rules in
    made_planned p c.args.place url t v.items _ (tree_of c.in_ok-tree-in-Some-Made.tree) _ c.requires.lacks (known url (Made v) there) tree
    (ap (map _) c.in_ok-push-in-Some-Made.ensures.items ∙ map-append _ c.self.inside.trees.items ((c.args.place, c.in_ok-tree-in-Some-Made.tree) ∷ [])
    ∙ ap (λ (v : PlanValue). v.trees ++ (c.args.place, tree_of c.in_ok-tree-in-Some-Made.tree) ∷ []) c.self.view_is)
    (ap (λ (v : PlanValue). v.faults) c.self.view_is)

pub returns-in_ok-push-in-Some-Faulty : goal.returns-in_ok-push-in-Some-Faulty
returns-in_ok-push-in-Some-Faulty c p known =
    let url = c.args.url.now in
    let t = tree_of c.args.definition.now in
    let f = c.in-Some-Faulty.fault in
    let there : lookup (bytes_eq url) c.args.known.now ≡ Some (Faulty f) = search rules in
    let own = c.in_ok-url-in-Some-Faulty.url in
    let copy = c.in_ok-fault-in-Some-Faulty.fault in
    let same : string_bytes own ≡ url = search rules in
    let number : number_of copy ≡ number_of f = search rules in
    faulty_planned p c.args.place url t (number_of f) _ _ c.requires.lacks (known url (Faulty f) there)
    (ap (λ (v : PlanValue). v.trees) c.self.view_is)
    (ap (map _) c.in_ok-push-in-Some-Faulty.ensures.items ∙ map-append _ c.self.inside.faults.items ((own, copy) ∷ [])
    ∙ ap (λ (v : PlanValue). v.faults ++ (string_bytes own, number_of copy) ∷ []) c.self.view_is
    ∙ ap (λ (u : Text). c.args.self.now.faults ++ (u, number_of copy) ∷ []) same ∙ ap (λ (n : SnapNumber). c.args.self.now.faults ++ (url, n) ∷ []) number)
