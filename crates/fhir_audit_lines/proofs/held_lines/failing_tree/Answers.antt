use Rattle.std.proofs.Common.{List, [], ◌∷◌, codes, ap, ◌∙◌}
use Rattle.fhir_json.specs.Tree.{Property}
use Rattle.fhir_audit_lines.specs.Held.{held_line}
use Rattle.fhir_audit_lines.proofs.held_lines.failing_tree.Goals as goal

pub returns : goal.returns
returns c =
    let said = rw c.new-more.ensures.items at c.in_ok-put_failing.ensures.1 in
    (c.in_ok-put_failing.ensures.0, c.in_ok-lines.ensures ∙ ap (λ (ms : List Property). held_line c.args.name.now (codes "no longer holds") ms ∷ []) said)
