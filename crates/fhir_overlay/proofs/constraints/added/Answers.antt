use Rattle.std.proofs.Common.{◌+◌, ◌∷◌, ◌++◌, drop, ap, sym, ◌∙◌}
use Rattle.std.proofs.lemmas.List.{at_drop_more}
use Rattle.fhir_overlay.specs.Overlay.{with_constraints}
use Rattle.fhir_overlay.proofs.constraints.added.Goals as goal

pub loop-constraint-preserved : goal.loop-constraint-preserved
loop-constraint-preserved c =
    let old = c.args.constraints.now in
    let more = c.args.more.now in
    let loop = c.loop-constraint in
    let item = c.constraint-item in
    let before = old ++ loop.added.items in
    let behind = drop (loop.constraint-index + 1) more in (
      c.in_ok-add_new.ensures.noted old loop.invariant.0,
      ap (λ cs. with_constraints cs behind) (c.in_ok-add_new.ensures.added old loop.invariant.0)
          ∙ ap (λ x. with_constraints before (x ∷ behind)) item.is
          ∙ sym (at_drop_more (with_constraints before) more loop.constraint-index item.result c.loop-constraint-test.true)
          ∙ loop.invariant.1,
    )
