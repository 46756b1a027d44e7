use Rattle.std.proofs.Common.{◌+◌, cond, Some, is_some, sym, ap, ◌∙◌}
use Rattle.std.specs.Prelude.{if◌then◌else◌}
use Rattle.std.specs.BTreeMap.{is_at, btree_map_len}
use Rattle.fhir_entail.specs.contracts.numbers.ShapeOrd.TheImpl.{cmp-value}
use Rattle.fhir_entail.specs.Numbers.{number_at}
use Rattle.fhir_entail.proofs.Numbered.{put_extends, put_apart}
use Rattle.fhir_entail.proofs.numbers.Numbers.put_shape.Goals as goal

pub returns-clause-extends : goal.returns-clause-extends
returns-clause-extends c =
    put_extends c.args.self.now.shapes c.insert.new.self c.args.shape (sym c.at.ensures ∙ c.in_default.is)
    (λ q. c.in_ok-insert.ensures.updates.0 q ∙ ap (λ n. cond (is_at (cmp-value.it c.args.shape) q) (Some n) (number_at c.args.self.now.shapes q)) c.len-number.ensures.len)

pub returns-clause-apart : goal.returns-clause-apart
returns-clause-apart c =
    let absent = sym c.at.ensures ∙ c.in_default.is in
    put_apart c.args.self.now.shapes c.insert.new.self c.args.shape absent
    (λ q. c.in_ok-insert.ensures.updates.0 q ∙ ap (λ n. cond (is_at (cmp-value.it c.args.shape) q) (Some n) (number_at c.args.self.now.shapes q)) c.len-number.ensures.len)
    (c.in_ok-insert.ensures.len ∙ ap (λ o. btree_map_len c.args.self.now.shapes + (if is_some o then 0 else 1)) (c.in_ok-insert.ensures.old ∙ absent))
