use Rattle.std.proofs.Common.{ap, ◌∙◌, not, List}
use Rattle.std.specs.List.{list_any}
use Rattle.fhir_reach.specs.Keys.{KeyValue, has_key, keys_seen}
use Rattle.fhir_registry.proofs.Right.{any_seen}
use Rattle.fhir_registry.proofs.kept.UntouchedRuleKept.stays.Goals as goal

pub returns : goal.returns
returns g c =
    ap not (c.touches.ensures ∙ any_seen (has_key c.get.result.now) c.args.self.now.changed.now
    ∙ ap (λ (keys : List KeyValue). list_any (has_key keys) (keys_seen c.args.self.now.changed.now)) c.get.ensures)
