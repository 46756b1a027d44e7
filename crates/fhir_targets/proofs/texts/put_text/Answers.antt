use Rattle.std.proofs.Common.{List, ap, ◌∙◌}
use Rattle.std.specs.Borrow.{Bor}
use Rattle.std.specs.List.{list_any}
use Rattle.std.specs.Str.{bytes_eq}
use Rattle.fhir_json.specs.Tree.{Text}
use Rattle.fhir_targets.proofs.Sets.{any-insert_key}
use Rattle.fhir_targets.proofs.texts.put_text.Goals as goal

pub returns : goal.returns
returns c = λ t.
    ap (λ (ks : List (Bor Text)). list_any (λ k. bytes_eq t k.now) ks) c.in_ok-insert.ensures.keys
    ∙ any-insert_key t c.args.text c.args.set.now.keys
