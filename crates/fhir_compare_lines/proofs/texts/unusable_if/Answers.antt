use Rattle.std.proofs.Common.{Bool, subst, sym, map, string_bytes, IfOk}
use Rattle.fhir_compare_lines.specs.Telling.{AreUnusableIf}
use Rattle.fhir_compare_lines.proofs.texts.unusable_if.Goals as goal

pub returns-then-is_unusable : goal.returns-then-is_unusable
returns-then-is_unusable c =
    subst (λ (b : Bool). IfOk c.unusable_one.result (λ ls. AreUnusableIf b c.args.url.now c.args.words.now (map string_bytes ls.items)))
    (sym c.if-is_unusable.true) c.unusable_one.ensures
