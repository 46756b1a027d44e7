use Rattle.std.proofs.Common.{length, get_or, ap, arith}
use Rattle.std.proofs.lemmas.Str.{IsCharBoundary-after_ascii}
use Rattle.fhir_audit.proofs.carrying.behind_word.Goals as goal

pub range_from-requires : goal.range_from-requires
range_from-requires c = λ _.
    let e = c.requires.1 in
    IsCharBoundary-after_ascii c.args.text.now 6 c.utf8.text (omega (arith, ap length e)) (omega (arith, ap (λ l. get_or l 6 0) e))
