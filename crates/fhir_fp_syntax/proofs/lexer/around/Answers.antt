use Rattle.std.proofs.lemmas.Str.{IsCharBoundary-after_ascii}
use Rattle.fhir_fp_syntax.proofs.lexer.around.Goals as goal

pub range_from-requires : goal.range_from-requires
range_from-requires c some = IsCharBoundary-after_ascii c.args.text.now c.args.n c.utf8.text c.requires.0 c.requires.1
