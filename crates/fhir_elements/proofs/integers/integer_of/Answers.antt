use Rattle.std.proofs.Common.{lit<, None}
use Rattle.std.proofs.lemmas.Str.Pattern.{strip_prefix_char}
use Rattle.fhir_elements.proofs.WholeNumbers.{no_integer}
use Rattle.fhir_elements.proofs.integers.integer_of.Goals as goal

pub returns-in-None : goal.returns-in-None
returns-in-None c = no_integer c.args.text.now (strip_prefix_char 45 c.args.text.now None c.in_default.ensures.cases (lit< tt)) c.in-None.ensures.count
