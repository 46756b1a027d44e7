use Rattle.std.proofs.Common.{refl, ap, ◌∙◌, lit<}
use Rattle.std.proofs.lemmas.Str.Pattern.{strip_prefix_char}
use Rattle.fhir_unrecognized.proofs.Stripped.{stripped}
use Rattle.fhir_unrecognized.proofs.members.without_underscore.Goals as goal

pub returns : goal.returns
returns c =
    ap (λ r. r.now) c.unwrap_or.ensures
    ∙ stripped c.args.name.now c.strip_prefix.result c.args.name refl (strip_prefix_char 95 c.args.name.now c.strip_prefix.result c.strip_prefix.ensures.cases (lit< tt))
