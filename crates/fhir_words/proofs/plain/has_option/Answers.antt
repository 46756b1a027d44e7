use Rattle.std.proofs.Common.{◌∙◌, string_bytes}
use Rattle.fhir_words.specs.Words.{is_option}
use Rattle.fhir_words.proofs.Among.{any_map}
use Rattle.fhir_words.proofs.plain.has_option.Goals as goal

pub returns : goal.returns
returns c = c.any_option.ensures ∙ any_map is_option (λ w. string_bytes w) c.args.words.now
