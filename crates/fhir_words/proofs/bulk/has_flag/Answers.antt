use Rattle.std.proofs.Common.{◌∙◌, string_bytes}
use Rattle.fhir_words.specs.Words.{is_flag}
use Rattle.fhir_words.proofs.Among.{any_map}
use Rattle.fhir_words.proofs.bulk.has_flag.Goals as goal

pub returns : goal.returns
returns c = c.any_flag.ensures ∙ any_map is_flag (λ w. string_bytes w) c.args.words.now
