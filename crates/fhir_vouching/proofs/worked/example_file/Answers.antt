use Rattle.std.proofs.Common.{refl}
use Rattle.std.specs.Prelude.{encode_utf8}
use Rattle.fhir_json.specs.Reading.{tree_at, value_at, string_at, text_at, escape_at, unicode_at, unit_at}
use Rattle.fhir_vouching.proofs.worked.example_file.Goals as goal

pub returns : goal.returns
unfolding tree_at value_at string_at text_at escape_at unicode_at unit_at lib.Utf8.encode
returns c = refl
