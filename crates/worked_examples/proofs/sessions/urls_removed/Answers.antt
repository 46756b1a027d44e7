use Rattle.std.proofs.Common.{refl}
use lib.Utf8.{encode}
use Rattle.std.specs.Str.{is_utf8, chars}
use Rattle.fhir_json.specs.Number.{after_number}
use Rattle.worked_examples.proofs.sessions.urls_removed.Goals as goal

pub returns-clause-in_turn : goal.returns-clause-in_turn
unfolding is_utf8 chars encode after_number
returns-clause-in_turn c = refl
