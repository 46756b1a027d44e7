use Rattle.std.proofs.Common.{refl}
use lib.Utf8.{encode}
use Rattle.std.specs.Str.{is_utf8, chars}
use Rattle.fhir_json.specs.Number.{after_number}
use Rattle.worked_examples.proofs.sessions.lists_put_in.Goals as goal

pub returns-clause-put : goal.returns-clause-put
unfolding is_utf8 chars encode after_number
returns-clause-put c = refl

pub returns-clause-of_kind : goal.returns-clause-of_kind
unfolding is_utf8 chars encode after_number
returns-clause-of_kind c = refl

pub returns-clause-done : goal.returns-clause-done
unfolding is_utf8 chars encode after_number
returns-clause-done c = refl
