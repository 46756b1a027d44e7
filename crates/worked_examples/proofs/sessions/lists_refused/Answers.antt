use Rattle.std.proofs.Common.{refl}
use lib.Utf8.{encode}
use Rattle.std.specs.Str.{is_utf8, chars}
use Rattle.fhir_json.specs.Number.{after_number}
use Rattle.worked_examples.proofs.sessions.lists_refused.Goals as goal

pub returns-clause-nameless : goal.returns-clause-nameless
unfolding is_utf8 chars encode after_number
returns-clause-nameless c = refl

pub returns-clause-patient : goal.returns-clause-patient
unfolding is_utf8 chars encode after_number
returns-clause-patient c = refl

pub returns-clause-unsound : goal.returns-clause-unsound
unfolding is_utf8 chars encode after_number
returns-clause-unsound c = refl

pub returns-clause-twice : goal.returns-clause-twice
unfolding is_utf8 chars encode after_number
returns-clause-twice c = refl

pub returns-clause-both : goal.returns-clause-both
unfolding is_utf8 chars encode after_number
returns-clause-both c = refl

pub returns-clause-kinds : goal.returns-clause-kinds
unfolding is_utf8 chars encode after_number
returns-clause-kinds c = refl

pub returns-clause-whole : goal.returns-clause-whole
unfolding is_utf8 chars encode after_number
returns-clause-whole c = refl

pub returns-clause-single : goal.returns-clause-single
unfolding is_utf8 chars encode after_number
returns-clause-single c = refl
