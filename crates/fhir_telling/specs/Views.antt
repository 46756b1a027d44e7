-- What contracts see of what is told.
use Rattle.std.specs.Prelude.{map, string_bytes}
use Rattle.fhir_json.specs.Views.{tree_of}
use Rattle.fhir_telling.specs.declared.judgement.Judgement.{Judgement}
use Rattle.fhir_telling.specs.declared.judgement.Note.{Note}
use Rattle.fhir_telling.specs.declared.judgement.Told.{Told}
use Rattle.fhir_telling.specs.Judgements.{NoteValue, JudgementValue, ToldValue}

abbrev pub note_seen : Note → NoteValue
note_seen n = record { at = n.at; words = string_bytes n.words }

abbrev pub judgement_seen : Judgement → JudgementValue
judgement_seen j =
    record { profile = string_bytes j.profile; standing = j.standing; outcome = tree_of j.outcome; notes = map note_seen j.notes.items }

abbrev pub told_seen : Told → ToldValue
told_seen t = record { verdict = t.verdict; judgements = map judgement_seen t.judgements.items }
