-- How the program ends where words ask for nothing, and where something is told beside an answer.
use Rattle.std.proofs.Common.{◌≡◌, ℕ, List, [], Option, None, Some, refl, sym, subst, append-nil}
use Rattle.std.specs.Io.KnownBytes.{Appends}
use Rattle.fhir_answers.specs.declared.reply.Status.{Status}
use Rattle.fhir_answers.specs.declared.reply.Status.TheVariants as statuses
use Rattle.fhir_words.specs.declared.request.WordsFault.{WordsFault}
use Rattle.fhir_words.specs.declared.request.WordsFault.TheVariants.{Usage, NoMemory}
use Rattle.fhir_engine.specs.Answering.{words_text}
use Rattle.fhir_engine.specs.Ending.{HasEnded}
use Rattle.fhir_answers.specs.Replying.{written, noted, told}
use Rattle.fhir_answers.specs.Status.{code_of}
use Rattle.fhir_engine.specs.Reading.{words_status}

-- nothing is written where nothing changes
kept : (known : Option (List ℕ)) → Appends known known []
kept None = tt
kept (Some xs) = sym (append-nil xs)

by_fault : (known : Option (List ℕ)) (fault : WordsFault)
    → HasEnded (words_status fault) known known (told (code_of (words_status fault)) (words_text fault))
by_fault known Usage = (refl, kept known)
by_fault known NoMemory = tt

pub refused : (known : Option (List ℕ)) (fault : WordsFault) (status : Status) → status ≡ words_status fault
    → HasEnded status known known (told (code_of (words_status fault)) (words_text fault))
refused known fault status is =
    subst (λ s. HasEnded s known known (told (code_of (words_status fault)) (words_text fault))) (sym is) (by_fault known fault)

-- an answer with something told beside it ends as the answer does
pub noted_so : (status : Status) (old new : Option (List ℕ)) (n : ℕ) (out notes : List ℕ) → HasEnded status old new (written n out)
    → HasEnded status old new (noted n out notes)
noted_so statuses.Yes old new n out notes h = h
noted_so statuses.No old new n out notes h = h
noted_so statuses.Open old new n out notes h = h
noted_so statuses.Fault old new n out notes h = h
noted_so statuses.Unwritten old new n out notes h = refl
noted_so statuses.Usage old new n out notes h = h
noted_so statuses.NoMemory old new n out notes h = tt
