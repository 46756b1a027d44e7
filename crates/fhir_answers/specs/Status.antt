-- The numbers of the statuses.
use Rattle.std.specs.Prelude.{ℕ, Bool, true, false}
use Rattle.fhir_commands.specs.declared.reply.Standing.{Standing}
use Rattle.fhir_commands.specs.declared.reply.Standing.TheVariants as standings
use Rattle.fhir_answers.specs.declared.reply.Status.{Status}
use Rattle.fhir_answers.specs.declared.reply.Status.TheVariants.{Yes, No, Open, Fault, Unwritten, Usage, NoMemory}

abbrev pub code_of : Status → ℕ
code_of Yes = 0
code_of No = 1
code_of Open = 2
code_of Fault = 3
code_of Unwritten = 3
code_of Usage = 4
code_of NoMemory = 5

-- the status of a resource that stands so
abbrev pub standing_status : Standing → Status
standing_status standings.Conforms = Yes
standing_status standings.Violates = No
standing_status standings.Open = Open
standing_status standings.Fault = Fault

-- the status of a report, by whether nothing is wrong
abbrev pub report_status : Bool → Status
report_status true = Yes
report_status false = No
