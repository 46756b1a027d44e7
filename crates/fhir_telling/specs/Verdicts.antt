-- Verdicts on lines, and the worst of several.
use Rattle.std.specs.Prelude.{List, fold}
use Rattle.fhir_commands.specs.declared.reply.Standing.{Standing}
use Rattle.fhir_commands.specs.declared.reply.Standing.TheVariants.{Conforms, Violates, Open, Fault}
use Rattle.fhir_telling.specs.declared.verdict.LineVerdict.{LineVerdict}
use Rattle.fhir_telling.specs.declared.verdict.LineVerdict.TheVariants as verdicts

abbrev pub verdict_of : Standing → LineVerdict
verdict_of Conforms = verdicts.Conforms
verdict_of Violates = verdicts.Violates
verdict_of Open = verdicts.Open
verdict_of Fault = verdicts.Fault

-- The worse of two: a profile that is violated is worse than a fault, that is worse than what is open, and that is worse than one to which
-- the resource conforms.
abbrev pub worse : Standing → Standing → Standing
worse Violates s = Violates
worse Fault Violates = Violates
worse Fault s = Fault
worse Open Violates = Violates
worse Open Fault = Fault
worse Open s = Open
worse Conforms s = s

abbrev pub worst : List Standing → Standing
worst standings = fold worse Conforms standings
