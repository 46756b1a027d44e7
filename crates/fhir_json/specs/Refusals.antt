-- What was expected where bytes are refused, and how many bytes were left there.
use Rattle.std.specs.Prelude.{ℕ, suc, List, length}
use Rattle.fhir_json.specs.declared.fault.JsonFault.{JsonFault}
use Rattle.fhir_json.specs.declared.fault.JsonFault.TheVariants.{NotUtf8, Syntax, RepeatedName, LoneSurrogate, TooDeep, Trailing, NoMemory}
use Rattle.fhir_json.specs.declared.refusal.Expected.{Expected}
use Rattle.fhir_json.specs.declared.refusal.Expected.TheVariants.{Utf8, Value, Name, NewName, Colon, CommaOrEnd, EndOfString, Character, Escape, OtherHalf, FewerLevels, End, Memory}
use Rattle.fhir_json.specs.declared.refusal.Refusal.{Refusal}

-- the fault that it is where this is not there
abbrev pub fault_of : Expected → JsonFault
fault_of Utf8 = NotUtf8
fault_of Value = Syntax
fault_of Name = Syntax
fault_of NewName = RepeatedName
fault_of Colon = Syntax
fault_of CommaOrEnd = Syntax
fault_of EndOfString = Syntax
fault_of Character = Syntax
fault_of Escape = Syntax
fault_of OtherHalf = LoneSurrogate
fault_of FewerLevels = TooDeep
fault_of End = Trailing
fault_of Memory = NoMemory

abbrev pub fault_met : Refusal → JsonFault
fault_met refusal = fault_of refusal.expected

-- this was expected at the front of the text
abbrev pub unmet : Expected → List ℕ → Refusal
unmet expected bs = record { expected = expected; left = length bs }

-- this was expected at the byte before the text
abbrev pub unmet_before : Expected → List ℕ → Refusal
unmet_before expected bs = record { expected = expected; left = suc (length bs) }
