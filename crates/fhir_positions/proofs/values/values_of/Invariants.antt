use Rattle.std.proofs.Common.{◌≡◌, ◌+◌, ◌≤◌, [], take, drop}
use Rattle.fhir_positions.specs.Positions.{behind_front}
use Rattle.fhir_positions.specs.Lexing.{seen, lexed, nothing_seen}
use Rattle.fhir_positions.specs.Values.{StandIn}
use Rattle.fhir_positions.proofs.values.values_of.Given as goal

abbrev pub invariant-bytes : goal.invariant-bytes
invariant-bytes l = record {
  lexed : lexed (seen l.values) (take l.b-index l.text) (drop l.b-index l.text) ≡ lexed nothing_seen [] l.text;
  stand : StandIn l.bytes l.values;
  at : l.at ≡ behind_front (take l.b-index l.text);
  line : l.at.line ≤ l.b-index + 1;
  column : l.at.column ≤ l.b-index + 1;
}
