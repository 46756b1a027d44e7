use Rattle.fhir_schema.proofs.Covered.{covers_on, covers_itself, covers_alone}
use Rattle.fhir_schema.proofs.laws.covering_codes.Goals as goal

pub returns : goal.returns
returns c = record {
  itself = λ s a. covers_itself s.definitions a;
  alone = λ s a b other h. covers_alone s.definitions a b other h;
  transitive = λ s a b d first second. covers_on s.definitions a b d first second;
}
