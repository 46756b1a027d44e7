use Rattle.fhir_definition.specs.Definition.{definitions_from}
use Rattle.fhir_schema.proofs.OneMeaning.{alone_at, one, found, is_spelled, any_spells, spells_it}
use Rattle.fhir_schema.proofs.laws.one_meaning.Goals as goal

pub returns : goal.returns
returns c = record {
  apart = λ p n. alone_at (definitions_from 0 p.structure_definitions) (definitions_from 0 p.structure_definitions) n.definition n.element;
  one = λ fs name a b h first second. one fs name a b h first second;
  exact = λ fs name a h. (λ e. is_spelled fs name a e, λ spelled. found fs name a h spelled);
  spelled = λ fs name. any_spells name 0 fs;
  within = λ fs name a e. (spells_it name fs a e).0;
  speller = λ fs name a f e is. (spells_it name fs a e).1 f is;
}
