use Rattle.std.proofs.Common.{sym, ◌∙◌}
use Rattle.std.proofs.lemmas.Option.{same_Some}
use Rattle.fhir_instance.proofs.laws.one_item.Goals as goal

pub returns : goal.returns
returns c s t x y p q = same_Some x y (sym p ∙ q)
