use Rattle.std.proofs.Common.{ℕ, true, Option, nat_le, sym, ap, ◌∙◌}
use Rattle.std.specs.Option.{option_map_or}
use Rattle.std.proofs.lemmas.Bool.{leb-true, le-leb}
use Rattle.fhir_elements.specs.Max.{is_within}
use Rattle.conformance_laws.proofs.numbers.numbers_of_items.Goals as goal

pub returns-clause-least : goal.returns-clause-least
returns-clause-least c e least n is =
    let same = ap (λ (o : Option ℕ). nat_le (option_map_or (λ m. m) o 0) n) is in
    (λ h. leb-true least n (sym same ∙ h), λ h. same ∙ le-leb least n h)

pub returns-clause-most : goal.returns-clause-most
returns-clause-most c e most n is =
    let same = ap (λ o. option_map_or (is_within n) o true) is in
    (λ h. leb-true n most (sym same ∙ h), λ h. same ∙ le-leb n most h)

pub returns-clause-unbounded : goal.returns-clause-unbounded
returns-clause-unbounded c e n is = ap (λ o. option_map_or (is_within n) o true) is
