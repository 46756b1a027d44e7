use Rattle.std.proofs.Common.{◌≡◌, ◌∙◌, Option, Some, None, ap}
use Rattle.fhir_json.specs.Tree.{Text}
use Rattle.fhir_package.specs.Definitions.{Definitions}
use Rattle.fhir_codes.specs.Concepts.{Concepts}
use Rattle.fhir_codes.specs.ValueSets.{concepts_of}
use Rattle.fhir_codes.specs.Filled.{AreDone}
use Rattle.fhir_codes.specs.Placing.{Found, found_concepts}
use Rattle.fhir_codes.specs.Tables.{found}
use Rattle.fhir_codes.proofs.Finding.{known_all}
use Rattle.fhir_codes.proofs.value_sets.expand.Goals as goal

-- what is known in the end, of the package that was taken
told : (p q r : Definitions) (sets : Found) (canonical : Text) (o : Option Concepts) → q ≡ p → r ≡ q → AreDone q sets → o ≡ found_concepts r sets canonical → o ≡ concepts_of p canonical
told p q r sets canonical o same again done known_is =
    known_is ∙ ap (λ d. found_concepts d sets canonical) again ∙ known_all q sets done canonical ∙ ap (λ d. concepts_of d canonical) same

pub returns-in-Some : goal.returns-in-Some
returns-in-Some c =
    ap Some c.in_ok-share-in-Some.ensures
    ∙ told c.args.from.now c.in_ok-sources.sources.definitions c.expand_all.new.self.definitions (found c.expand_all.new.self) c.args.canonical.now (Some c.in-Some.concepts.now)
    c.in_ok-sources.ensures.of c.expand_all.ensures.definitions c.in_ok-expand_all.ensures.done c.in-Some.ensures

pub returns : goal.returns
returns c =
    told c.args.from.now c.in_ok-sources.sources.definitions c.expand_all.new.self.definitions (found c.expand_all.new.self) c.args.canonical.now None
    c.in_ok-sources.ensures.of c.expand_all.ensures.definitions c.in_ok-expand_all.ensures.done c.in-None.ensures
