use Rattle.std.proofs.Common.{◌≡◌, ◌∙◌, map, Some, ap, subst}
use Rattle.std.specs.FinSet as set
use Rattle.std.specs.List.{slice_get}
use Rattle.std.specs.Result.{IfOk}
use Rattle.fhir_json.specs.Views.{tree_of}
use Rattle.fhir_codes.specs.Concepts.{Concepts, union_of}
use Rattle.fhir_codes.specs.ValueSets.{composition}
use Rattle.fhir_codes.specs.Tables.{known_in, found}
use Rattle.fhir_codes.specs.Including.{included}
use Rattle.fhir_codes.proofs.Parts.{composed_of}
use Rattle.fhir_codes.proofs.sources.Sources.compose.Goals as goal
use Rattle.fhir_codes.proofs.sources.Sources.compose.Goals.{After-kept_number}

-- what the parts of the includes and of the excludes have is the value set
parts_composed : (c : After-kept_number) → set.difference (union_of (map (included c.args.self.now.tables) c.in_ok-more.more.items)) c.in_ok-less-2.less
    ≡ composition c.args.self.now.definitions (known_in c.args.self.now) (tree_of c.args.json.now)
parts_composed c =
    let s = c.args.self.now in
    composed_of s.definitions (found s) (tree_of c.args.json.now) c.includes.result.now c.excludes.result.now
    (union_of (map (included s.tables) c.in_ok-more.more.items)) c.in_ok-less-2.less c.in_ok-more.ensures
    (c.in_ok-less-2.ensures ∙ ap (λ xs. union_of (map (included s.tables) xs)) c.deref.ensures.value ∙ c.in_ok-less.ensures)
    c.includes.ensures c.excludes.ensures

pub returns-in-Some-clause-composition : goal.returns-in-Some-clause-composition
returns-in-Some-clause-composition c =
    let s = c.args.self.now in
    c.in-Some.ensures
    ∙ ap (λ xs. Some (set.difference (union_of (map (included s.tables) xs)) c.in_ok-less-2.less)) c.deref-2.ensures.value
    ∙ ap Some (parts_composed (goal.at.returns-in-Some-clause-composition c).After-kept_number)

pub returns-clause-composition : goal.returns-clause-composition
returns-clause-composition c =
    let s = c.args.self.now in
    let is : c.in_ok-concepts.concepts ≡ composition s.definitions (known_in s) (tree_of c.args.json.now) =
    c.in_ok-concepts.ensures
    ∙ ap (λ xs. set.difference (union_of (map (included s.tables) xs)) c.in_ok-less-2.less) c.deref-3.ensures.value
    ∙ parts_composed (goal.at.returns-clause-composition c).After-kept_number in
    subst (λ (t : Concepts). IfOk c.keep.result (λ n. slice_get c.keep.new.self.tables n ≡ Some t)) is c.keep.ensures.kept
