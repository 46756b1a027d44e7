use Rattle.std.proofs.Common.{◌≡◌, ◌∙◌, true, Some, refl, sym, ap, set, subst, arith}
use Rattle.std.specs.List.{slice_get}
use Rattle.fhir_json.specs.Views.{tree_of}
use Rattle.fhir_codes.specs.ValueSets.{composition}
use Rattle.fhir_codes.specs.Placing.{found_concepts, tree_at}
use Rattle.fhir_codes.specs.Filled.{is_ready, found_count, AreFilled}
use Rattle.fhir_codes.specs.Tables.{found}
use Rattle.fhir_codes.proofs.Finding.{filled_step, count_set, place_within, ready_parts, expansion_read}
use Rattle.fhir_codes.proofs.sources.Sources.fill.Goals as goal
use Rattle.fhir_codes.proofs.sources.Sources.fill.Goals.{After-set_number}

-- what has been found then
filled : (c : After-set_number) → found c.set_number.new.self ≡ set (found c.args.self.now) c.args.place (Some (composition c.args.self.now.definitions (found_concepts c.args.self.now.definitions (found c.args.self.now)) (tree_of c.in-Some.json.now)))
filled c =
    c.set_number.ensures.found
    ∙ ap (λ sets. set sets c.args.place (slice_get c.compose.new.self.tables c.in_ok-number.number)) c.in_ok-number.ensures.found
    ∙ ap (set (found c.args.self.now) c.args.place) c.in_ok-number.ensures.composition

pub returns-clause-keeps : goal.returns-clause-keeps
returns-clause-keeps c f =
    let p = c.args.self.now.definitions in
    let sets = found c.args.self.now in
    let t = tree_of c.in-Some.json.now in
    let s = composition p (found_concepts p sets) t in
    let at : tree_at p c.args.place ≡ Some t = sym c.in-Some.ensures in
    let ready : is_ready p sets c.args.place ≡ true = sym c.is_ready.ensures ∙ c.if-not-is_ready.false in
    subst (AreFilled p) (sym (filled (goal.at.returns-clause-keeps c).After-set_number))
    (filled_step p sets c.args.place t s f (place_within p sets c.args.place t f.0 at) at
    (expansion_read p sets t s (ready_parts p sets c.args.place t at ready).1 refl))

pub returns-clause-grows : goal.returns-clause-grows
returns-clause-grows c ready same =
    let p = c.args.self.now.definitions in
    let sets = found c.args.self.now in
    let t = tree_of c.in-Some.json.now in
    let s = composition p (found_concepts p sets) t in
    let at : tree_at p c.args.place ≡ Some t = sym c.in-Some.ensures in
    let more = count_set sets c.args.place s (place_within p sets c.args.place t same at) (ready_parts p sets c.args.place t at ready).0 in
    let after = ap found_count (filled (goal.at.returns-clause-grows c).After-set_number) in
    omega (arith, more, after)
