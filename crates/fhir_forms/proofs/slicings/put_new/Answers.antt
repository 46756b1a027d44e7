use Rattle.std.proofs.Common.{◌≡◌, true, false, is_some, [], ◌∷◌, ap, ◌∙◌, arith}
use Rattle.std.proofs.lemmas.List.{map-append}
use Rattle.fhir_names.specs.Places.{place_of}
use Rattle.fhir_forms.specs.Slicings.{key_of}
use Rattle.fhir_forms.specs.CriteriaSeen.{test_seen, tests_seen}
use Rattle.fhir_forms.proofs.Distinct.{one_again, one_new, found_new}
use Rattle.fhir_forms.proofs.slicings.put_new.Goals as goal

pub returns-then-is_some-clause-put : goal.returns-then-is_some-clause-put
returns-then-is_some-clause-put c h =
    let there : is_some (place_of c.args.seen.now (key_of (test_seen c.args.test))) ≡ true = grind arith in
    one_again c.args.seen.now (tests_seen c.args.tests.now.items) (test_seen c.args.test) h there

pub returns-then-is_some-clause-found : goal.returns-then-is_some-clause-found
returns-then-is_some-clause-found c h = h

pub returns-clause-put : goal.returns-clause-put
returns-clause-put c h =
    let isnt : is_some (place_of c.args.seen.now (key_of (test_seen c.args.test))) ≡ false = grind arith in
    ap tests_seen c.in_ok-push.ensures.items ∙ map-append test_seen c.args.tests.now.items (c.args.test ∷ [])
    ∙ one_new c.args.seen.now (tests_seen c.args.tests.now.items) (test_seen c.args.test) h isnt

pub returns-clause-found : goal.returns-clause-found
returns-clause-found c h =
    found_new c.args.seen.now c.add.new.self c.args.tests.now.items c.push.new.self.items c.args.test _ c.len.result c.in_ok-push.ensures.items
    (grind arith) (grind arith) c.in_ok-add.ensures.added h
