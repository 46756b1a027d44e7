use Rattle.std.proofs.Common.{◌≡◌, Bool, List, None, [], ◌∷◌, ◌++◌, arith, ap, sym, ◌∙◌, true, option_map}
use Rattle.fhir_elements.specs.Tests.{first_of}
use Rattle.fhir_cert_check.specs.Rule.{RuleName, type, children}
use Rattle.fhir_cert_check.specs.Rules.{type_answers, constraint_rules, children_answer}
use Rattle.fhir_cert_check.specs.Facets.{facet_rules}
use Rattle.fhir_cert_check.specs.Views.{rule_name}
use Rattle.fhir_cert_check.specs.PairSet.{has_pair}
use Rattle.fhir_cert_check.proofs.First.{first_holds, first_before, first_behind, first_fails}
use Rattle.fhir_cert_check.proofs.items.item_failing.Goals as goal

-- the first rule behind those that all hold
behind : (typed : Bool) (facets below : List (Bool × RuleName)) → typed ≡ true → first_of facets ≡ None
    → first_of ((typed, type) ∷ (facets ++ below)) ≡ first_of below
behind typed facets below is no_facet = first_holds typed type (facets ++ below) is ∙ first_behind facets below no_facet

pub returns-in-Some : goal.returns-in-Some
returns-in-Some c =
    let s = c.args.schema.now in
    let n = c.args.n in
    let m = c.args.m in
    let facets = facet_rules s n m in
    let below = constraint_rules s n m ++ (children_answer (has_pair c.args.pairs.now) s n m, children) ∷ [] in
    sym (first_holds (type_answers (has_pair c.args.pairs.now) s n m) type (facets ++ below) (sym c.in_ok-is_typed.ensures ∙ c.if-not-is_typed.false)
    ∙ first_before facets below (rule_name c.in-Some.rule) (sym c.in-Some.ensures))

pub returns-in-Some-2 : goal.returns-in-Some-2
returns-in-Some-2 c =
    let s = c.args.schema.now in
    let n = c.args.n in
    let m = c.args.m in
    let below : List (Bool × RuleName) = (children_answer (has_pair c.args.pairs.now) s n m, children) ∷ [] in
    let no_facet : c.facet_failing.result ≡ None = grind arith in
    sym (behind (type_answers (has_pair c.args.pairs.now) s n m) (facet_rules s n m) (constraint_rules s n m ++ below) (sym c.in_ok-is_typed.ensures ∙ c.if-not-is_typed.false)
    (sym c.facet_failing.ensures ∙ ap (option_map rule_name) no_facet)
    ∙ first_before (constraint_rules s n m) below (rule_name c.in-Some-2.rule) (sym c.in_ok-rule.ensures ∙ ap (option_map rule_name) c.in-Some-2.is))

pub returns-then-not-children_answer : goal.returns-then-not-children_answer
returns-then-not-children_answer c =
    let s = c.args.schema.now in
    let n = c.args.n in
    let m = c.args.m in
    let answer = children_answer (has_pair c.args.pairs.now) s n m in
    let below : List (Bool × RuleName) = (answer, children) ∷ [] in
    let no_facet : c.facet_failing.result ≡ None = grind arith in
    let no_constraint : c.in_ok-rule.field-0 ≡ None = grind arith in
    sym (behind (type_answers (has_pair c.args.pairs.now) s n m) (facet_rules s n m) (constraint_rules s n m ++ below) (sym c.in_ok-is_typed.ensures ∙ c.if-not-is_typed.false)
    (sym c.facet_failing.ensures ∙ ap (option_map rule_name) no_facet)
    ∙ first_behind (constraint_rules s n m) below (sym c.in_ok-rule.ensures ∙ ap (option_map rule_name) no_constraint)
    ∙ first_fails answer children [] (sym c.children_answer.ensures ∙ c.if-not-children_answer.true))

pub returns : goal.returns
returns c =
    let s = c.args.schema.now in
    let n = c.args.n in
    let m = c.args.m in
    let answer = children_answer (has_pair c.args.pairs.now) s n m in
    let below : List (Bool × RuleName) = (answer, children) ∷ [] in
    let no_facet : c.facet_failing.result ≡ None = grind arith in
    let no_constraint : c.in_ok-rule.field-0 ≡ None = grind arith in
    sym (behind (type_answers (has_pair c.args.pairs.now) s n m) (facet_rules s n m) (constraint_rules s n m ++ below) (sym c.in_ok-is_typed.ensures ∙ c.if-not-is_typed.false)
    (sym c.facet_failing.ensures ∙ ap (option_map rule_name) no_facet)
    ∙ first_behind (constraint_rules s n m) below (sym c.in_ok-rule.ensures ∙ ap (option_map rule_name) no_constraint)
    ∙ first_holds answer children [] (sym c.children_answer.ensures ∙ c.if-not-children_answer.false))
