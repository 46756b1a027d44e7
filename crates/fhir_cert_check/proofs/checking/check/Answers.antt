use Rattle.std.proofs.Common.{◌≡◌, sym, Some, subst, ◌∙◌, IsTrue}
use Rattle.std.specs.Prelude.{◌↔◌}
use Rattle.std.proofs.lemmas.Option.{same_Some}
use Rattle.fhir_json.specs.Memory.{Gives}
use Rattle.fhir_nodes.specs.declared.node.NodeRef.{NodeRef}
use Rattle.fhir_schema.specs.Schemas.{root}
use Rattle.fhir_cert_check.specs.Checking.{roots_of, IsCertificate, wrong_with}
use Rattle.fhir_cert_check.specs.Inclusion.{IncludesItems, Includes}
use Rattle.fhir_cert_check.specs.Views.{is_yes, wrong_in}
use Rattle.fhir_cert_check.proofs.Promised.{given_by_certificate, on_given, yes_exactly, promised, items_promised}
use Rattle.fhir_cert_check.proofs.checking.check.Goals as goal

pub returns-clause-first : goal.returns-clause-first
returns-clause-first c roots are_roots =
    let s = c.args.schema.now in
    let v = c.args.certificate.now in
    let same : c.in-Some.roots ≡ roots = same_Some c.in-Some.roots roots (c.in-Some.ensures ∙ are_roots) in
    subst (λ r. Gives wrong_in c.judge.result (wrong_with s v r)) same
    (given_by_certificate s c.in_ok-pairs.pairs.set v c.in-Some.roots c.judge.result c.in_ok-pairs.ensures.same c.judge.ensures)

pub returns-clause-yes : goal.returns-clause-yes
returns-clause-yes c =
    let s = c.args.schema.now in
    let v = c.args.certificate.now in
    let are_roots : roots_of s v ≡ Some c.in-Some.roots = sym c.in-Some.ensures in
    on_given wrong_in c.judge.result (wrong_with s v c.in-Some.roots) (λ answer. IsTrue (is_yes answer) ↔ IsCertificate s v)
    (λ answer e. yes_exactly s v c.in-Some.roots answer are_roots e)
    (given_by_certificate s c.in_ok-pairs.pairs.set v c.in-Some.roots c.judge.result c.in_ok-pairs.ensures.same c.judge.ensures)

pub returns-clause-includes : goal.returns-clause-includes
returns-clause-includes c =
    let s = c.args.schema.now in
    let v = c.args.certificate.now in
    let are_roots : roots_of s v ≡ Some c.in-Some.roots = sym c.in-Some.ensures in
    on_given wrong_in c.judge.result (wrong_with s v c.in-Some.roots) (λ answer. IsTrue (is_yes answer) → Includes s v.derived v.base)
    (λ answer e right. promised s v (c.inclusion.ensures s) ((yes_exactly s v c.in-Some.roots answer are_roots e).0 right))
    (given_by_certificate s c.in_ok-pairs.pairs.set v c.in-Some.roots c.judge.result c.in_ok-pairs.ensures.same c.judge.ensures)

pub returns-clause-items : goal.returns-clause-items
returns-clause-items c =
    let s = c.args.schema.now in
    let v = c.args.certificate.now in
    let are_roots : roots_of s v ≡ Some c.in-Some.roots = sym c.in-Some.ensures in
    on_given wrong_in c.judge.result (wrong_with s v c.in-Some.roots)
    (λ answer. IsTrue (is_yes answer) → (n m : NodeRef) → root s v.derived ≡ Some n → root s v.base ≡ Some m → IncludesItems s n m)
    (λ answer e right. items_promised s v (c.inclusion.ensures s) ((yes_exactly s v c.in-Some.roots answer are_roots e).0 right))
    (given_by_certificate s c.in_ok-pairs.pairs.set v c.in-Some.roots c.judge.result c.in_ok-pairs.ensures.same c.judge.ensures)
