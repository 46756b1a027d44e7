use Rattle.std.proofs.Common.{◌≡◌, ◌∷◌, ◌++◌, [], length, sym, ◌∙◌, ap, subst, arith}
use Rattle.std.specs.List.{slice_get}
use Rattle.std.proofs.lemmas.Grind.{common_steps}
use Rattle.fhir_codes.specs.Placing.{AreWhole}
use Rattle.fhir_codes.specs.Tables.{AreNumbers}
use Rattle.fhir_codes.proofs.Wholes.{whole_pushed, get_last}
use Rattle.fhir_codes.proofs.Tabling.{numbers_pushed, found_pushed, found_of}
use Rattle.fhir_codes.proofs.sources.Sources.keep.Goals as goal

pub invariant_of-self-2 : goal.invariant_of-self-2
invariant_of-self-2 c =
    let p = c.self.inside.from.now in
    let before = c.self.inside.tables.items in
    let grown = sym c.in_ok-push.ensures.items in (
      c.self.invariant.0,
      c.self.invariant.1,
      subst (AreWhole p c.self.inside.systems) grown (whole_pushed p c.self.inside.systems before c.args.concepts c.self.invariant.2),
      subst (λ ts. AreNumbers ts c.self.inside.numbers.items) grown (numbers_pushed before c.args.concepts c.self.inside.numbers.items c.self.invariant.3),
    )

pub returns-clause-kept : goal.returns-clause-kept
returns-clause-kept c =
    let before = c.self.inside.tables.items in
    let counted : c.len-number.result ≡ length before = grind (arith, common_steps, c.len-number.ensures) in
    ap (λ ts. slice_get ts c.len-number.result) c.in_ok-push.ensures.items
    ∙ ap (slice_get (before ++ c.args.concepts ∷ [])) counted
    ∙ get_last before c.args.concepts

pub returns-clause-found : goal.returns-clause-found
returns-clause-found c =
    let before = c.self.inside.tables.items in
    let numbers = c.self.inside.numbers.items in
    ap (λ ts. found_of ts numbers) c.in_ok-push.ensures.items ∙ found_pushed before c.args.concepts numbers c.self.invariant.3
    ∙ ap (λ (s : _). found_of s.tables s.numbers) c.self.view_is
