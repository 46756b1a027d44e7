use Rattle.std.proofs.Common.{arith, inl, inr, sym, ◌∙◌, eq-eqb}
use Rattle.std.proofs.lemmas.List.{length-append}
use Rattle.fhir_decimal.specs.Views.{parts_seen}
use Rattle.fhir_decimal.specs.declared.rows.TheConstants.{FAR}
use Rattle.fhir_decimal.proofs.Digits.{apart_same}
use Rattle.fhir_decimal.proofs.Whole.{whole_by_zeros, nothing_whole}
use Rattle.fhir_decimal.proofs.decimal.Decimal.is_whole.Goals as goal

pub returns-then-zeros-places : goal.returns-then-zeros-places
returns-then-zeros-places c =
    let p = parts_seen c.args.self.now in
    let h = c.zeros_behind-zeros.ensures.number in
    elim h.2 [
      | inl odd ↦ absurd (omega (arith, odd.1, c.if-zeros-places.true, c.places.ensures))
      | inr none ↦ eq-eqb c.zeros_behind-zeros.result c.places.result c.if-zeros-places.true ∙ sym (nothing_whole p h.0 c.zeros_behind-zeros.result h.1 none.0)
    ]

pub returns-else-zeros-places : goal.returns-else-zeros-places
returns-else-zeros-places c =
    let p = parts_seen c.args.self.now in
    let h = c.zeros_behind-zeros.ensures.number in
    let is = apart_same FAR _ _ _ _ _ _ _ _ _ c.rows_apart.ensures.value c.exponent_row.ensures.sign c.exponent_row.ensures.number c.zero.ensures.sign c.zero.ensures.number in
    elim h.2 [
      | inl odd ↦
          whole_by_zeros p FAR c.rows_apart.result h.0 c.zeros_behind-zeros.result h.1 odd.0 is (omega (arith, length-append p.whole p.fraction))
      | inr none ↦ absurd (c.if-zeros-places.false (none.1 ∙ sym c.places.ensures))
    ]
