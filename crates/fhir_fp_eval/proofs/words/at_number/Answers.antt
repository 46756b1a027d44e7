use Rattle.std.proofs.Common.{Ok, ap, ◌∙◌, sym, List}
use Rattle.fhir_decimal.specs.Numbers.{number_seen}
use Rattle.fhir_fp_values.specs.Values.{Plain}
use Rattle.fhir_fp_values.specs.Views.{plains_of}
use Rattle.fhir_fp_eval.proofs.At.{no_place, one_place}
use Rattle.fhir_fp_eval.proofs.words.at_number.Goals as goal

pub returns-in-Some : goal.returns-in-Some
returns-in-Some c =
    let e = one_place (number_seen c.args.number) c.args.values.now c.in-Some.place c.index-values-place.result c.in-Some.ensures.within c.index-values-place.is c.in-Some.ensures.same c.in-Some.ensures.first in
    rw e c.single.ensures

pub returns-in-None : goal.returns-in-None
returns-in-None c =
    let e = no_place (number_seen c.args.number) c.args.values.now c.in-None.ensures.none in
    ap (λ (us : List Plain). Ok us) (e ∙ ap plains_of (sym c.new.ensures.items))
