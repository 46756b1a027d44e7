use Rattle.std.proofs.Common.{◌∷◌, List, ◌∙◌, subst}
use Rattle.std.proofs.lemmas.Result.{IfOk-weaker}
use Rattle.fhir_json.specs.declared.position.Position.{Position}
use Rattle.fhir_positions.specs.Among.{AreAmong}
use Rattle.fhir_positions.proofs.Chosen.{IsOutermost, chosen_stand, chosen_values}
use Rattle.fhir_positions.proofs.positions.positions_of.Goals as goal

pub returns-clause-within : goal.returns-clause-within
returns-clause-within c =
    let bytes = c.args.bytes.now in
    let values = c.in_ok-values.values.items in
    let all = c.in_ok-all.all.items in
    let o = c.outermost_of-outermost.result in
    let is : IsOutermost bytes values o = record {
      first = λ v vs e. c.outermost_of-outermost.ensures.first v vs (c.deref.ensures.value ∙ e);
      none = λ e. c.outermost_of-outermost.ensures.none (c.deref.ensures.value ∙ e);
    } in
    let among = subst (λ (ps : List Position). AreAmong all (o ∷ ps)) c.deref-2.ensures.value c.in_ok-all.ensures in
    IfOk-weaker c.positions_of_some.result _ _
    (λ found chosen.
    chosen_stand bytes values all found.items o is c.in_ok-values.ensures.within among
    (subst (λ (ps : List Position). AreAmong found.items (o ∷ ps)) c.deref-4.ensures.value chosen))
    c.positions_of_some.ensures.among

pub returns-clause-values : goal.returns-clause-values
returns-clause-values c =
    let bytes = c.args.bytes.now in
    let values = c.in_ok-values.values.items in
    let all = c.in_ok-all.all.items in
    let o = c.outermost_of-outermost.result in
    let is : IsOutermost bytes values o = record {
      first = λ v vs e. c.outermost_of-outermost.ensures.first v vs (c.deref.ensures.value ∙ e);
      none = λ e. c.outermost_of-outermost.ensures.none (c.deref.ensures.value ∙ e);
    } in
    let among = subst (λ (ps : List Position). AreAmong all (o ∷ ps)) c.deref-2.ensures.value c.in_ok-all.ensures in
    IfOk-weaker c.positions_of_some.result _ _
    (λ found chosen. λ t reads.
    chosen_values bytes values all found.items o is t (c.in_ok-values.ensures.values t reads) among
    (subst (λ (ps : List Position). AreAmong found.items (o ∷ ps)) c.deref-4.ensures.value chosen))
    c.positions_of_some.ensures.among
