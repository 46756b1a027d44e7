use Rattle.fhir_cert_check.proofs.Keeping.{includes}
use Rattle.fhir_cert_check.proofs.laws.inclusion.Goals as goal

pub returns : goal.returns
returns c s pairs right n m pair =
    let narrow = c.narrower_holds.ensures in
    includes s (record {
      covers_on = c.covering_codes.ensures.transitive s;
      entailed_is = c.entailed_is_true.ensures;
      fixed_is = narrow.fixed;
      pattern_is = narrow.pattern;
      fits_is = narrow.fitted;
      length_is = narrow.length;
      range_is = narrow.range;
      binding_is = narrow.binding s;
      targets_are = narrow.targets s;
      count_is = narrow.count;
    }) (c.covering_codes.ensures.alone s) (c.roots_ask_no_root.ensures s) (c.roots_are_roots.ensures.of_canonical s)
    (c.equal_criteria.ensures.same s) pairs right n m pair
