use Rattle.std.proofs.Common.{rules, ◌≡◌, ◌∷◌, ◌++◌, [], Some, None, false, true, map, string_bytes, option_map, List, refl, sym, ap, subst, ◌∙◌}
use Rattle.fhir_snapshot.proofs.Known.{on_ok, known_put, outcome_is}
use Rattle.fhir_snapshot.proofs.knowing.learn_brought.Goals as goal

pub returns-clause-known : goal.returns-clause-known
returns-clause-known c =
    let p = c.args.sources.now in
    let url = c.args.url.now in
    let o = c.in_ok-outcome.outcome in
    let is = outcome_is p url o c.brought.result c.in_ok-outcome.ensures c.brought.ensures.made c.brought.ensures.none in
    on_ok c.learn.result (λ gets. known_put c.args.known.now c.learn.new.known url o gets p c.requires.known is) c.learn.ensures
