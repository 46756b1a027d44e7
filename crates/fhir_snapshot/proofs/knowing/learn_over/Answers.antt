use Rattle.std.proofs.Common.{rules, ◌≡◌, ◌∷◌, ◌++◌, [], Some, None, false, true, map, string_bytes, option_map, List, refl, sym, ap, subst, ◌∙◌}
use Rattle.fhir_snapshot.proofs.Known.{on_ok, known_put}
use Rattle.fhir_snapshot.proofs.knowing.learn_over.Goals as goal

pub returns-clause-known : goal.returns-clause-known
returns-clause-known c =
    on_ok c.learn.result
    (λ gets. known_put c.args.known.now c.learn.new.known c.args.url.now c.in_ok-outcome.outcome gets c.args.sources.now c.requires.known c.in_ok-outcome.ensures.found)
    c.learn.ensures
