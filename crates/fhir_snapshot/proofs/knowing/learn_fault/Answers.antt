use Rattle.std.proofs.Common.{rules, ◌≡◌, ◌∷◌, ◌++◌, [], Some, None, false, true, map, string_bytes, option_map, List, refl, sym, ap, subst, ◌∙◌}
use Rattle.fhir_snapshot.specs.declared.outcome.Outcome.TheVariants.{Faulty}
use Rattle.fhir_snapshot.proofs.Known.{on_ok, known_put, keeps_put}
use Rattle.fhir_snapshot.proofs.knowing.learn_fault.Goals as goal

pub returns-clause-known : goal.returns-clause-known
returns-clause-known c =
    on_ok c.learn.result
    (λ gets. known_put c.args.known.now c.learn.new.known c.args.url.now (Faulty c.args.fault) gets c.args.sources.now c.requires.known c.requires.fault)
    c.learn.ensures

pub returns-clause-keeps : goal.returns-clause-keeps
returns-clause-keeps c =
    on_ok c.learn.result (λ gets. keeps_put c.args.known.now c.learn.new.known c.args.url.now (Faulty c.args.fault) gets) c.learn.ensures
