use Rattle.std.proofs.Common.{rules, ◌≡◌, ◌∷◌, ◌++◌, [], Some, None, false, true, map, string_bytes, option_map, List, refl, sym, ap, subst, ◌∙◌}
use Rattle.std.specs.Map.{lookup}
use Rattle.std.specs.Str.{bytes_eq}
use Rattle.std.proofs.lemmas.Result.{IfOk-weaker}
use Rattle.fhir_snapshot.specs.declared.outcome.Outcome.TheVariants.{Made, Faulty}
use Rattle.fhir_snapshot.specs.Faults.{number_of}
use Rattle.fhir_snapshot.specs.Refusing.{Applies}
use Rattle.fhir_snapshot.specs.Snapshots.{IsSnapshot}
use Rattle.fhir_snapshot.proofs.Known.{outcome_is}
use Rattle.fhir_snapshot.proofs.Refused.{base_applies}
use Rattle.fhir_snapshot.proofs.knowing.found_over.Goals as goal

pub derived-requires-clause-under : goal.derived-requires-clause-under
derived-requires-clause-under c =
    let v = c.in-Some-Made.under in
    let there : lookup (bytes_eq c.args.base.now) c.args.known.now ≡ Some (Made v) = search rules in
    (c.args.base.now, c.requires.rests, subst (IsSnapshot c.args.sources.now c.args.base.now) (sym c.deref.ensures.value) (c.requires.known c.args.base.now (Made v) there))

pub returns-in-Some-Made-clause-found : goal.returns-in-Some-Made-clause-found
returns-in-Some-Made-clause-found c =
    IfOk-weaker c.outcome_of.result _ _
    (λ o is. outcome_is c.args.sources.now c.args.url.now o c.derived.result is c.derived.ensures.made c.derived.ensures.none) c.outcome_of.ensures

pub returns-in_ok-copied-in-Some-Faulty-clause-found : goal.returns-in_ok-copied-in-Some-Faulty-clause-found
returns-in_ok-copied-in-Some-Faulty-clause-found c =
    let p = c.args.sources.now in
    let f = c.in-Some-Faulty.fault in
    let there : lookup (bytes_eq c.args.base.now) c.args.known.now ≡ Some (Faulty f) = search rules in
    let copy : number_of c.in_ok-copied-in-Some-Faulty.field-0 ≡ number_of f = search rules in
    subst (Applies p c.args.url.now) (sym copy)
    (base_applies p c.args.url.now c.args.base.now (number_of f) c.requires.rests (c.requires.known c.args.base.now (Faulty f) there))
