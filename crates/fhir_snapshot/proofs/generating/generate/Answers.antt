use Rattle.std.proofs.Common.{rules, ◌≡◌, Some, subst}
use Rattle.std.specs.Map.{lookup}
use Rattle.std.specs.Str.{bytes_eq}
use Rattle.fhir_snapshot.specs.declared.outcome.Outcome.TheVariants.{Made, Faulty}
use Rattle.fhir_snapshot.specs.Faults.{number_of}
use Rattle.fhir_snapshot.specs.Snapshots.{IsSnapshot}
use Rattle.fhir_snapshot.specs.Refusing.{Applies}
use Rattle.fhir_snapshot.proofs.generating.generate.Goals as goal

pub returns-in-Some-Made-clause-made : goal.returns-in-Some-Made-clause-made
returns-in-Some-Made-clause-made c =
    let url = c.args.url.now in
    let v = c.in-Some-Made.elements in
    let there : lookup (bytes_eq url) c.find.new.known ≡ Some (Made v) = search rules in
    subst (λ p. IsSnapshot p url v.items) c.in_ok-sources.ensures (c.in_ok-find.ensures.known url (Made v) there)

pub returns-in-Some-Faulty-clause-number : goal.returns-in-Some-Faulty-clause-number
returns-in-Some-Faulty-clause-number c memory =
    let url = c.args.url.now in
    let f = c.in-Some-Faulty.fault in
    let there : lookup (bytes_eq url) c.find.new.known ≡ Some (Faulty f) = search rules in
    subst (λ p. Applies p url (number_of f)) c.in_ok-sources.ensures (c.in_ok-find.ensures.known url (Faulty f) there)

pub returns-in-Some-Faulty-clause-none : goal.returns-in-Some-Faulty-clause-none
returns-in-Some-Faulty-clause-none c memory =
    c.numbers_apply.ensures c.args.«package».now c.args.url.now (number_of c.in-Some-Faulty.fault) (returns-in-Some-Faulty-clause-number c memory)
