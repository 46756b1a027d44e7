use Rattle.std.proofs.Common.{◌≡◌, ◌++◌, map, ap, ◌∙◌}
use Rattle.std.specs.Rc.{rc_str_bytes}
use Rattle.fhir_codes.specs.Concepts.{concept, of_system}
use Rattle.fhir_codes.proofs.Looping.{gives_as}
use Rattle.fhir_codes.proofs.Members.{set_of}
use Rattle.fhir_codes.proofs.code_systems.concepts_of.Goals as goal

pub returns : goal.returns
returns c =
    let system = rc_str_bytes c.args.system.now in
    let put : c.put_codes.new.out.items ≡ map (concept system) (map (λ r. r.now) c.distinct_codes-codes.result.items) =
    c.in_ok-put_codes.ensures
    ∙ ap (λ xs. xs ++ map (concept system) (map (λ r. r.now) c.deref.result.now)) c.in_ok-out.ensures.items
    ∙ ap (λ xs. map (concept system) (map (λ r. r.now) xs)) c.deref.ensures.value in
    gives_as (λ s. s) c.of.result (set_of c.put_codes.new.out.items) (of_system system (map (λ r. r.now) c.args.codes.items))
    (ap set_of put ∙ c.distinct_codes-codes.ensures system)
    c.of.ensures
