use Rattle.std.proofs.Common.{◌≡◌, ◌++◌, map, take}
use Rattle.std.specs.Rc.{rc_str_bytes}
use Rattle.fhir_codes.specs.Concepts.{concept}
use Rattle.fhir_codes.proofs.code_systems.put_codes.Given as goal

abbrev pub invariant-loop-code : goal.invariant-loop-code
invariant-loop-code l =
    l.out.items ≡ l.initial.out.items ++ map (concept (rc_str_bytes l.system)) (map (λ c. c.now) (take l.code-index l.codes))
