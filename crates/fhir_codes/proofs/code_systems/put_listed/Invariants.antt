use Rattle.std.proofs.Common.{◌≡◌, ◌++◌, map, take, codes}
use Rattle.fhir_json.specs.Fields.{text_at}
use Rattle.fhir_json.specs.Views.{trees_of}
use Rattle.fhir_codes.proofs.code_systems.put_listed.Given as goal

abbrev pub invariant-loop-json : goal.invariant-loop-json
invariant-loop-json l =
    map (λ c. c.now) l.out.items ≡ map (λ c. c.now) l.initial.out.items ++ map (text_at (codes "code")) (trees_of (take l.json-index l.concepts))
