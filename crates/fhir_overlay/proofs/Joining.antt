-- Members that are put behind one another.
use Rattle.std.proofs.Common.{◌≡◌, List, [], ◌++◌, Option, append_assoc}
use Rattle.std.proofs.lemmas.List.Elements.{filter_map-append}
use Rattle.fhir_json.specs.Tree.{Property}
use Rattle.fhir_overlay.specs.Json.{present}

pub present-append : (ms ns : List (Option Property)) → present (ms ++ ns) ≡ present ms ++ present ns
present-append ms ns = filter_map-append (λ m. m) ms ns

pub joined : (start ls bs cs ds es : List Property) (ms ns os ps qs : List (Option Property)) → start ≡ []
    → ls ≡ start ++ present ms → bs ≡ ls ++ present ns → cs ≡ bs ++ present os → ds ≡ cs ++ present ps → es ≡ ds ++ present qs
    → es ≡ present (ms ++ ns ++ os ++ ps ++ qs)
joined start ls bs cs ds es ms ns os ps qs none first second third fourth fifth =
    rw (fifth, fourth, third, second, first, none)
    (simp (present-append, append_assoc))
