use Rattle.std.proofs.Common.{◌≡◌, Option, None, map, take}
use Rattle.fhir_json.specs.Tree.{Text}
use Rattle.fhir_findings.specs.Views.{texts_seen, firsts_seen}
use Rattle.fhir_findings.proofs.saying.none_of.Given as goal

abbrev pub invariant-loop-one : goal.invariant-loop-one
invariant-loop-one l = texts_seen l.found.items ≡ map (λ _. let n : Option Text = None in n) (firsts_seen (take l._one-index l.told))
