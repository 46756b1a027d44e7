use Rattle.std.proofs.Common.{◌≡◌, map, take, string_bytes}
use Rattle.fhir_json.specs.Tree.{string}
use Rattle.fhir_json.specs.Views.{trees_of}
use Rattle.fhir_overlay.proofs.members.text_items.Given as goal

abbrev pub invariant-loop-text : goal.invariant-loop-text
invariant-loop-text l = trees_of l.items.items ≡ map string (map string_bytes (take l.text-index l.texts))
