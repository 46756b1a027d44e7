-- The trees of arrays and objects.
use Rattle.std.proofs.Common.{◌≡◌, map, sym, ap, ◌∙◌, rules}
use Rattle.std.specs.declared.alloc.Global.{Global}
use Rattle.std.specs.declared.vec.Vec.{Vec}
use Rattle.fhir_json.specs.declared.json.Json.{fold-roll-Json}
use Rattle.fhir_json.specs.declared.json.Member.{Member}
use Rattle.fhir_json.specs.declared.json.Json.TheVariants as json
use Rattle.fhir_json.specs.Tree.{object, members_of}
use Rattle.fhir_json.specs.Views.{tree_of, property_of}
pub use Rattle.fhir_json.proofs.Folds.{tree-arr}

pub tree-obj : (v : Vec Member Global) → tree_of (json.Obj v) ≡ object (members_of (map property_of v.items))
tree-obj v = ap tree_of (sym (json.rolls-Obj v)) ∙ search (rules, fold-roll-Json)
