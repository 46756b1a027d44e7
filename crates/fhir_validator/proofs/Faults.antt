-- What faults and misfits say.
use Rattle.std.proofs.Common.{◌≡◌, Bool, true, false, sym, ◌∙◌, Option, Some, None}
use Rattle.std.specs.Prelude.{Ok}
use Rattle.std.proofs.lemmas.Bool.{false≢true}
use Rattle.fhir_json.specs.Memory.{IsFault}
use Rattle.fhir_json.specs.Tree.{Tree}
use Rattle.fhir_json.specs.declared.fault.JsonFault.{JsonFault}
use Rattle.fhir_instance.specs.Items.{Item}
use Rattle.fhir_instance.specs.View.{IsNoItem}

-- a fault that isn't want of memory says that nothing is read
pub not_read : (b : Bool) (fault : JsonFault) (t : Tree) → b ≡ false → IsFault b fault (Ok t) → ⊥
not_read true fault t e h = absurd (false≢true (sym e))
not_read false fault t e h = cc

-- a misfit that isn't want of memory says that there is no item
pub not_typed : (b : Bool) (o : Option Item) → b ≡ false → IsNoItem b o → (x : Item) → o ≡ Some x → ⊥
not_typed true o e h x f = absurd (false≢true (sym e))
not_typed false o e h x f = let k : None ≡ Some x = sym h ∙ f in cc
