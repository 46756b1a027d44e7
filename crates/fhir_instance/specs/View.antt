-- The item that a `Typed` is, and what a misfit says.
use Rattle.std.specs.Prelude.{◌≡◌, List, map, Bool, true, false, Option, None}
use Rattle.fhir_json.specs.Views.{tree_seen}
use Rattle.fhir_instance.specs.Items.{Item, item, Named, kids_in}
use Rattle.fhir_instance.specs.declared.misfit.Misfit.{Misfit}
use Rattle.fhir_instance.specs.declared.misfit.MisfitKind.{MisfitKind}
use Rattle.fhir_instance.specs.declared.misfit.MisfitKind.TheVariants.{UnknownProperty, UnwantedArray, MissingArray, Empty, WrongValue, Unparallel, UnknownType, NoMemory}
use Rattle.fhir_instance.specs.declared.typed.Kid.{Kid, fold-Kid}
use Rattle.fhir_instance.specs.declared.typed.Kid.TheOpen.{Kid-F, Typed-F}
use Rattle.fhir_instance.specs.declared.typed.Typed.{Typed, fold-Typed}

-- one level, with each item inside already seen
abbrev pub typed_step : Typed-F Named Item → Item
typed_step t = item t.code.now (tree_seen t.json) (kids_in t.kids.items)

abbrev pub kid_step : Kid-F Named Item → Named
kid_step k = (k.form.now.name, k.item)

abbrev pub item_of : Typed → Item
item_of = fold-Typed Named Item kid_step typed_step

-- a child, under the name of its element
abbrev pub named_of : Kid → Named
named_of = fold-Kid Named Item kid_step typed_step

abbrev pub named_in : List Kid → List Named
named_in kids = map named_of kids

-- whether the form as which a child was typed is of an element that may stand several times
abbrev pub repeats_of : Kid → Bool
repeats_of = fold-Kid Bool (Unit {0}) (λ k. k.form.now.repeats) (λ t. tt {0})

-- want of memory, which decides nothing
abbrev pub is_no_memory_kind : MisfitKind → Bool
is_no_memory_kind UnknownProperty = false
is_no_memory_kind UnwantedArray = false
is_no_memory_kind MissingArray = false
is_no_memory_kind Empty = false
is_no_memory_kind WrongValue = false
is_no_memory_kind Unparallel = false
is_no_memory_kind UnknownType = false
is_no_memory_kind NoMemory = true

abbrev pub is_no_memory : Misfit → Bool
is_no_memory m = is_no_memory_kind m.kind

-- no item, unless memory ran out
abbrev pub IsNoItem : Bool → Option Item → Type 0
IsNoItem true answer = Unit {0}
IsNoItem false answer = answer ≡ None
