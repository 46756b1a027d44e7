-- Values under their keys (used by private contracts alone).
use Rattle.std.specs.Prelude.{◌≡◌, List, []}
use Rattle.std.specs.Option.{option_map_or}
use Rattle.std.specs.BTreeMap.{get_by_text}
use Rattle.std.specs.List.{filter}
use Rattle.std.specs.Str.{bytes_eq}
use Rattle.fhir_json.specs.Tree.{Text}
use Rattle.fhir_fp_values.specs.declared.table.Table.{Table}
use Rattle.fhir_fp_values.specs.declared.value.Value.{Value}
use Rattle.fhir_fp_values.specs.Views.{plain_of}
use Rattle.fhir_fp_values.specs.Keys.{key_of}

-- what a table has under a key
abbrev pub held : Table → Text → List Value
held table key = option_map_or (λ vs. vs.items) (get_by_text table.values key) []

-- the values of a list that have the key
abbrev pub of_key : List Value → Text → List Value
of_key vs key = filter (λ v. bytes_eq key (key_of (plain_of v))) vs

-- the table has the values of a list, each under its key
abbrev pub Holds : Table → List Value → Type 0
Holds table vs = (key : Text) → held table key ≡ of_key vs key
