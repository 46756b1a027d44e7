-- Sets of texts (used by private contracts alone).
use Rattle.std.specs.Prelude.{Bool}
use Rattle.std.specs.Borrow.{Bor}
use Rattle.std.specs.BTreeSet.{BTreeSet}
use Rattle.std.specs.List.{list_any}
use Rattle.std.specs.Str.{bytes_eq}
use Rattle.fhir_json.specs.Tree.{Text}

abbrev pub has_text : Text → BTreeSet (Bor Text) → Bool
has_text text set = list_any (λ key. bytes_eq text key.now) set.keys
