use Rattle.std.proofs.Common.{map, rules}
use Rattle.fhir_json.specs.Views.{property_of}
use Rattle.fhir_compare_lines.proofs.trees.object_row.Goals as goal

pub returns : goal.returns
returns c = (map property_of c.args.further.items, search rules)
