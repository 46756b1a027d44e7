use Rattle.std.proofs.Common.{map, codes}
use Rattle.fhir_json.specs.Views.{property_of}
use Rattle.fhir_lines.specs.Lines.{count_property}
use Rattle.fhir_compare_lines.proofs.Rows.{two}
use Rattle.fhir_compare_lines.proofs.trees.put_alone.Goals as goal

pub returns : goal.returns
returns c =
    let counts = c.args.counts in
    two (map property_of c.args.into.now.items) (map property_of c.put_count.new.into.items) (map property_of c.put_count-2.new.into.items)
    (count_property (codes "onlyInOld") counts.only_in_old) (count_property (codes "onlyInNew") counts.only_in_new) c.in_ok-put_count.ensures
    c.in_ok-put_count-2.ensures
