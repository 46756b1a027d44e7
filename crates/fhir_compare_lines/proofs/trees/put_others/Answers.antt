use Rattle.std.proofs.Common.{map, codes}
use Rattle.fhir_json.specs.Views.{property_of}
use Rattle.fhir_lines.specs.Lines.{count_property}
use Rattle.fhir_compare_lines.specs.Trees.{alone_counts}
use Rattle.fhir_compare_lines.proofs.Rows.{two_and_more}
use Rattle.fhir_compare_lines.proofs.trees.put_others.Goals as goal

pub returns : goal.returns
returns c =
    let counts = c.args.counts in
    two_and_more (map property_of c.args.into.now.items) (map property_of c.put_count.new.into.items)
    (map property_of c.put_count-2.new.into.items) (map property_of c.put_alone.new.into.items)
    (count_property (codes "neither") counts.neither) (count_property (codes "unusable") counts.unusable) (alone_counts counts)
    c.in_ok-put_count.ensures c.in_ok-put_count-2.ensures c.in_ok-put_alone.ensures
