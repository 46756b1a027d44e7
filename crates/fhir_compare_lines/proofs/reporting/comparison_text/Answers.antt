use Rattle.std.proofs.Common.{map, string_bytes}
use Rattle.fhir_compare_lines.specs.Report.{last_lines}
use Rattle.fhir_compare_lines.proofs.Told.{all_told}
use Rattle.fhir_compare_lines.proofs.reporting.comparison_text.Goals as goal

pub returns : goal.returns
returns c =
    let on_urls = map string_bytes c.in_ok-lines.lines.items in
    record {
      on_urls = on_urls;
      are_told = c.in_ok-lines.ensures;
      written =
          all_told (string_bytes c.in_ok-text.text) (map string_bytes c.in_ok-all.all.items) on_urls (map string_bytes c.in_ok-last.last.items)
          (last_lines c.args.format c.args.compared.now c.args.sources.types c.args.part) (rw c.as_slice.ensures.value at c.in_ok-text.ensures)
          c.in_ok-all.ensures c.in_ok-last.ensures;
    }
