use Rattle.std.proofs.Common.{◌≡◌, ◌++◌, ◌∙◌, map, ap}
use Rattle.fhir_codes.specs.Concepts.{common}
use Rattle.fhir_codes.specs.Tables.{table_at}
use Rattle.fhir_codes.proofs.Tabling.{set_within}
use Rattle.fhir_codes.proofs.sources.Sources.within.Goals as goal

pub returns : goal.returns
returns c =
    let tables = c.args.self.now.tables in
    let first = c.push.new.self.items in
    let all = c.put_tables.new.out.items in
    let kept = c.distinct_numbers-numbers.result.items in
    let more : all ≡ first ++ map (table_at tables) kept = c.in_ok-put_tables.ensures ∙ ap (λ ns. first ++ map (table_at tables) ns) c.deref.ensures.value in
    c.in_ok-common.ensures ∙ ap common c.deref-2.ensures.value
    ∙ set_within tables c.args.concepts c.new-all.result.items first all c.args.numbers.items kept c.new-all.ensures.items c.in_ok-push.ensures.items more (c.distinct_numbers-numbers.ensures tables)
