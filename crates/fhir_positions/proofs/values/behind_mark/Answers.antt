use Rattle.std.proofs.Common.{◌≡◌, ◌≤◌, true, false, length, arith}
use Rattle.std.specs.Prelude.{nat_eq}
use Rattle.std.specs.List.{starts_with}
use Rattle.fhir_json.specs.Grammar.{mark}
use Rattle.fhir_positions.proofs.Counting.{no_mark, mark_there}
use Rattle.fhir_positions.proofs.values.behind_mark.Goals as goal

pub returns-then-starts_with-clause-within : goal.returns-then-starts_with-clause-within
returns-then-starts_with-clause-within c =
    let is : starts_with nat_eq c.args.bytes.now mark ≡ true = grind arith in
    let long : 3 ≤ length c.args.bytes.now = grind arith in
    mark_there c.args.bytes.now is long

pub returns-else-starts_with-clause-within : goal.returns-else-starts_with-clause-within
returns-else-starts_with-clause-within c =
    let isnt : starts_with nat_eq c.args.bytes.now mark ≡ false = grind arith in
    no_mark c.args.bytes.now isnt
