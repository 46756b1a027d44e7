use Rattle.std.proofs.Common.{◌≡◌, true, false, arith}
use Rattle.std.specs.Prelude.{nat_eq}
use Rattle.std.specs.List.{starts_with}
use Rattle.fhir_json.specs.Grammar.{mark}
use Rattle.fhir_json.proofs.Places.{behind_mark, whole_front}
use Rattle.fhir_json.proofs.position.without_mark.Goals as goal

pub returns-then-starts_with : goal.returns-then-starts_with
returns-then-starts_with c =
    let is : starts_with nat_eq c.args.bytes.now mark ≡ true = grind arith in
    rw (c.min-then-starts_with.ensures, c.min.ensures) (behind_mark c.args.bytes.now c.args.before is)

pub returns-else-starts_with : goal.returns-else-starts_with
returns-else-starts_with c =
    let isnt : starts_with nat_eq c.args.bytes.now mark ≡ false = grind arith in
    rw c.min.ensures (whole_front c.args.bytes.now c.args.before isnt)
