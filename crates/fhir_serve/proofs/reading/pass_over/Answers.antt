use Rattle.std.proofs.Common.{◌≡◌, ◌<◌, true, false, length, rules, arith}
use Rattle.std.specs.Io.BufRead.{ends_with_byte}
use Rattle.fhir_serve.proofs.LineLemmas.{Takes-ended, Takes-passed, some_left}
use Rattle.fhir_serve.proofs.reading.pass_over.Goals as goal

pub returns-then-ends_in_feed : goal.returns-then-ends_in_feed
returns-then-ends_in_feed g c old taken =
    let ended : ends_with_byte 10 c.args.part.items ≡ true = search rules in
    Takes-ended old (g.R.Read.remaining c.args.reader.now) c.args.part.items ended c.requires taken

pub returns-then-skipped-gt0 : goal.returns-then-skipped-gt0
returns-then-skipped-gt0 g c old taken =
    let unended : ends_with_byte 10 c.args.part.items ≡ false = search rules in
    let mid = g.R.Read.remaining c.args.reader.now in
    let some : length c.args.part.items ≡ 0 → 0 < c.in-Ok.skipped = grind arith in
    Takes-passed old mid (g.R.Read.remaining c.skip_until.new.self) c.args.part.items unended c.requires taken c.in-Ok.ensures.rest
    (λ none. some_left mid c.in-Ok.skipped c.in-Ok.ensures.count (some none))
