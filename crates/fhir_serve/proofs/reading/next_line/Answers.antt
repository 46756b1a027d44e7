use Rattle.std.proofs.Common.{◌≡◌, ◌<◌, ◌++◌, length, IfSome, subst, rules}
use Rattle.std.specs.Io.BufRead.{take_through}
use Rattle.fhir_serve.proofs.LineLemmas.{Takes-held}
use Rattle.fhir_serve.proofs.reading.next_line.Goals as goal

pub returns-in-Ok-eq0 : goal.returns-in-Ok-eq0
returns-in-Ok-eq0 g c = let end = rw c.in-Ok-eq0.is at c.read_until.ensures.end in end c.in-Ok-eq0.field-0-test

pub returns-in-Ok : goal.returns-in-Ok
returns-in-Ok g c =
    let read = c.read_until.new.buf.items in
    let some : 0 < length read = search rules in
    let old = g.R.Read.remaining c.args.reader.now in
    Takes-held old (g.R.Read.remaining c.read_until.new.self) c.without_feed.result.items read c.without_feed.ensures some
    (subst (λ l. IfSome old (λ xs. read ≡ l ++ take_through 10 xs)) c.new-line.ensures.items c.in-Ok.ensures.bytes) c.in-Ok.ensures.rest

pub returns-in-Err-2 : goal.returns-in-Err-2
returns-in-Err-2 g c = tt
