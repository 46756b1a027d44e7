use Rattle.std.proofs.Common.{◌≡◌, ◌<◌, length, Some, is_some, false, ap, sym, ◌∙◌, subst}
use Rattle.std.specs.Option.{option_copied}
use Rattle.std.specs.List.{slice_get}
use Rattle.std.proofs.lemmas.Option.{slice_get_within, slice_get-get_or}
use Rattle.fhir_schema.specs.Settling.{reason_at}
use Rattle.fhir_schema.specs.Blaming.{reasons_of}
use Rattle.fhir_schema.proofs.Blamed.{no_blame, judged_one, queued_one}
use Rattle.fhir_schema.proofs.settling.judge.Goals as goal

pub first_blame-requires : goal.first_blame-requires
first_blame-requires c =
    let ds = c.args.table.now in
    let at : slice_get ds c.args.place ≡ Some c.in-Some.definition.now = sym c.definition.ensures ∙ ap option_copied c.in-Some.is in
    let below : c.args.place < length ds = slice_get_within ds c.args.place c.in-Some.definition.now at in
    let within : c.args.place < length c.args.lasting.now = subst (λ n. c.args.place < n) (sym c.requires.lasting.counted) below in
    c.requires.lasting.each c.args.place c.in-Some.definition.now _ at (slice_get-get_or c.args.lasting.now c.args.place _ within)

pub returns-clause-reasons : goal.returns-clause-reasons
returns-clause-reasons c =
    let ds = c.args.table.now in
    let found = c.args.found.now in
    let at : slice_get ds c.args.place ≡ Some c.in-Some.definition.now = sym c.definition.ensures ∙ ap option_copied c.in-Some.is in
    let free : is_some (reason_at (reasons_of found) c.args.place) ≡ false =
    ap is_some (sym c.blame_at.ensures.reason) ∙ no_blame c.blame_at.result (sym c.is_some.ensures ∙ c.if-is_some.false) in
    judged_one ds c.args.known.now found c.args.place c.in-Some.definition.now at c.requires.counted free c.first_blame.result c.first_blame.ensures.reason

pub returns-clause-round : goal.returns-clause-round
returns-clause-round c =
    let ds = c.args.table.now in
    let found = c.args.found.now in
    let at : slice_get ds c.args.place ≡ Some c.in-Some.definition.now = sym c.definition.ensures ∙ ap option_copied c.in-Some.is in
    let free : is_some (reason_at (reasons_of found) c.args.place) ≡ false =
    ap is_some (sym c.blame_at.ensures.reason) ∙ no_blame c.blame_at.result (sym c.is_some.ensures ∙ c.if-is_some.false) in
    c.in_ok-push.ensures.items ∙ queued_one ds c.args.known.now found c.args.place c.in-Some.definition.now at c.requires.counted free c.args.round.now.items
