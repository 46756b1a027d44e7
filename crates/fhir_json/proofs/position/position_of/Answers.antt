use Rattle.std.proofs.Common.{◌≡◌, ◌<◌, length, get_or, true, false, sym, ◌∙◌, arith}
use Rattle.fhir_json.specs.Position.{begins_character}
use Rattle.fhir_json.proofs.Places.{counts_feed, counts_first, counts_other}
use Rattle.fhir_json.proofs.position.position_of.Goals as goal
use Rattle.fhir_json.proofs.position.position_of.Goals.{then-b-eq10, else-b-eq10+then-begins_character, else-b-eq10+else-begins_character}

pub bytes-preserved : goal.bytes-preserved
bytes-preserved c =
    let xs = c.without_mark-front.result.now in
    let i = c.bytes.b-index in
    let inv = c.bytes.invariant in
    let within : i < length xs = omega arith in
    elim c.if-b-eq10.branch [
      | then-b-eq10 w ↦
          let e : get_or xs i 0 ≡ 10 = w.if-b-eq10.true in
          let next = counts_feed xs i c.bytes.line c.bytes.column within (inv.0, inv.1) e in
          rw (w.line-is, w.column-is) (next.0, next.1, omega arith)
      | else-b-eq10+then-begins_character w ↦
          let is : begins_character (get_or xs i 0) ≡ true = sym w.begins_character.ensures ∙ w.if-begins_character.true in
          let next = counts_first xs i c.bytes.line c.bytes.column within (inv.0, inv.1) w.if-b-eq10.false is in
          rw (w.line-is, w.column-is) (next.0, next.1, omega (arith, inv.2))
      | else-b-eq10+else-begins_character w ↦
          let isnt : begins_character (get_or xs i 0) ≡ false = sym w.begins_character.ensures ∙ w.if-begins_character.false in
          let next = counts_other xs i c.bytes.line c.bytes.column within (inv.0, inv.1) w.if-b-eq10.false isnt in
          rw (w.line-is, w.column-is) (next.0, next.1, omega (arith, inv.2))
    ]
