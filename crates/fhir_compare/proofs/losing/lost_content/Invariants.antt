use Rattle.std.proofs.Common.{◌≡◌, drop}
use Rattle.fhir_compare.proofs.Lost.{lost_in}
use Rattle.fhir_compare.proofs.losing.lost_content.Given as goal

abbrev pub invariant-loop-element : goal.invariant-loop-element
invariant-loop-element l =
    lost_in l.sides.old.now l.sides.new.now (drop l.element-index l.element-items) ≡ lost_in l.sides.old.now l.sides.new.now l.element-items
