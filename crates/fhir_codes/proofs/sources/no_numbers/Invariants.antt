use Rattle.std.proofs.Common.{◌≡◌, length, is_none, true}
use Rattle.std.specs.List.{list_all}
use Rattle.fhir_codes.proofs.sources.no_numbers.Given as goal

abbrev pub invariant-loop-place : goal.invariant-loop-place
invariant-loop-place l = record { count : length l.numbers.items ≡ l._place; none : list_all is_none l.numbers.items ≡ true }
