use Rattle.std.proofs.Common.{◌≡◌, ◌++◌, length, drop}
use Rattle.std.specs.Option.{option_map}
use Rattle.fhir_gather.specs.Views.{all_seen}
use Rattle.fhir_gather.specs.Written.{written_from, written}
use Rattle.fhir_gather.proofs.whole.write_each.Given as goal

abbrev pub invariant-loop-place : goal.invariant-loop-place
invariant-loop-place g l = record {
  rest : option_map (λ files. files ++ written_from (length l.kept) l.place (all_seen (drop l.place l.kept))) (g.N.NewFolder.part l.out)
      ≡ option_map (λ files. files ++ written (all_seen l.kept)) (g.N.NewFolder.part l.fn.out);
  whole : g.N.NewFolder.whole l.out ≡ g.N.NewFolder.whole l.fn.out;
}
