use Rattle.std.proofs.Common.{◌≡◌, drop, ◌<◌}
use Rattle.fhir_names.specs.Tags.{tag_from}
use Rattle.fhir_names.proofs.tagged.tag_of.Given as goal

abbrev pub invariant-loop-byte : goal.invariant-loop-byte
invariant-loop-byte l = record {
  rest : tag_from l.tag (drop l.byte-index l.bytes) ≡ tag_from 0 l.bytes;
  small : l.tag < 1000000007;
}
