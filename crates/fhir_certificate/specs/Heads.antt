-- What contracts see of the head of a text (used by private contracts alone).
use Rattle.std.specs.Prelude.{List}
use Rattle.fhir_certificate.specs.declared.format.Head.{Head}
use Rattle.fhir_certificate.specs.Format.{Line, Written}

-- what is written where these are the lines
abbrev pub written_with : Head → List Line → Written
written_with head lines = record { definitions = head.definitions; derived = head.derived.now; base = head.base.now; lines = lines }
