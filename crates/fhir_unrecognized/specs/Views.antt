-- What contracts see of a member that R4 doesn't have.
use Rattle.std.specs.Prelude.{List, map}
use Rattle.fhir_json.specs.Views.{text_seen}
use Rattle.fhir_unrecognized.specs.declared.walk.Unrecognized.{Unrecognized}
use Rattle.fhir_unrecognized.specs.Unrecognized.{UnrecognizedMember}

abbrev pub member_seen : Unrecognized → UnrecognizedMember
member_seen u = record { id = text_seen u.id; name = u.name.now; object = u.object }

abbrev pub members_seen : List Unrecognized → List UnrecognizedMember
members_seen us = map member_seen us
