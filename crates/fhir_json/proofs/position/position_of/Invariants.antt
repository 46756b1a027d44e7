use Rattle.std.proofs.Common.{◌≡◌, ◌+◌, ◌≤◌, take}
use Rattle.fhir_json.specs.Position.{line_feeds, last_characters}
use Rattle.fhir_json.proofs.position.position_of.Given as goal

abbrev pub invariant-bytes : goal.invariant-bytes
invariant-bytes l =
    (l.line ≡ line_feeds (take l.b-index l.front) + 1) × (l.column ≡ last_characters (take l.b-index l.front) + 1) × (l.column ≤ l.b-index + 1)
