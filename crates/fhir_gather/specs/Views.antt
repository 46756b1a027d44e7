-- What contracts see of definitions that are kept, and of what is told of others.
use Rattle.std.specs.Prelude.{List, map, string_bytes}
use Rattle.std.specs.Option.{option_map}
use Rattle.fhir_gather.specs.declared.kept.Kept.{Kept}
use Rattle.fhir_gather.specs.declared.dropped.Origin.{Origin as Place}
use Rattle.fhir_gather.specs.declared.dropped.DroppedOne.{DroppedOne}
use Rattle.fhir_gather.specs.Gathering.{Taken, Origin, Dropped}

-- a definition and where it stands
abbrev pub taken_seen : Kept → Taken
taken_seen k = record { folder = k.folder.now; file = k.file.now; definition = k.definition }

abbrev pub all_seen : List Kept → List Taken
all_seen ks = map taken_seen ks

abbrev pub origin_seen : Place → Origin
origin_seen o = record { folder = string_bytes o.folder; file = string_bytes o.file; version = option_map string_bytes o.version }

-- what is told of a definition that isn't kept
abbrev pub dropped_seen : DroppedOne → Dropped
dropped_seen d = record {
  kind = d.kind;
  url = string_bytes d.url;
  first = origin_seen d.first;
  second = origin_seen d.second;
  is_equal = d.is_equal;
}

abbrev pub all_dropped : List DroppedOne → List Dropped
all_dropped ds = map dropped_seen ds
