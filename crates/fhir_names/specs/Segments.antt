-- The segments of an element's id (FHIR R4, ElementDefinition, id), each a name, and perhaps a ':' and the name of a
-- slice behind it, and what is wrong with them.
use Rattle.std.specs.Prelude.{List, [], ◌∷◌, ◌++◌, map, Bool, true, not, ◌&&◌, ◌==◌, Option, None, Some, if◌then◌else◌}
use Rattle.std.specs.Option.{option_map, option_map_or, option_or}
use Rattle.std.specs.List.{slice_split}
use Rattle.fhir_json.specs.Tree.{Text}
use Rattle.fhir_json.specs.Bytes.{dot, slash, colon, is_empty}
use Rattle.fhir_names.specs.declared.fault.NameFault.{NameFault}
use Rattle.fhir_names.specs.declared.fault.NameFault.TheVariants.{Empty, SliceOfSlice, Control}
use Rattle.fhir_names.specs.declared.segments.Segment.{Segment}
use Rattle.fhir_names.specs.Texts.{is_plain, lacks, cut_at_first}

-- a segment: its name, and that of a slice
abbrev pub SegmentParts : Type 0
SegmentParts = Text × Option Text

abbrev pub segment_seen : Segment → SegmentParts
segment_seen s = (s.name.now, option_map (λ r. r.now) s.slice)

-- ---- how a segment is written

abbrev pub segment_text : SegmentParts → Text
segment_text p = option_map_or (λ s. p.0 ++ colon ∷ s) p.1 p.0

abbrev pub is_name : Text → Bool
is_name n = not (is_empty n) && is_plain n && lacks dot n && lacks colon n

-- the first ':' stands before it, and so it may have others
abbrev pub is_slice : Text → Bool
is_slice s = not (is_empty s) && is_plain s && lacks dot s && lacks slash s

abbrev pub is_segment : SegmentParts → Bool
is_segment p = is_name p.0 && option_map_or is_slice p.1 true

-- ---- how one is read

abbrev pub segment_parts : Text → SegmentParts
segment_parts s = option_map_or (λ p. (p.0, Some p.1)) (cut_at_first colon s) (s, None)

abbrev pub segments_of : Text → List SegmentParts
segments_of text = map segment_parts (slice_split (λ b. b == dot) text)

abbrev pub slice_fault : Text → Option NameFault
slice_fault s = if is_empty s then Some Empty else (if lacks slash s then None else Some SliceOfSlice)

abbrev pub segment_fault : SegmentParts → Option NameFault
segment_fault p = if is_empty p.0 then Some Empty else option_map_or slice_fault p.1 None

-- the first from the left
abbrev pub first_fault : List SegmentParts → Option NameFault
first_fault [] = None
first_fault (p ∷ ps) = option_or (segment_fault p) (first_fault ps)

abbrev pub id_fault : Text → Option NameFault
id_fault text = if is_plain text then first_fault (segments_of text) else Some Control
