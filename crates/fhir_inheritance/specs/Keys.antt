-- Names of elements among those of all definitions, and the ids that an id leads to (FHIR R4, ElementDefinition, id).
use Rattle.std.specs.Prelude.{List, [], ◌∷◌, ◌++◌, map, Option, Ok, Err, Result}
use Rattle.std.specs.Option.{option_map, option_map_or}
use Rattle.std.specs.List.{join_with_byte}
use Rattle.fhir_json.specs.Tree.{Text}
use Rattle.fhir_json.specs.Bytes.{dot, colon, line_feed}
use Rattle.fhir_names.specs.Texts.{cut_at_first, cut_at_last}
use Rattle.fhir_names.specs.Ids.{read_id}
use Rattle.fhir_names.specs.Segments.{SegmentParts}
use Rattle.fhir_names.specs.Parents.{sliced_of}

-- the name of an element among those of all definitions: its id and the url of its definition, with a line feed between
-- them, which no id has
abbrev pub key : Text → Text → Text
key id url = id ++ line_feed ∷ url

-- the id and the url that such a name has
abbrev pub key_parts : Text → Option (Text × Text)
key_parts name = cut_at_first line_feed name

-- the id of the child of that name
abbrev pub child_id : Text → Text → Text
child_id id name = id ++ dot ∷ name

-- ---- the same id of the sliced element

-- the id without the slice that its last segment names
abbrev pub unsliced : Text → Text
unsliced id = option_map_or (λ sliced. sliced) (sliced_of id) id

-- what stands behind the first segment, with the dot in front of it
abbrev pub behind : Text → Text
behind rest = option_map_or (λ p. dot ∷ p.1) (cut_at_first dot rest) []

-- the id with its last slice name taken out, `X.a.b` for `X.a:s.b`; none for an id without slice names
abbrev pub twin_of : Text → Option Text
twin_of id = option_map (λ p. unsliced p.0 ++ behind p.1) (cut_at_last colon id)

-- ---- paths

-- the names of an id's segments with dots between them
abbrev pub names_joined : List SegmentParts → Text
names_joined segments = join_with_byte dot (map (λ s. s.0) segments)

abbrev pub path_in : {F : Type 0} → Text → Result (List SegmentParts) F → Text
path_in id (Ok segments) = names_joined segments
path_in id (Err fault) = id

-- the path of an element of that id: the id without its slice names (FHIR R4, ElementDefinition, path)
abbrev pub path_of : Text → Text
path_of id = path_in id (read_id id)
