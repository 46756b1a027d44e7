-- By which profiles a resource is judged where a user names none: by its type's own definition, and by each profile that it claims
-- (FHIR R4, Resource, meta.profile).
use Rattle.std.specs.Prelude.{List, [], ◌∷◌, map, filter, filter_map, Bool, not, ◌||◌, Option, Some, None, is_some, codes, if◌then◌else◌}
use Rattle.std.specs.Option.{option_map_or, option_and_then}
use Rattle.std.specs.Result.{result_ok}
use Rattle.fhir_json.specs.Tree.{Text, Tree}
use Rattle.fhir_json.specs.Fields.{field, as_text, text_in, items_in}
use Rattle.fhir_names.specs.Canonicals.{read_canonical}
use Rattle.fhir_nodes.specs.declared.node.NodeRef.{NodeRef}
use Rattle.fhir_schema.specs.Schemas.{SchemaValue, url_at, root, resource_root, loaded, unusable}
use Rattle.fhir_claims.specs.Once.{each_once}

-- ---- the type's own definition

-- the url of the definition of any resource (FHIR R4, Resource)
unfoldable pub resource_url : Text
resource_url = codes "http://hl7.org/fhir/StructureDefinition/Resource"

-- the root of the type that a resource names (FHIR R4, JSON representation of resources)
abbrev pub type_node : SchemaValue → Tree → Option NodeRef
type_node s t = option_and_then (resource_root s) (text_in (codes "resourceType") t)

abbrev pub url_of_node : SchemaValue → NodeRef → Text
url_of_node s n = url_at s n.definition

-- the url of its type's definition, or of any resource's where the type isn't there
abbrev pub own_url : SchemaValue → Tree → Text
own_url s t = option_map_or (url_of_node s) (type_node s t) resource_url

-- ---- the profiles that it claims

-- the canonicals that it claims: the texts in the outermost `meta.profile`
abbrev pub claimed : Tree → List Text
claimed t = option_map_or (λ meta. filter_map as_text (items_in (codes "profile") meta)) (field (codes "meta") t) []

-- the url in a canonical, without a version, where the definition at it can't be used
abbrev pub unusable_in : SchemaValue → Text → Option Text
unusable_in s canonical =
    option_and_then (λ parts. if is_some (unusable s parts.0) then Some parts.0 else None) (result_ok (read_canonical canonical))

-- the url by which it is judged: that of the definition that it names (FHIR R4, Data Types, canonical), or that of one that can't be
-- used, and else the canonical as it is written
abbrev pub named_url : SchemaValue → Text → Text
named_url s canonical =
    option_map_or (url_of_node s) (loaded s canonical) (option_map_or (λ url. url) (unusable_in s canonical) canonical)

abbrev pub claimed_urls : SchemaValue → Tree → List Text
claimed_urls s t = map (named_url s) (claimed t)

-- ---- the profiles by which it is judged

-- a profile of that url is there and can be used
abbrev pub is_known : SchemaValue → Text → Bool
is_known s url = is_some (root s url)

-- all are kept, or those alone that are known
abbrev pub is_kept : SchemaValue → Bool → Text → Bool
is_kept s skip_unknown url = not skip_unknown || is_known s url

abbrev pub profiles_of : SchemaValue → Bool → Tree → List Text
profiles_of s skip_unknown t = each_once (own_url s t ∷ filter (is_kept s skip_unknown) (claimed_urls s t))

abbrev pub skipped_of : SchemaValue → Bool → Tree → List Text
skipped_of s skip_unknown t = each_once (filter (λ url. not (is_kept s skip_unknown url)) (claimed_urls s t))
