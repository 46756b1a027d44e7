-- Which certificate a text is in a schema, and when there is none.
use Rattle.std.specs.Prelude.{◌≡◌, ◌≤◌, ℕ, List, [], ◌∷◌, ◌&&◌, Bool, true, nat_le, Option, None, Some, is_some, Result, Ok, Err, IsTrue, if◌then◌else◌, length}
use Rattle.std.specs.Option.{option_map, option_map_or, option_and_then}
use Rattle.std.specs.List.{list_all}
use Rattle.std.specs.Str.{bytes_eq}
use Rattle.fhir_json.specs.Tree.{Text}
use Rattle.fhir_nodes.specs.declared.node.NodeRef.{NodeRef}
use Rattle.fhir_schema.specs.Schemas.{SchemaValue, root, node}
use Rattle.fhir_schema.specs.Versions.{can_be_used, version}
use Rattle.fhir_certificate.specs.declared.fault.CertFault.{CertFault}
use Rattle.fhir_certificate.specs.declared.fault.CertFault.TheVariants.{UnknownNode, TooManyPairs, OtherVersion}
use Rattle.fhir_certificate.specs.declared.pair.NodePair.{NodePair}
use Rattle.fhir_certificate.specs.Certificate.{CertificateValue}
use Rattle.fhir_certificate.specs.Versions.{version_text}
use Rattle.fhir_certificate.specs.Format.{Name, Line, item, kids, Stated, Written, Spells}

-- the most pair lines that a certificate may have
abbrev pub limit : ℕ
limit = 16777216

abbrev pub node_of : SchemaValue → Name → Option NodeRef
node_of s n = node s n.url n.id

-- the nodes that two names stand for, where both are known
abbrev pub pair_of : SchemaValue → Name → Name → Option NodePair
pair_of s derived base =
    option_and_then (λ n. option_map (λ m. record { derived = n; base = m }) (node_of s base)) (node_of s derived)

-- a pair in front of a certificate's others
abbrev pub with_item : Option NodePair → CertificateValue → Option CertificateValue
with_item pair c = option_map (λ p. record { derived = c.derived; base = c.base; items = p ∷ c.items; kids = c.kids }) pair

abbrev pub with_kids : Option NodePair → CertificateValue → Option CertificateValue
with_kids pair c = option_map (λ p. record { derived = c.derived; base = c.base; items = c.items; kids = p ∷ c.kids }) pair

-- lines in front of a certificate's pairs, where all their nodes are known
abbrev pub with_lines : SchemaValue → List Line → CertificateValue → Option CertificateValue
with_lines s [] c = Some c
with_lines s (item derived base ∷ lines) c = option_and_then (with_item (pair_of s derived base)) (with_lines s lines c)
with_lines s (kids derived base ∷ lines) c = option_and_then (with_kids (pair_of s derived base)) (with_lines s lines c)

-- each definition that has a line can be used
abbrev pub are_loaded : SchemaValue → Option (List Stated) → Bool
are_loaded s ds = option_map_or (list_all (λ d. can_be_used s d.url)) ds true

-- both profiles can be used, and so can each definition that has a line
abbrev pub are_usable : SchemaValue → Written → Bool
are_usable s w = is_some (root s w.derived) && is_some (root s w.base) && are_loaded s w.definitions

-- the certificate that is written, where its definitions can be used and all nodes are known
abbrev pub certificate_of : SchemaValue → Written → Option CertificateValue
certificate_of s w =
    if are_usable s w then with_lines s w.lines (record { derived = w.derived; base = w.base; items = []; kids = [] })
    else None

abbrev pub has_room : Written → Bool
has_room w = nat_le (length w.lines) limit

-- the version that is written is that of the definition at the url
abbrev pub has_version : SchemaValue → Stated → Bool
has_version s d = bytes_eq d.version (version_text (version s d.url))

-- the versions that are written are those of the schema's definitions
abbrev pub has_versions : SchemaValue → Written → Bool
has_versions s w = option_map_or (list_all (has_version s)) w.definitions true

-- ---- what is answered

-- a certificate, where it is within the limit and its versions are right
abbrev pub within : SchemaValue → Written → CertificateValue → Result CertificateValue CertFault
within s w c = if has_room w then (if has_versions s w then Ok c else Err OtherVersion) else Err TooManyPairs

-- the certificate that is written, or the first fault: of its nodes, then of its size, then of its versions
abbrev pub certificate_or_fault : SchemaValue → Written → Result CertificateValue CertFault
certificate_or_fault s w = option_map_or (within s w) (certificate_of s w) (Err UnknownNode)

-- the bytes spell the certificate, within the limit and for the versions of the schema's definitions
abbrev pub Stands : SchemaValue → Text → CertificateValue → Type 0
Stands s bytes c =
    (w : Written) × Spells bytes w × (certificate_of s w ≡ Some c) × (length w.lines ≤ limit) × IsTrue (has_versions s w)
