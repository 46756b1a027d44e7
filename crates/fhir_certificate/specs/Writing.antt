-- How a certificate is written, in format 2: its definitions in the order in which they are first named, and each node by the number of
-- its definition and its id, the items first and then the children.
use Rattle.std.specs.Prelude.{◌≡◌, List, [], ◌∷◌, ◌++◌, map, Some, All, IsUtf8, IsTrue, if◌then◌else◌}
use Rattle.std.specs.List.{list_all, flat_map}
use Rattle.fhir_json.specs.Sound.{is_among}
use Rattle.fhir_json.specs.Tree.{Text}
use Rattle.fhir_nodes.specs.declared.node.NodeRef.{NodeRef}
use Rattle.fhir_schema.specs.Schemas.{SchemaValue, url_at, id_of_node}
use Rattle.fhir_schema.specs.Versions.{version}
use Rattle.fhir_certificate.specs.declared.pair.NodePair.{NodePair}
use Rattle.fhir_certificate.specs.Certificate.{CertificateValue}
use Rattle.fhir_certificate.specs.Versions.{version_text}
use Rattle.fhir_certificate.specs.Format.{Name, Line, item, kids, Stated, Written, numbering, text_of, is_url, is_line, are_stated_if_any}
use Rattle.fhir_certificate.specs.Judging.{node_of}

-- the name of a node: the url of its definition, and its id
abbrev pub named : SchemaValue → NodeRef → Name
named s n = record { url = url_at s n.definition; id = id_of_node s n }

abbrev pub item_line : SchemaValue → NodePair → Line
item_line s p = item (named s p.derived) (named s p.base)

abbrev pub kids_line : SchemaValue → NodePair → Line
kids_line s p = kids (named s p.derived) (named s p.base)

-- ---- the definitions that are named

abbrev pub pair_urls : SchemaValue → NodePair → List Text
pair_urls s p = url_at s p.derived.definition ∷ url_at s p.base.definition ∷ []

-- the urls that are named, in the order in which they are
abbrev pub urls_named : SchemaValue → CertificateValue → List Text
urls_named s c = c.derived ∷ c.base ∷ (flat_map (pair_urls s) c.items ++ flat_map (pair_urls s) c.kids)

-- a text behind others, unless it is among them
abbrev pub with_text : List Text → Text → List Text
with_text xs x = if is_among x xs then xs else xs ++ x ∷ []

abbrev pub with_texts : List Text → List Text → List Text
with_texts xs [] = xs
with_texts xs (y ∷ ys) = with_texts (with_text xs y) ys

-- the texts of a list, each where it first stands
abbrev pub firsts : List Text → List Text
firsts xs = with_texts [] xs

abbrev pub stated : SchemaValue → Text → Stated
stated s url = record { url = url; version = version_text (version s url) }

-- ---- what is written

-- what is written for a certificate
abbrev pub written_by : SchemaValue → CertificateValue → Written
written_by s c = record {
  definitions = Some (map (stated s) (firsts (urls_named s c)));
  derived = c.derived;
  base = c.base;
  lines = map (item_line s) c.items ++ map (kids_line s) c.kids;
}

-- ---- when it can be read again

-- both nodes are found by their names
abbrev pub IsNamed : SchemaValue → NodePair → Type 0
IsNamed s p = (node_of s (named s p.derived) ≡ Some p.derived) × (node_of s (named s p.base) ≡ Some p.base)

abbrev pub AreNamed : SchemaValue → CertificateValue → Type 0
AreNamed s c = All (IsNamed s) c.items × All (IsNamed s) c.kids

-- its text is UTF-8, each url and id in it is a field, and so is each version, which is written as one
pub record IsWritable (w : Written) : Type 0 where
  pub utf8 : IsUtf8 (text_of w)
  pub definitions : IsTrue (are_stated_if_any w.definitions)
  pub derived : IsTrue (is_url (numbering w.definitions) w.derived)
  pub base : IsTrue (is_url (numbering w.definitions) w.base)
  pub lines : IsTrue (list_all (is_line (numbering w.definitions)) w.lines)
