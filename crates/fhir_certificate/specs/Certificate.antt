-- Certificates: pairs of nodes of a derived definition and its base, of which each is right by the others.
use Rattle.std.specs.Prelude.{List, Bool, ◌&&◌, is_some}
use Rattle.std.specs.List.{list_all}
use Rattle.fhir_json.specs.Tree.{Text}
use Rattle.fhir_schema.specs.Schemas.{SchemaValue, has, root}
use Rattle.fhir_certificate.specs.declared.pair.NodePair.{NodePair}

-- the two urls, and the pairs that speak of items and those that speak of children
pub record CertificateValue : Type 0 where
  pub derived : Text
  pub base : Text
  pub items : List NodePair
  pub kids : List NodePair

-- both nodes are the schema's
abbrev pub are_nodes : SchemaValue → NodePair → Bool
are_nodes s p = has s p.derived && has s p.base

-- both definitions can be used, and each pair is of nodes of the schema
abbrev pub fits : SchemaValue → CertificateValue → Bool
fits s c =
    is_some (root s c.derived) && is_some (root s c.base)
    && list_all (are_nodes s) c.items && list_all (are_nodes s) c.kids
