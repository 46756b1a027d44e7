-- What differs between elements.
use Rattle.std.specs.Prelude.{◌==◌, ◌&&◌, ℕ, List, length, Bool, not, nat_lt}
use Rattle.std.specs.List.{list_all}
use Rattle.std.specs.Str.{bytes_eq}
use Rattle.fhir_json.specs.Tree.{Text}
use Rattle.fhir_nodes.specs.declared.node.NodeRef.{NodeRef}
use Rattle.fhir_element_changes.specs.declared.element_words.Aspect.{Aspect}

-- by what an element differs from the base's, and what both say
pub record ChangeValue : Type 0 where
  pub aspect : Aspect
  pub base : Text
  pub derived : Text

-- an element that differs
pub record ChangedValue : Type 0 where
  pub id : Text
  pub node : NodeRef
  pub changes : List ChangeValue

-- both say different things
abbrev pub is_change : ChangeValue → Bool
is_change c = not (bytes_eq c.derived c.base)

-- the element is of the definition at a place, and does differ
abbrev pub is_changed : ℕ → ChangedValue → Bool
is_changed place c = (c.node.definition == place) && (nat_lt 0 (length c.changes) && list_all is_change c.changes)
