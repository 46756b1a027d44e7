-- What a facet sees of an item.
use Rattle.std.specs.Prelude.{Bool, Option}
use Rattle.fhir_json.specs.Tree.{Text, Tree}

pub record Seen : Type 0 where
  -- the code of its type
  pub type : Text
  -- the tree that it was typed from; of a primitive its value, if it has one
  pub json : Option Tree
  -- it has children: those of a primitive are its id and its extensions
  pub has_kids : Bool
