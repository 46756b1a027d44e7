use Rattle.std.proofs.Common.{◌&&◌, sym, ◌∙◌}
use Rattle.std.proofs.lemmas.Bool.{and_parts}
use Rattle.conformance_laws.specs.Asked.{has_value_of, meets_constraints_of, is_of_types, is_of_own_type, has_children_of}
use Rattle.conformance_laws.proofs.Entries.{of_types}
use Rattle.conformance_laws.proofs.types.types_of_items.Goals as goal

pub returns : goal.returns
returns c s meaning around x n is holds =
    let rest = has_value_of s meaning around x n && (meets_constraints_of s meaning around x n && (is_of_own_type s meaning around x && has_children_of s meaning around x n)) in
    of_types s meaning around x n
    (and_parts (is_of_types s meaning around x n) rest (sym (c.items_at_elements.ensures s meaning around x n is) ∙ holds)).0
