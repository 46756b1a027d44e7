use Rattle.conformance_laws.proofs.Whole.{at_element}
use Rattle.conformance_laws.proofs.asked.items_at_elements.Goals as goal

pub returns : goal.returns
returns c s meaning around x n is = at_element s meaning around x (c.roots_are_roots.ensures.of_type s) (c.roots_are_roots.ensures.of_canonical s) n is
