use Rattle.std.proofs.Common.{sym, ◌∙◌}
use Rattle.callers.proofs.is_valid.Goals as goal

pub returns : goal.returns
returns c t reads valid meaning = c.in_ok-verdict.ensures.always t reads (sym c.is_conforming.ensures ∙ valid) meaning
