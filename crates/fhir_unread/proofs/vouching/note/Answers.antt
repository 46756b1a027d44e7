use Rattle.std.proofs.Common.{◌++◌, ◌∷◌, [], sym, ◌∙◌, append_assoc}
use Rattle.std.specs.Prelude.{codes, decimal}
use Rattle.fhir_unread.proofs.vouching.note.Goals as goal

pub returns : goal.returns
returns c =
    let name = c.args.name.now in
    let digits = decimal c.args.number in
    let rest = codes ": unread lists no such text\n" in
    c.in_ok-text.ensures.ok ∙ sym (append_assoc (name ++ 58 ∷ []) digits rest ∙ append_assoc name (58 ∷ []) (digits ++ rest))
