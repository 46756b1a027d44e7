use Rattle.std.proofs.Common.{◌++◌, sym, ap, ◌∙◌, List, ℕ, string_bytes, flat_map}
use Rattle.std.proofs.lemmas.Iterator.{YieldsList-from_chars}
use Rattle.std.proofs.lemmas.Iterator.Consumers.{YieldsList-end}
use Rattle.std.proofs.lemmas.List.{map-id}
use Rattle.fhir_markup.specs.Markup.{escaped_character}
use Rattle.fhir_markup.proofs.writing.push_escaped.Goals as goal

pub returns : goal.returns
returns c =
    let all = YieldsList-end (YieldsList-from_chars c.args.text.now c.utf8.text cc) c.loop-character.yielded _ c.loop-character.yielded_by _ _ c.in-None.is c.next.ensures.steps in
    c.loop-character.invariant
    ∙ ap (λ (cs : List ℕ). string_bytes c.args.into.now ++ flat_map escaped_character cs) (sym (map-id c.loop-character.yielded) ∙ all.0)
