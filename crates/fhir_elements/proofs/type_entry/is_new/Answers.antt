use Rattle.std.proofs.Common.{not, is_some, ap, ◌∙◌}
use Rattle.fhir_names.specs.Places.{place_of}
use Rattle.fhir_elements.proofs.type_entry.is_new.Goals as goal

pub returns-clause-new : goal.returns-clause-new
returns-clause-new c = λ ts h.
    ap not (c.is_some-is_new.ensures ∙ ap is_some (c.get.ensures ∙ ap (place_of c.args.seen.now) c.text_at-code.ensures) ∙ h _)
