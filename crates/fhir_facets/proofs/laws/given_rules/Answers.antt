use Rattle.std.proofs.Common.{refl, ap, ◌∙◌}
use Rattle.std.specs.Str.{bytes_eq}
use Rattle.std.proofs.lemmas.List.Folds.{list_any_at}
use Rattle.std.proofs.lemmas.Map.Views.{Contains-from_any}
use Rattle.std.proofs.lemmas.Slice.Eq.{bytes_eq-Decides}
use Rattle.fhir_facets.specs.Unread.{unread_text}
use Rattle.fhir_facets.proofs.Alike.{text_is}
use Rattle.fhir_facets.proofs.laws.given_rules.Goals as goal

pub returns : goal.returns
returns c texts rule =
    let text = unread_text rule in (
      Contains-from_any text_is text texts,
      λ has. list_any_at (bytes_eq text) texts has.0 text has.1 (ap (bytes_eq text) has.2 ∙ (bytes_eq-Decides text text).1 refl),
    )
