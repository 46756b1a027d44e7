-- The versions of sound definitions are UTF-8.
use Rattle.std.proofs.Common.{◌≡◌, ℕ, List, Option, Some, None, refl, subst, sym, ap, ◌∙◌, All}
use Rattle.std.specs.Prelude.{codes, IsUtf8}
use Rattle.std.specs.Option.{option_and_then}
use Rattle.std.specs.List.{slice_get}
use Rattle.std.proofs.lemmas.Option.{none-some}
use Rattle.std.proofs.lemmas.List.Elements.{recursion_from_All}
use Rattle.fhir_json.specs.Tree.{Text, Tree}
use Rattle.fhir_json.specs.Fields.{text_in}
use Rattle.fhir_json.specs.Sound.{IsSound}
use Rattle.fhir_codes.specs.Expanding.{Expansions}
use Rattle.fhir_definition.specs.Definition.{Definition, definitions_from}
use Rattle.fhir_nodes.specs.Urls.{url_place}
use Rattle.fhir_schema.specs.Schemas.{schema_with}
use Rattle.fhir_schema.specs.Versions.{stated_version, version_at, version}
use Rattle.fhir_schema.proofs.Utf8Names.{TextIfAny, text_in_utf8, entry_at, sound_at}

there : (o : Option Text) (text : Text) → TextIfAny o → o ≡ Some text → IsUtf8 text
there o text h e = subst TextIfAny e h

pub version_utf8 : (es : List (Text × Tree)) (sets : Expansions) → All (λ e. IsSound e.1) es → (url text : Text)
    → version (schema_with (definitions_from 0 es) sets) url ≡ Some text → IsUtf8 text
version_utf8 es sets sounds url text e = by (url_place (definitions_from 0 es) url) e
  where
    at : (place : ℕ) (o : Option Definition) → slice_get (definitions_from 0 es) place ≡ o → option_and_then stated_version o ≡ Some text → IsUtf8 text
    at place None is e = absurd (none-some text e)
    at place (Some d) is e =
        let it = entry_at 0 es place d is in
        let whole = sound_at es place it.1 (recursion_from_All (λ e. IsSound e.1) es sounds) it.2 in
        let same : stated_version d ≡ text_in (codes "version") it.1.1 = sym (ap stated_version it.3) in
        there (text_in (codes "version") it.1.1) text (text_in_utf8 (codes "version") it.1.1 whole) (sym same ∙ e)

    by : (o : Option ℕ) → option_and_then (version_at (schema_with (definitions_from 0 es) sets)) o ≡ Some text → IsUtf8 text
    by None e = absurd (none-some text e)
    by (Some place) e = at place (slice_get (definitions_from 0 es) place) refl e
