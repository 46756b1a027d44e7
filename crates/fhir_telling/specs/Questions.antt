-- What is asked of each resource.
use Rattle.std.specs.Prelude.{List, ◌∷◌, [], Bool, true, false, Option, None, Some, option_map}
use Rattle.std.specs.Option.{option_map_or}
use Rattle.fhir_json.specs.Tree.{Text, Tree}
use Rattle.fhir_claims.specs.Claims.{profiles_of}
use Rattle.fhir_commands.specs.declared.reply.Standing.{Standing}
use Rattle.fhir_schema.specs.Schemas.{SchemaValue}
use Rattle.fhir_replies.specs.Judging.{IsJudged, IsJudgedAsGiven}
use Rattle.fhir_words.specs.declared.request.Format.{Format}
use Rattle.fhir_telling.specs.declared.question.Profiles.{Profiles}
use Rattle.fhir_telling.specs.declared.question.Profiles.TheVariants.{At, Own}
use Rattle.fhir_telling.specs.declared.question.Unknown.TheVariants.{Faults, Warnings}
use Rattle.fhir_telling.specs.declared.question.Question.{Question}

pub record QuestionValue : Type 0 where
  pub schema : SchemaValue
  -- the url of the profile, or none where each resource is judged by its own
  pub profile : Option Text
  -- a profile of its own that isn't there, or can't be used, is passed over with a warning
  pub skips_unknown : Bool
  -- the texts of the unread rules that a user vouches for, if one does
  pub texts : Option (List Text)
  -- how it is told, and whether it isn't told that a resource conforms
  pub format : Format
  pub only_bad : Bool

abbrev pub profile_asked : Profiles → Option Text
profile_asked (At url) = Some url.now
profile_asked (Own unknown) = None

abbrev pub skips : Profiles → Bool
skips (At url) = false
skips (Own Faults) = false
skips (Own Warnings) = true

abbrev pub question_seen : Question → QuestionValue
question_seen q = record {
  schema = q.schema.now;
  profile = profile_asked q.profiles;
  skips_unknown = skips q.profiles;
  texts = option_map (λ given. given.now) q.given;
  format = q.format;
  only_bad = q.only_bad;
}

-- By which profiles a resource is judged: by the one that is asked for; or by its type's own definition, and by those that it claims to
-- conform to.
abbrev pub profiles_for : QuestionValue → Tree → List Text
profiles_for q t = option_map_or (λ profile. profile ∷ []) q.profile (profiles_of q.schema q.skips_unknown t)

-- How the resource that bytes are stands with a profile, and the outcome that says so: as `validate` says, or as `validate-given`.
abbrev pub IsJudgedBy : SchemaValue → Option (List Text) → (profile bytes : Text) → Standing → Tree → Type 0
IsJudgedBy s None profile bytes standing outcome = IsJudged s profile bytes standing outcome
IsJudgedBy s (Some texts) profile bytes standing outcome = IsJudgedAsGiven s texts profile bytes standing outcome
