-- What is told of a line.
use Rattle.std.specs.Prelude.{◌≡◌, ◌⊎◌, ◌||◌, ◌==◌, ◌++◌, [], ◌∷◌, List, length, map, Bool, true, false, Option, None, Some, is_some, All, codes}
use Rattle.std.specs.List.{list_all, AllZip}
use Rattle.fhir_json.specs.Bytes.{space, tab, line_feed, carriage_return}
use Rattle.fhir_json.specs.Grammar.{Reads}
use Rattle.fhir_json.specs.Tree.{Text, Tree}
use Rattle.fhir_inputs.specs.declared.input.Kind.{Kind}
use Rattle.fhir_inputs.specs.declared.input.Kind.TheVariants.{Document, Lines}
use Rattle.fhir_commands.specs.declared.reply.Standing.{Standing}
use Rattle.fhir_commands.specs.declared.reply.Standing.TheVariants.{Violates, Fault}
use Rattle.fhir_replies.specs.Outcomes.{HasSeverity, IsOutcome}
use Rattle.fhir_claims.specs.Claims.{resource_url, type_node, profiles_of, skipped_of}
use Rattle.fhir_telling.specs.Verdicts.{verdict_of, worst}
use Rattle.fhir_telling.specs.Judgements.{JudgementValue, ToldValue, told_memory, told_empty, issues_of, IsNoted}
use Rattle.fhir_telling.specs.Questions.{QuestionValue, IsJudgedBy}

-- a line of blanks alone (RFC 8259, section 2), in an input of lines
abbrev pub is_blank : Kind → Text → Bool
is_blank Document bytes = false
is_blank Lines bytes = list_all (λ b. b == space || (b == tab || (b == line_feed || b == carriage_return))) bytes

-- The resource is judged by a profile.
abbrev pub IsJudgementOf : QuestionValue → (bytes profile : Text) → JudgementValue → Type 0
IsJudgementOf q bytes profile j = (j.profile ≡ profile) × IsJudgedBy q.schema q.texts profile bytes j.standing j.outcome × IsNoted j

-- ---- by a profile that is asked for

abbrev pub IsToldBy : QuestionValue → (bytes profile : Text) → ToldValue → Type 0
IsToldBy q bytes profile told =
    (j : JudgementValue) × IsJudgementOf q bytes profile j × (told ≡ record { verdict = verdict_of j.standing; judgements = j ∷ [] })

-- ---- by its own profiles

-- By the definition of its type at a url, if that is there. Where it isn't this is no resource, whatever the profile, and the outcome says so.
abbrev pub IsJudgedByType : Bool → QuestionValue → (bytes url : Text) → Standing → Tree → Type 0
IsJudgedByType true q bytes url standing outcome = IsJudgedBy q.schema q.texts url bytes standing outcome
IsJudgedByType false q bytes url standing outcome = (standing ≡ Violates) × IsOutcome (codes "error") outcome

-- The outcome has a warning for each profile that is passed over, behind the issues of another.
pub record IsWarned (passed_over : List Text) (outcome warned : Tree) : Type 0 where
  pub warnings : List Tree
  pub counted : length warnings ≡ length passed_over
  pub severe : All (HasSeverity (codes "warning")) warnings
  pub issues : issues_of warned ≡ issues_of outcome ++ warnings

pub record IsOwnJudgement (q : QuestionValue) (bytes : Text) (typed : Bool) (own : Text) (passed_over : List Text) (j : JudgementValue) : Type 0 where
  pub profile : j.profile ≡ own
  pub outcome : Tree
  pub judged : IsJudgedByType typed q bytes own j.standing outcome
  pub warned : IsWarned passed_over outcome j.outcome
  pub noted : IsNoted j

-- The first judgement is by the definition of its type, the others are by the profiles that it claims to conform to, and the worst is told.
pub record AreToldByOwn (q : QuestionValue) (bytes : Text) (typed : Bool) (own : Text) (profiles passed_over : List Text) (told : ToldValue) : Type 0 where
  pub first : JudgementValue
  pub of_type : IsOwnJudgement q bytes typed own passed_over first
  pub others : List JudgementValue
  pub of_claims : AllZip (IsJudgementOf q bytes) profiles others
  pub is : told ≡ record { verdict = verdict_of (worst (first.standing ∷ map (λ j. j.standing) others)); judgements = first ∷ others }

-- So it is of the tree that the bytes are.
pub record IsToldByOwn (q : QuestionValue) (bytes : Text) (told : ToldValue) : Type 0 where
  pub t : Tree
  pub reads : Reads bytes t
  pub own : Text
  pub claims : List Text
  pub profiles : profiles_of q.schema q.skips_unknown t ≡ own ∷ claims
  pub are : AreToldByOwn q bytes (is_some (type_node q.schema t)) own claims (skipped_of q.schema q.skips_unknown t) told

-- They are no JSON, and that is told.
pub record IsToldUnread (bytes : Text) (told : ToldValue) : Type 0 where
  pub unread : (t : Tree) → Reads bytes t → ⊥
  pub j : JudgementValue
  pub profile : j.profile ≡ resource_url
  pub standing : j.standing ≡ Fault
  pub outcome : IsOutcome (codes "fatal") j.outcome
  pub noted : IsNoted j
  pub is : told ≡ record { verdict = verdict_of Fault; judgements = j ∷ [] }

-- ---- a line

abbrev pub IsJudgedTold : Option Text → QuestionValue → Text → ToldValue → Type 0
IsJudgedTold (Some profile) q bytes told = IsToldBy q bytes profile told
IsJudgedTold None q bytes told = IsToldByOwn q bytes told ⊎ IsToldUnread bytes told

abbrev pub IsLineTold : Bool → QuestionValue → Text → ToldValue → Type 0
IsLineTold true q bytes told = told ≡ told_empty
IsLineTold false q bytes told = IsJudgedTold q.profile q bytes told

-- So is each line, and a blank one is told to be so; or memory ran out.
abbrev pub IsTold : QuestionValue → Kind → Text → ToldValue → Type 0
IsTold q kind bytes told = (told ≡ told_memory) ⊎ IsLineTold (is_blank kind bytes) q bytes told
