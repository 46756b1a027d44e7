-- How the resource that bytes are is judged: how it stands with a profile, and the outcome that says so.
use Rattle.std.specs.Prelude.{◌≡◌, List, Result, Ok, Err}
use Rattle.fhir_json.specs.Tree.{Text, Tree}
use Rattle.fhir_commands.specs.declared.reply.Standing.{Standing}
use Rattle.fhir_commands.specs.declared.reply.Standing.TheVariants as standings
use Rattle.fhir_schema.specs.Schemas.{SchemaValue}
use Rattle.fhir_validator.specs.declared.fault.Fault.{Fault}
use Rattle.fhir_validator.specs.declared.verdict.Verdict.{Verdict}
use Rattle.fhir_validator.specs.declared.verdict.Verdict.TheVariants as verdicts
use Rattle.fhir_validator.specs.declared.verdict.Vouched.{Vouched}
use Rattle.fhir_validator.specs.declared.verdict.Vouched.TheVariants as vouched
use Rattle.fhir_replies.specs.Outcomes.{severity_of, severity_given, IsOutcome}
use Rattle.fhir_replies.specs.Standing.{Stands, StandsAsGiven}

-- what a verdict says of it, or a fault
abbrev pub standing_of : Result Verdict Fault → Standing
standing_of (Ok verdicts.Conforms) = standings.Conforms
standing_of (Ok (verdicts.Violates issues)) = standings.Violates
standing_of (Ok (verdicts.Open sites)) = standings.Open
standing_of (Err fault) = standings.Fault

-- It stands so, by a verdict or a fault that says how it stands, and the tree is the outcome of that.
pub record IsJudged (s : SchemaValue) (profile bytes : Text) (standing : Standing) (outcome : Tree) : Type 0 where
  pub validated : Result Verdict Fault
  pub stands : Stands s profile bytes validated
  pub stands_so : standing ≡ standing_of validated
  pub is_outcome : IsOutcome (severity_of validated) outcome

-- ---- the same where a user vouches for unread rules by their texts

abbrev pub standing_given : Result Vouched Fault → Standing
standing_given (Ok (vouched.Conforms relied)) = standings.Conforms
standing_given (Ok (vouched.Violates issues)) = standings.Violates
standing_given (Ok (vouched.Open sites)) = standings.Open
standing_given (Err fault) = standings.Fault

pub record IsJudgedAsGiven (s : SchemaValue) (texts : List Text) (profile bytes : Text) (standing : Standing) (outcome : Tree) : Type 0 where
  pub validated : Result Vouched Fault
  pub stands : StandsAsGiven s texts profile bytes validated
  pub stands_so : standing ≡ standing_given validated
  pub is_outcome : IsOutcome (severity_given validated) outcome
