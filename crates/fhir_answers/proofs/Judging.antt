-- What a reply on a resource says, from how the resource stands.
use Rattle.std.proofs.Common.{◌≡◌, ◌++◌, ℕ, List, [], ◌∷◌, Result, Ok, Err, codes, refl, sym, ap, ◌∙◌}
use Rattle.fhir_json.specs.Tree.{Text, Tree}
use Rattle.fhir_json.specs.Compact.{compact}
use Rattle.fhir_schema.specs.Schemas.{SchemaValue}
use Rattle.fhir_commands.specs.declared.reply.Standing.{Standing}
use Rattle.fhir_validator.specs.declared.fault.Fault.{Fault}
use Rattle.fhir_validator.specs.declared.verdict.Verdict.{Verdict}
use Rattle.fhir_validator.specs.declared.verdict.Verdict.TheVariants as verdicts
use Rattle.fhir_validator.specs.declared.verdict.Vouched.{Vouched}
use Rattle.fhir_validator.specs.declared.verdict.Vouched.TheVariants as vouched
use Rattle.fhir_replies.specs.Judging.{standing_of, IsJudged, standing_given, IsJudgedAsGiven}
use Rattle.fhir_replies.specs.Standing.{AlwaysConforms, Stands, ConformsAsGiven, StandsAsGiven}
use Rattle.fhir_answers.specs.declared.reply.Status.{Status}
use Rattle.fhir_answers.specs.Replying.{status_of, written, answer_noted}
use Rattle.fhir_answers.specs.Status.{code_of, standing_status}

conforms_by : (s : SchemaValue) (profile bytes : Text) (v : Result Verdict Fault) → Stands s profile bytes v
    → code_of (standing_status (standing_of v)) ≡ 0 → AlwaysConforms s profile bytes
conforms_by s profile bytes (Ok verdicts.Conforms) so zero = (so.0, so.1, so.2.0, so.2.1)
conforms_by s profile bytes (Ok (verdicts.Violates issues)) so zero = absurd cc
conforms_by s profile bytes (Ok (verdicts.Open sites)) so zero = absurd cc
conforms_by s profile bytes (Err fault) so zero = absurd cc

-- where the status of the reply is 0, the resource conforms
pub always_by : (s : SchemaValue) (profile bytes : Text) (standing : Standing) (outcome : Tree) → IsJudged s profile bytes standing outcome
    → code_of (standing_status standing) ≡ 0 → AlwaysConforms s profile bytes
always_by s profile bytes standing outcome judged zero =
    conforms_by s profile bytes judged.validated judged.stands (ap (λ (it : Standing). code_of (standing_status it)) (sym judged.stands_so) ∙ zero)

-- the reply is written with the status of the resource, and the text of the outcome
pub written_so : (status : Status) (standing : Standing) (out : Text) (outcome : Tree) → status ≡ standing_status standing
    → out ≡ compact outcome ++ codes "\n" → written (code_of status) out ≡ written (code_of (standing_status standing)) (compact outcome ++ codes "\n")
written_so status standing out outcome is text =
    ap (λ s. written (code_of s) out) is ∙ ap (λ bytes. written (code_of (standing_status standing)) bytes) text

-- ---- where a user vouches for unread rules

conforms_by_given : (s : SchemaValue) (texts : List Text) (profile bytes : Text) (v : Result Vouched Fault) → StandsAsGiven s texts profile bytes v
    → code_of (standing_status (standing_given v)) ≡ 0 → ConformsAsGiven s texts profile bytes
conforms_by_given s texts profile bytes (Ok (vouched.Conforms relied)) so zero = (so.0, so.1, so.2.1, so.2.3)
conforms_by_given s texts profile bytes (Ok (vouched.Violates issues)) so zero = absurd cc
conforms_by_given s texts profile bytes (Ok (vouched.Open sites)) so zero = absurd cc
conforms_by_given s texts profile bytes (Err fault) so zero = absurd cc

pub status_noted : (told out : Text) (n : ℕ) → status_of (answer_noted told n out) ≡ n
status_noted [] out n = refl
status_noted (b ∷ told) out n = refl

-- where the status of the reply is 0, the resource conforms as the given rules hold
pub given_by : (s : SchemaValue) (texts : List Text) (profile bytes told out : Text) (standing : Standing) (outcome : Tree)
    → IsJudgedAsGiven s texts profile bytes standing outcome → status_of (answer_noted told (code_of (standing_status standing)) out) ≡ 0
    → ConformsAsGiven s texts profile bytes
given_by s texts profile bytes told out standing outcome judged zero =
    conforms_by_given s texts profile bytes judged.validated judged.stands
    (ap (λ (it : Standing). code_of (standing_status it)) (sym judged.stands_so) ∙ sym (status_noted told out (code_of (standing_status standing))) ∙ zero)
