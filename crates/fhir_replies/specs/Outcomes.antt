-- The outcome of a validation (FHIR R4, OperationOutcome).
use Rattle.std.specs.Prelude.{◌≡◌, ◌<◌, List, [], ◌∷◌, length, Bool, true, nat_lt, All, Option, None, Some, Result, Ok, Err, codes}
use Rattle.fhir_json.specs.Tree.{Text, Tree, Property, string, array, object, items_of, members_of}
use Rattle.fhir_json.specs.Fields.{text_in, items_in}
use Rattle.fhir_validator.specs.declared.fault.Fault.{Fault}
use Rattle.fhir_validator.specs.declared.verdict.Verdict.{Verdict}
use Rattle.fhir_validator.specs.declared.verdict.Verdict.TheVariants.{Conforms, Violates, Open}
use Rattle.fhir_validator.specs.declared.verdict.Vouched.{Vouched}
use Rattle.fhir_validator.specs.declared.verdict.Vouched.TheVariants as vouched

-- the severity of what is said of a validation (OperationOutcome, issue.severity)
abbrev pub severity_of : Result Verdict Fault → Text
severity_of (Ok Conforms) = codes "information"
severity_of (Ok (Violates issues)) = codes "error"
severity_of (Ok (Open sites)) = codes "warning"
severity_of (Err fault) = codes "fatal"

-- the place of what an issue is about, if that is said (OperationOutcome, issue.expression)
abbrev pub expression_members : Option Text → List Property
expression_members None = []
expression_members (Some place) = (codes "expression", array (items_of (string place ∷ []))) ∷ []

-- an issue, of those four (OperationOutcome, issue)
abbrev pub issue_tree : Text → Text → Text → Option Text → Tree
issue_tree severity code diagnostics expression = object (members_of (
    (codes "severity", string severity)
    ∷ (codes "code", string code)
    ∷ (codes "diagnostics", string diagnostics)
    ∷ expression_members expression))

-- an issue has that severity
abbrev pub HasSeverity : Text → Tree → Type 0
HasSeverity severity issue = text_in (codes "severity") issue ≡ Some severity

-- the tree is an outcome with an issue at least, each of that severity
pub record IsOutcome (severity : Text) (t : Tree) : Type 0 where
  pub resource : text_in (codes "resourceType") t ≡ Some (codes "OperationOutcome")
  pub issues : 0 < length (items_in (codes "issue") t)
  pub alike : All (HasSeverity severity) (items_in (codes "issue") t)

-- the verdict lists something, if it is one that lists
abbrev pub is_explained : Result Verdict Fault → Bool
is_explained (Ok Conforms) = true
is_explained (Ok (Violates issues)) = nat_lt 0 (length issues.items)
is_explained (Ok (Open sites)) = nat_lt 0 (length sites.items)
is_explained (Err fault) = true

-- ---- the same where a user vouches for unread rules

abbrev pub severity_given : Result Vouched Fault → Text
severity_given (Ok (vouched.Conforms relied)) = codes "information"
severity_given (Ok (vouched.Violates issues)) = codes "error"
severity_given (Ok (vouched.Open sites)) = codes "warning"
severity_given (Err fault) = codes "fatal"

abbrev pub is_explained_as_given : Result Vouched Fault → Bool
is_explained_as_given (Ok (vouched.Conforms relied)) = true
is_explained_as_given (Ok (vouched.Violates issues)) = nat_lt 0 (length issues.items)
is_explained_as_given (Ok (vouched.Open sites)) = nat_lt 0 (length sites.items)
is_explained_as_given (Err fault) = true
