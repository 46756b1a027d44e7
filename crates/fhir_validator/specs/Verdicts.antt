-- The verdicts on a resource, where unread rules may mean anything, and where a user vouches for some; and the faults that come before
-- them.
use Rattle.std.specs.Prelude.{◌≡◌, ◌<◌, Bool, true, false, List, [], length, None, Some, IsSome, IsTrue}
use Rattle.std.specs.List.{AllByRecursion}
use Rattle.fhir_json.specs.Tree.{Text, Tree}
use Rattle.fhir_json.specs.Bytes.{is_empty}
use Rattle.fhir_json.specs.Grammar.{Reads}
use Rattle.fhir_schema.specs.Schemas.{SchemaValue, unusable, root}
use Rattle.fhir_instance.specs.Items.{Item, Place}
use Rattle.fhir_facets.specs.Unread.{Unread, is_given}
use Rattle.fhir_facets.specs.Views.{unread_seen}
use Rattle.fhir_conformance.specs.Conformance.{Interpretation}
use Rattle.fhir_validator.specs.declared.issue.Site.{Site}
use Rattle.fhir_validator.specs.declared.verdict.Verdict.{Verdict}
use Rattle.fhir_validator.specs.declared.verdict.Verdict.TheVariants.{Conforms as Conforming, Violates, Open}
use Rattle.fhir_validator.specs.declared.verdict.Vouched.{Vouched}
use Rattle.fhir_validator.specs.declared.verdict.Vouched.TheVariants as verdicts
use Rattle.fhir_validator.specs.declared.fault.Fault.{Fault}
use Rattle.fhir_validator.specs.declared.fault.Fault.TheVariants.{Missing, Unusable, NotJson, NoMemory}
use Rattle.fhir_validator.specs.Issues.{IsIssue, IsSite, IsRelied}

-- ---- which verdict it is

abbrev pub is_conforming : Verdict → Bool
is_conforming Conforming = true
is_conforming (Violates issues) = false
is_conforming (Open sites) = false

abbrev pub is_violating : Verdict → Bool
is_violating Conforming = false
is_violating (Violates issues) = true
is_violating (Open sites) = false

-- ---- what is listed

-- something is listed, and each of it is right
pub record AreSome {A : Type 0} (P : A → Type 0) (xs : List A) : Type 0 where
  pub some : 0 < length xs
  pub each : AllByRecursion P xs

-- what a verdict lists: issues, or the sites of the unread rules that it hangs on
abbrev pub IsExplained : SchemaValue → Text → Tree → Verdict → Type 0
IsExplained s profile t Conforming = Unit {0}
IsExplained s profile t (Violates issues) = AreSome (IsIssue s profile t) issues.items
IsExplained s profile t (Open sites) = AreSome (IsSite s [] profile t) sites.items

-- ---- where a user vouches for unread rules by their texts

-- it conforms where the given rules hold
abbrev pub conforms_as_given : Vouched → Bool
conforms_as_given (verdicts.Conforms relied) = true
conforms_as_given (verdicts.Violates issues) = false
conforms_as_given (verdicts.Open sites) = false

-- and rests on none of them
abbrev pub conforms_anyway : Vouched → Bool
conforms_anyway (verdicts.Conforms relied) = is_empty relied.items
conforms_anyway (verdicts.Violates issues) = false
conforms_anyway (verdicts.Open sites) = false

-- it violates, whatever unread rules mean
abbrev pub violates_anyway : Vouched → Bool
violates_anyway (verdicts.Conforms relied) = false
violates_anyway (verdicts.Violates issues) = true
violates_anyway (verdicts.Open sites) = false

-- the rules that a user vouches for by these texts hold everywhere
abbrev pub AreGiven : List Text → Interpretation → Type 0
AreGiven texts meaning = (u : Unread) (outermost : Item) (place : Place) → IsTrue (is_given texts u) → IsTrue (meaning u outermost place)

-- the rule of a site holds everywhere
abbrev pub IsHeld : Interpretation → Site → Type 0
IsHeld meaning site = (outermost : Item) (place : Place) → IsTrue (meaning (unread_seen site.unread) outermost place)

-- it conforms, and the rules on which it rests hold everywhere
abbrev pub IsUpheld : Interpretation → Vouched → Type 0
IsUpheld meaning (verdicts.Conforms relied) = AllByRecursion (IsHeld meaning) relied.items
IsUpheld meaning (verdicts.Violates issues) = ⊥
IsUpheld meaning (verdicts.Open sites) = ⊥

-- what it lists: the given rules on which it rests, issues, or sites of rules that aren't given
abbrev pub IsVouchedFor : SchemaValue → List Text → Text → Tree → Vouched → Type 0
IsVouchedFor s texts profile t (verdicts.Conforms relied) = AllByRecursion (IsRelied s texts profile t) relied.items
IsVouchedFor s texts profile t (verdicts.Violates issues) = AreSome (IsIssue s profile t) issues.items
IsVouchedFor s texts profile t (verdicts.Open sites) = AreSome (IsSite s texts profile t) sites.items

-- ---- faults

-- The profile has no root, and no reason why it can't be used: it isn't there; or it can't be used; or it can, and the bytes
-- are no JSON. Want of memory says nothing.
abbrev pub Means : SchemaValue → Text → Text → Fault → Type 0
Means s profile bytes Missing = (root s profile ≡ None) × (unusable s profile ≡ None)
Means s profile bytes (Unusable reason) = unusable s profile ≡ Some reason
Means s profile bytes (NotJson fault) = IsSome (root s profile) × ((t : Tree) → Reads bytes t → ⊥)
Means s profile bytes NoMemory = Unit {0}
