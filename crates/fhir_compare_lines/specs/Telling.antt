-- What a comparison tells in text: the lines on each url.
use Rattle.std.specs.Prelude.{◌≡◌, ℕ, ◌==◌, List, [], ◌∷◌, ◌++◌, flat_map, Bool, true, false, Option, None, Some, is_some, codes, if◌then◌else◌}
use Rattle.std.specs.Option.{option_map, option_map_or}
use Rattle.std.specs.Str.{bytes_eq}
use Rattle.std.specs.Str.Lossy.{utf8_lossy}
use Rattle.std.specs.Fmt.{decimal}
use Rattle.fhir_json.specs.Tree.{Text}
use Rattle.fhir_package.specs.declared.kind.Kind.TheVariants.{StructureDefinition}
use Rattle.fhir_package.specs.Definitions.{Definitions}
use Rattle.fhir_package.specs.Canonical.{named_by}
use Rattle.fhir_compare.specs.Comparing.{ShownValue, narrows, fails, cannot_be_used, Direction, new_in_old, old_in_new, WayValue, WaysValue, VerdictValue, both, unusable_in, only_in_old, only_in_new, change_of}
use Rattle.fhir_compare_lines.specs.Words.{change_word, way_words, unusable_in_old, unusable_in_new}

-- ---- lines

-- a line that belongs to the one above it
abbrev pub under : Text → Text
under text = codes "  " ++ text

abbrev pub named : Text → Text → Text
named url words = url ++ codes ": " ++ words

-- ---- why a way isn't shown

-- A canonical that doesn't mean the same in both: where both have a definition that it names, a profile of a type or a target. What stands in front of an
-- element's id names no definition as it stands.
abbrev pub lost_by : (in_old in_new : Bool) → Text → Text
lost_by true true canonical = codes "it names " ++ canonical ++ codes ", which in one of the two is no profile, or of another type, or can't be used"
lost_by false false canonical = codes "it has the content of " ++ canonical ++ codes ", which is of no type that both have"
lost_by true false canonical = codes "it names " ++ canonical ++ codes ", which one of the two alone has"
lost_by false true canonical = codes "it names " ++ canonical ++ codes ", which one of the two alone has"

abbrev pub is_named : Definitions → Text → Bool
is_named p canonical = is_some (named_by StructureDefinition canonical p)

abbrev pub lost_text : (old new : Definitions) → Text → Text
lost_text old new canonical = lost_by (is_named old canonical) (is_named new canonical) canonical

-- where the way is derived of the profiles themselves: what their own names are, or which one is reached
abbrev pub blamed_text : (old new : Definitions) → (url blamed : Text) → (lost : Option Text) → Text
blamed_text old new url blamed None = codes "it reaches " ++ blamed
blamed_text old new url blamed (Some canonical) =
    if bytes_eq blamed url then lost_text old new canonical else codes "it reaches " ++ blamed

-- ---- what is told of a way that isn't shown

-- that a pair fails a rule, with what both elements say, and a resource that shows it; or a reason of another kind
pub data WhyValue : Type 0 where
  why_fails : (pair rule words : Text) → (resource : Option Text) → WhyValue
  why_says : Text → WhyValue

-- Pair, rule and what both elements say stand in words that aren't stated here, without the mark; so does the number of a reason.
abbrev pub IsWhy : (old new : Definitions) → (url blamed : Text) → (lost : Option Text) → ShownValue → WhyValue → Type 0
IsWhy old new url blamed lost (fails pair rule resource) (why_fails p r words shown) = shown ≡ option_map utf8_lossy resource
IsWhy old new url blamed lost (fails pair rule resource) (why_says text) = ⊥
IsWhy old new url blamed lost cannot_be_used (why_fails p r words shown) = ⊥
IsWhy old new url blamed lost cannot_be_used (why_says text) =
    (number : Text) × (text ≡ codes "OLD's can't be used beside NEW's definitions: " ++ number)
IsWhy old new url blamed lost narrows (why_fails p r words shown) = ⊥
IsWhy old new url blamed lost narrows (why_says text) = text ≡ blamed_text old new url blamed lost

-- the same of one kind (used by private contracts alone)
abbrev pub IsFailingWhy : Option Text → WhyValue → Type 0
IsFailingWhy resource (why_fails p r words shown) = shown ≡ resource
IsFailingWhy resource (why_says text) = ⊥

abbrev pub IsUnusableWhy : WhyValue → Type 0
IsUnusableWhy (why_fails p r words shown) = ⊥
IsUnusableWhy (why_says text) = (number : Text) × (text ≡ codes "OLD's can't be used beside NEW's definitions: " ++ number)

-- a resource shows that the one doesn't narrow the other
abbrev pub is_refuted : WhyValue → Bool
is_refuted (why_fails p r words resource) = is_some resource
is_refuted (why_says text) = false

-- nothing where the way holds
abbrev pub IsWhyIf : (old new : Definitions) → (url : Text) → (blamed lost : Option Text) → ShownValue → Option WhyValue → Type 0
IsWhyIf old new url None lost shown why = why ≡ None
IsWhyIf old new url (Some blamed) lost shown None = ⊥
IsWhyIf old new url (Some blamed) lost shown (Some why) = IsWhy old new url blamed lost shown why

abbrev pub way_line : Direction → (is_refuted : Bool) → Text → Text
way_line way is_refuted text = under (way_words way is_refuted ++ codes ": " ++ text)

abbrev pub resource_lines : Option Text → List Text
resource_lines None = []
resource_lines (Some resource) = under (codes "counterexample: " ++ resource) ∷ []

abbrev pub why_lines : Direction → WhyValue → List Text
why_lines way (why_fails pair rule words resource) =
    way_line way (is_some resource) (pair ++ codes ": " ++ rule) ∷ under words ∷ resource_lines resource
why_lines way (why_says text) = way_line way false text ∷ []

abbrev pub lines_if : Direction → Option WhyValue → List Text
lines_if way why = option_map_or (why_lines way) why []

abbrev pub AreWayLines : (old new : Definitions) → Text → Direction → (lost : Option Text) → WayValue → List Text → Type 0
AreWayLines old new url way lost w ls = (why : Option WhyValue) × IsWhyIf old new url w.blamed lost w.shown why × (ls ≡ lines_if way why)

-- ---- the lines on a url

pub record AreWaysLines (old new : Definitions) (url : Text) (w : WaysValue) (ls : List Text) : Type 0 where
  pub narrowing : List Text
  pub are_narrowing : AreWayLines old new url new_in_old w.lost w.new_in_old narrowing
  pub widening : List Text
  pub are_widening : AreWayLines old new url old_in_new w.lost w.old_in_new widening
  pub lines_are : ls ≡ named url (change_word (change_of w)) ∷ narrowing ++ widening

-- that a profile can't be used in one of the two, and why, in words that aren't stated here
abbrev pub AreUnusableIf : Bool → (url words : Text) → List Text → Type 0
AreUnusableIf false url words ls = ls ≡ []
AreUnusableIf true url words ls = (why : Text) × (ls ≡ named url (words ++ why) ∷ [])

abbrev pub AreUnusable : (in_old in_new : Bool) → Text → List Text → Type 0
AreUnusable in_old in_new url ls =
    (first second : List Text) × AreUnusableIf in_old url unusable_in_old first × AreUnusableIf in_new url unusable_in_new second
    × (ls ≡ first ++ second)

abbrev pub IsToldText : (old new : Definitions) → Text → VerdictValue → List Text → Type 0
IsToldText old new url (both w) ls = AreWaysLines old new url w ls
IsToldText old new url (unusable_in in_old in_new) ls = AreUnusable in_old in_new url ls
IsToldText old new url only_in_old ls = ls ≡ named url (codes "only in OLD") ∷ []
IsToldText old new url only_in_new ls = ls ≡ named url (codes "only in NEW") ∷ []

-- ---- types

abbrev pub types_line : ℕ → Text
types_line n = if n == 1 then codes "types: 1 differs, and NEW's is meant" else codes "types: " ++ decimal n ++ codes " differ, and NEW's are meant"

abbrev pub types_lines : ℕ → List Text
types_lines n = if n == 0 then [] else types_line n ∷ []
