-- What is listed of the pairs that fail, of those that are open, or of those that hold as given (used by private contracts alone).
use Rattle.std.specs.Prelude.{◌≡◌, Bool, true, false, List, [], None, Some, IsTrue, ◌⊎◌, if◌then◌else◌}
use Rattle.std.specs.List.{AllByRecursion, Contains}
use Rattle.std.specs.BTreeSet.{BTreeSet, contains}
use Rattle.fhir_json.specs.Tree.{Text, Tree}
use Rattle.fhir_json.specs.Bytes.{is_empty}
use Rattle.fhir_json.specs.Grammar.{Reads}
use Rattle.fhir_nodes.specs.declared.node.NodeRef.{NodeRef}
use Rattle.fhir_elements.specs.TypeEntry.{TypeEntry}
use Rattle.fhir_schema.specs.Covers.{covers}
use Rattle.fhir_schema.specs.Schemas.{SchemaValue, is_root_node, loaded, types as node_types}
use Rattle.fhir_instance.specs.Items.{Item, Place, type_of}
use Rattle.fhir_instance.specs.Typing.{Types}
use Rattle.fhir_facets.specs.Unread.{Unread, Meaning, Reading, strict, as_given, lenient, meaning_of, profile as unread_profile}
use Rattle.fhir_conformance.specs.Asks.{Ask, types as as_types, profile as as_profile, asks}
use Rattle.fhir_conformance.specs.Conformance.{Interpretation, Around, meaning_at, outermost, as_read, ask_conforms, conforms}
use Rattle.fhir_conformance.specs.Meeting.{Met, ask_unread}
use Rattle.fhir_validator.specs.declared.judgement.Judgement.{Judgement}
use Rattle.fhir_validator.specs.declared.judgement.Judgement.TheVariants as judgements
use Rattle.fhir_validator.specs.declared.issue.Issue.{Issue}
use Rattle.fhir_validator.specs.declared.issue.Issue.TheVariants.{Misfit, Broken}
use Rattle.fhir_validator.specs.declared.issue.Site.{Site}
use Rattle.fhir_validator.specs.declared.pair.ItemPair.{ItemPair}
use Rattle.fhir_validator.specs.contracts.pair.ItemPairOrd.TheImpl.{cmp-value}
use Rattle.fhir_validator.specs.declared.verdict.Vouched.{Vouched}
use Rattle.fhir_validator.specs.declared.verdict.Vouched.TheVariants as verdicts
use Rattle.fhir_validator.specs.declared.fault.Fault.{Fault}
use Rattle.fhir_validator.specs.declared.fault.Fault.TheVariants.{Missing, Unusable, NotJson, NoMemory}
use Rattle.fhir_validator.specs.Judgements.{under}
use Rattle.fhir_validator.specs.Verdicts.{AreSome, IsHeld, IsUpheld}
use Rattle.fhir_validator.specs.Layouts.{LayoutValue, item_at, resource_of}
use Rattle.fhir_validator.specs.Judging.{IsThere, IsRight, IsRightOf}
use Rattle.fhir_validator.specs.Issues.{Said, told_of, IsBroken, IsHangingAt}

-- the last reading by which what has the judgement doesn't hold; what holds does by each
abbrev pub lower : Judgement → Reading
lower judgements.Holds = strict
lower judgements.Given = strict
lower judgements.Open = as_given
lower judgements.Fails = lenient

-- the first one by which it does; what fails doesn't by any
abbrev pub upper : Judgement → Reading
upper judgements.Holds = strict
upper judgements.Given = as_given
upper judgements.Open = lenient
upper judgements.Fails = lenient

-- what has it hangs on unread rules
abbrev pub is_hanging : Judgement → Bool
is_hanging judgements.Holds = false
is_hanging judgements.Given = true
is_hanging judgements.Open = true
is_hanging judgements.Fails = false

-- an unread rule holds by the one reading and not by the other
abbrev pub IsBetween : List Text → Judgement → Unread → Type 0
IsBetween texts wanted rule = IsTrue (meaning_of texts (upper wanted) rule) × (meaning_of texts (lower wanted) rule ≡ false)

-- what is listed of the pairs that have a judgement, and the pairs of which all is listed
pub record ListingValue : Type 0 where
  pub wanted : Judgement
  pub issues : List Issue
  pub sites : List Site
  pub marks : BTreeSet ItemPair

-- one meaning of the unread rules says no less than another
abbrev pub IsOver : Interpretation → Interpretation → Type 0
IsOver less more = (u : Unread) (outermost : Item) (place : Place) → IsTrue (less u outermost place) → IsTrue (more u outermost place)

-- nothing that is listed stands in the way of a meaning: the given rules that are relied on hold by it; of what is open, or fails, nothing
-- is listed
abbrev pub IsClear : Judgement → List Issue → List Site → Interpretation → Type 0
IsClear judgements.Holds issues sites meaning = ⊥
IsClear judgements.Given issues sites meaning = AllByRecursion (IsHeld meaning) sites
IsClear judgements.Open issues sites meaning = sites ≡ []
IsClear judgements.Fails issues sites meaning = issues ≡ []

-- What is listed leaves the meaning: that says no less than the reading by which what is wanted doesn't hold, and nothing that is
-- listed stands in its way.
pub record Leaves (layout : LayoutValue) (listing : ListingValue) (meaning : Interpretation) : Type 0 where
  pub over : IsOver (as_read layout.given (lower listing.wanted)) meaning
  pub clear : IsClear listing.wanted listing.issues listing.sites meaning

-- what a rule that is listed leaves: where it is relied on, the meanings by which it holds everywhere; where it is open, none
abbrev pub IsLeftBy : Judgement → Interpretation → Unread → Type 0
IsLeftBy judgements.Holds meaning rule = Unit {0}
IsLeftBy judgements.Given meaning rule = (outermost : Item) (place : Place) → IsTrue (meaning rule outermost place)
IsLeftBy judgements.Open meaning rule = ⊥
IsLeftBy judgements.Fails meaning rule = Unit {0}

abbrev pub RuleIsTold : LayoutValue → ListingValue → Unread → Type 0
RuleIsTold layout listing rule = (meaning : Interpretation) → Leaves layout listing meaning → IsLeftBy listing.wanted meaning rule

-- by each meaning that is left, what the pair asks holds; and the item conforms to the node
abbrev pub AskIsTold : LayoutValue → ItemPair → Ask → ListingValue → Type 0
AskIsTold layout p ask listing =
    (meaning : Interpretation) → Leaves layout listing meaning → (around : Around) → IsThere layout p.item around
    → IsTrue (ask_conforms layout.schema meaning around (item_at layout p.item) ask)

abbrev pub PairIsTold : LayoutValue → ItemPair → ListingValue → Type 0
PairIsTold layout p listing =
    (meaning : Interpretation) → Leaves layout listing meaning → (around : Around) → IsThere layout p.item around
    → IsTrue (conforms layout.schema meaning around (item_at layout p.item) p.node)

-- so it is of each pair that is marked
abbrev pub MarksAreTold : LayoutValue → ListingValue → Type 0
MarksAreTold layout listing = (p : ItemPair) → contains cmp-value.it listing.marks p ≡ true → PairIsTold layout p listing

-- where what is open, or holds as given, is listed, nothing is worse
abbrev pub IsAllowed : Judgement → Bool → Type 0
IsAllowed judgements.Holds holds = Unit {0}
IsAllowed judgements.Given holds = IsTrue holds
IsAllowed judgements.Open holds = IsTrue holds
IsAllowed judgements.Fails holds = Unit {0}

abbrev pub AskIsAllowed : LayoutValue → ListingValue → ItemPair → Ask → Type 0
AskIsAllowed layout listing p ask =
    (around : Around) × IsThere layout p.item around
    × IsAllowed listing.wanted (ask_conforms layout.schema (as_read layout.given (upper listing.wanted)) around (item_at layout p.item) ask)

abbrev pub PairIsAllowed : LayoutValue → ListingValue → ItemPair → Type 0
PairIsAllowed layout listing p =
    (around : Around) × IsThere layout p.item around
    × IsAllowed listing.wanted (conforms layout.schema (as_read layout.given (upper listing.wanted)) around (item_at layout p.item) p.node)

-- what is listed is right
abbrev pub IsFound : SchemaValue → Item → NodeRef → Issue → Type 0
IsFound s outermost profile (Misfit misfit) = ⊥
IsFound s outermost profile (Broken breach) = IsBroken s outermost profile breach

-- a site of what has the judgement hangs on a rule that holds by the one reading and not by the other
abbrev pub IsFoundSite : SchemaValue → List Text → Judgement → Item → NodeRef → Site → Type 0
IsFoundSite s texts wanted outermost profile site = IsHangingAt s texts (lower wanted) (upper wanted) outermost profile site

abbrev pub AreFound : LayoutValue → Item → NodeRef → ListingValue → Type 0
AreFound layout outermost profile listing =
    AllByRecursion (IsFound layout.schema outermost profile) listing.issues
    × AllByRecursion (IsFoundSite layout.schema layout.given listing.wanted outermost profile) listing.sites

-- the pair asks for that
abbrev pub IsAskedBy : LayoutValue → ItemPair → Ask → Type 0
IsAskedBy layout p ask = Contains (asks layout.schema (item_at layout p.item) p.node) ask

-- the pair asks for that, and it may be what is listed
pub record IsToList (layout : LayoutValue) (listing : ListingValue) (p : ItemPair) (ask : Ask) : Type 0 where
  pub asked : IsAskedBy layout p ask
  pub allowed : AskIsAllowed layout listing p ask

-- what is right of the old listing is right of the new, if the pair is met
abbrev pub KeepsFound : LayoutValue → ItemPair → ListingValue → ListingValue → Type 0
KeepsFound layout p old new =
    (outermost : Item) (profile : NodeRef) (place : Place)
    → Met layout.schema outermost profile place (resource_of layout p.item) (item_at layout p.item) p.node
    → AreFound layout outermost profile old → AreFound layout outermost profile new

-- What is listed grows: less is left by it, and it is right if the pair is met.
pub record Grown (layout : LayoutValue) (p : ItemPair) (old new : ListingValue) : Type 0 where
  pub wanted : new.wanted ≡ old.wanted
  pub left : (meaning : Interpretation) → Leaves layout new meaning → Leaves layout old meaning
  pub marked : MarksAreTold layout old → MarksAreTold layout new
  pub found : KeepsFound layout p old new

-- it grows, and what the pair asks is told
pub record Lists (layout : LayoutValue) (p : ItemPair) (ask : Ask) (old new : ListingValue) : Type 0 where
  pub grown : Grown layout p old new
  pub told : MarksAreTold layout old → AskIsTold layout p ask new

-- ---- what is put into a listing

-- What the pair asks has the judgement, is told at the node, and hangs on the unread rule, which holds by the one reading and not by
-- the other.
pub record IsHanging (layout : LayoutValue) (wanted : Judgement) (p : ItemPair) (node : NodeRef) (rule : Unread) : Type 0 where
  pub ask : Ask
  pub said : Said
  pub asked : IsAskedBy layout p ask
  pub hangs : IsRightOf layout p ask wanted
  pub told : told_of layout.schema (item_at layout p.item) p.node ask ≡ Some (node, said)
  pub carried : Contains (ask_unread layout.schema (item_at layout p.item) ask) rule
  pub between : IsBetween layout.given wanted rule
  pub of_hanging : is_hanging wanted ≡ true

-- the types of the pair's node have the judgement
pub record AreHanging (layout : LayoutValue) (wanted : Judgement) (p : ItemPair) : Type 0 where
  pub inner : is_root_node layout.schema p.node ≡ false
  pub asked : IsAskedBy layout p (as_types p.node)
  pub hangs : IsRightOf layout p (as_types p.node) wanted
  pub of_hanging : is_hanging wanted ≡ true

-- the types of the pair's node have the judgement, and that is one of them, which covers the item
pub record IsEntry (layout : LayoutValue) (wanted : Judgement) (p : ItemPair) (entry : TypeEntry) : Type 0 where
  pub hanging : AreHanging layout wanted p
  pub among : Contains (node_types layout.schema p.node) entry
  pub covered : IsTrue (covers layout.schema entry.code (type_of (item_at layout p.item)))

-- One of its profiles: the pair asks for its root; or it is unread, and what the pair asks hangs on it, where it holds by the one
-- reading and not by the other.
pub record IsNamedBy (layout : LayoutValue) (wanted : Judgement) (p : ItemPair) (canonical : Text) : Type 0 where
  pub hanging : loaded layout.schema canonical ≡ None → IsBetween layout.given wanted (unread_profile canonical)
      → IsHanging layout wanted p p.node (unread_profile canonical)
  pub asked : (root : NodeRef) → loaded layout.schema canonical ≡ Some root → IsAskedBy layout p (as_profile root)

-- the pair names the root as a profile, and whether its item conforms to it has the judgement
abbrev pub IsHangingRoot : LayoutValue → Judgement → ItemPair → NodeRef → Type 0
IsHangingRoot layout wanted p r = IsAskedBy layout p (as_profile r) × IsRight layout (record { item = p.item; node = r }) wanted

-- What is listed and to be listed grows.
pub record Grows (layout : LayoutValue) (p : ItemPair) (old new : ListingValue) (roots more : List NodeRef) : Type 0 where
  pub grown : Grown layout p old new
  pub kept : (r : NodeRef) → Contains roots r → Contains more r
  pub hanging : AllByRecursion (IsHangingRoot layout old.wanted p) roots → AllByRecursion (IsHangingRoot layout old.wanted p) more

-- where a test holds by the reading by which what is wanted does, it holds by each meaning that is left, by which the item conforms to
-- the roots of which more is to be listed
abbrev pub IsSettled : LayoutValue → ItemPair → (Meaning → (NodeRef → Bool) → Bool) → ListingValue → List NodeRef → Type 0
IsSettled layout p test listing roots =
    (meaning : Interpretation) → Leaves layout listing meaning → (around : Around) → IsThere layout p.item around
    → ((r : NodeRef) → Contains roots r → IsTrue (conforms layout.schema meaning around (item_at layout p.item) r))
    → IsTrue (test (meaning_of layout.given (upper listing.wanted)) (conforms layout.schema (as_read layout.given (upper listing.wanted)) around (item_at layout p.item)))
    → IsTrue (test (meaning_at meaning around) (conforms layout.schema meaning around (item_at layout p.item)))

-- it grows, and the test is settled
pub record Settles (layout : LayoutValue) (p : ItemPair) (test : Meaning → (NodeRef → Bool) → Bool) (old new : ListingValue) (roots more : List NodeRef) : Type 0 where
  pub grows : Grows layout p old new roots more
  pub settled : IsSettled layout p test new more

-- ---- what a verdict lists

abbrev pub IsListed : SchemaValue → List Text → Item → NodeRef → Vouched → Type 0
IsListed s texts outermost profile (verdicts.Conforms relied) = AllByRecursion (IsFoundSite s texts judgements.Given outermost profile) relied.items
IsListed s texts outermost profile (verdicts.Violates issues) = AreSome (IsFound s outermost profile) issues.items
IsListed s texts outermost profile (verdicts.Open sites) = AreSome (IsFoundSite s texts judgements.Open outermost profile) sites.items

abbrev pub judgement_in : Vouched → Judgement
judgement_in (verdicts.Conforms relied) = if is_empty relied.items then judgements.Holds else judgements.Given
judgement_in (verdicts.Violates issues) = judgements.Fails
judgement_in (verdicts.Open sites) = judgements.Open

-- the verdict on an item at a root
pub record IsVerdictAt (s : SchemaValue) (texts : List Text) (x : Item) (n : NodeRef) (v : Vouched) : Type 0 where
  pub right : (r : Reading) → under r (judgement_in v) ≡ conforms s (as_read texts r) (outermost x) x n
  pub rests : (meaning : Interpretation) → IsUpheld meaning v → IsTrue (conforms s meaning (outermost x) x n)
  pub listed : IsListed s texts x n v

abbrev pub IsOfMisfit : Issue → Type 0
IsOfMisfit (Misfit misfit) = Unit {0}
IsOfMisfit (Broken breach) = ⊥

abbrev pub IsMisfitVerdict : Vouched → Type 0
IsMisfitVerdict (verdicts.Conforms relied) = ⊥
IsMisfitVerdict (verdicts.Violates issues) = AreSome IsOfMisfit issues.items
IsMisfitVerdict (verdicts.Open sites) = ⊥

-- the verdict on a tree, which is an item or none
abbrev pub IsVerdictOn : SchemaValue → List Text → NodeRef → Tree → Vouched → Type 0
IsVerdictOn s texts n t v = ((x : Item) × Types s t x × IsVerdictAt s texts x n v) ⊎ (((x : Item) → Types s t x → ⊥) × IsMisfitVerdict v)

-- a fault of the bytes
abbrev pub IsOfBytes : Text → Fault → Type 0
IsOfBytes bytes Missing = ⊥
IsOfBytes bytes (Unusable reason) = ⊥
IsOfBytes bytes (NotJson fault) = (t : Tree) → Reads bytes t → ⊥
IsOfBytes bytes NoMemory = Unit {0}
