-- A text that begins no text of two packages: it stands in front of what one of them has and the other hasn't.
use Rattle.std.specs.Prelude.{◌≡◌, ℕ, zero, suc, List, [], ◌∷◌, ◌++◌, length, drop, false, nat_le, nat_eq, codes, if◌then◌else◌}
use Rattle.std.specs.List.{flat_map, starts_with, Contains}
use Rattle.fhir_json.specs.Tree.{Text, Tree, null, boolean, number, string, array, object, Items, no_items, item, Members, no_members, member, Property}
use Rattle.fhir_package.specs.declared.kind.Kind.{Kind}
use Rattle.fhir_package.specs.declared.kind.Kind.TheVariants.{StructureDefinition, ValueSet, CodeSystem}
use Rattle.fhir_package.specs.Definitions.{Definitions, of_kind}

-- ---- the texts of a package

-- the strings of a tree
abbrev mutual
  pub texts_in : Tree → List Text
  texts_in null = []
  texts_in (boolean b) = []
  texts_in (number n) = []
  texts_in (string s) = s ∷ []
  texts_in (array ts) = items_texts ts
  texts_in (object ms) = members_texts ms

  pub items_texts : Items → List Text
  items_texts no_items = []
  items_texts (item t ts) = texts_in t ++ items_texts ts

  pub members_texts : Members → List Text
  members_texts no_members = []
  members_texts (member name t ms) = texts_in t ++ members_texts ms

abbrev pub member_texts : Property → List Text
member_texts m = texts_in m.1

-- the url of a definition, and its strings
abbrev pub definition_texts : Text × Tree → List Text
definition_texts e = e.0 ∷ texts_in e.1

abbrev pub kind_texts : Kind → Definitions → List Text
kind_texts kind p = flat_map definition_texts (of_kind kind p)

abbrev pub package_texts : Definitions → List Text
package_texts p = kind_texts StructureDefinition p ++ (kind_texts ValueSet p ++ kind_texts CodeSystem p)

-- ---- the mark

-- none of some texts begins with it
abbrev pub BeginsNone : Text → List Text → Type 0
BeginsNone mark texts = (text : Text) → Contains texts text → starts_with nat_eq text mark ≡ false

abbrev pub stem : Text
stem = codes "urn:fhirprof:old:"

-- what stands behind a stem, where a text begins with it
abbrev pub tail_of : Text → Text → List Text
tail_of stem text = if starts_with nat_eq text stem then drop (length stem) text ∷ [] else []

abbrev pub tails_of : Text → List Text → List Text
tails_of stem texts = flat_map (tail_of stem) texts

-- of a definition (used by private contracts alone)
abbrev pub definition_tails : Text → Text × Tree → List Text
definition_tails stem e = tails_of stem (definition_texts e)

-- the digit with which fewer texts begin, with what stands behind it in these
abbrev pub fewer_of : List Text → List Text → Text × List Text
fewer_of zeros ones = if nat_le (length zeros) (length ones) then (codes "0", zeros) else (codes "1", ones)

abbrev pub fewer_behind : List Text → Text × List Text
fewer_behind texts = fewer_of (tails_of (codes "0") texts) (tails_of (codes "1") texts)

-- Digits behind a mark, as long as some text begins with it. Each leaves at most half of the texts, so that there are no more digits than texts.
abbrev pub grown_in : ℕ → List Text → Text → Text
grown_in zero texts mark = mark
grown_in (suc n) [] mark = mark
grown_in (suc n) (t ∷ ts) mark = grown_in n (fewer_behind (t ∷ ts)).1 (mark ++ (fewer_behind (t ∷ ts)).0)

abbrev pub grown : List Text → Text → Text
grown texts mark = grown_in (length texts) texts mark

abbrev pub mark_between : Definitions → Definitions → Text
mark_between old new = grown (tails_of stem (package_texts old ++ package_texts new)) stem
