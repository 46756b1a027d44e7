-- What a comparison tells in JSON: an object on each url, two where a profile can't be used in either, and one with the counts.
use Rattle.std.specs.Prelude.{◌≡◌, ℕ, List, [], ◌∷◌, ◌++◌, Bool, true, false, codes}
use Rattle.fhir_json.specs.Tree.{Text, Tree, string, object, members_of, Property}
use Rattle.fhir_json.specs.Compact.{compact}
use Rattle.fhir_lines.specs.Lines.{count_property}
use Rattle.fhir_compare.specs.Comparing.{VerdictValue, both, unusable_in, only_in_old, only_in_new, change_of}
use Rattle.fhir_compare_lines.specs.declared.counting.Counts.{Counts}
use Rattle.fhir_compare_lines.specs.declared.parts.Part.{Part}
use Rattle.fhir_compare_lines.specs.Parts.{part_word}
use Rattle.fhir_compare_lines.specs.Words.{change_word, unusable_in_old, unusable_in_new}

-- one line, that spells an object with the url, these words, and others behind them
abbrev pub IsObject : (url words : Text) → List Text → Type 0
IsObject url words ls =
    (more : List Property)
    × (ls ≡ compact (object (members_of ((codes "url", string url) ∷ (codes "verdict", string words) ∷ more))) ∷ [])

abbrev pub IsObjectIf : Bool → (url words : Text) → List Text → Type 0
IsObjectIf false url words ls = ls ≡ []
IsObjectIf true url words ls = IsObject url words ls

abbrev pub AreObjects : (in_old in_new : Bool) → Text → List Text → Type 0
AreObjects in_old in_new url ls =
    (first second : List Text) × IsObjectIf in_old url unusable_in_old first × IsObjectIf in_new url unusable_in_new second
    × (ls ≡ first ++ second)

abbrev pub IsToldTree : Text → VerdictValue → List Text → Type 0
IsToldTree url (both w) ls = IsObject url (change_word (change_of w)) ls
IsToldTree url (unusable_in in_old in_new) ls = AreObjects in_old in_new url ls
IsToldTree url only_in_old ls = IsObject url (codes "only in OLD") ls
IsToldTree url only_in_new ls = IsObject url (codes "only in NEW") ls

abbrev pub shown_counts : Counts → List Property
shown_counts c =
    count_property (codes "profiles") c.profiles ∷ count_property (codes "same") c.same ∷ count_property (codes "narrow") c.narrow
    ∷ count_property (codes "widen") c.widen ∷ []

abbrev pub alone_counts : Counts → List Property
alone_counts c = count_property (codes "onlyInOld") c.only_in_old ∷ count_property (codes "onlyInNew") c.only_in_new ∷ []

abbrev pub other_counts : Counts → List Property
other_counts c = count_property (codes "neither") c.neither ∷ count_property (codes "unusable") c.unusable ∷ alone_counts c

-- the counts, how many types differ, and the part of a version that has to change
abbrev pub last_properties : Counts → (types : ℕ) → Part → List Property
last_properties c types part =
    shown_counts c ++ other_counts c ++ count_property (codes "typesThatDiffer") types ∷ (codes "version", string (part_word part)) ∷ []

abbrev pub counts_tree : Counts → (types : ℕ) → Part → Tree
counts_tree c types part = object (members_of (last_properties c types part))
