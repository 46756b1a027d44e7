-- The words of what is told.
use Rattle.std.specs.Prelude.{Bool, true, false, codes}
use Rattle.fhir_json.specs.Tree.{Text}
use Rattle.fhir_compare.specs.declared.verdict.Change.{Change}
use Rattle.fhir_compare.specs.declared.verdict.Change.TheVariants.{Same, Narrows, Widens, Neither}
use Rattle.fhir_compare.specs.Comparing.{Direction, new_in_old, old_in_new}

abbrev pub change_word : Change → Text
change_word Same = codes "same"
change_word Narrows = codes "narrows"
change_word Widens = codes "widens"
change_word Neither = codes "neither is shown"

-- that the one doesn't narrow the other, where a resource shows it, and else that it isn't shown to
abbrev pub way_words : Direction → (is_refuted : Bool) → Text
way_words new_in_old true = codes "NEW's does not narrow OLD's"
way_words new_in_old false = codes "NEW's isn't shown to narrow OLD's"
way_words old_in_new true = codes "OLD's does not narrow NEW's"
way_words old_in_new false = codes "OLD's isn't shown to narrow NEW's"

abbrev pub unusable_in_old : Text
unusable_in_old = codes "can't be used in OLD"

abbrev pub unusable_in_new : Text
unusable_in_new = codes "can't be used in NEW"
