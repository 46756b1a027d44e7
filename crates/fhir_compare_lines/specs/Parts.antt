-- The part of a version that has to change.
use Rattle.std.specs.Prelude.{List, [], ◌∷◌, Bool, true, false, codes}
use Rattle.fhir_json.specs.Tree.{Text}
use Rattle.fhir_words.specs.declared.request.Audience.{Audience}
use Rattle.fhir_words.specs.declared.request.Audience.TheVariants.{Readers, Writers}
use Rattle.fhir_compare.specs.declared.verdict.Change.{Change}
use Rattle.fhir_compare.specs.declared.verdict.Change.TheVariants.{Same, Narrows, Widens, Neither}
use Rattle.fhir_compare.specs.Comparing.{VerdictValue, both, unusable_in, only_in_old, only_in_new, change_of, Said}
use Rattle.fhir_compare_lines.specs.declared.parts.Part.{Part}
use Rattle.fhir_compare_lines.specs.declared.parts.Part.TheVariants as part

-- Who reads what conforms is broken where more conforms than before, and who writes it where less does; both where neither is shown.
abbrev pub change_part : Audience → Change → Part
change_part audience Same = part.None
change_part Readers Narrows = part.Minor
change_part Writers Narrows = part.Major
change_part Readers Widens = part.Major
change_part Writers Widens = part.Minor
change_part audience Neither = part.Major

-- Both are broken by a profile that can't be used in NEW, and by one that OLD alone has.
abbrev pub unusable_part : (in_new : Bool) → Part
unusable_part true = part.Major
unusable_part false = part.Minor

abbrev pub verdict_part : Audience → VerdictValue → Part
verdict_part audience (both ways) = change_part audience (change_of ways)
verdict_part audience (unusable_in in_old in_new) = unusable_part in_new
verdict_part audience only_in_old = part.Major
verdict_part audience only_in_new = part.Minor

abbrev pub worse : Part → Part → Part
worse part.Major right = part.Major
worse part.Minor part.Major = part.Major
worse part.Minor right = part.Minor
worse part.None right = right

-- the worst of all that is said, none where nothing is
abbrev pub worst_behind : Audience → Part → List Said → Part
worst_behind audience so_far [] = so_far
worst_behind audience so_far (s ∷ said) = worst_behind audience (worse so_far (verdict_part audience s.1)) said

abbrev pub part_of : Audience → List Said → Part
part_of audience said = worst_behind audience part.None said

abbrev pub part_word : Part → Text
part_word part.None = codes "none"
part_word part.Minor = codes "minor"
part_word part.Major = codes "major"
