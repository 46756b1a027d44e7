-- Lines that are put in.
use Rattle.std.specs.Prelude.{◌≡◌, List, ◌++◌}
use Rattle.fhir_lines.specs.declared.line.Line.{Line}
use Rattle.fhir_lines.specs.Lines.{lines_seen}
use Rattle.fhir_report.specs.Report.{Head, is_of_file, is_unusable, all_told}

-- the new lines are the old ones and others, that tell these faults and definitions
abbrev pub Grows : List Line → List Line → (faults unusable : List Head) → Type 0
Grows old new faults unusable =
    (all_told is_of_file (lines_seen new) ≡ all_told is_of_file (lines_seen old) ++ faults)
    × (all_told is_unusable (lines_seen new) ≡ all_told is_unusable (lines_seen old) ++ unusable)
