-- What status 0 promises where folders are gathered.
use Rattle.std.specs.Prelude.{ℕ, List, map, Option}
use Rattle.std.specs.Io.KnownBytes.{Appends}
use Rattle.fhir_package.specs.Folder.{Files}
use Rattle.fhir_words.specs.declared.request.Detail.{Detail}
use Rattle.fhir_archives.specs.Views.{note_seen}
use Rattle.fhir_gather.specs.declared.gathered.Gathered.{Gathered}
use Rattle.fhir_gather.specs.Gathering.{Folders}
use Rattle.fhir_gather.specs.Making.{IsMade, LoadsFirst}
use Rattle.fhir_gather.specs.Views.{all_dropped}
use Rattle.fhir_gather_lines.specs.GatherLines.{gather_text}
use Rattle.fhir_gather_lines.specs.Counted.{counts_seen}

-- what is printed of what is gathered
abbrev pub printed : Detail → Gathered → List ℕ
printed detail g = gather_text detail (counts_seen g) (all_dropped g.dropped.items) (map note_seen g.notes.items)

-- What stands under the new folder's name is made of the folders, it loads, and of each kind and url it has the first definition that stands in
-- the folders; and the output has grown by what is told of that.
pub record IsGathered (detail : Detail) (folders : Folders) (whole : Option Files) (old new : Option (List ℕ)) : Type 0 where
  pub told : Gathered
  pub made : IsMade folders whole told
  pub loads : LoadsFirst folders whole
  pub appended : Appends old new (printed detail told)
