-- How much of a package there is, and how much of it can be used.
use Rattle.std.specs.Prelude.{ℕ, ◌-◌, ◌++◌, length, count_by, is_none, is_some, codes}
use Rattle.std.specs.Fmt.{decimal}
use Rattle.std.specs.Map.{keys_of}
use Rattle.fhir_json.specs.Tree.{Text}
use Rattle.fhir_package.specs.Surveying.{Surveyed}
use Rattle.fhir_schema.specs.Schemas.{SchemaValue, concepts_at}
use Rattle.fhir_schema.specs.Settling.{reason_at}
use Rattle.fhir_findings.specs.declared.counting.Counts.{Counts}

-- of the package of a survey of so many files, by its schema
abbrev pub counts : ℕ → Surveyed → SchemaValue → Counts
counts files survey s = record {
  files = files;
  definitions = length s.definitions;
  usable = count_by (λ d. is_none (reason_at s.reasons d.place)) s.definitions;
  value_sets = length survey.definitions.value_sets;
  read = count_by (λ url. is_some (concepts_at s url)) (keys_of survey.definitions.value_sets);
}

-- the counts as they are printed
abbrev pub counts_text : Counts → Text
counts_text c =
    codes "files: " ++ decimal c.files ++ codes ", definitions: " ++ decimal c.definitions ++ codes ", usable: " ++ decimal c.usable
    ++ codes ", unusable: " ++ decimal (c.definitions - c.usable) ++ codes ", value sets read: " ++ decimal c.read
    ++ codes ", unread: " ++ decimal (c.value_sets - c.read)
