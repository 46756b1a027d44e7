-- Code systems of each content, and includes that name a version or none.
use Rattle.std.specs.Prelude.{Bool, Option, None, Some, is_some, codes}
use Rattle.fhir_json.specs.Tree.{Text, Tree, Members, no_members}
use Rattle.fhir_codes.specs.CodeSystems.{is_complete}
use Rattle.fhir_codes.specs.ValueSets.{code_system}
use Rattle.fhir_codes.specs.Example.{example, letters, only_a, these, system_of, version, of_url}

abbrev pub is_taken_whole : Text → Bool
is_taken_whole content = is_complete (system_of content only_a no_members)

-- the version that an include names, if it names one
abbrev pub of_version : Option Text → Members
of_version None = no_members
of_version (Some v) = version v

abbrev pub finds : Text → Option Text → Bool
finds url named = is_some (code_system example (of_url url (of_version named)) url)

-- that of version 2
abbrev pub finds_second : Option Text → Bool
finds_second named = finds (codes "urn:second") named

-- one without a version
abbrev pub finds_letters : Option Text → Bool
finds_letters named = finds letters named

-- a code system that isn't there
abbrev pub elsewhere : Text
elsewhere = codes "urn:elsewhere"

abbrev pub listed_elsewhere : Tree
listed_elsewhere = of_url elsewhere (these only_a no_members)

abbrev pub all_elsewhere : Tree
all_elsewhere = of_url elsewhere no_members
