-- What contracts see of what differs.
use Rattle.std.specs.Prelude.{List, map, string_bytes}
use Rattle.fhir_element_changes.specs.Changes.{ChangeValue, ChangedValue}
use Rattle.fhir_element_changes.specs.declared.changes.Change.{Change}
use Rattle.fhir_element_changes.specs.declared.changes.Changed.{Changed}

abbrev pub change_seen : Change → ChangeValue
change_seen c = record { aspect = c.aspect; base = string_bytes c.base; derived = string_bytes c.derived }

abbrev pub changes_seen : List Change → List ChangeValue
changes_seen cs = map change_seen cs

abbrev pub changed_seen : Changed → ChangedValue
changed_seen c = record { id = c.id.now; node = c.node; changes = changes_seen c.changes.items }

abbrev pub all_changed : List Changed → List ChangedValue
all_changed cs = map changed_seen cs
