-- Constraints that are found fast (used by private contracts alone).
use Rattle.std.specs.Prelude.{◌≡◌, List}
use Rattle.std.specs.List.{list_any}
use Rattle.std.specs.BTreeSet.{BTreeSet, contains}
use Rattle.fhir_json.specs.Views.{text_seen}
use Rattle.fhir_elements.specs.Constraint.{Constraint}
use Rattle.fhir_overlay.specs.declared.constraints.Identity.{Identity}
use Rattle.fhir_overlay.specs.contracts.constraints.IdentityOrd.TheImpl.{cmp-value}
use Rattle.fhir_overlay.specs.Overlay.{same_constraint}

-- the constraint that has that identity
abbrev pub identified : Identity → Constraint
identified i = record { key = i.key.now; severity = i.severity; expression = text_seen i.expression }

-- exactly the identities of those constraints are noted
abbrev pub AreNoted : BTreeSet Identity → List Constraint → Type 0
AreNoted noted cs = (i : Identity) → contains cmp-value.it noted i ≡ list_any (same_constraint (identified i)) cs
