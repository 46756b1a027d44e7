-- Pairs as they are found, and those of them that count (used by private contracts alone).
use Rattle.std.specs.Prelude.{◌≡◌, ◌&&◌, List, Bool, true, not, filter}
use Rattle.fhir_schema.specs.Schemas.{SchemaValue}
use Rattle.fhir_certificate.specs.declared.pair.Pair.{Pair}
use Rattle.fhir_cert_check.specs.Asked.{asked_for}
use Rattle.fhir_cert_check.specs.PairSet.{PairLists, has_pair}
use Rattle.fhir_derive_check.specs.Blaming.{is_spare}
use Rattle.fhir_derive_check.specs.Finding.{is_in}
use Rattle.fhir_derive_check.specs.declared.discovery.Follow.{Follow}
use Rattle.fhir_derive_check.specs.declared.discovery.Follow.TheVariants.{All, Within, Outside}

-- which of the pairs that a pair asks for are gone to: all; those of a set; or those outside of it, but for spare ones
abbrev pub follows : Follow → SchemaValue → Pair → Pair → Bool
follows All s asker p = true
follows (Within set) s asker p = has_pair set.now p
follows (Outside set) s asker p = not (is_spare s asker p) && not (has_pair set.now p)

abbrev pub followed : Follow → SchemaValue → Pair → List Pair
followed follow s asker = filter (follows follow s asker) (asked_for s asker)

-- the set has the pairs of the list
abbrev pub HasAll : PairLists → List Pair → Type 0
HasAll set ps = (p : Pair) → has_pair set p ≡ is_in ps p
