-- The greatest certificate: the pairs that are right by one another, as far as they are reached from the roots.
use Rattle.std.specs.Prelude.{◌≡◌, Bool, Option, Some, IsTrue}
use Rattle.std.specs.List.{Contains}
use Rattle.std.specs.Option.{option_map, option_and_then}
use Rattle.fhir_json.specs.Tree.{Text}
use Rattle.fhir_schema.specs.Schemas.{SchemaValue, root}
use Rattle.fhir_certificate.specs.declared.pair.NodePair.{NodePair}
use Rattle.fhir_certificate.specs.declared.pair.Pair.{Pair}
use Rattle.fhir_certificate.specs.declared.pair.Pair.TheVariants.{Item}
use Rattle.fhir_cert_check.specs.Checking.{IsRight}
use Rattle.fhir_cert_check.specs.Asked.{asked_for}

-- The pair is in some set of which each pair is right by the set. The union of all such sets is one too: the greatest.
pub record IsTenable (s : SchemaValue) (p : Pair) : Type 0 where
  pub set : Pair → Bool
  pub has : IsTrue (set p)
  pub right : IsRight s set

-- The set has the first pair, and with each pair all that are tenable of those that it asks for.
pub record IsClosedWithin (s : SchemaValue) (first : Pair) (set : Pair → Bool) : Type 0 where
  pub rooted : IsTrue (set first)
  pub closed : (p q : Pair) → IsTrue (set p) → Contains (asked_for s p) q → IsTenable s q → IsTrue (set q)

-- the pair is in each such set
abbrev pub IsReached : SchemaValue → Pair → Pair → Type 0
IsReached s first p = (set : Pair → Bool) → IsClosedWithin s first set → IsTrue (set p)

-- the pair of the roots of two profiles, where both can be used
abbrev pub roots_between : SchemaValue → Text → Text → Option NodePair
roots_between s derived base = option_and_then (λ n. option_map (λ m. record { derived = n; base = m }) (root s base)) (root s derived)

-- Some set is a certificate: it has the pair of the roots, and each of its pairs is right by it.
pub record HasCertificate (s : SchemaValue) (derived base : Text) : Type 0 where
  pub roots : NodePair
  pub are_roots : roots_between s derived base ≡ Some roots
  pub tenable : IsTenable s (Item roots)
