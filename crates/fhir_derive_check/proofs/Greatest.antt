-- The tenable pairs that are found are those left when no more fall; and those met among them are the ones reached.
use Rattle.std.proofs.Common.{◌≡◌, Bool, List, subst, IsTrue, ◌&&◌, filter}
use Rattle.std.specs.Prelude.{◌↔◌}
use Rattle.std.specs.List.{Contains}
use Rattle.std.proofs.lemmas.Bool.{and_parts, and_from}
use Rattle.fhir_schema.specs.Schemas.{SchemaValue}
use Rattle.fhir_certificate.specs.declared.pair.Pair.{Pair}
use Rattle.fhir_cert_check.specs.Rules.{is_local}
use Rattle.fhir_cert_check.specs.Checking.{IsRight}
use Rattle.fhir_cert_check.specs.Asked.{asked_for}
use Rattle.fhir_derive_check.specs.Finding.{is_in, IsClosed, IsDiscovery}
use Rattle.fhir_derive_check.specs.Reaching.{IsTenable, IsReached}
use Rattle.fhir_derive_check.specs.Outcomes.{MorePairs, IsSettled, IsClosedAmong, IsMet}
use Rattle.fhir_derive_check.proofs.Same.{in-kept, kept-in, contained, in-contained}
use Rattle.fhir_derive_check.proofs.Found.{root-found, closed, is-found}

module _ (s : SchemaValue) (root : Pair) (found : List Pair) (discovery : IsDiscovery (asked_for s) root found) where
  -- what a pair that is found asks for is found
  pub asked-found : (p q : Pair) → IsTrue (is_in found p) → Contains (asked_for s p) q → IsTrue (is_in found q)
  asked-found p q here asked = closed (asked_for s) root found discovery p q here (in-contained (asked_for s p) q asked)

  -- where the tenable pairs count, each is right
  pub tenable-right : MorePairs → (live : Pair → Bool) → ((p : Pair) → IsTrue (is_in found p) → IsTenable s p → IsTrue (live p)) → (p : Pair) → IsTrue (is_in found p) → IsTenable s p → IsTrue (is_local live s p)
  tenable-right more live keeps p here t =
      more s t.set live p (λ q asked member. keeps q (asked-found p q here asked) (record { set = t.set; has = member; right = t.right })) (t.right p t.has)

  module _ (live : Pair → Bool) (settled : IsSettled s found live) (rooted : IsTrue (live root)) (met : Pair → Bool) (meeting : IsMet s live root met) where
    pub is-tenable : (p : Pair) → IsTrue (live p) → IsTenable s p
    is-tenable p h = record { set = live; has = h; right = settled.right }

    pub met-live : (p : Pair) → IsTrue (met p) → IsTrue (live p)
    met-live p h = meeting.least p h live (record { rooted = rooted; closed = λ x y here asked alive. alive })

    met-reached : (p : Pair) → IsTrue (met p) → IsReached s root p
    met-reached p h set within = meeting.least p h set (record {
      rooted = within.rooted;
      closed = λ x y here asked alive. within.closed x y here asked (is-tenable y alive);
    })

    reached-met : (p : Pair) → IsReached s root p → IsTrue (met p)
    reached-met p reached = reached met (record {
      rooted = meeting.closed.rooted;
      closed = λ x y here asked tenable.
          meeting.closed.closed x y here asked (settled.keeps y (asked-found x y (settled.within x (met-live x here)) asked) tenable);
    })

    pub exactly : (p : Pair) → IsTrue (met p) ↔ IsReached s root p
    exactly p = (met-reached p, reached-met p)

    pub met-rooted : IsTrue (is_in (filter met found) root)
    met-rooted = in-kept met found root meeting.closed.rooted (root-found (asked_for s) root found discovery)

    -- the pairs that are met are right by one another
    pub met-right : MorePairs → IsRight s (is_in (filter met found))
    met-right more p h =
        let here = kept-in met found p h in
        more s live (is_in (filter met found)) p
        (λ q asked alive. in-kept met found q (meeting.closed.closed p q here.0 asked alive) (settled.within q alive))
        (settled.right p (met-live p here.0))

  -- where all that are found count and are right, all are met
  pub all-met : IsMet s (is_in found) root (is_in found)
  all-met = record {
    closed = record {
      rooted = root-found (asked_for s) root found discovery;
      closed = λ p q here asked alive. alive;
    };
    least = λ p h set among. (and_parts (set p) (is_in found p) (is-found (asked_for s) root found discovery p h (λ q. set q && is_in found q) (both set among))).0;
  }
    where
      both : (set : Pair → Bool) → IsClosedAmong s (is_in found) root set → IsClosed (asked_for s) root (λ q. set q && is_in found q)
      both set among = record {
        rooted = and_from (set root) (is_in found root) among.rooted (root-found (asked_for s) root found discovery);
        closed = λ x y here asked.
            let parts = and_parts (set x) (is_in found x) here in
            let alive = asked-found x y parts.1 asked in
            and_from (set y) (is_in found y) (among.closed x y parts.0 asked alive) alive;
      }

-- the second discovery, within those that count
pub discovery-met : (s : SchemaValue) (live : Pair → Bool) (root : Pair) (order : List Pair) → IsDiscovery (λ p. filter live (asked_for s p)) root order → IsMet s live root (is_in order)
discovery-met s live root order discovery =
    let asks : Pair → List Pair = λ p. filter live (asked_for s p) in
    record {
      closed = record {
        rooted = root-found asks root order discovery;
        closed = λ p q here asked alive. closed asks root order discovery p q here (in-kept live (asked_for s p) q alive (in-contained (asked_for s p) q asked));
      };
      least = λ p h set among. is-found asks root order discovery p h set (record {
        rooted = among.rooted;
        closed = λ x y here asked. let parts = kept-in live (asked_for s x) y (in-contained (asks x) y asked) in among.closed x y here (contained (asked_for s x) y parts.1) parts.0;
      });
    }

-- the same of tests that answer alike
pub met-alike : (s : SchemaValue) (live live' : Pair → Bool) (root : Pair) (met met' : Pair → Bool) → live ≡ live' → met ≡ met' → IsMet s live root met → IsMet s live' root met'
met-alike s live live' root met met' e f meeting = subst (λ l. IsMet s l root met') e (subst (IsMet s live root) f meeting)
