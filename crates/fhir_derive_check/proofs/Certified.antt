-- What is derived of what is reached.
use Rattle.std.proofs.Common.{◌≡◌, ◌<◌, ℕ, arith, Bool, true, false, List, [], ◌∷◌, ◌++◌, refl, sym, ap, subst, ◌∙◌, ◌⊎◌, inl, inr, IsTrue, ◌||◌, ◌&&◌, not, filter, length, get_or, map}
use Rattle.std.specs.Prelude.{◌↔◌, Option, None, Some, is_some, IfSome}
use Rattle.std.specs.List.{Contains, filter_map, list_any, list_all}
use Rattle.std.specs.Option.{option_map, option_and_then}
use Rattle.std.proofs.lemmas.Bool.{and_parts, and_from, or_cases, or_right, false≢true, cases_Bool}
use Rattle.std.proofs.lemmas.Option.{none-some, same_Some}
use Rattle.fhir_json.specs.Tree.{Text}
use Rattle.fhir_nodes.specs.declared.node.NodeRef.{NodeRef}
use Rattle.fhir_package.specs.Definitions.{Definitions}
use Rattle.fhir_schema.specs.Schemas.{SchemaValue, schema_of, has, root}
use Rattle.fhir_certificate.specs.declared.pair.NodePair.{NodePair}
use Rattle.fhir_certificate.specs.declared.pair.Pair.{Pair}
use Rattle.fhir_certificate.specs.declared.pair.Pair.TheVariants.{Item, Kids}
use Rattle.fhir_certificate.specs.Certificate.{CertificateValue, are_nodes, fits}
use Rattle.fhir_cert_check.specs.Rule.{RuleName}
use Rattle.fhir_cert_check.specs.Rules.{failing_rule}
use Rattle.fhir_cert_check.specs.declared.rule.Rule.{Rule}
use Rattle.fhir_cert_check.specs.Views.{rule_name}
use Rattle.fhir_cert_check.specs.Checking.{same_nodes, is_among, IsRight, IsCertificate, pairs_of, first_in}
use Rattle.fhir_cert_check.specs.Asked.{asked_for, is_of_nodes}
use Rattle.fhir_cert_check.specs.PairSet.{PairLists, same_pair, has_pair}
use Rattle.fhir_cert_check.specs.Inclusion.{Includes}
use Rattle.fhir_derive_check.specs.Finding.{is_in, IsDiscovery}
use Rattle.fhir_derive_check.specs.Reaching.{IsTenable, roots_between, HasCertificate}
use Rattle.fhir_derive_check.specs.Deriving.{items_in, kids_in, none_twice, IsDerived, IsFirstFailing}
use Rattle.fhir_derive_check.specs.Views.{certificate_of, failing_of}
use Rattle.fhir_derive_check.specs.Discovering.{followed, HasAll}
use Rattle.fhir_derive_check.specs.declared.discovery.Follow.TheVariants.{All}
use Rattle.fhir_derive_check.specs.Blaming.{IsToBlame}
use Rattle.fhir_derive_check.specs.Outcomes.{MorePairs, IsSettled, IsMet, IsListed, IsDerivation, IsNamed, IsRefusal, IsOutcomeBetween, item_of, kids_of}
use Rattle.fhir_derive_check.specs.declared.blaming.Named.{Named}
use Rattle.fhir_derive_check.specs.declared.blaming.Named.TheVariants.{First, ToBlame}
use Rattle.fhir_derive_check.specs.Pruning.{wrong_seen, all_failing}
use Rattle.fhir_derive_check.specs.declared.outcome.Outcome.{Outcome}
use Rattle.fhir_derive_check.specs.declared.outcome.Outcome.TheVariants.{Derives, NoCertificate}
use Rattle.fhir_derive_check.proofs.Same.{same-true, same-of, in-append, in-left, in-right, in-here, kept-in}
use Rattle.fhir_derive_check.proofs.Found.{root-found, filter-all, none_twice-filter, found-once, is-found}
use Rattle.fhir_derive_check.proofs.Greatest.{exactly, met-rooted, met-right, all-met, discovery-met, met-alike}
use Rattle.fhir_derive_check.proofs.Pruned.{first-fails, all-settled}
use Rattle.fhir_derive_check.proofs.Rooted.{root-known, both-roots}

-- ---- the pairs of items and those of children

pub items-in : (ps : List Pair) → filter_map item_of ps ≡ items_in ps
items-in [] = refl
items-in (Item p ∷ ps) = ap (λ l. p ∷ l) (items-in ps)
items-in (Kids p ∷ ps) = items-in ps

pub kids-in : (ps : List Pair) → filter_map kids_of ps ≡ kids_in ps
kids-in [] = refl
kids-in (Item p ∷ ps) = kids-in ps
kids-in (Kids p ∷ ps) = ap (λ l. p ∷ l) (kids-in ps)

any-items : (ps : List Pair) (p : NodePair) → list_any (same_nodes p) (items_in ps) ≡ is_in ps (Item p)
any-items [] p = refl
any-items (Item q ∷ ps) p = ap (λ b. same_nodes p q || b) (any-items ps p)
any-items (Kids q ∷ ps) p = any-items ps p

any-kids : (ps : List Pair) (p : NodePair) → list_any (same_nodes p) (kids_in ps) ≡ is_in ps (Kids p)
any-kids [] p = refl
any-kids (Item q ∷ ps) p = any-kids ps p
any-kids (Kids q ∷ ps) p = ap (λ b. same_nodes p q || b) (any-kids ps p)

among : (c : CertificateValue) (ps : List Pair) → c.items ≡ items_in ps → c.kids ≡ kids_in ps → (p : Pair) → is_among c p ≡ is_in ps p
among c ps items kids (Item p) = ap (list_any (same_nodes p)) items ∙ any-items ps p
among c ps items kids (Kids p) = ap (list_any (same_nodes p)) kids ∙ any-kids ps p

-- ---- each once

items-items : (xs : List NodePair) (p : NodePair) → is_in (map Item xs) (Item p) ≡ list_any (same_nodes p) xs
items-items [] p = refl
items-items (x ∷ xs) p = ap (λ b. same_nodes p x || b) (items-items xs p)

kids-items : (xs : List NodePair) (p : NodePair) → is_in (map Item xs) (Kids p) ≡ false
kids-items [] p = refl
kids-items (x ∷ xs) p = kids-items xs p

items-kids : (xs : List NodePair) (p : NodePair) → is_in (map Kids xs) (Item p) ≡ false
items-kids [] p = refl
items-kids (x ∷ xs) p = items-kids xs p

kids-kids : (xs : List NodePair) (p : NodePair) → is_in (map Kids xs) (Kids p) ≡ list_any (same_nodes p) xs
kids-kids [] p = refl
kids-kids (x ∷ xs) p = ap (λ b. same_nodes p x || b) (kids-kids xs p)

in-split : (ps : List Pair) (p : Pair) → is_in (map Item (items_in ps) ++ map Kids (kids_in ps)) p ≡ is_in ps p
in-split ps (Item p) =
    in-append (map Item (items_in ps)) (map Kids (kids_in ps)) (Item p)
    ∙ (λ j. (items-items (items_in ps) p ∙ any-items ps p) j || items-kids (kids_in ps) p j) ∙ or_false (is_in ps (Item p))
  where
    or_false : (a : Bool) → (a || false) ≡ a
    or_false true = refl
    or_false false = refl
in-split ps (Kids p) =
    in-append (map Item (items_in ps)) (map Kids (kids_in ps)) (Kids p)
    ∙ (λ j. kids-items (items_in ps) p j || (kids-kids (kids_in ps) p ∙ any-kids ps p) j)

none_twice-middle : (xs ys : List Pair) (p : Pair) → is_in (xs ++ ys) p ≡ false → none_twice (xs ++ ys) ≡ true → none_twice (xs ++ p ∷ ys) ≡ true
none_twice-middle [] ys p gone once = and_from (not (is_in ys p)) (none_twice ys) (ap not gone) once
none_twice-middle (x ∷ xs) ys p gone once =
    let parts = and_parts (not (is_in (xs ++ ys) x)) (none_twice (xs ++ ys)) once in
    let apart = neither (same_pair p x) (is_in (xs ++ ys) p) gone in
    and_from (not (is_in (xs ++ p ∷ ys) x)) _ (new (cases_Bool (is_in (xs ++ p ∷ ys) x)) apart.0 parts.0) (none_twice-middle xs ys p apart.1 parts.1)
  where
    neither : (a b : Bool) → (a || b) ≡ false → (a ≡ false) × (b ≡ false)
    neither true b e = absurd (false≢true (sym e))
    neither false b e = (refl, e)

    new : (is_in (xs ++ p ∷ ys) x ≡ true) ⊎ (is_in (xs ++ p ∷ ys) x ≡ false) → same_pair p x ≡ false → not (is_in (xs ++ ys) x) ≡ true → not (is_in (xs ++ p ∷ ys) x) ≡ true
    new (inr other) apart old = ap not other
    new (inl here) apart old =
        elim (or_cases (is_in xs x) (is_in (p ∷ ys) x) (sym (in-append xs (p ∷ ys) x) ∙ here)) [
          | inl front ↦ absurd (false≢true (sym (ap not (in-left xs ys x front)) ∙ old))
          | inr back ↦ elim (or_cases (same_pair x p) (is_in ys x) back) [
            | inl same ↦ absurd (false≢true (sym apart ∙ same-of p x (sym (same-true x p same))))
            | inr behind ↦ absurd (false≢true (sym (ap not (in-right xs ys x behind)) ∙ old))
          ]
        ]

none_twice-split : (ps : List Pair) → none_twice ps ≡ true → none_twice (map Item (items_in ps) ++ map Kids (kids_in ps)) ≡ true
none_twice-split [] once = refl
none_twice-split (Item p ∷ ps) once =
    let parts = and_parts (not (is_in ps (Item p))) (none_twice ps) once in
    and_from (not (is_in (map Item (items_in ps) ++ map Kids (kids_in ps)) (Item p))) _ (ap not (in-split ps (Item p)) ∙ parts.0) (none_twice-split ps parts.1)
none_twice-split (Kids p ∷ ps) once =
    let parts = and_parts (not (is_in ps (Kids p))) (none_twice ps) once in
    none_twice-middle (map Item (items_in ps)) (map Kids (kids_in ps)) (Kids p) (in-split ps (Kids p) ∙ no (is_in ps (Kids p)) parts.0) (none_twice-split ps parts.1)
  where
    no : (b : Bool) → not b ≡ true → b ≡ false
    no true e = absurd (false≢true e)
    no false e = refl

-- ---- what was found between two roots

pub all-asked : (s : SchemaValue) (root : Pair) (found : List Pair) → IsDiscovery (followed All s) root found → IsDiscovery (asked_for s) root found
all-asked s root found discovery = subst (λ asks. IsDiscovery asks root found) (λ j p. filter-all s p (asked_for s p) j) discovery

pub derivation : (s : SchemaValue) (derived base : Text) (roots : NodePair) (found : List Pair) (live met : Pair → Bool) (c : CertificateValue) → MorePairs
    → IsDiscovery (asked_for s) (Item roots) found → IsSettled s found live → IsTrue (live (Item roots)) → IsMet s live (Item roots) met
    → IsListed derived base (filter met found) c → IsDerivation s derived base roots c
derivation s derived base roots found live met c more discovery settled rooted meeting listed = record {
  found = found;
  discovery = discovery;
  reached = met;
  exactly = exactly s (Item roots) found discovery live settled rooted met meeting;
  derived_is = listed.derived_is;
  base_is = listed.base_is;
  items = listed.items ∙ items-in (filter met found);
  kids = listed.kids ∙ kids-in (filter met found);
  rooted = met-rooted s (Item roots) found discovery live settled rooted met meeting;
  right = met-right s (Item roots) found discovery live settled rooted met meeting more;
}

no_wrong : (wrongs : List (Pair × Rule)) (i : ℕ) (d : Pair × Rule) → i ≡ 0 → i < length wrongs → (rest : List (Pair × RuleName)) × (map wrong_seen wrongs ≡ wrong_seen (get_or wrongs i d) ∷ rest)
no_wrong [] i d zero below = absurd (omega (arith, below))
no_wrong (wrong ∷ wrongs) i d zero below = (map wrong_seen wrongs, ap (λ k. wrong_seen (get_or (wrong ∷ wrongs) k d) ∷ map wrong_seen wrongs) (sym zero))

-- the first of those that fail
pub first-wrong : (failing : Pair → Option RuleName) (found : List Pair) (wrongs : List (Pair × Rule)) (d : Pair × Rule) → 0 < length wrongs → map wrong_seen wrongs ≡ all_failing failing found
    → first_in failing found ≡ Some (wrong_seen (get_or wrongs 0 d))
first-wrong failing found wrongs d some is =
    let first = no_wrong wrongs 0 d refl some in
    first-fails failing found (wrong_seen (get_or wrongs 0 d)) first.0 (sym is ∙ first.1)

pub first-named : (named : Named) (s : SchemaValue) (root : Pair) (found : List Pair) (wrongs : List (Pair × Rule)) (d : Pair × Rule) → named ≡ First
    → 0 < length wrongs → map wrong_seen wrongs ≡ all_failing (failing_rule (is_in found) s) found
    → IsNamed named s root found (get_or wrongs 0 d).0 (rule_name (get_or wrongs 0 d).1)
first-named named s root found wrongs d is some are =
    subst (λ (n : Named). IsNamed n s root found (get_or wrongs 0 d).0 (rule_name (get_or wrongs 0 d).1)) (sym is)
    (first-wrong (failing_rule (is_in found) s) found wrongs d some are)

pub refusal : (named : Named) (s : SchemaValue) (roots : NodePair) (found : List Pair) (live : Pair → Bool) (p : Pair) (rule : RuleName)
    → IsDiscovery (asked_for s) (Item roots) found → IsNamed named s (Item roots) found p rule → IsSettled s found live → live (Item roots) ≡ false
    → IsRefusal named s roots p rule
refusal named s roots found live p rule discovery is_named settled gone = record {
  found = found;
  discovery = discovery;
  is_named = is_named;
  none = λ tenable. false≢true (sym gone ∙ settled.keeps (Item roots) (root-found (asked_for s) (Item roots) found discovery) tenable);
}

-- where none fails, all that are found are the certificate
pub all-derived : (s : SchemaValue) (derived base : Text) (roots : NodePair) (found slice : List Pair) (live : PairLists) (c : CertificateValue) → MorePairs
    → IsDiscovery (asked_for s) (Item roots) found → HasAll live found → all_failing (failing_rule (has_pair live) s) found ≡ [] → slice ≡ found
    → IsListed derived base (filter (has_pair live) slice) c → IsDerivation s derived base roots c
all-derived s derived base roots found slice live c more discovery counts none same listed =
    let alike : is_in found ≡ has_pair live = λ j p. sym (counts p) j in
    derivation s derived base roots found (has_pair live) (has_pair live) c more discovery (all-settled s found (has_pair live) counts none)
    (counts (Item roots) ∙ root-found (asked_for s) (Item roots) found discovery)
    (met-alike s (is_in found) (has_pair live) (Item roots) (is_in found) (has_pair live) alike alike (all-met s (Item roots) found discovery))
    (subst (λ ps. IsListed derived base (filter (has_pair live) ps) c) same listed)

pub none-wrong : (wrongs : List (Pair × Rule)) (failing : List (Pair × RuleName)) → length wrongs ≡ 0 → map wrong_seen wrongs ≡ failing → failing ≡ []
none-wrong [] failing e is = sym is
none-wrong (wrong ∷ wrongs) failing e is = absurd (omega (arith, e))

-- what is met of those left is the certificate
pub met-derived : (s : SchemaValue) (derived base : Text) (roots : NodePair) (found slice order : List Pair) (live met : PairLists) (c : CertificateValue) → MorePairs
    → IsDiscovery (asked_for s) (Item roots) found → IsSettled s found (has_pair live) → IsTrue (has_pair live (Item roots))
    → IsDiscovery (λ p. filter (has_pair live) (asked_for s p)) (Item roots) order → HasAll met order → slice ≡ found
    → IsListed derived base (filter (has_pair met) slice) c → IsDerivation s derived base roots c
met-derived s derived base roots found slice order live met c more discovery settled rooted meeting counts same listed =
    derivation s derived base roots found (has_pair live) (has_pair met) c more discovery settled rooted
    (met-alike s (has_pair live) (has_pair live) (Item roots) (is_in order) (has_pair met) refl (λ j p. sym (counts p) j)
    (discovery-met s (has_pair live) (Item roots) order meeting))
    (subst (λ ps. IsListed derived base (filter (has_pair met) ps) c) same listed)

-- ---- nodes of the schema

all-items : (s : SchemaValue) (ps : List Pair) → ((p : Pair) → IsTrue (is_in ps p) → IsTrue (is_of_nodes s p)) → IsTrue (list_all (are_nodes s) (items_in ps))
all-items s [] each = refl
all-items s (Item p ∷ ps) each = and_from (are_nodes s p) _ (each (Item p) (in-here (Item p) ps)) (all-items s ps (λ q h. each q (or_right (same_pair q (Item p)) (is_in ps q) h)))
all-items s (Kids p ∷ ps) each = all-items s ps (λ q h. each q (or_right (same_pair q (Kids p)) (is_in ps q) h))

all-kids : (s : SchemaValue) (ps : List Pair) → ((p : Pair) → IsTrue (is_in ps p) → IsTrue (is_of_nodes s p)) → IsTrue (list_all (are_nodes s) (kids_in ps))
all-kids s [] each = refl
all-kids s (Item p ∷ ps) each = all-kids s ps (λ q h. each q (or_right (same_pair q (Item p)) (is_in ps q) h))
all-kids s (Kids p ∷ ps) each = and_from (are_nodes s p) _ (each (Kids p) (in-here (Kids p) ps)) (all-kids s ps (λ q h. each q (or_right (same_pair q (Kids p)) (is_in ps q) h)))

-- the law of nodes
abbrev pub AskedAreNodes : Type 0
AskedAreNodes =
    (d : Definitions) (p q : Pair) → IsTrue (is_of_nodes (schema_of d) p) → Contains (asked_for (schema_of d) p) q → IsTrue (is_of_nodes (schema_of d) q)

-- ---- what is answered

module _ (s : SchemaValue) (derived base : Text) where
  certificate : (roots : NodePair) → roots_between s derived base ≡ Some roots → (c : CertificateValue) → IsDerivation s derived base roots c → IsCertificate s c
  certificate roots are_roots c d =
      let same : (p : Pair) → is_among c p ≡ is_in (filter d.reached d.found) p = among c (filter d.reached d.found) d.items d.kids in
      record {
        roots = roots;
        are_roots = (λ j. roots_between s (d.derived_is j) (d.base_is j)) ∙ are_roots;
        rooted = same (Item roots) ∙ d.rooted;
        right = subst (IsRight s) (λ j p. sym (same p) j) d.right;
      }

  pub derives : (named : Named) (o : Outcome) → IsOutcomeBetween named s derived base o → (is_some (certificate_of o) ≡ true) ↔ HasCertificate s derived base
  derives named (Derives c) out =
      let d = out.outcome in (
        (λ h. record { roots = out.roots; are_roots = out.are_roots; tenable = record { set = is_in (filter d.reached d.found); has = d.rooted; right = d.right } }),
        (λ h. refl),
      )
  derives named (NoCertificate p rule) out = (
    (λ h. absurd (false≢true h)),
    (λ h. absurd (out.outcome.none (subst (λ n. IsTenable s (Item n)) (same_Some h.roots out.roots (sym h.are_roots ∙ out.are_roots)) h.tenable))),
  )

  pub reached : (named : Named) (o : Outcome) → IsOutcomeBetween named s derived base o → IfSome (certificate_of o) (IsDerived s derived base)
  reached named (Derives c) out =
      let d = out.outcome in
      record {
        roots = out.roots;
        are_roots = out.are_roots;
        found = d.found;
        discovery = d.discovery;
        reached = d.reached;
        exactly = d.exactly;
        derived_is = d.derived_is;
        base_is = d.base_is;
        items = d.items;
        kids = d.kids;
      }
  reached named (NoCertificate p rule) out = tt

  pub once : (named : Named) (o : Outcome) → IsOutcomeBetween named s derived base o → IfSome (certificate_of o) (λ c. none_twice (pairs_of c) ≡ true)
  once named (Derives c) out =
      let d = out.outcome in
      (λ j. none_twice (map Item (d.items j) ++ map Kids (d.kids j)))
      ∙ none_twice-split (filter d.reached d.found) (none_twice-filter d.reached d.found (found-once (asked_for s) (Item out.roots) d.found d.discovery))
  once named (NoCertificate p rule) out = tt

  pub right : (named : Named) (o : Outcome) → IsOutcomeBetween named s derived base o → IfSome (certificate_of o) (IsCertificate s)
  right named (Derives c) out = certificate out.roots out.are_roots c out.outcome
  right named (NoCertificate p rule) out = tt

  pub includes : (named : Named) (o : Outcome) → IsOutcomeBetween named s derived base o → ((c : CertificateValue) → IsCertificate s c → Includes s c.derived c.base)
      → IsTrue (is_some (certificate_of o)) → Includes s derived base
  includes named (Derives c) out law h =
      let d = out.outcome in
      subst (λ b. Includes s derived b) d.base_is (subst (λ n. Includes s n c.base) d.derived_is (law c (certificate out.roots out.are_roots c d)))
  includes named (NoCertificate p rule) out law h = absurd (false≢true h)

  pub refused : (o : Outcome) → IsOutcomeBetween First s derived base o → IfSome (failing_of o) (λ f. IsFirstFailing s derived base f.0 f.1)
  refused (Derives c) out = tt
  refused (NoCertificate p rule) out =
      let r = out.outcome in
      record { roots = out.roots; are_roots = out.are_roots; found = r.found; discovery = r.discovery; first = r.is_named }

  pub blamed : (o : Outcome) → IsOutcomeBetween ToBlame s derived base o → IfSome (failing_of o) (λ f. IsToBlame s derived base f.0 f.1)
  blamed (Derives c) out = tt
  blamed (NoCertificate p rule) out =
      let r = out.outcome in
      record { roots = out.roots; are_roots = out.are_roots; found = r.found; discovery = r.discovery; blamed = r.is_named }

  pub fit : (named : Named) (o : Outcome) → IsOutcomeBetween named s derived base o → AskedAreNodes → (d : Definitions) → s ≡ schema_of d → IfSome (certificate_of o) (λ c. fits s c ≡ true)
  fit named (NoCertificate p rule) out law d is = tt
  fit named (Derives c) out law d is =
      let o = out.outcome in
      let roots = out.roots in
      let asked = subst (λ t. (p q : Pair) → IsTrue (is_of_nodes t p) → Contains (asked_for t p) q → IsTrue (is_of_nodes t q)) (sym is) (law d) in
      let known = both-roots (root s derived) (root s base) roots out.are_roots in
      let reached = filter o.reached o.found in
      let first : IsTrue (is_of_nodes s (Item roots)) = and_from (has s roots.derived) (has s roots.base) (root-known s derived roots.derived known.0) (root-known s base roots.base known.1) in
      let each : (p : Pair) → IsTrue (is_in reached p) → IsTrue (is_of_nodes s p) = λ p h.
      is-found (asked_for s) (Item roots) o.found o.discovery p (kept-in o.reached o.found p h).1 (is_of_nodes s) (record { rooted = first; closed = asked })
      in
      let of_derived : is_some (root s c.derived) ≡ true = ap (λ url. is_some (root s url)) o.derived_is ∙ ap is_some known.0 in
      let of_base : is_some (root s c.base) ≡ true = ap (λ url. is_some (root s url)) o.base_is ∙ ap is_some known.1 in
      let items : list_all (are_nodes s) c.items ≡ true = ap (list_all (are_nodes s)) o.items ∙ all-items s reached each in
      let kids : list_all (are_nodes s) c.kids ≡ true = ap (list_all (are_nodes s)) o.kids ∙ all-kids s reached each in
      λ j. of_derived j && of_base j && items j && kids j
