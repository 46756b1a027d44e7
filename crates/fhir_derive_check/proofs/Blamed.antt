-- Which pair is to blame: the ways down from the pair of the roots, and that one that fails lies there.
use Rattle.std.proofs.Common.{◌≡◌, Bool, true, false, cond, List, [], ◌∷◌, refl, sym, ap, ◌∙◌, inl, inr, IsTrue, ◌||◌, ◌&&◌, not, filter, map}
use Rattle.std.specs.Prelude.{Option, None, Some, is_none}
use Rattle.std.specs.List.{Contains, find, cons_option}
use Rattle.std.specs.Option.{option_map, option_map_or}
use Rattle.std.proofs.lemmas.Bool.{and_parts, and_from, or_cases, or_left, or_right, false≢true, cases_Bool}
use Rattle.fhir_schema.specs.Schemas.{SchemaValue}
use Rattle.fhir_certificate.specs.declared.pair.Pair.{Pair}
use Rattle.fhir_cert_check.specs.Rule.{RuleName}
use Rattle.fhir_cert_check.specs.declared.rule.Rule.{Rule}
use Rattle.fhir_cert_check.specs.Rules.{failing_rule, is_local}
use Rattle.fhir_cert_check.specs.Checking.{IsRight, first_in}
use Rattle.fhir_cert_check.specs.Asked.{asked_for}
use Rattle.fhir_cert_check.specs.PairSet.{PairLists, same_pair, has_pair}
use Rattle.fhir_cert_check.specs.Views.{rule_name}
use Rattle.fhir_derive_check.specs.Finding.{is_in, IsDiscovery}
use Rattle.fhir_derive_check.specs.Blaming.{is_spare, IsOnTheWay, IsBlamed}
use Rattle.fhir_derive_check.specs.Discovering.{HasAll}
use Rattle.fhir_derive_check.specs.Outcomes.{MorePairs, IsSettled}
use Rattle.fhir_derive_check.specs.Pruning.{wrong_seen, all_failing}
use Rattle.fhir_derive_check.proofs.Same.{same-true, in-kept, kept-in, contained, in-contained}
use Rattle.fhir_derive_check.proofs.Found.{root-found, closed, is-found}
use Rattle.fhir_derive_check.proofs.Greatest.{asked-found}
use Rattle.fhir_derive_check.proofs.Pruned.{no_rule-local}
use Rattle.fhir_derive_check.proofs.Spare.{no, own-enough}

-- ---- the first of those that fail

module _ (failing : Pair → Option RuleName) (way : Pair → Bool) where
  seen-find : (wrongs : List (Pair × Rule)) → option_map wrong_seen (find (λ wrong. way wrong.0) wrongs) ≡ find (λ wrong. way wrong.0) (map wrong_seen wrongs)
  seen-find [] = refl
  seen-find (wrong ∷ wrongs) = go (way wrong.0) (seen-find wrongs)
    where
      go : (b : Bool) → option_map wrong_seen (find (λ wrong. way wrong.0) wrongs) ≡ find (λ wrong. way wrong.0) (map wrong_seen wrongs)
          → option_map wrong_seen (cond b (Some wrong) (find (λ wrong. way wrong.0) wrongs)) ≡ cond b (Some (wrong_seen wrong)) (find (λ wrong. way wrong.0) (map wrong_seen wrongs))
      go true rest = refl
      go false rest = rest

  listed-find : (ps : List Pair) → find (λ wrong. way wrong.0) (all_failing failing ps) ≡ first_in failing (filter way ps)
  listed-find [] = refl
  listed-find (x ∷ xs) = go (failing x) refl (way x) refl (listed-find xs)
    where
      none : List Pair → Option RuleName → Option (Pair × RuleName)
      none ps o = option_map_or (λ rule. Some (x, rule)) o (first_in failing ps)

      go : (o : Option RuleName) → failing x ≡ o → (b : Bool) → way x ≡ b → find (λ wrong. way wrong.0) (all_failing failing xs) ≡ first_in failing (filter way xs)
          → find (λ wrong. way wrong.0) (cons_option (option_map (λ rule. (x, rule)) o) (all_failing failing xs)) ≡ first_in failing (cond b (x ∷ filter way xs) (filter way xs))
      go None is true on rest = rest ∙ sym (ap (none (filter way xs)) is)
      go None is false on rest = rest
      go (Some rule) is true on rest = ap (λ b. cond b (Some (x, rule)) (find (λ wrong. way wrong.0) (all_failing failing xs))) on ∙ sym (ap (none (filter way xs)) is)
      go (Some rule) is false on rest = ap (λ b. cond b (Some (x, rule)) (find (λ wrong. way wrong.0) (all_failing failing xs))) on ∙ rest

  first-found : (found : List Pair) (wrongs : List (Pair × Rule)) → map wrong_seen wrongs ≡ all_failing failing found
      → first_in failing (filter way found) ≡ option_map wrong_seen (find (λ wrong. way wrong.0) wrongs)
  first-found found wrongs is = sym (seen-find wrongs ∙ ap (find (λ wrong. way wrong.0)) is ∙ listed-find found)

none-first : (failing : Pair → Option RuleName) (ps : List Pair) → first_in failing ps ≡ None → (p : Pair) → IsTrue (is_in ps p) → failing p ≡ None
none-first failing [] e p h = absurd (false≢true h)
none-first failing (x ∷ xs) e p h = go (failing x) refl e (none-first failing xs)
  where
    go : (o : Option RuleName) → failing x ≡ o → option_map_or (λ rule. Some (x, rule)) o (first_in failing xs) ≡ None
        → (first_in failing xs ≡ None → (p : Pair) → IsTrue (is_in xs p) → failing p ≡ None) → failing p ≡ None
    go (Some rule) is e rest = absurd (let no : ⊥ = cc in no)
    go None is e rest = elim (or_cases (same_pair p x) (is_in xs p) h) [
      | inl here ↦ ap failing (same-true p x here) ∙ is
      | inr there ↦ rest e p there
    ]

-- ---- the ways down

-- what a pair asks for outside of a set, but for spare ones
abbrev pub down_from : SchemaValue → (Pair → Bool) → Pair → List Pair
down_from s live p = filter (λ q. not (is_spare s p q) && not (live q)) (asked_for s p)

module _ (s : SchemaValue) (root : Pair) (found : List Pair) (discovery : IsDiscovery (asked_for s) root found)
    (live : Pair → Bool) (settled : IsSettled s found live) (order : List Pair) (down : IsDiscovery (down_from s live) root order) where
  abbrev goes : Pair → Pair → Bool
  goes p q = not (is_spare s p q) && not (live q)

  asked-of : (p q : Pair) → Contains (down_from s live p) q → IsTrue (goes p q) × Contains (asked_for s p) q
  asked-of p q asked =
      let parts = kept-in (goes p) (asked_for s p) q (in-contained (down_from s live p) q asked) in
      (parts.0, contained (asked_for s p) q parts.1)

  way-found : (p : Pair) → IsTrue (is_in order p) → IsTrue (is_in found p)
  way-found p h = is-found (down_from s live) root order down p h (is_in found) (record {
    rooted = root-found (asked_for s) root found discovery;
    closed = λ x y here asked. asked-found s root found discovery x y here (asked-of x y asked).1;
  })

  way-on : (p : Pair) → IsTrue (is_in order p) → IsOnTheWay s root p
  way-on p h set steps =
      (and_parts (set p) (is_in found p) (is-found (down_from s live) root order down p h (λ q. set q && is_in found q) (record {
        rooted = and_from (set root) (is_in found root) steps.rooted (root-found (asked_for s) root found discovery);
        closed = λ x y here asked.
            let parts = and_parts (set x) (is_in found x) here in
            let of = asked-of x y asked in
            let apart = and_parts (not (is_spare s x y)) (not (live y)) of.0 in
            let there = asked-found s root found discovery x y parts.1 of.1 in
            and_from (set y) (is_in found y)
            (steps.closed x y parts.0 of.1 (no (is_spare s x y) apart.0) (λ tenable. false≢true (sym (ap not (settled.keeps y there tenable)) ∙ apart.1)))
            there;
      }))).0

  way-closed : (p q : Pair) → IsTrue (is_in order p) → Contains (asked_for s p) q → is_spare s p q ≡ false → live q ≡ false → IsTrue (is_in order q)
  way-closed p q here asked apart gone =
      closed (down_from s live) root order down p q here
      (in-kept (goes p) (asked_for s p) q (and_from (not (is_spare s p q)) (not (live q)) (ap not apart) (ap not gone)) (in-contained (asked_for s p) q asked))

  on-way : (p : Pair) → IsOnTheWay s root p → IsTrue (is_in order p)
  on-way p reached = reached (is_in order) (record {
    rooted = root-found (down_from s live) root order down;
    closed = λ x y here asked apart untenable. way-closed x y here asked apart (elim (cases_Bool (live y)) [
      | inl alive ↦ absurd (untenable (record { set = live; has = alive; right = settled.right }))
      | inr gone ↦ gone
    ]);
  })

  -- where those on the ways down were all right, the pair of the roots were tenable
  way-fails : MorePairs → live root ≡ false → ((p : Pair) → IsTrue (is_in order p) → IsTrue (is_local (is_in found) s p)) → ⊥
  way-fails more fallen local =
      let set : Pair → Bool = λ p. live p || is_in order p in
      let right : IsRight s set = λ p h. elim (or_cases (live p) (is_in order p) h) [
        | inl alive ↦ more s live set p (λ q asked here. or_left (live q) (is_in order q) here) (settled.right p alive)
        | inr here ↦ own-enough more s (is_in found) set p (λ q asked. asked-found s root found discovery p q (way-found p here) asked)
            (λ q asked apart. elim (cases_Bool (live q)) [
              | inl alive ↦ or_left (live q) (is_in order q) alive
              | inr gone ↦ or_right (live q) (is_in order q) (way-closed p q here asked apart gone)
            ]) (local p here)
      ] in
      false≢true (sym fallen ∙ settled.keeps root (root-found (asked_for s) root found discovery)
      (record { set = set; has = or_right (live root) (is_in order root) (root-found (down_from s live) root order down); right = right }))

  module _ (way : PairLists) (counts : HasAll way order) (wrongs : List (Pair × Rule)) (are : map wrong_seen wrongs ≡ all_failing (failing_rule (is_in found) s) found) where
    pub is-blamed : (wrong : Pair × Rule) → find (λ wrong. has_pair way wrong.0) wrongs ≡ Some wrong → IsBlamed s root found wrong.0 (rule_name wrong.1)
    is-blamed wrong is = record {
      way = has_pair way;
      exactly = λ q. ((λ h. way-on q (sym (counts q) ∙ h)), (λ reached. counts q ∙ on-way q reached));
      fails = first-found (failing_rule (is_in found) s) (has_pair way) found wrongs are ∙ ap (option_map wrong_seen) is;
    }

    pub none-blamed : MorePairs → live root ≡ false → find (λ wrong. has_pair way wrong.0) wrongs ≡ None → ⊥
    none-blamed more fallen is =
        let failing = failing_rule (is_in found) s in
        let none : first_in failing (filter (has_pair way) found) ≡ None = first-found failing (has_pair way) found wrongs are ∙ ap (option_map wrong_seen) is in
        way-fails more fallen (λ p h. sym (no_rule-local (is_in found) s p)
        ∙ ap is_none (none-first failing (filter (has_pair way) found) none p (in-kept (has_pair way) found p (counts p ∙ h) (way-found p h))))
