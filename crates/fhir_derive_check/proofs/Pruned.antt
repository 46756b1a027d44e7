-- What falls, and what is left.
use Rattle.std.proofs.Common.{◌≡◌, ◌<◌, ◌≤◌, ◌+◌, ℕ, arith, Bool, true, false, cond, List, [], ◌∷◌, ◌++◌, refl, sym, ap, subst, ◌∙◌, ◌⊎◌, inl, inr, IsTrue, ◌&&◌, ◌||◌, not, filter, length, take, take-suc, add-one, get_or, map, ◌*◌, ◌^◌, length-append}
use Rattle.std.specs.Prelude.{if◌then◌else◌, Option, None, Some, is_none, option_map}
use Rattle.std.specs.List.{Contains, cons_option}
use Rattle.std.specs.Option.{option_map_or, option_to_list}
use Rattle.std.proofs.lemmas.Bool.{and_parts, and_from, or_cases, or_left, or_right, false≢true, cases_Bool}
use Rattle.std.proofs.lemmas.List.Elements.{filter_map-append}
use Rattle.fhir_elements.specs.Tests.{first_of, all_hold}
use Rattle.fhir_schema.specs.Schemas.{SchemaValue}
use Rattle.fhir_certificate.specs.declared.pair.Pair.{Pair}
use Rattle.fhir_cert_check.specs.Rule.{RuleName}
use Rattle.fhir_cert_check.specs.Rules.{rules_of, failing_rule, is_local}
use Rattle.fhir_cert_check.specs.Checking.{first_in}
use Rattle.fhir_cert_check.specs.declared.rule.Rule.{Rule}
use Rattle.fhir_cert_check.specs.Views.{rule_seen}
use Rattle.fhir_cert_check.specs.Asked.{asked_for}
use Rattle.fhir_cert_check.specs.PairSet.{PairLists, same_pair, has_pair}
use Rattle.fhir_derive_check.specs.Finding.{is_in, IsDiscovery}
use Rattle.fhir_derive_check.specs.Reaching.{IsTenable}
use Rattle.fhir_derive_check.specs.Outcomes.{MorePairs, IsSettled}
use Rattle.fhir_derive_check.specs.Pruning.{all_failing, ListsAskers, IsWithin, HasFallen, waiting_in, IsRevised, IsPruning, wrong_seen}
use Rattle.fhir_derive_check.specs.declared.queue.Queue.{Queue}
use Rattle.fhir_derive_check.proofs.Same.{same-true, same-refl, in-left, in-right, in-cases, in-one, in-here, contained, in-contained}
use Rattle.fhir_derive_check.proofs.Greatest.{tenable-right}

-- ---- rules that fail

no_rule-all_hold : (rules : List (Bool × RuleName)) → is_none (first_of rules) ≡ all_hold rules
no_rule-all_hold [] = refl
no_rule-all_hold (rule ∷ rules) = go rule.0 (no_rule-all_hold rules)
  where
    go : (b : Bool) → is_none (first_of rules) ≡ all_hold rules → is_none (if b then first_of rules else Some rule.1) ≡ (b && all_hold rules)
    go true rest = rest
    go false rest = refl

pub no_rule-local : (live : Pair → Bool) (s : SchemaValue) (p : Pair) → is_none (failing_rule live s p) ≡ is_local live s p
no_rule-local live s p = no_rule-all_hold (rules_of live s p)

module _ (failing : Pair → Option RuleName) where
  with_rule : Pair → Option (Pair × RuleName)
  with_rule p = option_map (λ rule. (p, rule)) (failing p)

  pub all_failing-next : (ps : List Pair) (i : ℕ) (d : Pair) → i < length ps → all_failing failing (take (i + 1) ps) ≡ all_failing failing (take i ps) ++ option_to_list (option_map (λ rule. (get_or ps i d, rule)) (failing (get_or ps i d)))
  all_failing-next ps i d below =
      ap (λ k. all_failing failing (take k ps)) (add-one i) ∙ ap (all_failing failing) (take-suc ps i d below)
      ∙ filter_map-append (λ p. option_map (λ rule. (p, rule)) (failing p)) (take i ps) (get_or ps i d ∷ [])
      ∙ ap (λ l. all_failing failing (take i ps) ++ l) (single (option_map (λ rule. (get_or ps i d, rule)) (failing (get_or ps i d))))
    where
      single : (o : Option (Pair × RuleName)) → cons_option o [] ≡ option_to_list o
      single None = refl
      single (Some x) = refl

  -- where none fails, no rule fails
  pub none-fails : (ps : List Pair) → all_failing failing ps ≡ [] → (p : Pair) → IsTrue (is_in ps p) → failing p ≡ None
  none-fails [] e p h = absurd (false≢true h)
  none-fails (x ∷ xs) e p h = go (failing x) refl e (none-fails xs)
    where
      go : (o : Option RuleName) → failing x ≡ o → cons_option (option_map (λ rule. (x, rule)) o) (all_failing failing xs) ≡ []
          → (all_failing failing xs ≡ [] → (p : Pair) → IsTrue (is_in xs p) → failing p ≡ None) → failing p ≡ None
      go (Some rule) is e rest = absurd (let no : ⊥ = cc in no)
      go None is e rest = elim (or_cases (same_pair p x) (is_in xs p) h) [
        | inl here ↦ ap failing (same-true p x here) ∙ is
        | inr there ↦ rest e p there
      ]

  -- the first of those that fail is the first that fails
  pub first-fails : (ps : List Pair) (wrong : Pair × RuleName) (wrongs : List (Pair × RuleName)) → all_failing failing ps ≡ wrong ∷ wrongs → first_in failing ps ≡ Some wrong
  first-fails [] wrong wrongs e = cc
  first-fails (x ∷ xs) wrong wrongs e = go (failing x) e (first-fails xs wrong wrongs)
    where
      go : (o : Option RuleName) → cons_option (option_map (λ rule. (x, rule)) o) (all_failing failing xs) ≡ wrong ∷ wrongs
          → (all_failing failing xs ≡ wrong ∷ wrongs → first_in failing xs ≡ Some wrong) → option_map_or (λ rule. Some (x, rule)) o (first_in failing xs) ≡ Some wrong
      go None e rest = rest e
      go (Some rule) e rest = ap Some (let same : (x, rule) ≡ wrong = cc in same)

  -- one that fails is listed
  pub listed-fails : (ps : List Pair) (p : Pair) → IsTrue (is_in ps p) → IsTrue (is_in (map (λ wrong. wrong.0) (all_failing failing ps)) p) ⊎ (failing p ≡ None)
  listed-fails [] p h = absurd (false≢true h)
  listed-fails (x ∷ xs) p h = go (failing x) refl (or_cases (same_pair p x) (is_in xs p) h) (listed-fails xs p)
    where
      go : (o : Option RuleName) → failing x ≡ o → IsTrue (same_pair p x) ⊎ IsTrue (is_in xs p)
          → (IsTrue (is_in xs p) → IsTrue (is_in (map (λ wrong. wrong.0) (all_failing failing xs)) p) ⊎ (failing p ≡ None))
          → IsTrue (is_in (map (λ wrong. wrong.0) (cons_option (option_map (λ rule. (x, rule)) o) (all_failing failing xs))) p) ⊎ (failing p ≡ None)
      go None is (inl here) rest = inr (ap failing (same-true p x here) ∙ is)
      go None is (inr there) rest = rest there
      go (Some rule) is (inl here) rest = inl (or_left (same_pair p x) _ here)
      go (Some rule) is (inr there) rest = elim (rest there) [ inl listed ↦ inl (or_right (same_pair p x) _ listed) | inr none ↦ inr none ]

-- ---- those that ask

pub put-kept : (old new : List Pair) (b : Bool) (asker q : Pair) → new ≡ (if b then old ++ asker ∷ [] else old) → IsTrue (is_in old q) → IsTrue (is_in new q)
put-kept old new true asker q e h = subst (λ l. IsTrue (is_in l q)) (sym e) (in-left old (asker ∷ []) q h)
put-kept old new false asker q e h = subst (λ l. IsTrue (is_in l q)) (sym e) h

pub put-there : (old new : List Pair) (p asked asker : Pair) → new ≡ (if same_pair p asked then old ++ asker ∷ [] else old) → p ≡ asked → IsTrue (is_in new asker)
put-there old new p asked asker e same =
    let here : same_pair p asked ≡ true = subst (λ x. IsTrue (same_pair p x)) same (same-refl p) in
    subst (λ l. IsTrue (is_in l asker)) (sym (e ∙ ap (λ b. if b then old ++ asker ∷ [] else old) here)) (in-right old (asker ∷ []) asker (in-here asker []))

pub in-next : (ps : List Pair) (i : ℕ) (d p : Pair) → i < length ps → IsTrue (is_in (take (i + 1) ps) p) → IsTrue (is_in (take i ps) p) ⊎ (p ≡ get_or ps i d)
in-next ps i d p below h =
    elim (in-cases (take i ps) (get_or ps i d ∷ []) p (subst (λ l. IsTrue (is_in l p)) (ap (λ k. take k ps) (add-one i) ∙ take-suc ps i d below) h)) [
      | inl old ↦ inl old
      | inr new ↦ inr (in-one p (get_or ps i d) new)
    ]

-- ---- how many count

no_more : (ps : List Pair) (live now : Pair → Bool) → ((q : Pair) → IsTrue (now q) → IsTrue (live q)) → length (filter now ps) ≤ length (filter live ps)
no_more [] live now less = omega arith
no_more (x ∷ xs) live now less = go (now x) (live x) (less x) (no_more xs live now less)
  where
    go : (a b : Bool) → (IsTrue a → IsTrue b) → length (filter now xs) ≤ length (filter live xs) → length (cond a (x ∷ filter now xs) (filter now xs)) ≤ length (cond b (x ∷ filter live xs) (filter live xs))
    go true true h rest = omega (arith, rest)
    go true false h rest = absurd (false≢true (h refl))
    go false true h rest = omega (arith, rest)
    go false false h rest = rest

pub fewer : (ps : List Pair) (live now : Pair → Bool) (p : Pair) → IsTrue (is_in ps p) → IsTrue (live p) → now p ≡ false → ((q : Pair) → IsTrue (now q) → IsTrue (live q)) → length (filter now ps) < length (filter live ps)
fewer [] live now p here counted gone less = absurd (false≢true here)
fewer (x ∷ xs) live now p here counted gone less =
    elim (or_cases (same_pair p x) (is_in xs p) here) [
      | inl same ↦
          let e = same-true p x same in
          let l : live x ≡ true = ap live (sym e) ∙ counted in
          let n : now x ≡ false = ap now (sym e) ∙ gone in
          let le = no_more xs live now less in
          let a = ap (λ b. length (cond b (x ∷ filter live xs) (filter live xs))) l in
          let b = ap (λ b. length (cond b (x ∷ filter now xs) (filter now xs))) n in
          omega (arith, le, a, b)
      | inr there ↦ go (now x) (live x) (less x) (fewer xs live now p there counted gone less)
    ]
  where
    go : (a b : Bool) → (IsTrue a → IsTrue b) → length (filter now xs) < length (filter live xs) → length (cond a (x ∷ filter now xs) (filter now xs)) < length (cond b (x ∷ filter live xs) (filter live xs))
    go true true h rest = omega (arith, rest)
    go true false h rest = absurd (false≢true (h refl))
    go false true h rest = omega (arith, rest)
    go false false h rest = rest

-- ---- a pair judged again

module _ (s : SchemaValue) (askers : Pair → List Pair) (p : Pair) (live now : PairLists) (list more : List Pair) where
  less : HasFallen s (askers p) p live now list more → (q : Pair) → IsTrue (has_pair now q) → IsTrue (has_pair live q)
  less fallen q h = (and_parts (not (same_pair q p)) (has_pair live q) (sym (fallen.without q) ∙ h)).1

  other : HasFallen s (askers p) p live now list more → (q : Pair) → IsTrue (has_pair now q) → q ≡ p → ⊥
  other fallen q h e =
      let apart = (and_parts (not (same_pair q p)) (has_pair live q) (sym (fallen.without q) ∙ h)).0 in
      false≢true (sym (ap not (subst (λ x. IsTrue (same_pair q x)) e (same-refl q))) ∙ apart)

  gone : HasFallen s (askers p) p live now list more → has_pair now p ≡ false
  gone fallen = fallen.without p ∙ ap (λ b. not b && has_pair live p) (same-refl p)

  pub revised-within : (found : List Pair) → IsRevised s (askers p) p live now list more → IsWithin (has_pair live) found → IsWithin (has_pair now) found
  revised-within found (inl kept) within q h = within q (subst (λ v. IsTrue (has_pair v q)) kept.same_live h)
  revised-within found (inr fallen) within q h = within q (less fallen q h)

  -- fewer count, or fewer are to be judged again
  pub revised-falls : (found : List Pair) → IsRevised s (askers p) p live now list more → IsWithin (has_pair live) found → (length (filter (has_pair now) found) < length (filter (has_pair live) found)) ⊎ ((now ≡ live) × (more ≡ list))
  revised-falls found (inl kept) within = inr (kept.same_live, kept.same_list)
  revised-falls found (inr fallen) within = inl (fewer found (has_pair live) (has_pair now) p (within p fallen.counted) fallen.counted (gone fallen) (less fallen))

  module _ (law : MorePairs) (root : Pair) (found : List Pair) (discovery : IsDiscovery (asked_for s) root found) (lists : ListsAskers s found askers) (within : IsWithin (has_pair live) found) where
    keeps-fallen : HasFallen s (askers p) p live now list more → ((q : Pair) → IsTrue (is_in found q) → IsTenable s q → IsTrue (has_pair live q)) → (q : Pair) → IsTrue (is_in found q) → IsTenable s q → IsTrue (has_pair now q)
    keeps-fallen fallen keeps q here tenable =
        fallen.without q ∙ and_from (not (same_pair q p)) (has_pair live q) apart (keeps q here tenable)
      where
        apart : not (same_pair q p) ≡ true
        apart = elim (cases_Bool (same_pair q p)) [
          | inr other ↦ ap not other
          | inl same ↦
              let e = same-true q p same in
              let right = tenable-right s root found discovery law (has_pair live) keeps q here tenable in
              absurd (false≢true (sym fallen.wrong ∙ subst (λ x. IsTrue (is_local (has_pair live) s x)) e right))
        ]

    right-fallen : HasFallen s (askers p) p live now list more → (q : Pair) → IsTrue (has_pair now q) → IsTrue (is_in (p ∷ list) q) ⊎ IsTrue (is_local (has_pair live) s q) → IsTrue (is_in more q) ⊎ IsTrue (is_local (has_pair now) s q)
    right-fallen fallen q h (inl listed) =
        elim (or_cases (same_pair q p) (is_in list q) listed) [
          | inl same ↦ absurd (other fallen q h (same-true q p same))
          | inr old ↦ inl (fallen.listed q ∙ or_right (is_in (askers p) q) (is_in list q) old)
        ]
    right-fallen fallen q h (inr local) =
        elim (cases_Bool (is_in (asked_for s q) p)) [
          | inl asks ↦ inl (fallen.listed q ∙ or_left (is_in (askers p) q) (is_in list q) (lists p q (within q (less fallen q h)) (contained (asked_for s q) p asks)))
          | inr never ↦ inr (law s (has_pair live) (has_pair now) q
              (λ r asked counted. fallen.without r ∙ and_from (not (same_pair r p)) (has_pair live r) (apart never r asked (cases_Bool (same_pair r p))) counted) local)
        ]
      where
        apart : is_in (asked_for s q) p ≡ false → (r : Pair) → Contains (asked_for s q) r → (same_pair r p ≡ true) ⊎ (same_pair r p ≡ false) → not (same_pair r p) ≡ true
        apart never r asked (inr other) = ap not other
        apart never r asked (inl same) = absurd (false≢true (sym never ∙ subst (λ x. IsTrue (is_in (asked_for s q) x)) (same-true r p same) (in-contained (asked_for s q) r asked)))

    pub revised : IsRevised s (askers p) p live now list more → IsPruning s found (has_pair live) (p ∷ list) → IsPruning s found (has_pair now) more
    revised (inr fallen) before = record {
      keeps = keeps-fallen fallen before.keeps;
      right = λ q h. right-fallen fallen q h (before.right q (less fallen q h));
    }
    revised (inl kept) before =
        subst (λ v. IsPruning s found (has_pair v) more) (sym kept.same_live) (subst (IsPruning s found (has_pair live)) (sym kept.same_list) (record {
          keeps = before.keeps;
          right = λ q h. elim (before.right q h) [
            | inr local ↦ inr local
            | inl listed ↦ elim (or_cases (same_pair q p) (is_in list q) listed) [
              | inl same ↦ let e = same-true q p same in inr (subst (λ x. IsTrue (is_local (has_pair live) s x)) (sym e) (kept.right (subst (λ x. IsTrue (has_pair live x)) e h)))
              | inr old ↦ inl old
            ]
          ];
        }))

-- ---- from first to last

-- in the beginning those that fail are to be judged again
pub pruning-start : (s : SchemaValue) (found : List Pair) (live : Pair → Bool) (list : List Pair) → ((p : Pair) → live p ≡ is_in found p) → list ≡ map (λ wrong. wrong.0) (all_failing (failing_rule live s) found) → IsPruning s found live list
pruning-start s found live list counts is = record {
  keeps = λ p here tenable. counts p ∙ here;
  right = λ p h. elim (listed-fails (failing_rule live s) found p (sym (counts p) ∙ h)) [
    | inl listed ↦ inl (subst (λ l. IsTrue (is_in l p)) (sym is) listed)
    | inr none ↦ inr (sym (no_rule-local live s p) ∙ ap is_none none)
  ];
}

-- the same pairs in a queue, each once
pub pruning-queued : (s : SchemaValue) (found : List Pair) (live : Pair → Bool) (list queue : List Pair) → ((p : Pair) → is_in queue p ≡ (is_in list p || false)) → IsPruning s found live list → IsPruning s found live queue
pruning-queued s found live list queue is pruning = record {
  keeps = pruning.keeps;
  right = λ p h. elim (pruning.right p h) [
    | inl listed ↦ inl (is p ∙ or_left (is_in list p) false listed)
    | inr local ↦ inr local
  ];
}

pub pruning-end : (s : SchemaValue) (found : List Pair) (live : Pair → Bool) → IsWithin live found → IsPruning s found live [] → IsSettled s found live
pruning-end s found live within pruning = record {
  within = within;
  keeps = pruning.keeps;
  right = λ p h. elim (pruning.right p h) [ inl listed ↦ absurd (false≢true listed) | inr local ↦ local ];
}

-- where none fails, each is right
pub all-settled : (s : SchemaValue) (found : List Pair) (live : Pair → Bool) → ((p : Pair) → live p ≡ is_in found p) → all_failing (failing_rule live s) found ≡ [] → IsSettled s found live
all-settled s found live counts none = record {
  within = λ p h. sym (counts p) ∙ h;
  keeps = λ p here tenable. counts p ∙ here;
  right = λ p h. sym (no_rule-local live s p) ∙ ap is_none (none-fails (failing_rule live s) found none p (sym (counts p) ∙ h));
}

-- ---- rules as they are seen

pub none-seen : (rule : Option Rule) (name : Option RuleName) → rule_seen rule ≡ name → is_none rule ≡ is_none name
none-seen None name e = ap is_none e
none-seen (Some rule) name e = ap is_none e

pub pairs-seen : (wrongs : List (Pair × Rule)) → map (λ wrong. wrong.0) wrongs ≡ map (λ wrong. wrong.0) (map wrong_seen wrongs)
pairs-seen [] = refl
pairs-seen (wrong ∷ wrongs) = ap (λ l. wrong.0 ∷ l) (pairs-seen wrongs)

-- ---- the measure: how many count, and then how many are to be judged again

room : (queue : Queue) → length (waiting_in queue) < 2 ^ 64
room queue = omega (arith, length-append queue.soon.items queue.late.items, queue.soon.ok.0, queue.soon.small.0, queue.soon.small.1, queue.late.ok.0, queue.late.small.0, queue.late.small.1)

pub measure-falls : (s : SchemaValue) (askers : Pair → List Pair) (p : Pair) (live now : PairLists) (list rest : List Pair) (more : Queue) (found : List Pair)
    → IsRevised s (askers p) p live now rest (waiting_in more) → IsWithin (has_pair live) found → list ≡ p ∷ rest
    → length (filter (has_pair now) found) * 2 ^ 64 + length (waiting_in more) < length (filter (has_pair live) found) * 2 ^ 64 + length list
measure-falls s askers p live now list rest more found revised within taken =
    let short = room more in
    let long = ap length taken in
    elim (revised-falls s askers p live now rest (waiting_in more) found revised within) [
      | inl less ↦ omega (arith, less, short)
      | inr same ↦
          let a = ap (λ v. length (filter (has_pair v) found)) same.0 in
          let b = ap length same.1 in
          omega (arith, a, b, long)
    ]
