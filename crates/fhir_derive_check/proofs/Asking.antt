-- Those that ask for a pair, listed with it in a map.
use Rattle.std.proofs.Common.{◌≡◌, true, false, cond, [], ◌∷◌, ◌++◌, sym, ap, subst, ◌∙◌, inl, inr, IsTrue}
use Rattle.std.specs.Prelude.{if◌then◌else◌, Option, None, Some, Vec}
use Rattle.std.specs.declared.alloc.Global.{Global}
use Rattle.std.specs.Option.{option_map_or}
use Rattle.std.specs.BTreeMap.{BTreeMap, get_by, is_at}
use Rattle.std.specs.Cmp.{both_tied, unsigned_tied}
use Rattle.std.proofs.lemmas.Bool.{false≢true, cases_Bool}
use Rattle.fhir_certificate.specs.declared.pair.NodePair.{NodePair}
use Rattle.fhir_certificate.specs.declared.pair.Pair.{Pair}
use Rattle.fhir_certificate.specs.contracts.pair.NodePairOrd.TheImpl.{cmp-value}
use Rattle.fhir_cert_check.specs.Checking.{same_nodes}
use Rattle.fhir_derive_check.specs.Pruning.{askers_at}
use Rattle.fhir_derive_check.proofs.Same.{same_nodes-true, same_nodes-refl}

-- the order of pairs answers `Equal` exactly on equal pairs
is_at_pair : (p q : NodePair) → is_at (cmp-value.it p) q ≡ same_nodes p q
is_at_pair p q =
    sym (both_tied _ _ _ _
    (both_tied _ _ _ _ (sym (unsigned_tied p.derived.definition q.derived.definition)) (sym (unsigned_tied p.derived.element q.derived.element)))
    (both_tied _ _ _ _ (sym (unsigned_tied p.base.definition q.base.definition)) (sym (unsigned_tied p.base.element q.base.element))))

-- one more that asks for these nodes
pub asker-put : (old : BTreeMap NodePair (Vec Pair Global)) (found : Option (Vec Pair Global)) (nodes other : NodePair) (asker : Pair) (more : Vec Pair Global)
    → found ≡ cond (is_at (cmp-value.it nodes) other) (Some more) (get_by (cmp-value.it other) old)
    → more.items ≡ askers_at old nodes ++ asker ∷ []
    → option_map_or (λ ps. ps.items) found [] ≡ (if same_nodes other nodes then askers_at old other ++ asker ∷ [] else askers_at old other)
asker-put old found nodes other asker more update items =
    elim (cases_Bool (same_nodes other nodes)) [
      | inl same ↦
          let e = same_nodes-true other nodes same in
          let here : is_at (cmp-value.it nodes) other ≡ true = is_at_pair nodes other ∙ ap (same_nodes nodes) e ∙ same_nodes-refl nodes in
          ap (λ o. option_map_or (λ ps. ps.items) o []) (update ∙ ap (λ b. cond b (Some more) (get_by (cmp-value.it other) old)) here) ∙ items
          ∙ ap (λ n. askers_at old n ++ asker ∷ []) (sym e)
          ∙ sym (ap (λ b. if b then askers_at old other ++ asker ∷ [] else askers_at old other) same)
      | inr apart ↦
          let gone : is_at (cmp-value.it nodes) other ≡ false = elim (cases_Bool (same_nodes nodes other)) [
            | inl same ↦ absurd (false≢true (sym apart ∙ subst (λ n. IsTrue (same_nodes n nodes)) (same_nodes-true nodes other same) (same_nodes-refl nodes)))
            | inr other_apart ↦ is_at_pair nodes other ∙ other_apart
          ]
          in
          ap (λ o. option_map_or (λ ps. ps.items) o []) (update ∙ ap (λ b. cond b (Some more) (get_by (cmp-value.it other) old)) gone)
          ∙ sym (ap (λ b. if b then askers_at old other ++ asker ∷ [] else askers_at old other) apart)
    ]

-- what stands at a key, and one more
pub one-more : (o : Option (Vec Pair Global)) (none was more : Vec Pair Global) (asker : Pair) → none.items ≡ [] → was ≡ option_map_or (λ v. v) o none → more.items ≡ was.items ++ asker ∷ [] → more.items ≡ option_map_or (λ ps. ps.items) o [] ++ asker ∷ []
one-more None none was more asker empty is pushed = pushed ∙ ap (λ v. v.items ++ asker ∷ []) is ∙ ap (λ l. l ++ asker ∷ []) empty
one-more (Some v) none was more asker empty is pushed = pushed ∙ ap (λ v. v.items ++ asker ∷ []) is
