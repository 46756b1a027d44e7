-- The order of pairs, by which a map finds them, answers `Equal` on equal pairs alone.
use Rattle.std.proofs.Common.{◌≡◌, Bool, true, false, refl, sym, ap, cond, ◌&&◌, ◌∙◌, subst, nat_eq, IsTrue, Some}
use Rattle.std.specs.BTreeMap.{BTreeMap, get, is_at, Updates}
use Rattle.std.specs.Cmp.{both_tied, unsigned_tied}
use Rattle.std.proofs.lemmas.Bool.{and_parts, eqb-true}
use Rattle.fhir_nodes.specs.declared.node.NodeRef.{NodeRef}
use Rattle.fhir_validator.specs.declared.pair.ItemPair.{ItemPair}
use Rattle.fhir_validator.specs.contracts.pair.ItemPairOrd.TheImpl.{cmp-value}

abbrev pub same_node : NodeRef → NodeRef → Bool
same_node n m = nat_eq n.definition m.definition && nat_eq n.element m.element

abbrev pub same_pair : ItemPair → ItemPair → Bool
same_pair p q = nat_eq p.item q.item && same_node p.node q.node

pub is_at_pair : (p q : ItemPair) → is_at (cmp-value.it p) q ≡ same_pair p q
is_at_pair p q =
    sym (both_tied _ _ _ _ (sym (unsigned_tied p.item q.item))
    (both_tied _ _ _ _ (sym (unsigned_tied p.node.definition q.node.definition)) (sym (unsigned_tied p.node.element q.node.element))))

pub same_pair-true : (p q : ItemPair) → IsTrue (same_pair p q) → p ≡ q
same_pair-true p q h =
    let k = and_parts (nat_eq p.item q.item) (same_node p.node q.node) h in
    let l = and_parts (nat_eq p.node.definition q.node.definition) (nat_eq p.node.element q.node.element) k.1 in
    let a = eqb-true p.item q.item k.0 in
    let d = eqb-true p.node.definition q.node.definition l.0 in
    let e = eqb-true p.node.element q.node.element l.1 in
    λ i. record { item = a i; node = record { definition = d i; element = e i } }

-- what holds of each entry, and of the one that is put in, holds of each entry then
pub all_put : {A : Type 0} (P : ItemPair → A → Type 0) (old new : BTreeMap ItemPair A) (p : ItemPair) (a : A) → Updates cmp-value.it old new p (Some a)
    → P p a → ((q : ItemPair) (b : A) → get cmp-value.it old q ≡ Some b → P q b)
    → (q : ItemPair) (b : A) → get cmp-value.it new q ≡ Some b → P q b
all_put {A} P old new p a updates here each q b is = by_case (is_at (cmp-value.it p) q) refl
  where
    by_case : (t : Bool) → is_at (cmp-value.it p) q ≡ t → P q b
    by_case true same =
        let e : cond true (Some a) (get cmp-value.it old q) ≡ Some b = ap (λ t. cond t (Some a) (get cmp-value.it old q)) (sym same) ∙ sym (updates.0 q) ∙ is in
        let f : a ≡ b = cc in
        subst (P q) f (subst (λ p. P p a) (same_pair-true p q (sym (is_at_pair p q) ∙ same)) here)
    by_case false other =
        each q b (ap (λ t. cond t (Some a) (get cmp-value.it old q)) (sym other) ∙ sym (updates.0 q) ∙ is)
