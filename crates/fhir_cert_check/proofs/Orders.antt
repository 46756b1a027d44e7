-- The order of pairs, by which a set finds them, answers `Equal` exactly on equal pairs.
use Rattle.std.proofs.Common.{◌≡◌, ℕ, Bool, true, false, List, [], ◌∷◌, ◌++◌, refl, sym, ap, cond, not, ◌&&◌, ◌||◌, ◌∙◌, nat_eq, arith, IsTrue}
use Rattle.std.specs.List.{list_any}
use Rattle.std.specs.BTreeMap.{is_at}
use Rattle.std.specs.Cmp.{both_tied, unsigned_tied}
use Rattle.std.proofs.lemmas.Bool.{and_parts, and_from, eqb-true, eq-eqb}
use Rattle.std.proofs.lemmas.List.Folds.{list_any-append}
use Rattle.fhir_nodes.specs.declared.node.NodeRef.{NodeRef}
use Rattle.fhir_certificate.specs.declared.pair.NodePair.{NodePair}
use Rattle.fhir_certificate.specs.contracts.pair.NodePairOrd.TheImpl.{cmp-value}
use Rattle.fhir_cert_check.specs.Checking.{same_node, same_nodes}
use Rattle.fhir_cert_check.specs.PairSet.{AreSame}

pub is_at_pair : (p q : NodePair) → is_at (cmp-value.it p) q ≡ same_nodes p q
is_at_pair p q =
    sym (both_tied _ _ _ _
    (both_tied _ _ _ _ (sym (unsigned_tied p.derived.definition q.derived.definition)) (sym (unsigned_tied p.derived.element q.derived.element)))
    (both_tied _ _ _ _ (sym (unsigned_tied p.base.definition q.base.definition)) (sym (unsigned_tied p.base.element q.base.element))))

pub any_at_pair : (p : NodePair) (ps : List NodePair) → list_any (is_at (cmp-value.it p)) ps ≡ list_any (same_nodes p) ps
any_at_pair p ps = ap (λ f. list_any f ps) (λ j q. is_at_pair p q j)

nat_eq-back : (a b : ℕ) → nat_eq a b ≡ nat_eq b a
nat_eq-back a b = grind arith

same_node_back : (n m : NodeRef) → same_node n m ≡ same_node m n
same_node_back n m = λ i. nat_eq-back n.definition m.definition i && nat_eq-back n.element m.element i

same_nodes_back : (p q : NodePair) → same_nodes p q ≡ same_nodes q p
same_nodes_back p q = λ i. same_node_back p.derived q.derived i && same_node_back p.base q.base i

same_node-true : (n m : NodeRef) → IsTrue (same_node n m) → n ≡ m
same_node-true n m h =
    let p = and_parts (nat_eq n.definition m.definition) (nat_eq n.element m.element) h in
    let d = eqb-true n.definition m.definition p.0 in
    let e = eqb-true n.element m.element p.1 in
    λ i. record { definition = d i; element = e i }

pub same_nodes-true : (p q : NodePair) → IsTrue (same_nodes p q) → p ≡ q
same_nodes-true p q h =
    let k = and_parts (same_node p.derived q.derived) (same_node p.base q.base) h in
    let d = same_node-true p.derived q.derived k.0 in
    let b = same_node-true p.base q.base k.1 in
    λ i. record { derived = d i; base = b i }

same_node-refl : (n : NodeRef) → IsTrue (same_node n n)
same_node-refl n =
    and_from (nat_eq n.definition n.definition) (nat_eq n.element n.element)
    (eq-eqb n.definition n.definition refl) (eq-eqb n.element n.element refl)

pub same_nodes-refl : (p : NodePair) → IsTrue (same_nodes p p)
same_nodes-refl p =
    and_from (same_node p.derived p.derived) (same_node p.base p.base) (same_node-refl p.derived) (same_node-refl p.base)

-- where a pair is put in, or taken out, the others stay
pub with_pair : (old new : List NodePair) (p : NodePair) (here : Bool)
    → ((q : NodePair) → list_any (is_at (cmp-value.it q)) new ≡ cond (is_at (cmp-value.it p) q) here (list_any (is_at (cmp-value.it q)) old))
    → (q : NodePair) → list_any (same_nodes q) new ≡ cond (same_nodes q p) here (list_any (same_nodes q) old)
with_pair old new p here updates q =
    sym (any_at_pair q new) ∙ updates q ∙ (λ j. cond ((is_at_pair p q ∙ same_nodes_back p q) j) here (any_at_pair q old j))

pub put_or : (a b : Bool) → cond a true b ≡ (a || b)
put_or true b = refl
put_or false b = refl

pub taken_and : (a b : Bool) → cond a false b ≡ (not a && b)
taken_and true b = refl
taken_and false b = refl

-- one pair more in the set, and one more of the list
pub one_more : (old new ps : List NodePair) (p : NodePair)
    → ((q : NodePair) → list_any (is_at (cmp-value.it q)) new ≡ cond (is_at (cmp-value.it p) q) true (list_any (is_at (cmp-value.it q)) old)) → AreSame old ps
    → AreSame new (ps ++ p ∷ [])
one_more old new ps p updates same q =
    with_pair old new p true updates q
    ∙ (λ j. cond (same_nodes q p) true (same q j))
    ∙ either (same_nodes q p) (list_any (same_nodes q) ps)
    ∙ sym (list_any-append (same_nodes q) ps (p ∷ []))
  where
    either : (a b : Bool) → cond a true b ≡ (b || (a || false))
    either true true = refl
    either true false = refl
    either false true = refl
    either false false = refl
