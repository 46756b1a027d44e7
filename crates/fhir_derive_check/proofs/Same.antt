-- The test of pairs answers `true` exactly on equal pairs; what is in a list, and what a list contains.
use Rattle.std.proofs.Common.{◌≡◌, ◌<◌, ℕ, zero, suc, arith, Bool, true, false, List, [], ◌∷◌, ◌++◌, refl, sym, ap, subst, ◌∙◌, ◌⊎◌, inl, inr, IsTrue, ◌||◌, cond, filter, nat_eq, length}
use Rattle.std.specs.List.{Contains, flat_map, slice_index_or}
use Rattle.std.specs.Prelude.{slice_get, Some}
use Rattle.std.proofs.lemmas.Option.{none-some, same_Some}
use Rattle.std.proofs.lemmas.Bool.{and_parts, and_from, or_cases, or_left, or_right, false≢true, eqb-true, eq-eqb}
use Rattle.std.proofs.lemmas.List.Folds.{list_any-append}
use Rattle.std.proofs.lemmas.Map.Views.{Contains-from_any}
use Rattle.fhir_nodes.specs.declared.node.NodeRef.{NodeRef}
use Rattle.fhir_certificate.specs.declared.pair.NodePair.{NodePair}
use Rattle.fhir_certificate.specs.declared.pair.Pair.{Pair}
use Rattle.fhir_certificate.specs.declared.pair.Pair.TheVariants.{Item, Kids}
use Rattle.fhir_cert_check.specs.Checking.{same_node, same_nodes}
use Rattle.fhir_cert_check.specs.PairSet.{same_pair}
use Rattle.fhir_derive_check.specs.Finding.{is_in}

same_node-true : (n m : NodeRef) → IsTrue (same_node n m) → n ≡ m
same_node-true n m h =
    let p = and_parts (nat_eq n.definition m.definition) (nat_eq n.element m.element) h in
    let d = eqb-true n.definition m.definition p.0 in
    let e = eqb-true n.element m.element p.1 in
    λ i. record { definition = d i; element = e i }

pub same_nodes-true : (p q : NodePair) → IsTrue (same_nodes p q) → p ≡ q
same_nodes-true p q h =
    let k = and_parts (same_node p.derived q.derived) (same_node p.base q.base) h in
    let d = same_node-true p.derived q.derived k.0 in
    let b = same_node-true p.base q.base k.1 in
    λ i. record { derived = d i; base = b i }

pub same_node-refl : (n : NodeRef) → IsTrue (same_node n n)
same_node-refl n =
    and_from (nat_eq n.definition n.definition) (nat_eq n.element n.element)
    (eq-eqb n.definition n.definition refl) (eq-eqb n.element n.element refl)

pub same_nodes-refl : (p : NodePair) → IsTrue (same_nodes p p)
same_nodes-refl p =
    and_from (same_node p.derived p.derived) (same_node p.base p.base) (same_node-refl p.derived) (same_node-refl p.base)

pub same-true : (p q : Pair) → IsTrue (same_pair p q) → p ≡ q
same-true (Item p) (Item q) h = ap Item (same_nodes-true p q h)
same-true (Kids p) (Kids q) h = ap Kids (same_nodes-true p q h)
same-true (Item p) (Kids q) h = absurd (false≢true h)
same-true (Kids p) (Item q) h = absurd (false≢true h)

pub same-refl : (p : Pair) → IsTrue (same_pair p p)
same-refl (Item p) = same_nodes-refl p
same-refl (Kids p) = same_nodes-refl p

pub same-of : (p q : Pair) → p ≡ q → IsTrue (same_pair p q)
same-of p q e = subst (λ x. IsTrue (same_pair p x)) e (same-refl p)

-- ---- in a list

pub in-append : (xs ys : List Pair) (p : Pair) → is_in (xs ++ ys) p ≡ (is_in xs p || is_in ys p)
in-append xs ys p = list_any-append (same_pair p) xs ys

pub in-left : (xs ys : List Pair) (p : Pair) → IsTrue (is_in xs p) → IsTrue (is_in (xs ++ ys) p)
in-left xs ys p h = in-append xs ys p ∙ or_left (is_in xs p) (is_in ys p) h

pub in-right : (xs ys : List Pair) (p : Pair) → IsTrue (is_in ys p) → IsTrue (is_in (xs ++ ys) p)
in-right xs ys p h = in-append xs ys p ∙ or_right (is_in xs p) (is_in ys p) h

pub in-cases : (xs ys : List Pair) (p : Pair) → IsTrue (is_in (xs ++ ys) p) → IsTrue (is_in xs p) ⊎ IsTrue (is_in ys p)
in-cases xs ys p h = or_cases (is_in xs p) (is_in ys p) (sym (in-append xs ys p) ∙ h)

pub in-one : (p q : Pair) → IsTrue (is_in (q ∷ []) p) → p ≡ q
in-one p q h = elim (or_cases (same_pair p q) false h) [ inl same ↦ same-true p q same | inr never ↦ absurd (false≢true never) ]

pub in-here : (p : Pair) (ps : List Pair) → IsTrue (is_in (p ∷ ps) p)
in-here p ps = or_left (same_pair p p) (is_in ps p) (same-refl p)

pub contained : (ps : List Pair) (p : Pair) → IsTrue (is_in ps p) → Contains ps p
contained ps p h = Contains-from_any (λ x y e. same-true x y e) p ps h

pub in-contained : (ps : List Pair) (p : Pair) → Contains ps p → IsTrue (is_in ps p)
in-contained ps p h = go ps h.0 h.1 h.2
  where
    go : (xs : List Pair) (k : ℕ) → k < length xs → slice_index_or xs k p ≡ p → IsTrue (is_in xs p)
    go [] k below e = absurd (omega (arith, below))
    go (x ∷ xs) zero below e = or_left (same_pair p x) (is_in xs p) (same-of p x (sym e))
    go (x ∷ xs) (suc k) below e = or_right (same_pair p x) (is_in xs p) (go xs k (omega (arith, below)) e)

pub in-flat : (asks : Pair → List Pair) (ps : List Pair) (p q : Pair) → IsTrue (is_in ps p) → IsTrue (is_in (asks p) q) → IsTrue (is_in (flat_map asks ps) q)
in-flat asks [] p q h asked = absurd (false≢true h)
in-flat asks (x ∷ xs) p q h asked =
    elim (or_cases (same_pair p x) (is_in xs p) h) [
      | inl same ↦ in-left (asks x) (flat_map asks xs) q (subst (λ y. IsTrue (is_in (asks y) q)) (same-true p x same) asked)
      | inr rest ↦ in-right (asks x) (flat_map asks xs) q (in-flat asks xs p q rest asked)
    ]

-- ---- in a part of a list

pub in-kept : (keep : Pair → Bool) (ps : List Pair) (p : Pair) → IsTrue (keep p) → IsTrue (is_in ps p) → IsTrue (is_in (filter keep ps) p)
in-kept keep [] p good h = h
in-kept keep (x ∷ xs) p good h = go (keep x) refl (or_cases (same_pair p x) (is_in xs p) h) (in-kept keep xs p good)
  where
    go : (b : Bool) → keep x ≡ b → IsTrue (same_pair p x) ⊎ IsTrue (is_in xs p) → (IsTrue (is_in xs p) → IsTrue (is_in (filter keep xs) p)) → IsTrue (is_in (cond b (x ∷ filter keep xs) (filter keep xs)) p)
    go true e (inl here) rest = or_left (same_pair p x) _ here
    go true e (inr there) rest = or_right (same_pair p x) _ (rest there)
    go false e (inl here) rest = absurd (false≢true (sym e ∙ ap keep (sym (same-true p x here)) ∙ good))
    go false e (inr there) rest = rest there

pub kept-in : (keep : Pair → Bool) (ps : List Pair) (p : Pair) → IsTrue (is_in (filter keep ps) p) → IsTrue (keep p) × IsTrue (is_in ps p)
kept-in keep [] p h = absurd (false≢true h)
kept-in keep (x ∷ xs) p h = go (keep x) refl h (kept-in keep xs p)
  where
    go : (b : Bool) → keep x ≡ b → IsTrue (is_in (cond b (x ∷ filter keep xs) (filter keep xs)) p) → (IsTrue (is_in (filter keep xs) p) → IsTrue (keep p) × IsTrue (is_in xs p)) → IsTrue (keep p) × IsTrue (is_in (x ∷ xs) p)
    go true e h rest =
        elim (or_cases (same_pair p x) (is_in (filter keep xs) p) h) [
          | inl here ↦ (ap keep (same-true p x here) ∙ e, or_left (same_pair p x) _ here)
          | inr there ↦ let r = rest there in (r.0, or_right (same_pair p x) _ r.1)
        ]
    go false e h rest = let r = rest h in (r.0, or_right (same_pair p x) _ r.1)

-- ---- at a place

pub in-place : (ps : List Pair) (k : ℕ) (p : Pair) → slice_get ps k ≡ Some p → IsTrue (is_in ps p)
in-place [] k p e = absurd (none-some p e)
in-place (x ∷ xs) zero p e = or_left (same_pair p x) (is_in xs p) (same-of p x (sym (same_Some x p e)))
in-place (x ∷ xs) (suc k) p e = or_right (same_pair p x) (is_in xs p) (in-place xs k p e)

-- what stands for the pair past a list's end
abbrev pub no_pair : Pair
no_pair = Item (record { derived = record { definition = 0; element = 0 }; base = record { definition = 0; element = 0 } })
