-- A pair that is right needs no spare one of those that it asks for.
use Rattle.std.proofs.Common.{◌≡◌, Bool, true, false, List, [], ◌∷◌, ◌++◌, refl, sym, ap, subst, ◌∙◌, ◌||◌, ◌&&◌, not, IsTrue}
use Rattle.std.specs.Prelude.{Option, None, Some}
use Rattle.std.specs.List.{Contains, flat_map}
use Rattle.std.specs.Option.{option_map_or}
use Rattle.std.proofs.lemmas.Bool.{and_parts, and_from, or_left, false≢true}
use Rattle.fhir_elements.specs.Tests.{all_hold}
use Rattle.fhir_nodes.specs.declared.node.NodeRef.{NodeRef}
use Rattle.fhir_schema.specs.Schemas.{SchemaValue, holder, child_holder, types}
use Rattle.fhir_certificate.specs.declared.pair.NodePair.{NodePair}
use Rattle.fhir_certificate.specs.declared.pair.Pair.{Pair}
use Rattle.fhir_certificate.specs.declared.pair.Pair.TheVariants.{Item, Kids}
use Rattle.fhir_cert_check.specs.Rule.{RuleName, type, fixed, pattern, range, length_limit, binding, children}
use Rattle.fhir_cert_check.specs.Rules.{type_answers, elements_answer, fixed_answers, pattern_answers, range_answers, length_answers, binding_answers, constraint_rules, own_children_answer, type_children_answer, children_answer, is_local}
use Rattle.fhir_cert_check.specs.Asked.{asked_for, types_asked, kids_asked, entry_kids_asked, children_asked}
use Rattle.fhir_cert_check.specs.Checking.{same_node}
use Rattle.fhir_derive_check.specs.Finding.{is_in}
use Rattle.fhir_derive_check.specs.Blaming.{is_spare}
use Rattle.fhir_derive_check.specs.Outcomes.{MorePairs}
use Rattle.fhir_derive_check.proofs.Same.{same_node-refl, contained, in-right, in-here}

pub no : (b : Bool) → not b ≡ true → b ≡ false
no true e = absurd (false≢true e)
no false e = refl

-- a list of tests whose last is another one that holds
last-held : {R : Type 0} (tests : List (Bool × R)) (last other : Bool) (r : R) → IsTrue (all_hold (tests ++ (last, r) ∷ [])) → IsTrue other
    → IsTrue (all_hold (tests ++ (other, r) ∷ []))
last-held [] last other r h holds = and_from other true holds refl
last-held (test ∷ tests) last other r h holds =
    let parts = and_parts test.0 (all_hold (tests ++ (last, r) ∷ [])) h in
    and_from test.0 (all_hold (tests ++ (other, r) ∷ [])) parts.0 (last-held tests last other r parts.1 holds)

-- the rules of a pair of items, but for that of children
abbrev item_tests : (Pair → Bool) → SchemaValue → NodeRef → NodeRef → List (Bool × RuleName)
item_tests pairs s n m =
    (type_answers pairs s n m, type)
    ∷ (elements_answer fixed_answers s n m, fixed)
    ∷ (elements_answer pattern_answers s n m, pattern)
    ∷ (elements_answer range_answers s n m, range)
    ∷ (elements_answer length_answers s n m, length_limit)
    ∷ (elements_answer (binding_answers s) s n m, binding)
    ∷ constraint_rules s n m

-- the pairs of a set, without the spare ones of a pair of items
abbrev unspared : SchemaValue → NodePair → (Pair → Bool) → Pair → Bool
unspared s p some (Item q) = some (Item q)
unspared s p some (Kids q) = not (is_spare s (Item p) (Kids q)) && some (Kids q)

module _ (s : SchemaValue) (p : NodePair) (some : Pair → Bool) where
  kept : (q : Pair) → IsTrue (unspared s p some q) → is_spare s (Item p) q ≡ false
  kept (Item q) h = refl
  kept (Kids q) h = no (is_spare s (Item p) (Kids q)) (and_parts (not (is_spare s (Item p) (Kids q))) (some (Kids q)) h).0

  -- of a node without children of its own none is spare
  none-spare : holder s p.derived ≡ None → (q : Pair) → is_spare s (Item p) q ≡ false
  none-spare e (Item q) = refl
  none-spare e (Kids q) = ap (λ own. option_map_or (λ own. not (same_node own q.derived)) own false) e

  module _ (own : NodeRef) (is_own : holder s p.derived ≡ Some own) where
    own-kept : (base : NodeRef) → IsTrue (some (Kids (record { derived = own; base = base }))) → IsTrue (unspared s p some (Kids (record { derived = own; base = base })))
    own-kept base h =
        and_from (not (is_spare s (Item p) (Kids (record { derived = own; base = base })))) (some (Kids (record { derived = own; base = base })))
        (ap not (ap (λ o. option_map_or (λ own'. not (same_node own' own)) o false) is_own ∙ ap not (same_node-refl own))) h

    own-asked : (base : NodeRef) → child_holder s p.base ≡ Some base → IsTrue (is_in (asked_for s (Item p)) (Kids (record { derived = own; base = base })))
    own-asked base is_base =
        let pair : Pair = Kids (record { derived = own; base = base }) in
        let rest = flat_map (entry_kids_asked s base) (types s p.derived) in
        let here : IsTrue (is_in (kids_asked base (holder s p.derived) ++ rest) pair) =
        subst (λ o. IsTrue (is_in (kids_asked base o ++ rest) pair)) (sym is_own) (in-here pair rest)
        in
        in-right (types_asked s p.derived p.base) (children_asked s p.derived p.base) pair
        (subst (λ o. IsTrue (is_in (option_map_or (λ base. kids_asked base (holder s p.derived) ++ flat_map (entry_kids_asked s base) (types s p.derived)) o []) pair)) (sym is_base) here)

    children-kept : ((q : Pair) → Contains (asked_for s (Item p)) q → IsTrue (some q)) → IsTrue (children_answer (unspared s p some) s p.derived p.base)
    children-kept all = at (child_holder s p.base) refl
      where
        at : (o : Option NodeRef) → child_holder s p.base ≡ o
            → IsTrue (option_map_or (λ base. own_children_answer (unspared s p some) s p.derived base || type_children_answer (unspared s p some) s p.derived base) o true)
        at None e = refl
        at (Some base) e =
            or_left (own_children_answer (unspared s p some) s p.derived base) (type_children_answer (unspared s p some) s p.derived base)
            (subst (λ o. IsTrue (option_map_or (λ derived. unspared s p some (Kids (record { derived = derived; base = base }))) o false)) (sym is_own)
            (own-kept base (all (Kids (record { derived = own; base = base })) (contained (asked_for s (Item p)) (Kids (record { derived = own; base = base })) (own-asked base e)))))

    local-kept : ((q : Pair) → Contains (asked_for s (Item p)) q → IsTrue (some q)) → IsTrue (is_local some s (Item p)) → IsTrue (is_local (unspared s p some) s (Item p))
    local-kept all local =
        last-held (item_tests (unspared s p some) s p.derived p.base) (children_answer some s p.derived p.base) (children_answer (unspared s p some) s p.derived p.base) children
        local (children-kept all)

-- A pair that is right where all that it asks for count is right by each set that has them but for spare ones.
pub own-enough : MorePairs → (s : SchemaValue) (some more : Pair → Bool) (p : Pair) → ((q : Pair) → Contains (asked_for s p) q → IsTrue (some q))
    → ((q : Pair) → Contains (asked_for s p) q → is_spare s p q ≡ false → IsTrue (more q)) → IsTrue (is_local some s p) → IsTrue (is_local more s p)
own-enough law s some more (Kids p) all own local = law s some more (Kids p) (λ q asked here. own q asked refl) local
own-enough law s some more (Item p) all own local = at (holder s p.derived) refl
  where
    at : (o : Option NodeRef) → holder s p.derived ≡ o → IsTrue (is_local more s (Item p))
    at None e = law s some more (Item p) (λ q asked here. own q asked (none-spare s p some e q)) local
    at (Some node) e =
        law s (unspared s p some) more (Item p) (λ q asked here. own q asked (kept s p some q here)) (local-kept s p some node e all local)
