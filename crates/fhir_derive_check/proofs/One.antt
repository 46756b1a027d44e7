-- From one pair, one list is found.
use Rattle.std.proofs.Common.{◌≡◌, ◌≤◌, ◌+◌, ℕ, zero, suc, arith, List, [], ◌∷◌, ◌++◌, refl, sym, ap, subst, ◌∙◌, ◌⊎◌, inl, inr, IsTrue, length, length-append}
use Rattle.std.specs.List.{flat_map}
use Rattle.std.proofs.lemmas.Grind.{flat_map-append}
use Rattle.std.proofs.lemmas.Bool.{cases_lt}
use Rattle.fhir_certificate.specs.declared.pair.Pair.{Pair}
use Rattle.fhir_derive_check.specs.Finding.{is_in, all_added, IsClosed, IsDiscovery}
use Rattle.fhir_derive_check.specs.Deriving.{none_twice}
use Rattle.fhir_derive_check.proofs.Same.{in-left, in-right, in-here, in-contained}
use Rattle.fhir_derive_check.proofs.Found.{append_nil, all_added-more, all_added-append, none_twice-apart, reach, root-reached, asked-reached, found-once, is-found}

-- of two fronts of a list, the shorter is a front of the other
shorter : (ps xs qs ys : List Pair) → ps ++ xs ≡ qs ++ ys → length ps ≤ length qs → (more : List Pair) × (qs ≡ ps ++ more)
shorter [] xs qs ys e le = (qs, refl)
shorter (a ∷ ps) xs [] ys e le = absurd (omega (arith, le))
shorter (a ∷ ps) xs (b ∷ qs) ys e le =
    let same = heads a (ps ++ xs) b (qs ++ ys) e in
    let rest = shorter ps xs qs ys same.1 (omega (arith, le)) in
    (rest.0, (λ j. (sym same.0) j ∷ rest.1 j))
  where
    heads : (x : Pair) (l : List Pair) (y : Pair) (m : List Pair) → x ∷ l ≡ y ∷ m → (x ≡ y) × (l ≡ m)
    heads x l y m e = (cc, cc)

module _ (asks : Pair → List Pair) (root : Pair) where
  -- the list begins with these, and so does the other
  record IsFront (found others front : List Pair) : Type 0 where
    rest : List Pair
    other_rest : List Pair
    is : found ≡ front ++ rest
    other_is : others ≡ front ++ other_rest

  begins : (found front rest : List Pair) → IsDiscovery asks root found → found ≡ front ++ rest → (more : List Pair) × (found ≡ reach asks root front ++ more)
  begins found front rest discovery is =
      let more = all_added-more (flat_map asks rest) (reach asks root front) in (
        more.0,
        discovery.in_turn ∙ ap (reach asks root) is ∙ ap (all_added (root ∷ [])) (flat_map-append asks front rest)
            ∙ all_added-append (flat_map asks front) (flat_map asks rest) (root ∷ []) ∙ more.1,
      )

  -- where the front has what it asks for, it is all
  all-of-it : (found front rest : List Pair) → IsDiscovery asks root found → found ≡ front ++ rest → ((q : Pair) → IsTrue (is_in (reach asks root front) q) → IsTrue (is_in front q)) → found ≡ front
  all-of-it found front [] discovery is has = is ∙ append_nil front
  all-of-it found front (p ∷ rest) discovery is has =
      let here : IsTrue (is_in found p) = subst (λ l. IsTrue (is_in l p)) (sym is) (in-right front (p ∷ rest) p (in-here p rest)) in
      let is_closed : IsClosed asks root (is_in front) = record {
        rooted = has root (root-reached asks root front);
        closed = λ x y h asked. has y (asked-reached asks root front x y h (in-contained (asks x) y asked));
      }
      in
      absurd (none_twice-apart front (p ∷ rest) p (ap none_twice (sym is) ∙ found-once asks root found discovery)
      (is-found asks root found discovery p here (is_in front) is_closed) (in-here p rest))

  module _ (found others : List Pair) (discovery : IsDiscovery asks root found) (another : IsDiscovery asks root others) where
    step : (n : ℕ) → (front : List Pair) × IsFront found others front × (n ≤ length front) → ((front : List Pair) × IsFront found others front × (suc n ≤ length front)) ⊎ (found ≡ others)
    step n (front, common, long) =
        let a = begins found front common.rest discovery common.is in
        let b = begins others front common.other_rest another common.other_is in
        elim (cases_lt (length front) (length (reach asks root front))) [
          | inl longer ↦ inl (reach asks root front, record { rest = a.0; other_rest = b.0; is = a.1; other_is = b.1 }, omega (arith, long, longer))
          | inr enough ↦
              let within = shorter (reach asks root front) a.0 front common.rest (sym a.1 ∙ common.is) enough in
              let has : (q : Pair) → IsTrue (is_in (reach asks root front) q) → IsTrue (is_in front q) = λ q h. subst (λ l. IsTrue (is_in l q)) (sym within.1) (in-left (reach asks root front) within.0 q h) in
              inr (all-of-it found front common.rest discovery common.is has ∙ sym (all-of-it others front common.other_rest another common.other_is has))
        ]

    fronts : (n : ℕ) → ((front : List Pair) × IsFront found others front × (n ≤ length front)) ⊎ (found ≡ others)
    fronts zero = inl ([], record { rest = found; other_rest = others; is = refl; other_is = refl }, omega arith)
    fronts (suc n) = elim (fronts n) [ inl front ↦ step n front | inr same ↦ inr same ]

    pub one : found ≡ others
    one =
        elim (fronts (suc (length found))) [
          | inl (front, common, long) ↦ absurd (omega (arith, long, ap length common.is, length-append front common.rest))
          | inr same ↦ same
        ]
