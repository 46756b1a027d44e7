-- A cache that is turned once for each entry keeps those that pass, in their order.
use Rattle.std.proofs.Common.{◌≡◌, ℕ, zero, suc, ◌-◌, ◌≤◌, Bool, true, false, cond, List, [], ◌∷◌, ◌++◌, length, take, filter, Some, None, refl, sym, ap, subst, ◌∙◌, arith, append_assoc, append-nil, length-append}
use Rattle.std.specs.Prelude.{slice_get, if◌then◌else◌}
use Rattle.std.specs.List.{AllByRecursion, IsDistinct}
use Rattle.std.specs.Cmp.{IsEquivalence}
use Rattle.std.specs.Map.{keys_of, lookup_entry}
use Rattle.std.proofs.lemmas.List.{take_all, take_at}
use Rattle.std.proofs.lemmas.Option.{same_Some}
use Rattle.lru.specs.LruCache.{LruCache, lru_cache, put_entries, last_entry, IsValid}
use Rattle.lru.proofs.Splits.{cut_last, last_from}
use Rattle.fhir_cache.specs.Retaining.{turned, turns}

module _ {X : Type 0} where
  last_of : (us : List X) (e : X) → slice_get (us ++ e ∷ []) (length us) ≡ Some e
  last_of [] e = refl
  last_of (u ∷ us) e = last_of us e

  shorter : (us : List X) (e : X) → length (us ++ e ∷ []) - 1 ≡ length us
  shorter us e = omega (arith, length-append us (e ∷ []))

module _ {K V : Type 0} (eq : K → K → Bool) (laws : IsEquivalence eq) where
  apart : (k : K) (us : List (K × V)) (e : K × V) → AllByRecursion (λ y. eq k y ≡ false) (keys_of (us ++ e ∷ [])) → eq k e.0 ≡ false
  apart k [] e h = h.0
  apart k (u ∷ us) e h = apart k us e h.1

  not_before : (us : List (K × V)) (e : K × V) → IsDistinct eq (keys_of (us ++ e ∷ [])) → lookup_entry (eq e.0) us ≡ None
  unfolding IsDistinct
  not_before [] e h = refl
  not_before (u ∷ us) e h = rw (laws.symm e.0 u.0 ∙ apart u.0 us e h.0) (not_before us e h.1)

  put_at_end : (us : List (K × V)) (e : K × V) (cap : ℕ) → IsValid eq (lru_cache (us ++ e ∷ []) cap) → put_entries eq (lru_cache us cap) e.0 e.1 ≡ e ∷ us
  put_at_end us e cap valid =
      let fits : length us ≤ cap - 1 = omega (arith, length-append us (e ∷ []), valid.1) in
      rw (not_before us e valid.0) (ap (λ l. e ∷ l) (take_all (cap - 1) us fits))

module _ {K V : Type 0} (keep : K × V → Bool) where
  turned_at_end : (us : List (K × V)) (e : K × V) → turned keep (us ++ e ∷ []) ≡ (if keep e then e ∷ us else us)
  turned_at_end us e = rw (shorter us e, last_of us e, take_at us (e ∷ []) (length us) refl) refl

  turns_first : (n : ℕ) (es : List (K × V)) → turns keep n (turned keep es) ≡ turned keep (turns keep n es)
  turns_first zero es = refl
  turns_first (suc n) es = ap (turned keep) (turns_first n es)

  filter_at_end : (us : List (K × V)) (e : K × V) → filter keep (us ++ e ∷ []) ≡ filter keep us ++ (if keep e then e ∷ [] else [])
  filter_at_end [] e = refl
  filter_at_end (u ∷ us) e = go (keep u) (filter_at_end us e)
    where
      go : (b : Bool) → filter keep (us ++ e ∷ []) ≡ filter keep us ++ (if keep e then e ∷ [] else []) → cond b (u ∷ filter keep (us ++ e ∷ [])) (filter keep (us ++ e ∷ [])) ≡ cond b (u ∷ filter keep us) (filter keep us) ++ (if keep e then e ∷ [] else [])
      go true h = ap (λ l. u ∷ l) h
      go false h = h

  turned_on : (n : ℕ) (xs us : List (K × V)) (e : K × V) → ((ws : List (K × V)) → turns keep n (ws ++ us) ≡ filter keep us ++ ws) → (b : Bool) → turns keep n (if b then e ∷ (xs ++ us) else (xs ++ us)) ≡ (filter keep us ++ (if b then e ∷ [] else [])) ++ xs
  turned_on n xs us e rest true = rest (e ∷ xs) ∙ sym (append_assoc (filter keep us) (e ∷ []) xs)
  turned_on n xs us e rest false = rest xs ∙ ap (λ l. l ++ xs) (sym (append-nil (filter keep us)))

  turns_in : (n : ℕ) (xs ys : List (K × V)) → length ys ≡ n → turns keep n (xs ++ ys) ≡ filter keep ys ++ xs
  turns_in zero xs [] h = append-nil xs
  turns_in zero xs (y ∷ ys) h = absurd (omega (arith, h))
  turns_in (suc n) xs [] h = absurd (omega (arith, h))
  turns_in (suc n) xs (y ∷ ys) h =
      let cut = cut_last y ys in
      let us = cut.0 in
      let e = last_from y ys in
      let size : length us ≡ n = omega (arith, h, ap length cut.1, length-append us (e ∷ [])) in
      sym (turns_first n (xs ++ y ∷ ys)) ∙
      ap (λ l. turns keep n (turned keep l)) (ap (λ l. xs ++ l) cut.1 ∙ sym (append_assoc xs us (e ∷ []))) ∙
      ap (turns keep n) (turned_at_end (xs ++ us) e) ∙
      turned_on n xs us e (λ ws. turns_in n ws us size) (keep e) ∙
      ap (λ l. l ++ xs) (sym (filter_at_end us e) ∙ ap (filter keep) (sym cut.1))

  -- a turn for each entry leaves those that pass
  pub turns_all : (es : List (K × V)) → turns keep (length es) es ≡ filter keep es
  turns_all es = turns_in (length es) [] es refl ∙ append-nil (filter keep es)

  module _ (eq : K → K → Bool) (laws : IsEquivalence eq) (cap : ℕ) (e : K × V) where
    -- what is left once the last entry was taken out and put back if it passes
    abbrev back : List (K × V) → LruCache K V
    back es =
        if keep e then lru_cache (put_entries eq (lru_cache (take (length es - 1) es) cap) e.0 e.1) cap else lru_cache (take (length es - 1) es) cap

    back_at_end : (us : List (K × V)) (l : K × V) → IsValid eq (lru_cache (us ++ l ∷ []) cap) → last_entry (us ++ l ∷ []) ≡ Some e → back (us ++ l ∷ []) ≡ lru_cache (turned keep (us ++ l ∷ [])) cap
    back_at_end us l valid is =
        let same : l ≡ e = same_Some l e (sym (last_of us l) ∙ ap (slice_get (us ++ l ∷ [])) (sym (shorter us l)) ∙ is) in
        subst (λ x. IsValid eq (lru_cache (us ++ x ∷ []) cap) → back (us ++ x ∷ []) ≡ lru_cache (turned keep (us ++ x ∷ [])) cap) (sym same) go valid
      where
        choose : (b : Bool) → (if b then lru_cache (e ∷ us) cap else lru_cache us cap) ≡ lru_cache (if b then e ∷ us else us) cap
        choose true = refl
        choose false = refl

        go : IsValid eq (lru_cache (us ++ e ∷ []) cap) → back (us ++ e ∷ []) ≡ lru_cache (turned keep (us ++ e ∷ [])) cap
        go valid =
            rw (shorter us e, take_at us (e ∷ []) (length us) refl, put_at_end eq laws us e cap valid, last_of us e) (choose (keep e))

    pub turned_back : (es : List (K × V)) → IsValid eq (lru_cache es cap) → last_entry es ≡ Some e → back es ≡ lru_cache (turned keep es) cap
    turned_back [] valid is = cc
    turned_back (x ∷ xs) valid is =
        let cut = cut_last x xs in
        subst (λ l. IsValid eq (lru_cache l cap) → last_entry l ≡ Some e → back l ≡ lru_cache (turned keep l) cap) (sym cut.1) (back_at_end cut.0 (last_from x xs)) valid is

  -- where there is no last entry, there is none
  pub none_last : (es : List (K × V)) → last_entry es ≡ None → es ≡ []
  none_last [] h = refl
  none_last (x ∷ xs) h =
      let cut = cut_last x xs in
      let us = cut.0 in
      let l = last_from x xs in
      let h' : last_entry (us ++ l ∷ []) ≡ None = ap last_entry (sym cut.1) ∙ h in
      let never : Some l ≡ None = sym (last_of us l) ∙ ap (slice_get (us ++ l ∷ [])) (sym (shorter us l)) ∙ h' in
      cc
