-- Which claims are judged, and which are skipped.
use Rattle.std.proofs.Common.{◌≡◌, Bool, true, false, not, ◌||◌, List, [], ◌∷◌, filter, map, refl, sym, ap, ◌∙◌}
use Rattle.std.specs.Str.{bytes_eq}
use Rattle.std.proofs.lemmas.Bool.{false≢true}
use Rattle.fhir_json.specs.Tree.{Text}
use Rattle.fhir_json.specs.Sound.{is_among}
use Rattle.fhir_claims.specs.Once.{each_once}
use Rattle.fhir_claims.proofs.EachOnce.{or_true, among_filter, none_filtered, among_map, among_once, once_among}

module _ (known : Text → Bool) (named : Text → Text) (own : Text) where
  -- a claim that is kept is judged
  pub kept_claim : (skip : Bool) (claims : List Text) (claim : Text) → is_among claim claims ≡ true → (not skip || known (named claim)) ≡ true
      → is_among (named claim) (each_once (own ∷ filter (λ url. not skip || known url) (map named claims))) ≡ true
  kept_claim skip claims claim there is_kept =
      let test : Text → Bool = λ url. not skip || known url in
      among_once (named claim) (own ∷ filter test (map named claims))
      (or_true (bytes_eq (named claim) own) (is_among (named claim) (filter test (map named claims)))
      (among_filter test (named claim) (map named claims) is_kept (among_map named claim claims there)))

  pub known_claim : (skip : Bool) (claims : List Text) (claim : Text) → is_among claim claims ≡ true → known (named claim) ≡ true
      → is_among (named claim) (each_once (own ∷ filter (λ url. not skip || known url) (map named claims))) ≡ true
  known_claim skip claims claim there is_known = kept_claim skip claims claim there (or_true (not skip) (known (named claim)) is_known)

  -- and each other one is skipped
  pub told_claim : (skip : Bool) (claims : List Text) (claim : Text) → is_among claim claims ≡ true
      → (is_among (named claim) (each_once (own ∷ filter (λ url. not skip || known url) (map named claims)))
      || is_among (named claim) (each_once (filter (λ url. not (not skip || known url)) (map named claims)))) ≡ true
  told_claim skip claims claim there = step (not skip || known (named claim)) refl
    where
      test : Text → Bool
      test url = not skip || known url

      urls : List Text
      urls = map named claims

      judged : Bool
      judged = is_among (named claim) (each_once (own ∷ filter test urls))

      skipped : Bool
      skipped = is_among (named claim) (each_once (filter (λ url. not (test url)) urls))

      step : (b : Bool) → test (named claim) ≡ b → (judged || skipped) ≡ true
      step true e = ap (λ b. b || skipped) (kept_claim skip claims claim there e)
      step false e = or_true judged skipped
          (among_once (named claim) (filter (λ url. not (test url)) urls)
          (among_filter (λ url. not (test url)) (named claim) urls (ap not e) (among_map named claim claims there)))

module _ (known : Text → Bool) where
  -- nothing is skipped that is known
  pub skipped_unknown : (skip : Bool) (urls : List Text) (url : Text) → is_among url (each_once (filter (λ u. not (not skip || known u)) urls)) ≡ true
      → not (known url) ≡ true
  skipped_unknown skip urls url there = step (known url) refl
    where
      test : Text → Bool
      test u = not (not skip || known u)

      step : (b : Bool) → known url ≡ b → not b ≡ true
      step true e = absurd (false≢true (sym (none_filtered test url urls (ap not (or_true (not skip) (known url) e)))
          ∙ once_among url (filter test urls) there))
      step false e = refl

  -- and nothing at all where none is to be
  pub none_skipped : (urls : List Text) → filter (λ u. not (not false || known u)) urls ≡ []
  none_skipped [] = refl
  none_skipped (url ∷ urls) = none_skipped urls
