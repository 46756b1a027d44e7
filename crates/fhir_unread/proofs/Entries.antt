-- Entries that are put in one after the other.
use Rattle.std.proofs.Common.{◌≡◌, ℕ, ◌+◌, ◌<◌, List, [], ◌∷◌, ◌++◌, map, filter, take, length, get_or, Option, None, sym, ap, subst, ◌∙◌, append_assoc, arith}
use Rattle.std.specs.Prelude.{IsUtf8, All}
use Rattle.std.specs.List.{flat_map}
use Rattle.std.proofs.lemmas.List.{map-append, get_or-map, length-map}
use Rattle.std.proofs.lemmas.List.Concat.{flat_map-append}
use Rattle.std.proofs.lemmas.List.Elements.{filter-append, All-append}
use Rattle.fhir_json.specs.Tree.{Text}
use Rattle.fhir_findings.specs.Carrying.{Carrier}
use Rattle.fhir_findings.specs.Once.{Told}
use Rattle.fhir_findings.specs.Views.{carrier_seen, told_seen, all_told_seen, firsts_seen}
use Rattle.fhir_findings.specs.declared.once.Told.{Told as ToldOf}
use Rattle.fhir_findings.proofs.Pushed.{seen_more}
use Rattle.fhir_unread.specs.Unread.{is_rule, given_text}

-- the rules among what is told
abbrev pub rules_in : List (Told Carrier) → List (Told Carrier)
rules_in ts = filter (λ t. is_rule t.first) ts

module _ (told : List ToldOf) (k : ℕ) (x : ToldOf) (h : k < length told) (is : x ≡ get_or told k x) where
  one_more : rules_in (all_told_seen (take (k + 1) told)) ≡ rules_in (all_told_seen (take k told)) ++ rules_in (told_seen x ∷ [])
  one_more = ap rules_in (seen_more told_seen told k x h is) ∙ filter-append (λ t. is_rule t.first) (all_told_seen (take k told)) (told_seen x ∷ [])

  pub next_entry : (f : Told Carrier → Text) (old now new : Text) → now ≡ old ++ flat_map f (rules_in (all_told_seen (take k told)))
      → new ≡ now ++ flat_map f (rules_in (told_seen x ∷ [])) → new ≡ old ++ flat_map f (rules_in (all_told_seen (take (k + 1) told)))
  next_entry f old now new before pushed =
      let first : List (Told Carrier) = rules_in (all_told_seen (take k told)) in
      let last : List (Told Carrier) = rules_in (told_seen x ∷ []) in
      pushed
      ∙ ap (λ (w : Text). w ++ flat_map f last) before
      ∙ append_assoc old (flat_map f first) (flat_map f last)
      ∙ ap (λ (w : Text). old ++ w) (sym (flat_map-append f first last) ∙ ap (flat_map f) (sym one_more))

  pub next_utf8 : All IsUtf8 (map (λ t. given_text t.first) (rules_in (all_told_seen (take k told))))
      → All IsUtf8 (map (λ t. given_text t.first) (rules_in (told_seen x ∷ [])))
      → All IsUtf8 (map (λ t. given_text t.first) (rules_in (all_told_seen (take (k + 1) told))))
  next_utf8 before last =
      subst (All IsUtf8)
      (sym (ap (map (λ t. given_text t.first)) one_more ∙ map-append (λ t. given_text t.first) (rules_in (all_told_seen (take k told))) (rules_in (told_seen x ∷ []))))
      (All-append IsUtf8 (map (λ t. given_text t.first) (rules_in (all_told_seen (take k told)))) (map (λ t. given_text t.first) (rules_in (told_seen x ∷ []))) before last)

  -- what is said of it
  pub said_there : (says : Carrier → Option Text) (texts : List (Option Text)) (o : Option Text) → texts ≡ map says (firsts_seen told)
      → o ≡ get_or texts k None → o ≡ says (carrier_seen x.first)
  said_there says texts o all there =
      there
      ∙ ap (λ (os : List (Option Text)). get_or os k None) all
      ∙ out
    where
      in_firsts : k < length (firsts_seen told)
      in_firsts = omega (arith, length-map told (λ (t : ToldOf). carrier_seen t.first))

      unread : get_or (map says (firsts_seen told)) k None ≡ says (get_or (firsts_seen told) k (carrier_seen x.first))
      unread = get_or-map says (firsts_seen told) k (carrier_seen x.first) None in_firsts

      out : get_or (map says (firsts_seen told)) k None ≡ says (carrier_seen x.first)
      out =
          unread
          ∙ ap says (get_or-map (λ (t : ToldOf). carrier_seen t.first) told k x (carrier_seen x.first) h ∙ ap (λ (t : ToldOf). carrier_seen t.first) (sym is))
