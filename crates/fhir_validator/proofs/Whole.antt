-- The verdict on an outermost item, by the judgement on its pair with a root.
use Rattle.std.proofs.Common.{◌≡◌, ◌<◌, List, [], ◌∷◌, length, refl, sym, ap, ◌∙◌, subst, arith, IsTrue, Vec, Global}
use Rattle.std.specs.Prelude.{if◌then◌else◌}
use Rattle.std.specs.List.{AllByRecursion}
use Rattle.std.proofs.lemmas.Bool.{false≢true}
use Rattle.fhir_json.specs.Bytes.{is_empty}
use Rattle.fhir_json.specs.Tree.{Text}
use Rattle.fhir_nodes.specs.declared.node.NodeRef.{NodeRef}
use Rattle.fhir_schema.specs.Schemas.{SchemaValue}
use Rattle.fhir_instance.specs.Items.{Item}
use Rattle.fhir_facets.specs.Unread.{Reading, strict, as_given, lenient}
use Rattle.fhir_conformance.specs.Conformance.{Interpretation, outermost, as_read, nearest_to, conforms}
use Rattle.fhir_validator.specs.declared.judgement.Judgement.{Judgement}
use Rattle.fhir_validator.specs.declared.judgement.Judgement.TheVariants.{Holds, Given, Open, Fails}
use Rattle.fhir_validator.specs.declared.issue.Issue.{Issue}
use Rattle.fhir_validator.specs.declared.issue.Site.{Site}
use Rattle.fhir_validator.specs.declared.pair.ItemPair.{ItemPair}
use Rattle.fhir_validator.specs.declared.verdict.Vouched.TheVariants as verdicts
use Rattle.fhir_validator.specs.Judgements.{under}
use Rattle.fhir_validator.specs.Verdicts.{IsHeld}
use Rattle.fhir_validator.specs.Layouts.{LayoutValue, item_at, resource_of}
use Rattle.fhir_validator.specs.Judging.{IsThere, IsRight}
use Rattle.fhir_validator.specs.Listing.{lower, ListingValue, IsOver, IsClear, Leaves, PairIsTold, IsFound, IsFoundSite, AreFound, IsVerdictAt}
use Rattle.fhir_validator.proofs.Raising.{IsPositive}
use Rattle.fhir_validator.proofs.Rows.{own_outermost}

module _ (s : SchemaValue) (texts : List Text) (x : Item) (n : NodeRef) (layout : LayoutValue) (same : layout.schema ≡ s) (givens : layout.given ≡ texts)
    (itself : item_at layout 0 ≡ x) (whole : resource_of layout 0 ≡ x) where
  abbrev pub pair : ItemPair
  pair = record { item = 0; node = n }

  there : IsThere layout 0 (outermost x)
  there = ap (nearest_to layout.schema x) itself ∙ own_outermost layout.schema x ∙ sym whole

  moved : (meaning : Interpretation) → conforms layout.schema meaning (outermost x) (item_at layout 0) n ≡ conforms s meaning (outermost x) x n
  moved meaning = ap (λ t. conforms t meaning (outermost x) (item_at layout 0) n) same ∙ ap (λ z. conforms s meaning (outermost x) z n) itself

  right_at : (a : Judgement) → IsRight layout pair a → (r : Reading) → under r a ≡ conforms s (as_read texts r) (outermost x) x n
  right_at a right r = right r (outermost x) there ∙ moved (as_read layout.given r) ∙ ap (λ g. conforms s (as_read g r) (outermost x) x n) givens

  told_at : (listing : ListingValue) → PairIsTold layout pair listing → (meaning : Interpretation) → Leaves layout listing meaning
      → IsTrue (conforms s meaning (outermost x) x n)
  told_at listing told meaning leaves = sym (moved meaning) ∙ told meaning leaves (outermost x) there

  issues_at : (listing : ListingValue) → AreFound layout (item_at layout 0) n listing → AllByRecursion (IsFound s x n) listing.issues
  issues_at listing found =
      subst (λ z. AllByRecursion (IsFound s z n) listing.issues) itself (subst (λ t. AllByRecursion (IsFound t (item_at layout 0) n) listing.issues) same found.0)

  sites_at : (w : Judgement) (listing : ListingValue) → listing.wanted ≡ w → AreFound layout (item_at layout 0) n listing
      → AllByRecursion (IsFoundSite s texts w x n) listing.sites
  sites_at w listing e found =
      subst (λ w. AllByRecursion (IsFoundSite s texts w x n) listing.sites) e
      (subst (λ z. AllByRecursion (IsFoundSite s texts listing.wanted z n) listing.sites) itself
      (subst (λ g. AllByRecursion (IsFoundSite s g listing.wanted (item_at layout 0) n) listing.sites) givens
      (subst (λ t. AllByRecursion (IsFoundSite t layout.given listing.wanted (item_at layout 0) n) listing.sites) same found.1)))

  -- the meaning is left where it says no less than the reading, and what is listed stands in its way no more
  leaves_at : (w : Judgement) (listing : ListingValue) → listing.wanted ≡ w → (meaning : Interpretation) → IsOver (as_read texts (lower w)) meaning
      → IsClear w listing.issues listing.sites meaning → Leaves layout listing meaning
  leaves_at w listing e meaning over clear = record {
    over = subst (λ v. IsOver (as_read layout.given (lower v)) meaning) (sym e) (subst (λ g. IsOver (as_read g (lower w)) meaning) (sym givens) over);
    clear = subst (λ v. IsClear v listing.issues listing.sites meaning) (sym e) clear;
  }

  pub holding : IsPositive s → IsRight layout pair Holds → (relied : Vec Site Global) → relied.items ≡ [] → IsVerdictAt s texts x n (verdicts.Conforms relied)
  holding positive right relied e = record {
    right = λ r. ap (λ xs. under r (if is_empty xs then Holds else Given)) e ∙ right_at Holds right r;
    rests = λ meaning upheld.
        positive (as_read texts strict) meaning (λ u o p h. absurd (false≢true h)) (outermost x) x n (sym (right_at Holds right strict));
    listed = subst (AllByRecursion (IsFoundSite s texts Given x n)) (sym e) tt;
  }

  pub given_verdict : IsRight layout pair Given → (listing : ListingValue) → listing.wanted ≡ Given → PairIsTold layout pair listing
      → AreFound layout (item_at layout 0) n listing → (relied : Vec Site Global) → relied.items ≡ listing.sites → IsVerdictAt s texts x n (verdicts.Conforms relied)
  given_verdict right listing wanted told found relied e = record {
    right = λ r. ap (under r) (by_case relied.items refl) ∙ right_at Given right r;
    rests = rests;
    listed = subst (AllByRecursion (IsFoundSite s texts Given x n)) (sym e) (sites_at Given listing wanted found);
  }
    where
      rests : (meaning : Interpretation) → AllByRecursion (IsHeld meaning) relied.items → IsTrue (conforms s meaning (outermost x) x n)
      rests meaning upheld =
          told_at listing told meaning
          (leaves_at Given listing wanted meaning (λ u o p h. absurd (false≢true h)) (subst (AllByRecursion (IsHeld meaning)) e upheld))

      by_case : (xs : List Site) → relied.items ≡ xs → (if is_empty xs then Holds else Given) ≡ Given
      by_case [] none =
          absurd (false≢true (right_at Given right strict
          ∙ rests (as_read texts strict) (subst (AllByRecursion (IsHeld (as_read texts strict))) (sym none) tt)))
      by_case (y ∷ ys) some = refl

  pub open_verdict : IsRight layout pair Open → (listing : ListingValue) → listing.wanted ≡ Open → PairIsTold layout pair listing
      → AreFound layout (item_at layout 0) n listing → (sites : Vec Site Global) → sites.items ≡ listing.sites → IsVerdictAt s texts x n (verdicts.Open sites)
  open_verdict right listing wanted told found sites e = record {
    right = right_at Open right;
    rests = λ meaning upheld. absurd upheld;
    listed = record {
      some = by_case sites.items refl;
      each = subst (AllByRecursion (IsFoundSite s texts Open x n)) (sym e) (sites_at Open listing wanted found);
    };
  }
    where
      by_case : (xs : List Site) → sites.items ≡ xs → 0 < length xs
      by_case [] none =
          absurd (false≢true (right_at Open right as_given
          ∙ told_at listing told (as_read texts as_given) (leaves_at Open listing wanted (as_read texts as_given) (λ u o p h. h) (sym e ∙ none))))
      by_case (y ∷ ys) some = omega arith

  pub fails_verdict : IsRight layout pair Fails → (listing : ListingValue) → listing.wanted ≡ Fails → PairIsTold layout pair listing
      → AreFound layout (item_at layout 0) n listing → (issues : Vec Issue Global) → issues.items ≡ listing.issues → IsVerdictAt s texts x n (verdicts.Violates issues)
  fails_verdict right listing wanted told found issues e = record {
    right = right_at Fails right;
    rests = λ meaning upheld. absurd upheld;
    listed = record {
      some = by_case issues.items refl;
      each = subst (AllByRecursion (IsFound s x n)) (sym e) (issues_at listing found);
    };
  }
    where
      by_case : (xs : List Issue) → issues.items ≡ xs → 0 < length xs
      by_case [] none =
          absurd (false≢true (right_at Fails right lenient
          ∙ told_at listing told (as_read texts lenient) (leaves_at Fails listing wanted (as_read texts lenient) (λ u o p h. h) (sym e ∙ none))))
      by_case (y ∷ ys) some = omega arith
