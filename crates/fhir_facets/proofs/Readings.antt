-- The readings by which no unread rule holds, and by which each does.
use Rattle.std.proofs.Common.{◌≡◌, Bool, true, false, List, [], subst}
use Rattle.fhir_json.specs.Tree.{Text}
use Rattle.fhir_facets.specs.declared.holding.Holding.{Holding}
use Rattle.fhir_facets.specs.declared.holding.Holding.TheVariants.{Holds, Fails, Given as AsGiven, Unread as Undecided}
use Rattle.fhir_facets.specs.Unread.{Meaning, Reading, strict, lenient, meaning_of}
use Rattle.fhir_facets.specs.Views.{holding_under, holding_at, IsVouched}

module _ (meant : Meaning → Bool) (texts : List Text) where
  pub in_both : (h : Holding) → ((r : Reading) → holding_at r h ≡ meant (meaning_of texts r)) → (b : Bool) → holding_under b h ≡ meant (λ u. b)
  in_both Holds exact true = exact lenient
  in_both Holds exact false = exact strict
  in_both Fails exact true = exact lenient
  in_both Fails exact false = exact strict
  in_both (AsGiven u) exact true = exact lenient
  in_both (AsGiven u) exact false = exact strict
  in_both (Undecided u) exact true = exact lenient
  in_both (Undecided u) exact false = exact strict

-- what is said of given texts, where none is given
pub by_none : (texts : List Text) (h : Holding) → texts ≡ [] → IsVouched texts h → IsVouched [] h
by_none texts h none vouched = subst (λ ts. IsVouched ts h) none vouched
