-- What holds of each answer, by the answers that it comes of.
use Rattle.std.proofs.Common.{◌≡◌, ℕ, zero, suc, Option, refl}
use Rattle.fhir_json.specs.Tree.{Text}
use Rattle.fhir_asking.specs.Asking.{Asking, given, asks, Answer, wants, found, once, run, answer, Has}

module _ {A : Type 0} where
  -- what is asked so comes to this, by answers of which something holds
  abbrev pub ComesWith : (Text → Option A → Type 0) → Asking A → Option A → Type 0
  ComesWith Q (given other) thing = other ≡ thing
  ComesWith Q (asks name next) thing = (answered : Option A) × Q name answered × ComesWith Q (next answered) thing

  abbrev pub Known : (Text → Asking A) → (Text → Option A → Type 0) → Text → Option A → Type 0
  Known asking P name thing = Has asking name thing × P name thing

  same_found : (one other : Option A) → found one ≡ found other → one ≡ other
  same_found one other e = cc

  module _ (asking : Text → Asking A) (P : Text → Option A → Type 0) where
    comes_at : (bound : ℕ) → ((name : Text) (thing : Option A) → answer asking bound name ≡ found thing → P name thing)
        → (z : Text) (k : Option A → Asking A) (thing : Option A)
        → ((o : Option A) → run (answer asking bound) (k o) ≡ found thing → ComesWith (Known asking P) (k o) thing)
        → (r : Answer A) → answer asking bound z ≡ r → once r (λ o. run (answer asking bound) (k o)) ≡ found thing
        → ComesWith (Known asking P) (asks z k) thing
    comes_at bound known z k thing later (wants y) is e = cc
    comes_at bound known z k thing later (found o) is e = (o, ((bound, is), known z o is), later o e)

    comes : (bound : ℕ) → ((name : Text) (thing : Option A) → answer asking bound name ≡ found thing → P name thing)
        → (a : Asking A) (thing : Option A) → run (answer asking bound) a ≡ found thing → ComesWith (Known asking P) a thing
    comes bound known (given other) thing e = same_found other thing e
    comes bound known (asks z k) thing e =
        comes_at bound known z k thing (λ o. comes bound known (k o) thing) (answer asking bound z) refl e

    by_bound : ((name : Text) (thing : Option A) → ComesWith (Known asking P) (asking name) thing → P name thing)
        → (bound : ℕ) (name : Text) (thing : Option A) → answer asking bound name ≡ found thing → P name thing
    by_bound step zero name thing e = cc
    by_bound step (suc bound) name thing e = step name thing (comes bound (by_bound step bound) (asking name) thing e)

    -- what holds of a name and its answer, if it holds of all that this answer comes of
    pub by_answers : ((name : Text) (thing : Option A) → ComesWith (Known asking P) (asking name) thing → P name thing)
        → (name : Text) (thing : Option A) → Has asking name thing → P name thing
    by_answers step name thing h = by_bound step h.0 name thing h.1

    -- what an answer comes of
    pub comes_of : ((name : Text) (thing : Option A) → Has asking name thing → P name thing)
        → (name : Text) (thing : Option A) → Has asking name thing → ComesWith (Known asking P) (asking name) thing
    comes_of all name thing (zero, e) = cc
    comes_of all name thing (suc bound, e) = comes bound (λ z o is. all z o (bound, is)) (asking name) thing e
