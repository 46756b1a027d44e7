-- Lines that are served after others.
use Rattle.std.proofs.Common.{◌≡◌, ℕ, List, [], ◌∷◌, ◌++◌, None, Some, Option, IfSome, MatchOption, refl, sym, ap, subst, ◌∙◌, append_assoc, append-nil}
use Rattle.std.specs.Io.KnownBytes.{Appends, IsAtEnd}
use Rattle.fhir_serve.specs.Lines.{lines_of, AreFirst}
use Rattle.fhir_serve.specs.Reading.{Takes}
use Rattle.fhir_serve.specs.Serving.{Serves}
use Rattle.fhir_serve.specs.Ending.{AreRead, AreWritten, GoesOn, HasEnded}
use Rattle.fhir_serve.specs.declared.serving.Ending.{Ending}
use Rattle.fhir_serve.specs.declared.serving.Ending.TheVariants.{Done, Unread, Unwritten}

pub Takes-none : (known : Option (List ℕ)) → Takes known [] known
Takes-none None = tt
Takes-none (Some bytes) = refl

pub Takes-append : (a b c : Option (List ℕ)) (xs ys : List (List ℕ)) → Takes a xs b → Takes b ys c → Takes a (xs ++ ys) c
Takes-append None b c xs ys p q = tt
Takes-append (Some ks) None c xs ys p q = absurd p
Takes-append (Some ks) (Some bs) None xs ys p q = absurd q
Takes-append (Some ks) (Some bs) (Some cs) xs ys p q = p ∙ ap (λ l. xs ++ l) q ∙ sym (append_assoc xs ys (lines_of cs))

pub Appends-none : (known : Option (List ℕ)) → Appends known known []
Appends-none None = tt
Appends-none (Some bytes) = sym (append-nil bytes)

pub Appends-append : (a b c : Option (List ℕ)) (xs ys : List ℕ) → Appends a b xs → Appends b c ys → Appends a c (xs ++ ys)
Appends-append None b c xs ys p q = tt
Appends-append (Some ks) None c xs ys p q = absurd p
Appends-append (Some ks) (Some bs) None xs ys p q = absurd q
Appends-append (Some ks) (Some bs) (Some cs) xs ys p q = q ∙ ap (λ l. l ++ ys) p ∙ append_assoc ks xs ys

AreFirst-of_Takes : (known left : Option (List ℕ)) (lines : List (List ℕ)) → Takes known lines left → IfSome known (λ bytes. AreFirst lines (lines_of bytes))
AreFirst-of_Takes None left lines p = tt
AreFirst-of_Takes (Some bytes) None lines p = absurd p
AreFirst-of_Takes (Some bytes) (Some rest) lines p = (lines_of rest, p)

AreFirst-append : (a b : Option (List ℕ)) (xs ys : List (List ℕ)) → Takes a xs b → IfSome b (λ bytes. AreFirst ys (lines_of bytes)) → IfSome a (λ bytes. AreFirst (xs ++ ys) (lines_of bytes))
AreFirst-append None b xs ys p q = tt
AreFirst-append (Some ks) None xs ys p q = absurd p
AreFirst-append (Some ks) (Some bs) xs ys p q = (q.0, p ∙ ap (λ l. xs ++ l) q.1 ∙ sym (append_assoc xs ys q.0))

AreRead-append : (ending : Ending) (a b : Option (List ℕ)) (xs ys : List (List ℕ)) → Takes a xs b → AreRead ending b ys → AreRead ending a (xs ++ ys)
AreRead-append Done None b xs ys p q = tt
AreRead-append Done (Some ks) None xs ys p q = absurd p
AreRead-append Done (Some ks) (Some bs) xs ys p q = ap (λ l. xs ++ l) q ∙ sym p
AreRead-append Unread a b xs ys p q = AreFirst-append a b xs ys p q
AreRead-append Unwritten a b xs ys p q = AreFirst-append a b xs ys p q

AreWritten-append : (ending : Ending) (a b c : Option (List ℕ)) (xs ys : List ℕ) → Appends a b xs → AreWritten ending b c ys → AreWritten ending a c (xs ++ ys)
AreWritten-append Done a b c xs ys p q = Appends-append a b c xs ys p q
AreWritten-append Unread a b c xs ys p q = Appends-append a b c xs ys p q
AreWritten-append Unwritten a b c xs ys p q = tt

module _ {V : Type 0} (A : V → List ℕ → V → List ℕ → Type 0) where
  Serves-append : (xs ys : List (List ℕ)) (u v w : V) (a b : List ℕ) → Serves A u xs v a → Serves A v ys w b → Serves A u (xs ++ ys) w (a ++ b)
  unfolding Serves
  Serves-append [] ys u v w a b p q = subst (λ t. Serves A u ys w (t ++ b)) (sym p.1) (subst (λ t. Serves A t ys w b) p.0 q)
  Serves-append (x ∷ xs) ys u v w a b (between, answer, rest, answered, p, is) q =
      (between, answer, rest ++ b, answered, Serves-append xs ys between v w rest b p q, ap (λ l. l ++ b) is ∙ append_assoc answer rest b)

  pub Serves-none : (v : V) → Serves A v [] v []
  unfolding Serves
  Serves-none v = (refl, refl)

  Serves-one : (v w : V) (line answer : List ℕ) → A v line w answer → Serves A v (line ∷ []) w answer
  unfolding Serves
  Serves-one v w line answer answered = (w, answer, [], answered, (refl, refl), sym (append-nil answer))

  pub GoesOn-none : (v : V) (known old : Option (List ℕ)) → GoesOn A v v known known old old
  GoesOn-none v known old = ([], [], Serves-none v, Takes-none known, Appends-none old)

  pub GoesOn-append : (u v w : V) (a b c : Option (List ℕ)) (k l m : Option (List ℕ)) → GoesOn A u v a b k l → GoesOn A v w b c l m → GoesOn A u w a c k m
  GoesOn-append u v w a b c k l m (xs, x, s, t, e) (ys, y, s', t', e') =
      (xs ++ ys, x ++ y, Serves-append xs ys u v w x y s s', Takes-append a b c xs ys t t', Appends-append k l m x y e e')

  pub HasEnded-append : (ending : Ending) (u v w : V) (a b : Option (List ℕ)) (k l m : Option (List ℕ)) → GoesOn A u v a b k l → HasEnded A ending v w b l m → HasEnded A ending u w a k m
  HasEnded-append ending u v w a b k l m (xs, x, s, t, e) (ys, y, s', t', e') =
      (xs ++ ys, x ++ y, Serves-append xs ys u v w x y s s', AreRead-append ending a b xs ys t t', AreWritten-append ending k l m x y e e')

  -- lines were served, and the input fails
  pub HasEnded-unread : (u v : V) (a b : Option (List ℕ)) (k l : Option (List ℕ)) → GoesOn A u v a b k l → HasEnded A Unread u v a k l
  HasEnded-unread u v a b k l (xs, x, s, t, e) = (xs, x, s, AreFirst-of_Takes a b xs t, e)

  -- one line was answered, and its answer written or not
  pub answered : (r : Option Ending) (v w : V) (a b : Option (List ℕ)) (k l : Option (List ℕ)) (line answer : List ℕ)
      → Takes a (line ∷ []) b → A v line w answer → MatchOption r (Appends k l answer) (λ ending. ending ≡ Unwritten)
      → MatchOption r (GoesOn A v w a b k l) (λ ending. HasEnded A ending v w a k l)
  answered None v w a b k l line answer t h e = (line ∷ [], answer, Serves-one v w line answer h, t, e)
  answered (Some ending) v w a b k l line answer t h e =
      subst (λ q. HasEnded A q v w a k l) (sym e) (line ∷ [], answer, Serves-one v w line answer h, AreFirst-of_Takes a b (line ∷ []) t, tt)

  -- no line is left
  pub HasEnded-done : (v : V) (known old : Option (List ℕ)) → IsAtEnd known → HasEnded A Done v v known old old
  HasEnded-done v known old ended = ([], [], Serves-none v, none known ended, Appends-none old)
    where
      none : (o : Option (List ℕ)) → IsAtEnd o → IfSome o (λ bytes. [] ≡ lines_of bytes)
      none None h = tt
      none (Some bytes) h = sym (ap lines_of h)
