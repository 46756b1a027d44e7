-- An index of ids stays right as one more element is put before the rest.
use Rattle.std.proofs.Common.{◌≡◌, ℕ, ◌<◌, ◌+◌, cond, List, ◌∷◌, length, drop, get_or, ap, sym, ◌∙◌, subst, Some, Option, suc, add-one}
use Rattle.std.specs.Str.{bytes_eq}
use Rattle.std.proofs.Math.Seq.{drop-cons}
use Rattle.fhir_names.specs.Places.{Places, place_of, Puts}
use Rattle.fhir_elements.specs.Element.{Element}
use Rattle.fhir_definition.specs.Views.{FindsIds}

pub put_id_at : (e : Element) (es : List Element) (old new : Places) (t : List ℕ) (n : ℕ)
    → t ≡ e.id → Puts old new t n → FindsIds old (suc n) es → FindsIds new n (e ∷ es)
put_id_at e es old new t n t_is put h = λ c.
    put c ∙ ap (λ (k : List ℕ). cond (bytes_eq c k) (Some n) (place_of old c)) t_is
    ∙ ap (λ (r : Option ℕ). cond (bytes_eq c e.id) (Some n) r) (h c)

drop_before : (xs : List Element) (n i : ℕ) (x : Element) → i + 1 ≡ n → i < length xs → x ≡ get_or xs i x
    → x ∷ drop n xs ≡ drop i xs
drop_before xs n i x e h is =
    sym (rw (add-one, drop-cons xs i x) (ap (λ y. y ∷ drop (suc i) xs) (sym is)) ∙ ap (λ k. x ∷ drop k xs) e)

pub ids_before : (xs : List Element) (n i : ℕ) (x : Element) (es : Places) → i + 1 ≡ n → i < length xs
    → x ≡ get_or xs i x → FindsIds es i (x ∷ drop n xs) → FindsIds es i (drop i xs)
ids_before xs n i x es e h is f = subst (FindsIds es i) (drop_before xs n i x e h is) f

pub ids_next : (xs : List Element) (n i : ℕ) (es : Places) → i + 1 ≡ n → FindsIds es n (drop n xs) → FindsIds es (suc i) (drop n xs)
ids_next xs n i es e f = subst (λ k. FindsIds es k (drop n xs)) (sym e ∙ add-one i) f
