-- Tables stay right as what they are made of is put before the rest.
use Rattle.std.proofs.Common.{◌≡◌, ℕ, ◌<◌, ◌+◌, true, false, cond, List, ◌∷◌, length, drop, get_or, ap, sym, ◌∙◌, subst, Some, Option, suc, add-one}
use Rattle.std.specs.Str.{bytes_eq}
use Rattle.std.proofs.Math.Seq.{drop-cons}
use Rattle.fhir_names.specs.Places.{Places, place_of, Puts}
use Rattle.fhir_definition.specs.Definition.{Definition}
use Rattle.fhir_nodes.specs.Tables.{FindsTypes, FindsUrls}

-- what is put, where the clause names its parts
put_as : (old new : Places) (t k : List ℕ) (p v : ℕ) → t ≡ k → p ≡ v → Puts old new t p → (c : List ℕ)
    → place_of new c ≡ cond (bytes_eq c k) (Some v) (place_of old c)
put_as old new t k p v t_is p_is put c =
    put c ∙ ap (λ (n : List ℕ). cond (bytes_eq c n) (Some p) (place_of old c)) t_is ∙ ap (λ (m : ℕ). cond (bytes_eq c k) (Some m) (place_of old c)) p_is

pub skip_type : (d : Definition) (ds : List Definition) (es : Places) → d.is_type ≡ false → FindsTypes es ds → FindsTypes es (d ∷ ds)
skip_type d ds es is h = λ c. rw is (h c)

pub put_type_at : (d : Definition) (ds : List Definition) (old new : Places) (t : List ℕ) (p : ℕ) → d.is_type ≡ true → t ≡ d.type → p ≡ d.place
    → Puts old new t p → FindsTypes old ds → FindsTypes new (d ∷ ds)
put_type_at d ds old new t p is t_is p_is put h = λ c.
    put_as old new t d.type p d.place t_is p_is put c ∙ rw is (ap (λ (r : Option ℕ). cond (bytes_eq c d.type) (Some d.place) r) (h c))

pub put_url_at : (d : Definition) (ds : List Definition) (old new : Places) (t : List ℕ) (p : ℕ) → t ≡ d.url → p ≡ d.place → Puts old new t p → FindsUrls old ds
    → FindsUrls new (d ∷ ds)
put_url_at d ds old new t p t_is p_is put h = λ c.
    put_as old new t d.url p d.place t_is p_is put c ∙ ap (λ (r : Option ℕ). cond (bytes_eq c d.url) (Some d.place) r) (h c)

-- ---- one step towards the front

module _ {X : Type 0} where
  pub drop_at : (xs : List X) (i : ℕ) (x : X) → i < length xs → x ≡ get_or xs i x → drop i xs ≡ x ∷ drop (i + 1) xs
  drop_at xs i x h e = rw (add-one, drop-cons xs i x) (ap (λ y. y ∷ drop (suc i) xs) (sym e))

  pub drop_before : (xs : List X) (n i : ℕ) (x : X) → i + 1 ≡ n → i < length xs → x ≡ get_or xs i x → x ∷ drop n xs ≡ drop i xs
  drop_before xs n i x e h is = sym (drop_at xs i x h is ∙ ap (λ k. x ∷ drop k xs) e)

pub types_before : (ds : List Definition) (n i : ℕ) (d : Definition) (es : Places) → i + 1 ≡ n → i < length ds → d ≡ get_or ds i d
    → FindsTypes es (d ∷ drop n ds) → FindsTypes es (drop i ds)
types_before ds n i d es e h is f = subst (FindsTypes es) (drop_before ds n i d e h is) f

pub urls_before : (ds : List Definition) (n i : ℕ) (d : Definition) (es : Places) → i + 1 ≡ n → i < length ds → d ≡ get_or ds i d → FindsUrls es (d ∷ drop n ds)
    → FindsUrls es (drop i ds)
urls_before ds n i d es e h is f = subst (FindsUrls es) (drop_before ds n i d e h is) f
