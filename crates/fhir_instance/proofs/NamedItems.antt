-- The children of each name are the items of that element's forms.
use Rattle.std.proofs.Common.{◌≡◌, ℕ, zero, suc, ◌<◌, Bool, true, false, List, [], ◌∷◌, ◌++◌, map, length, nat_lt, get_or, refl, sym, ap, ap₂, ◌∙◌, Option, None, Some, arith}
use Rattle.std.proofs.lemmas.Bool.{and_parts}
use Rattle.std.specs.Option.{option_map, option_and_then}
use Rattle.std.specs.List.{filter, list_all}
use Rattle.std.specs.Str.{bytes_eq}
use Rattle.fhir_json.specs.Tree.{Text}
use Rattle.fhir_forms.specs.Forms.{Form}
use Rattle.fhir_schema.specs.Schemas.{SchemaValue}
use Rattle.fhir_instance.specs.Items.{Item, Named}
use Rattle.fhir_instance.specs.Typing.{Frame, Field, Halves, is_known, forms_in, form_items, place_items, places_of, under, both, joined, object_kids, content_item, value_in, companion_in}
use Rattle.fhir_instance.specs.Accounting.{Accounts}

-- ---- each property

contained : {X : Type 0} (p : X → Bool) (xs : List X) (k : ℕ) (x : X) → list_all p xs ≡ true → k < length xs → get_or xs k x ≡ x → p x ≡ true
contained p [] k x h within is = absurd (omega arith)
contained p (y ∷ xs) zero x h within is = ap p (sym is) ∙ (and_parts (p y) (list_all p xs) h).0
contained p (y ∷ xs) (suc k) x h within is = contained p xs k x (and_parts (p y) (list_all p xs) h).1 (omega arith) is

-- ---- each name

abbrev named : Text → List Named → List Named
named n ks = filter (λ k. bytes_eq n k.0) ks

named_append : (n : Text) (xs ys : List Named) → named n (xs ++ ys) ≡ named n xs ++ named n ys
named_append n [] ys = refl
named_append n (x ∷ xs) ys = go (bytes_eq n x.0) refl (named_append n xs ys)
  where
    go : (b : Bool) → bytes_eq n x.0 ≡ b → named n (xs ++ ys) ≡ named n xs ++ named n ys → named n (x ∷ (xs ++ ys)) ≡ named n (x ∷ xs) ++ named n ys
    go true is ih = rw is (ap (λ l. x ∷ l) ih)
    go false is ih = rw is ih

named_both : (n : Text) (a b : Option (List Named)) → option_map (named n) (both a b) ≡ both (option_map (named n) a) (option_map (named n) b)
named_both n None b = refl
named_both n (Some xs) None = refl
named_both n (Some xs) (Some ys) = ap (λ l. Some l) (named_append n xs ys)

-- some list where it is there, and else none
abbrev where_there : {X Y : Type 0} → Option X → Y → Option Y
where_there None y = None
where_there (Some x) y = Some y

-- the items of a form bear its name
kept : (n : Text) (f : Form) (x : Option Item) → bytes_eq n f.name ≡ true → option_map (named n) (under f x) ≡ under f x
kept n f None e = refl
kept n f (Some x) e = rw e refl

dropped : (n : Text) (f : Form) (x : Option Item) (ks : List Named) → bytes_eq n f.name ≡ false → under f x ≡ Some ks → named n ks ≡ []
dropped n f None ks e is = absurd cc
dropped n f (Some x) ks e is = let same : (f.name, x) ∷ [] ≡ ks = cc in ap (named n) (sym same) ∙ rw e refl

module _ (s : SchemaValue) (n : Text) (f : Form) where
  kept_places : (hs : List Halves) → bytes_eq n f.name ≡ true → option_map (named n) (joined (map (place_items s f) hs)) ≡ joined (map (place_items s f) hs)
  kept_places [] e = refl
  kept_places (h ∷ hs) e =
      named_both n (place_items s f h) (joined (map (place_items s f) hs))
      ∙ ap₂ (λ (a b : Option (List Named)). both a b) (kept n f (content_item s f.content f.code h.0 h.1) e) (kept_places hs e)

  dropped_both : (a b : Option (List Named)) (ks : List Named) → ((xs : List Named) → a ≡ Some xs → named n xs ≡ [])
      → ((ys : List Named) → b ≡ Some ys → named n ys ≡ []) → both a b ≡ Some ks → named n ks ≡ []
  dropped_both None b ks first rest is = absurd cc
  dropped_both (Some xs) None ks first rest is = absurd cc
  dropped_both (Some xs) (Some ys) ks first rest is =
      let same : xs ++ ys ≡ ks = cc in
      ap (named n) (sym same) ∙ named_append n xs ys ∙ ap₂ (λ (l m : List Named). l ++ m) (first xs refl) (rest ys refl)

  dropped_places : (hs : List Halves) (ks : List Named) → bytes_eq n f.name ≡ false → joined (map (place_items s f) hs) ≡ Some ks → named n ks ≡ []
  dropped_places [] ks e is = let same : [] ≡ ks = cc in ap (named n) (sym same)
  dropped_places (h ∷ hs) ks e is =
      dropped_both (place_items s f h) (joined (map (place_items s f) hs)) ks (λ xs i. dropped n f (content_item s f.content f.code h.0 h.1) xs e i)
      (λ ys i. dropped_places hs ys e i) is

  kept_from : (hs : Option (List Halves)) → bytes_eq n f.name ≡ true
      → option_map (named n) (option_and_then (λ l. joined (map (place_items s f) l)) hs) ≡ option_and_then (λ l. joined (map (place_items s f) l)) hs
  kept_from None e = refl
  kept_from (Some hs) e = kept_places hs e

  dropped_from : (hs : Option (List Halves)) (ks : List Named) → bytes_eq n f.name ≡ false
      → option_and_then (λ l. joined (map (place_items s f) l)) hs ≡ Some ks → named n ks ≡ []
  dropped_from None ks e is = absurd cc
  dropped_from (Some hs) ks e is = dropped_places hs ks e is

-- the items of the forms of a name, of those of all forms
named_forms : (s : SchemaValue) (fields : List Field) (n : Text) (fs : List Form) (ks : List Named) → joined (map (form_items s fields) fs) ≡ Some ks
    → joined (map (form_items s fields) (filter (λ f. bytes_eq n f.name) fs)) ≡ Some (named n ks)
named_forms s fields n [] ks is = let same : [] ≡ ks = cc in ap (λ l. Some (named n l)) same
named_forms s fields n (f ∷ fs) ks is =
    go (form_items s fields f) refl (joined (map (form_items s fields) fs)) refl is (λ ys i. named_forms s fields n fs ys i)
  where
    places : Option (List Halves)
    places = places_of f.repeats (value_in f fields) (companion_in f fields)

    go : (a : Option (List Named)) → form_items s fields f ≡ a → (b : Option (List Named)) → joined (map (form_items s fields) fs) ≡ b → both a b ≡ Some ks
        → ((ys : List Named) → joined (map (form_items s fields) fs) ≡ Some ys
        → joined (map (form_items s fields) (filter (λ f. bytes_eq n f.name) fs)) ≡ Some (named n ys))
        → joined (map (form_items s fields) (filter (λ f. bytes_eq n f.name) (f ∷ fs))) ≡ Some (named n ks)
    go None a_is b b_is is ih = absurd cc
    go (Some xs) a_is None b_is is ih = absurd cc
    go (Some xs) a_is (Some ys) b_is is ih = here (bytes_eq n f.name) refl
      where
        same : xs ++ ys ≡ ks
        same = cc

        here : (e : Bool) → bytes_eq n f.name ≡ e → joined (map (form_items s fields) (filter (λ f. bytes_eq n f.name) (f ∷ fs))) ≡ Some (named n ks)
        here true e =
            let mine : Some (named n xs) ≡ form_items s fields f = ap (option_map (named n)) (sym a_is) ∙ kept_from s n f places e in
            rw e (ap₂ (λ (a b : Option (List Named)). both a b) (sym mine) (ih ys b_is) ∙ ap (λ l. Some l) (sym (named_append n xs ys) ∙ ap (named n) same))
        here false e =
            rw e (ih ys b_is ∙ ap (λ l. Some l) (sym (named_append n xs ys ∙ ap (λ l. l ++ named n ys) (dropped_from s n f places xs e a_is))
            ∙ ap (named n) same))

pub accounts_for_each_property : (s : SchemaValue) (fr : Frame) (fields : List Field) (kids : List Named) → object_kids s fr fields ≡ Some kids → Accounts s fr fields kids
accounts_for_each_property s fr fields kids is = go (nat_lt 0 (length fields)) refl (list_all (λ x. is_known s fr x.name) fields) refl
  where
    go : (a : Bool) → nat_lt 0 (length fields) ≡ a → (b : Bool) → list_all (λ x. is_known s fr x.name) fields ≡ b → Accounts s fr fields kids
    go true a_is true b_is =
        record {
          known = λ x at. contained (λ (y : Field). is_known s fr y.name) fields at.0 x b_is at.1 at.2;
          typed = λ n. named_forms s fields n (forms_in s fr) kids (rw (a_is, b_is) at is);
        }
    go true a_is false b_is = absurd (let clash = rw (a_is, b_is) at is in cc)
    go false a_is b b_is = absurd (let clash = rw a_is at is in cc)
