-- The urls at which two packages differ, taken one after another.
use Rattle.std.proofs.Common.{◌≡◌, ℕ, ◌<◌, ◌≤◌, ◌+◌, Bool, true, false, not, ◌&&◌, ◌||◌, List, [], ◌∷◌, ◌++◌, drop, length, Option, None, Some, is_some, if◌then◌else◌}
use Rattle.std.proofs.Common.{refl, ap, sym, ◌∙◌, subst, arith, append_assoc}
use Rattle.std.specs.List.{slice_get}
use Rattle.std.specs.Option.{option_map, option_to_list}
use Rattle.std.specs.Map.{lookup, keys_of}
use Rattle.std.specs.Str.{bytes_eq}
use Rattle.std.proofs.lemmas.Map.Made.{is_some-lookup}
use Rattle.std.proofs.lemmas.List.Folds.{list_any-append}
use Rattle.std.proofs.lemmas.Slice.Eq.{bytes_eq-Decides}
use Rattle.fhir_json.specs.Tree.{Text, Tree}
use Rattle.fhir_json.specs.Sound.{is_among}
use Rattle.fhir_names.specs.Places.{Places, place_of, Puts}
use Rattle.fhir_package.specs.declared.kind.Kind.{Kind}
use Rattle.fhir_package.specs.Definitions.{ByUrl, Definitions, of_kind, at_url}
use Rattle.fhir_alike.proofs.Rests.{rest_at, rest_none, append_nothing}
use Rattle.fhir_alike.specs.Differing.{same_tree, is_same, Differ, DifferAmong}

among_push : (x y : Text) (xs : List Text) → is_among x (xs ++ y ∷ []) ≡ (is_among x xs || bytes_eq x y)
among_push x y [] = go (bytes_eq x y)
  where
    go : (b : Bool) → (b || false) ≡ (false || b)
    go true = refl
    go false = refl
among_push x y (z ∷ zs) = go (bytes_eq x z) (among_push x y zs)
  where
    go : (b : Bool) → is_among x (zs ++ y ∷ []) ≡ (is_among x zs || bytes_eq x y)
        → (b || is_among x (zs ++ y ∷ [])) ≡ ((b || is_among x zs) || bytes_eq x y)
    go true e = refl
    go false e = e

same_text : (x y : Text) → bytes_eq x y ≡ true → x ≡ y
same_text x y e = (bytes_eq-Decides x y).0 e

module _ (kind : Kind) (old new : Definitions) where
  -- a url at which both have one definition is none of them
  pub differ_same : (url : Text) (seen : List Text) (urls : Places) → is_same kind url old new ≡ true → DifferAmong kind old new seen urls
      → DifferAmong kind old new (seen ++ url ∷ []) urls
  differ_same url seen urls same h other = go (bytes_eq other url) refl (is_among other seen) refl
    where
      go : (b : Bool) → bytes_eq other url ≡ b → (a : Bool) → is_among other seen ≡ a
          → is_some (place_of urls other) ≡ (is_among other (seen ++ url ∷ []) && not (is_same kind other old new))
      go true e a f =
          let is : is_same kind other old new ≡ true = ap (λ u. is_same kind u old new) (same_text other url e) ∙ same in
          let before = h other in
          let pushed = among_push other url seen in
          grind (arith, is, before, pushed, e, f)
      go false e a f =
          let before = h other in
          let pushed = among_push other url seen in
          grind (arith, before, pushed, e, f)

  -- one at which they don't is put in
  pub differ_more : (url : Text) (seen : List Text) (urls more : Places) → is_same kind url old new ≡ false → Puts urls more url 0
      → DifferAmong kind old new seen urls → DifferAmong kind old new (seen ++ url ∷ []) more
  differ_more url seen urls more differs puts h other = go (bytes_eq other url) refl
    where
      go : (b : Bool) → bytes_eq other url ≡ b
          → is_some (place_of more other) ≡ (is_among other (seen ++ url ∷ []) && not (is_same kind other old new))
      go true e =
          let is : is_same kind other old new ≡ false = ap (λ u. is_same kind u old new) (same_text other url e) ∙ differs in
          let now : place_of more other ≡ Some 0 = puts other ∙ ap (λ b. if b then Some 0 else place_of urls other) e in
          let there : is_some (place_of more other) ≡ true = ap is_some now in
          let pushed = among_push other url seen in
          grind (arith, is, there, pushed, e)
      go false e =
          let now : place_of more other ≡ place_of urls other = puts other ∙ ap (λ b. if b then Some 0 else place_of urls other) e in
          let there : is_some (place_of more other) ≡ is_some (place_of urls other) = ap is_some now in
          let before = h other in
          let pushed = among_push other url seen in
          grind (arith, before, there, pushed, e)

  -- no url at all is taken at first
  pub differ_none : DifferAmong kind old new [] []
  differ_none url = refl

  -- the same where perhaps no url is there
  pub differ_given : (there : Option Text) (url : Text) (seen : List Text) (urls : Places) → there ≡ Some url
      → DifferAmong kind old new (seen ++ url ∷ []) urls → DifferAmong kind old new (seen ++ option_to_list there) urls
  differ_given there url seen urls is h = subst (λ o. DifferAmong kind old new (seen ++ option_to_list o) urls) (sym is) h

  pub differ_nothing : (there : Option Text) (seen : List Text) (urls : Places) → there ≡ None → DifferAmong kind old new seen urls
      → DifferAmong kind old new (seen ++ option_to_list there) urls
  differ_nothing there seen urls is h =
      subst (λ o. DifferAmong kind old new (seen ++ option_to_list o) urls) (sym is)
      (subst (λ us. DifferAmong kind old new us urls) (sym (append_nothing seen)) h)

  -- those that were taken of a list of entries, and what is left behind them
  abbrev pub AreTaken : ByUrl → ℕ → (seen : List Text) → Places → Type 0
  AreTaken es i seen urls =
      (before : List Text) × DifferAmong kind old new before urls × (before ++ keys_of (drop i es) ≡ seen ++ keys_of es)

  -- one turn of the loop over them
  pub taken_turn : (es : ByUrl) (i : ℕ) (seen : List Text) (urls more : Places) (there : Option Text) → i < length es
      → there ≡ option_map (λ e. e.0) (slice_get es i)
      → ((taken : List Text) → DifferAmong kind old new taken urls → DifferAmong kind old new (taken ++ option_to_list there) more)
      → AreTaken es i seen urls → AreTaken es (i + 1) seen more
  taken_turn es i seen urls more there h is now was =
      let r = rest_at es i h in
      let url : there ≡ Some r.0.0 = is ∙ ap (option_map (λ e. e.0)) r.1 in (
        was.0 ++ option_to_list there,
        now was.0 was.1,
        ap (λ o. (was.0 ++ option_to_list o) ++ keys_of (drop (i + 1) es)) url
            ∙ append_assoc was.0 (r.0.0 ∷ []) (keys_of (drop (i + 1) es))
            ∙ ap (λ xs. was.0 ++ keys_of xs) (sym r.2)
            ∙ was.2,
      )

  pub taken_all : (es : ByUrl) (i : ℕ) (seen : List Text) (urls : Places) → length es ≤ i → AreTaken es i seen urls
      → DifferAmong kind old new (seen ++ keys_of es) urls
  taken_all es i seen urls h was =
      let rest : keys_of (drop i es) ≡ [] = ap (λ (fs : ByUrl). keys_of fs) (rest_none es i h) in
      let all : was.0 ≡ seen ++ keys_of es = sym (append_nothing was.0) ∙ sym (ap (λ xs. was.0 ++ xs) rest) ∙ was.2 in
      subst (λ xs. DifferAmong kind old new xs urls) all was.1

  nowhere : (url : Text) (es : ByUrl) → is_among url (keys_of es) ≡ false → lookup (bytes_eq url) es ≡ None
  nowhere url es e = go (lookup (bytes_eq url) es) (is_some-lookup (bytes_eq url) es ∙ e)
    where
      go : (o : Option Tree) → is_some o ≡ false → o ≡ None
      go None f = refl
      go (Some t) f = cc

  -- all of them are those of both packages
  pub differ_all : (urls : Places) → DifferAmong kind old new (keys_of (of_kind kind old) ++ keys_of (of_kind kind new)) urls
      → Differ kind old new urls
  differ_all urls h url =
      go (is_among url (keys_of (of_kind kind old) ++ keys_of (of_kind kind new))) refl
    where
      go : (b : Bool) → is_among url (keys_of (of_kind kind old) ++ keys_of (of_kind kind new)) ≡ b
          → is_some (place_of urls url) ≡ not (is_same kind url old new)
      go true e = h url ∙ ap (λ b. b && not (is_same kind url old new)) e
      go false e =
          let parts = list_any-append (bytes_eq url) (keys_of (of_kind kind old)) (keys_of (of_kind kind new)) in
          let in_old : is_among url (keys_of (of_kind kind old)) ≡ false = grind (arith, parts, e) in
          let in_new : is_among url (keys_of (of_kind kind new)) ≡ false = grind (arith, parts, e) in
          let neither : is_same kind url old new ≡ true =
          ap (λ a. same_tree a (at_url kind url new)) (nowhere url (of_kind kind old) in_old)
          ∙ ap (same_tree None) (nowhere url (of_kind kind new) in_new) in
          h url ∙ ap (λ b. b && not (is_same kind url old new)) e ∙ sym (ap not neither)
