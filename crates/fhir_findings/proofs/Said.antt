-- What constraints say, one constraint more at a time.
use Rattle.std.proofs.Common.{◌≡◌, ℕ, zero, suc, Bool, true, false, cond, ◌==◌, List, [], ◌∷◌, ◌++◌, map, Option, None, Some, refl, sym, ap, ◌∙◌, arith}
use Rattle.std.specs.List.{slice_get}
use Rattle.std.specs.Option.{option_map, option_and_then, option_map_or, option_or}
use Rattle.std.specs.Str.{bytes_eq}
use Rattle.std.proofs.lemmas.Bool.{and_parts, false≢true}
use Rattle.std.proofs.lemmas.Option.{none-some, same_Some}
use Rattle.std.proofs.lemmas.Slice.Eq.{bytes_eq-Decides}
use Rattle.fhir_json.specs.Tree.{Text}
use Rattle.fhir_names.specs.Places.{Places}
use Rattle.fhir_package.specs.Definitions.{Definitions}
use Rattle.fhir_findings.specs.Carrying.{Carrier}
use Rattle.fhir_findings.specs.Sentences.{Wording, are_same, is_of, said_of, first_said, all_wordings, constraint_named, sentence_for}
use Rattle.fhir_findings.specs.Seeking.{said_for, place_under, own_place, kept_at, found_at, AreSaid}

or_none : {A : Type 0} (o : Option A) → option_or o None ≡ o
or_none None = refl
or_none (Some x) = refl

or_assoc : {A : Type 0} (a b c : Option A) → option_or a (option_or b c) ≡ option_or (option_or a b) c
or_assoc None b c = refl
or_assoc (Some x) b c = refl

-- ---- the first that says something

pub said-snoc : (said : Wording → Option Text) (ts : List Wording) (t : Wording) → first_said said (ts ++ t ∷ []) ≡ option_or (first_said said ts) (said t)
said-snoc said [] t = or_none (said t)
said-snoc said (u ∷ ts) t = ap (option_or (said u)) (said-snoc said ts t) ∙ or_assoc (said u) (first_said said ts) (said t)

none_said : (said : Wording → Option Text) → ((t : Wording) → said t ≡ None) → (ts : List Wording) → first_said said ts ≡ None
none_said said none [] = refl
none_said said none (t ∷ ts) = ap (λ (o : Option Text). option_or o (first_said said ts)) (none t) ∙ none_said said none ts

pub sentence_said : (p : Definitions) (c : Carrier) → first_said (said_for c) (all_wordings p) ≡ sentence_for p c
sentence_said p c = by (constraint_named c)
  where
    by : (n : Option (Text × Option Text))
        → first_said (λ t. option_and_then (λ m. said_of m.0 m.1 t) n) (all_wordings p)
        ≡ option_and_then (λ m. first_said (said_of m.0 m.1) (all_wordings p)) n
    by None = none_said (λ t. None) (λ t. refl) (all_wordings p)
    by (Some n) = refl

-- ---- a constraint that is the one which is carried has its place

same_options : (a b : Option Text) → are_same a b ≡ true → a ≡ b
same_options None None h = refl
same_options None (Some y) h = absurd (false≢true h)
same_options (Some x) None h = absurd (false≢true h)
same_options (Some x) (Some y) h = ap Some ((bytes_eq-Decides x y).0 h)

module _ (expressions keys : Places) where
  placed_said : (c : Carrier) (t : Wording) (s : Text) → said_for c t ≡ Some s
      → place_under expressions keys t.key t.expression ≡ own_place expressions keys c
  placed_said c t s said = by (constraint_named c) said
    where
      at : (n : Text × Option Text) (b : Bool) → is_of n.0 n.1 t ≡ b → cond b t.human None ≡ Some s
          → place_under expressions keys t.key t.expression ≡ place_under expressions keys n.0 n.1
      at n false is said = absurd (none-some s said)
      at n true is said =
          let parts = and_parts (bytes_eq n.0 t.key) (are_same n.1 t.expression) is in
          let key : t.key ≡ n.0 = sym ((bytes_eq-Decides n.0 t.key).0 parts.0) in
          let text : t.expression ≡ n.1 = sym (same_options n.1 t.expression parts.1) in
          ap (λ (k : Text). place_under expressions keys k t.expression) key ∙ ap (place_under expressions keys n.0) text

      by : (n : Option (Text × Option Text)) → option_and_then (λ m. said_of m.0 m.1 t) n ≡ Some s
          → place_under expressions keys t.key t.expression ≡ option_and_then (λ m. place_under expressions keys m.0 m.1) n
      by None said = absurd (none-some s said)
      by (Some n) said = at n (is_of n.0 n.1 t) refl said

  -- ---- what is kept

  kept_same : (t : Wording) (c : Carrier) → said_for c t ≡ None → (cs : List Carrier) (found : List (Option Text)) (place k : ℕ) → slice_get cs k ≡ Some c
      → slice_get (kept_at cs found place t) k ≡ slice_get found k
  kept_same t c none [] found place k is = refl
  kept_same t c none (d ∷ cs) [] place k is = refl
  kept_same t c none (d ∷ cs) (o ∷ found) zero zero is =
      let one : said_for d t ≡ None = ap (λ (e : Carrier). said_for e t) (same_Some d c is) ∙ none in
      ap Some (ap (option_or o) one ∙ or_none o)
  kept_same t c none (d ∷ cs) (o ∷ found) zero (suc k) is = refl
  kept_same t c none (d ∷ cs) (o ∷ found) (suc place) zero is = refl
  kept_same t c none (d ∷ cs) (o ∷ found) (suc place) (suc k) is = kept_same t c none cs found place k is

  kept_there : (t : Wording) (c : Carrier) (cs : List Carrier) (found : List (Option Text)) (k : ℕ) → slice_get cs k ≡ Some c
      → slice_get (kept_at cs found k t) k ≡ option_map (λ o. option_or o (said_for c t)) (slice_get found k)
  kept_there t c [] found k is = absurd (none-some c is)
  kept_there t c (d ∷ cs) [] k is = refl
  kept_there t c (d ∷ cs) (o ∷ found) zero is = ap (λ (e : Carrier). Some (option_or o (said_for e t))) (same_Some d c is)
  kept_there t c (d ∷ cs) (o ∷ found) (suc k) is = kept_there t c cs found k is

  -- one constraint more
  pub keeps_said : (cs : List Carrier) (found new : List (Option Text)) (ts : List Wording) (t : Wording) (o : Option ℕ)
      → o ≡ place_under expressions keys t.key t.expression
      → new ≡ option_map_or (λ place. kept_at cs found place t) o found
      → AreSaid expressions keys cs found ts → AreSaid expressions keys cs new (ts ++ t ∷ [])
  keeps_said cs found new ts t o at kept are k c is own =
      ap (λ (l : List (Option Text)). slice_get l k) kept
      ∙ by (said_for c t) refl o at
      ∙ ap Some (sym (said-snoc (said_for c) ts t))
    where
      found_said : slice_get found k ≡ Some (first_said (said_for c) ts)
      found_said = are k c is own

      none_said_here : said_for c t ≡ None → Some (first_said (said_for c) ts) ≡ Some (option_or (first_said (said_for c) ts) (said_for c t))
      none_said_here said = ap Some (sym (ap (option_or (first_said (said_for c) ts)) said ∙ or_none (first_said (said_for c) ts)))

      there : (s : Text) → said_for c t ≡ Some s → (o : Option ℕ) → o ≡ Some k
          → slice_get (option_map_or (λ place. kept_at cs found place t) o found) k ≡ Some (option_or (first_said (said_for c) ts) (said_for c t))
      there s said o here =
          ap (λ (p : Option ℕ). slice_get (option_map_or (λ place. kept_at cs found place t) p found) k) here
          ∙ kept_there t c cs found k is
          ∙ ap (option_map (λ p. option_or p (said_for c t))) (are k c is own)

      by : (s : Option Text) → said_for c t ≡ s → (o : Option ℕ) → o ≡ place_under expressions keys t.key t.expression
          → slice_get (option_map_or (λ place. kept_at cs found place t) o found) k ≡ Some (option_or (first_said (said_for c) ts) (said_for c t))
      by None said None at = are k c is own ∙ none_said_here said
      by None said (Some place) at = kept_same t c said cs found place k is ∙ are k c is own ∙ none_said_here said
      by (Some s) said o at = there s said o (at ∙ placed_said c t s said ∙ own)

  nothing_kept : (cs : List Carrier) (k : ℕ) (c : Carrier) → slice_get cs k ≡ Some c → slice_get (map (λ _. let n : Option Text = None in n) cs) k ≡ Some None
  nothing_kept [] k c is = absurd (none-some c is)
  nothing_kept (d ∷ cs) zero c is = refl
  nothing_kept (d ∷ cs) (suc k) c is = nothing_kept cs k c is

  pub none_kept : (cs : List Carrier) (found : List (Option Text)) → found ≡ map (λ _. let n : Option Text = None in n) cs → AreSaid expressions keys cs found []
  none_kept cs found e k c is own = ap (λ (l : List (Option Text)). slice_get l k) e ∙ nothing_kept cs k c is

  -- what is found at its own place
  pub found_said : (cs : List Carrier) (found : List (Option Text)) (ts : List Wording) (k : ℕ) (c : Carrier) (s : Option Text)
      → AreSaid expressions keys cs found ts → slice_get cs k ≡ Some c → Some s ≡ found_at (own_place expressions keys c) found k → s ≡ first_said (said_for c) ts
  found_said cs found ts k c s are is at = by (own_place expressions keys c) refl at
    where
      by : (o : Option ℕ) → own_place expressions keys c ≡ o → Some s ≡ found_at o found k → s ≡ first_said (said_for c) ts
      by None own at = absurd (none-some s (sym at))
      by (Some place) own at = same (place == k) refl at
        where
          same : (b : Bool) → (place == k) ≡ b → Some s ≡ cond b (slice_get found k) None → s ≡ first_said (said_for c) ts
          same false e at = absurd (none-some s (sym at))
          same true e at =
              let here : place ≡ k = grind arith in
              same_Some s (first_said (said_for c) ts) (at ∙ are k c is (own ∙ ap Some here))
