-- A set of texts, one more at a time.
use Rattle.std.proofs.Common.{◌≡◌, Bool, true, false, ◌||◌, List, [], ◌∷◌, ◌++◌, Option, Some, None, refl, sym, ap, ap₂, ◌∙◌}
use Rattle.std.specs.Borrow.{Bor}
use Rattle.std.specs.declared.cmp.Ordering.{Ordering}
use Rattle.std.specs.declared.cmp.Ordering.TheVariants.{Less, Equal, Greater}
use Rattle.std.specs.Ordering.{is_eq, nat_cmp, match_ordering}
use Rattle.std.specs.Cmp.Lexicographic.{slice_cmp}
use Rattle.std.specs.List.{list_any}
use Rattle.std.specs.Option.{option_map_or}
use Rattle.std.specs.BTreeSet.{BTreeSet}
use Rattle.std.specs.Str.{bytes_eq}
use Rattle.std.specs.BTreeMap.{is_at}
use Rattle.std.specs.BTreeSet.{insert_key}
use Rattle.std.proofs.lemmas.Map.Text.{is_eq-slice_cmp}
use Rattle.std.proofs.lemmas.Slice.Eq.{bytes_eq-Decides}
use Rattle.fhir_json.specs.Tree.{Text}
use Rattle.fhir_schema.specs.Schemas.{SchemaValue}
use Rattle.fhir_facets.specs.Targets.{target_type}
use Rattle.fhir_targets.specs.Texts.{has_text}
use Rattle.fhir_targets.specs.Base.{names_code, has_code, AreTexts, AreCodes}
use Rattle.fhir_targets.proofs.Taking.{any_more}

-- how texts are compared in a set
abbrev pub text_cmp : Bor Text → Bor Text → Ordering
text_cmp x y = slice_cmp nat_cmp x.now y.now

pub any_key : (text : Text) (ks : List (Bor Text))
    → list_any (is_at (λ k. slice_cmp nat_cmp text k.now)) ks ≡ list_any (λ k. bytes_eq text k.now) ks
any_key text [] = refl
any_key text (k ∷ ks) = ap₂ (λ (a b : Bool). a || b) (is_eq-slice_cmp text k.now) (any_key text ks)

pub any-insert_key : (text : Text) (k : Bor Text) (ks : List (Bor Text))
    → list_any (λ x. bytes_eq text x.now) (insert_key text_cmp ks k) ≡ (bytes_eq text k.now || list_any (λ x. bytes_eq text x.now) ks)
any-insert_key text k [] = refl
any-insert_key text k (x ∷ ks) = at (text_cmp k x) refl (any-insert_key text k ks)
  where
    at : (o : Ordering) → text_cmp k x ≡ o
        → list_any (λ y. bytes_eq text y.now) (insert_key text_cmp ks k) ≡ (bytes_eq text k.now || list_any (λ y. bytes_eq text y.now) ks)
        → list_any (λ y. bytes_eq text y.now) (match_ordering o (k ∷ x ∷ ks) (x ∷ ks) (x ∷ insert_key text_cmp ks k))
        ≡ (bytes_eq text k.now || (bytes_eq text x.now || list_any (λ y. bytes_eq text y.now) ks))
    at Less is later = refl
    at Equal is later =
        let same : k.now ≡ x.now = (bytes_eq-Decides k.now x.now).0 (sym (is_eq-slice_cmp k.now x.now) ∙ ap is_eq is) in
        sym (twice (bytes_eq text k.now) (bytes_eq text x.now) _ (ap (bytes_eq text) same))
      where
        twice : (a b c : Bool) → a ≡ b → (a || (b || c)) ≡ (b || c)
        twice true b c e = e ∙ rw (sym e) refl
        twice false b c e = refl
    at Greater is later =
        ap (λ (b : Bool). bytes_eq text x.now || b) later ∙ swapped (bytes_eq text x.now) (bytes_eq text k.now) _
      where
        swapped : (a b c : Bool) → (a || (b || c)) ≡ (b || (a || c))
        swapped true true c = refl
        swapped true false c = refl
        swapped false b c = refl

or_turned : (a b : Bool) → (a || b) ≡ (b || a)
or_turned true true = refl
or_turned true false = refl
or_turned false true = refl
or_turned false false = refl

or_none : (b : Bool) → (b || false) ≡ b
or_none true = refl
or_none false = refl

-- what a set has with one more text
abbrev pub Puts : BTreeSet (Bor Text) → BTreeSet (Bor Text) → Text → Type 0
Puts old new text = (t : Text) → has_text t new ≡ (bytes_eq t text || has_text t old)

pub texts_more : (before after : List Text) (text key : Text) (old new : BTreeSet (Bor Text)) → after ≡ before ++ text ∷ [] → key ≡ text
    → Puts old new key → AreTexts before old → AreTexts after new
texts_more before after text key old new more is puts so_far t =
    puts t ∙ or_turned (bytes_eq t key) (has_text t old)
    ∙ ap₂ (λ (a b : Bool). a || b) (so_far t) (ap (bytes_eq t) is)
    ∙ sym (any_more (bytes_eq t) before text) ∙ ap (list_any (bytes_eq t)) (sym more)

module _ (s : SchemaValue) (targets : List Text) (target : Text) where
  -- the code of the type that one more target names, if it names one
  pub code_more : (code c : Text) → target_type s target ≡ Some code → (has_code s targets c || bytes_eq c code) ≡ has_code s (targets ++ target ∷ []) c
  code_more code c is =
      ap (λ (o : Option Text). has_code s targets c || option_map_or (bytes_eq c) o false) (sym is) ∙ sym (any_more (names_code s c) targets target)

  pub no_code_more : (c : Text) → target_type s target ≡ None → has_code s targets c ≡ has_code s (targets ++ target ∷ []) c
  no_code_more c is =
      sym (or_none (has_code s targets c))
      ∙ ap (λ (o : Option Text). has_code s targets c || option_map_or (bytes_eq c) o false) (sym is) ∙ sym (any_more (names_code s c) targets target)

  pub codes_more : (code : Text) (old new : BTreeSet (Bor Text)) → target_type s target ≡ Some code → Puts old new code → AreCodes s targets old
      → AreCodes s (targets ++ target ∷ []) new
  codes_more code old new is puts so_far c =
      puts c ∙ or_turned (bytes_eq c code) (has_text c old) ∙ ap (λ (b : Bool). b || bytes_eq c code) (so_far c) ∙ code_more code c is

  pub codes_same : (old : BTreeSet (Bor Text)) → target_type s target ≡ None → AreCodes s targets old → AreCodes s (targets ++ target ∷ []) old
  codes_same old is so_far c = so_far c ∙ no_code_more c is

-- whether the text is among the keys of a set
abbrev pub has_in : Text → List (Bor Text) → Bool
has_in text ks = list_any (λ k. bytes_eq text k.now) ks

abbrev pub one_more_target : List Text → Text → List Text
one_more_target targets target = targets ++ target ∷ []
