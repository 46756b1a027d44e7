-- Look-ups by name, among keys in the order of their bytes.
use Rattle.std.proofs.Common.{◌≡◌, ℕ, Bool, cond, true, false, List, [], ◌∷◌, Option, Some, None, option_map, refl, ap, sym, subst, ◌∙◌, String, string_bytes}
use Rattle.std.specs.declared.alloc.Global.{Global}
use Rattle.std.specs.Map.{lookup}
use Rattle.std.specs.Str.{bytes_eq}
use Rattle.std.specs.Ordering.{nat_cmp}
use Rattle.std.specs.Cmp.Lexicographic.{slice_cmp}
use Rattle.std.specs.String.{string_cmp}
use Rattle.std.specs.BTreeMap.{BTreeMap, is_at, UpdatesBy, get_by_text}
use Rattle.std.proofs.lemmas.Map.Text.{is_eq-slice_cmp, btree_map_updates_text}
use Rattle.std.proofs.lemmas.Slice.Eq.{bytes_eq-Decides}
use Rattle.fhir_names.specs.Places.{Places, place_of, by_name, Puts, Sets, Removes}

pub lookup-named : {Y V : Type 0} (name : List ℕ) (es : List (String Y × V))
    → lookup (is_at (λ k. slice_cmp nat_cmp name (string_bytes k))) es ≡ lookup (bytes_eq name) (by_name es)
lookup-named name [] = refl
lookup-named {Y} {V} name (e ∷ es) =
    ap (λ (b : Bool). cond b (Some e.1) (lookup (is_at (λ k. slice_cmp nat_cmp name (string_bytes k))) es)) (is_eq-slice_cmp name (string_bytes e.0))
    ∙ ap (λ (r : Option V). cond (bytes_eq name (string_bytes e.0)) (Some e.1) r) (lookup-named name es)

-- names are equal whichever comes first
turned : (xs ys : List ℕ) (b : Bool) → bytes_eq xs ys ≡ b → (a : Bool) → bytes_eq ys xs ≡ a → bytes_eq xs ys ≡ bytes_eq ys xs
turned xs ys true e a f = e ∙ sym ((bytes_eq-Decides ys xs).1 (sym ((bytes_eq-Decides xs ys).0 e)))
turned xs ys false e true f = ((bytes_eq-Decides xs ys).1 (sym ((bytes_eq-Decides ys xs).0 f))) ∙ sym f
turned xs ys false e false f = e ∙ sym f

-- a name's entry is changed, and each other name finds what it found
updates-named : (old new : BTreeMap (String Global) ℕ) (name : List ℕ) (w : Option ℕ)
    → UpdatesBy string_cmp (λ k. slice_cmp nat_cmp name (string_bytes k)) old new w → (other : List ℕ)
    → place_of (by_name new.entries) other ≡ cond (bytes_eq other name) w (place_of (by_name old.entries) other)
updates-named old new name w h other =
    sym (lookup-named other new.entries)
    ∙ btree_map_updates_text name old new w h other
    ∙ ap (λ (b : Bool). cond b w (get_by_text old other)) (turned name other (bytes_eq name other) refl (bytes_eq other name) refl)
    ∙ ap (λ (r : Option ℕ). cond (bytes_eq other name) w r) (lookup-named other old.entries)

pub put-named : (old new : BTreeMap (String Global) ℕ) (key : String Global) (name : List ℕ) (place : ℕ) → string_bytes key ≡ name
    → UpdatesBy string_cmp (string_cmp key) old new (Some place) → Puts (by_name old.entries) (by_name new.entries) name place
put-named old new key name place is h = subst (λ n. Puts (by_name old.entries) (by_name new.entries) n place) is (updates-named old new (string_bytes key) (Some place) h)

pub remove-named : (old new : BTreeMap (String Global) ℕ) (name : List ℕ) → UpdatesBy string_cmp (λ k. slice_cmp nat_cmp name (string_bytes k)) old new None
    → Removes (by_name old.entries) (by_name new.entries) name
remove-named old new name h = updates-named old new name None h

pub set-named : (old new : BTreeMap (String Global) ℕ) (name : List ℕ) (there place : ℕ)
    → UpdatesBy string_cmp (λ k. slice_cmp nat_cmp name (string_bytes k)) old new (Some place) → get_by_text old name ≡ Some there
    → Sets (by_name old.entries) (by_name new.entries) name place
set-named old new name there place h is = λ other.
    updates-named old new name (Some place) h other
    ∙ ap (λ (r : Option ℕ). cond (bytes_eq other name) (option_map (λ _. place) r) (place_of (by_name old.entries) other)) (sym is ∙ lookup-named name old.entries)

-- where it has no place, nothing is changed
pub set-none : (places : Places) (name : List ℕ) (place : ℕ) → place_of places name ≡ None → Sets places places name place
set-none places name place none = λ other. by other (bytes_eq other name) refl
  where
    by : (other : List ℕ) (b : Bool) → bytes_eq other name ≡ b → place_of places other ≡ cond b (option_map (λ _. place) (place_of places name)) (place_of places other)
    by other true is = ap (place_of places) ((bytes_eq-Decides other name).0 is) ∙ none ∙ sym (ap (option_map (λ _. place)) none)
    by other false isnt = refl
