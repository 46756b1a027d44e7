-- What a map from names to answers says of its entries with each name as its bytes.
use Rattle.std.proofs.Common.{◌≡◌, ℕ, ◌+◌, Bool, cond, true, false, List, length, Option, Some, None, is_some, refl, ap, sym, ◌∙◌, String, string_bytes}
use Rattle.std.proofs.lemmas.List.{length-map}
use Rattle.std.specs.Map.{lookup}
use Rattle.std.specs.Option.{option_map_or}
use Rattle.std.specs.Str.{bytes_eq}
use Rattle.std.specs.Ordering.{nat_cmp}
use Rattle.std.specs.Cmp.Lexicographic.{slice_cmp}
use Rattle.std.specs.String.{string_cmp}
use Rattle.std.specs.BTreeMap.{BTreeMap, is_at, UpdatesBy, get_by_text, get, btree_map_len}
use Rattle.std.proofs.lemmas.Map.Text.{btree_map_updates_text}
use Rattle.std.proofs.lemmas.Slice.Eq.{bytes_eq-Decides}
use Rattle.fhir_json.specs.Tree.{Text}
use Rattle.fhir_names.specs.Places.{by_name}
use Rattle.fhir_names.proofs.Named.{lookup-named}
use Rattle.fhir_asking.specs.Asking.{Answer, wants, found, is_wanting, known}
use Rattle.fhir_asking.specs.Settling.{Learns}

-- names are equal whichever comes first
turned : (xs ys : List ℕ) (b : Bool) → bytes_eq xs ys ≡ b → (a : Bool) → bytes_eq ys xs ≡ a → bytes_eq xs ys ≡ bytes_eq ys xs
turned xs ys true e a f = e ∙ sym ((bytes_eq-Decides ys xs).1 (sym ((bytes_eq-Decides xs ys).0 e)))
turned xs ys false e true f = ((bytes_eq-Decides xs ys).1 (sym ((bytes_eq-Decides ys xs).0 f))) ∙ sym f
turned xs ys false e false f = e ∙ sym f

module _ {A : Type 0} where
  chosen : (b : Bool) (thing : Option A) (o : Option (Option A)) (other : Answer A) → option_map_or found (cond b (Some thing) o) other ≡ cond b (found thing) (option_map_or found o other)
  chosen true thing o other = refl
  chosen false thing o other = refl

  none_there : (o : Option (Option A)) (name : Text) → is_wanting (option_map_or found o (wants name)) ≡ true → is_some o ≡ false
  none_there None name e = refl
  none_there (Some thing) name e = cc

module _ {Y A : Type 0} where
  pub learned : (old new : BTreeMap (String Y) (Option A)) (key : String Y) (thing : Option A)
      → UpdatesBy string_cmp (string_cmp key) old new (Some thing) → Learns (by_name old.entries) (by_name new.entries) (string_bytes key) thing
  learned old new key thing h = λ other.
      let name : List ℕ = string_bytes key in
      let there : lookup (bytes_eq other) (by_name new.entries) ≡ cond (bytes_eq other name) (Some thing) (lookup (bytes_eq other) (by_name old.entries)) =
      sym (lookup-named other new.entries)
      ∙ btree_map_updates_text name old new (Some thing) h other
      ∙ ap (λ (b : Bool). cond b (Some thing) (get_by_text old other)) (turned name other (bytes_eq name other) refl (bytes_eq other name) refl)
      ∙ ap (λ (r : Option (Option A)). cond (bytes_eq other name) (Some thing) r) (lookup-named other old.entries) in
      ap (λ (r : Option (Option A)). option_map_or found r (wants other)) there
      ∙ chosen (bytes_eq other name) thing (lookup (bytes_eq other) (by_name old.entries)) (wants other)

  -- where nothing is known of a name, the map hasn't it
  missing : (es : List (String Y × Option A)) (key : String Y) → is_wanting (known (by_name es) (string_bytes key)) ≡ true → is_some (lookup (is_at (λ k. slice_cmp nat_cmp (string_bytes key) (string_bytes k))) es) ≡ false
  missing es key e =
      ap is_some (lookup-named (string_bytes key) es) ∙ none_there (lookup (bytes_eq (string_bytes key)) (by_name es)) (string_bytes key) e

  length-by_name : (es : List (String Y × Option A)) → length (by_name es) ≡ length es
  length-by_name es = length-map es (λ e. (string_bytes e.0, e.1))

  pub longer : (old new : BTreeMap (String Y) (Option A)) (key : String Y) (had : Option (Option A))
      → is_wanting (known (by_name old.entries) (string_bytes key)) ≡ true → had ≡ get string_cmp old key
      → btree_map_len new ≡ btree_map_len old + (cond (is_some had) 0 1) → length (by_name new.entries) ≡ length (by_name old.entries) + 1
  longer old new key had unknown was len =
      let none : is_some had ≡ false = ap is_some was ∙ missing old.entries key unknown in
      length-by_name new.entries
      ∙ len
      ∙ ap (λ (b : Bool). btree_map_len old + cond b 0 1) none
      ∙ ap (λ (n : ℕ). n + 1) (sym (length-by_name old.entries))
