-- A version that is put under a name.
use Rattle.std.proofs.Common.{◌≡◌, ℕ, Bool, true, false, cond, ◌&&◌, ◌||◌, Option, None, Some, is_some, String, string_bytes, refl, sym, ap, ◌∙◌}
use Rattle.std.specs.Option.{option_map_or}
use Rattle.std.specs.Str.{bytes_eq}
use Rattle.std.specs.declared.alloc.Global.{Global}
use Rattle.std.specs.Ordering.{nat_cmp}
use Rattle.std.specs.Cmp.Lexicographic.{slice_cmp}
use Rattle.std.specs.String.{string_cmp}
use Rattle.std.specs.BTreeMap.{BTreeMap, UpdatesBy, get_by_text}
use Rattle.std.proofs.lemmas.Map.Text.{btree_map_updates_text}
use Rattle.std.proofs.lemmas.Slice.Eq.{bytes_eq-Decides}
use Rattle.fhir_json.specs.Tree.{Text}
use Rattle.fhir_names.specs.Places.{Places, place_of, Puts}
use Rattle.fhir_archives.specs.Known.{knows}

-- equal texts are equal whichever comes first
turned : (xs ys : Text) (b : Bool) → bytes_eq xs ys ≡ b → (a : Bool) → bytes_eq ys xs ≡ a → bytes_eq ys xs ≡ b
turned xs ys true e a f = (bytes_eq-Decides ys xs).1 (sym ((bytes_eq-Decides xs ys).0 e))
turned xs ys false e true f = f ∙ sym ((bytes_eq-Decides xs ys).1 (sym ((bytes_eq-Decides ys xs).0 f))) ∙ e
turned xs ys false e false f = f

-- a version that is put, beside those that were there
put_there : (b : Bool) (there : Option ℕ) → is_some (cond b (Some 0) there) ≡ (b || is_some there)
put_there true there = refl
put_there false there = refl

module _ (old taken new : BTreeMap (String Global) Places) (name version : Text) (of_name put : Places) where
  known : (found : Option Places) (n v : Text) (b : Bool) → bytes_eq name n ≡ b → found ≡ cond b (Some put) (cond b None (get_by_text old n))
      → ((w : Text) → is_some (place_of of_name w) ≡ knows old name w) → Puts of_name put version 0
      → option_map_or (λ ix. is_some (place_of ix v)) found false ≡ (bytes_eq n name && bytes_eq v version || knows old n v)
  known found n v true e is old_known puts =
      let same : name ≡ n = (bytes_eq-Decides name n).0 e in
      ap (λ (f : Option Places). option_map_or (λ ix. is_some (place_of ix v)) f false) is
      ∙ ap is_some (puts v)
      ∙ put_there (bytes_eq v version) (place_of of_name v)
      ∙ ap (λ (k : Bool). bytes_eq v version || k) (old_known v ∙ ap (λ (m : Text). knows old m v) same)
      ∙ ap (λ (k : Bool). k && bytes_eq v version || knows old n v) (sym (turned name n true e (bytes_eq n name) refl))
  known found n v false e is old_known puts =
      ap (λ (f : Option Places). option_map_or (λ ix. is_some (place_of ix v)) f false) is
      ∙ ap (λ (k : Bool). k && bytes_eq v version || knows old n v) (sym (turned name n false e (bytes_eq n name) refl))

  pub put-known : UpdatesBy string_cmp (λ k. slice_cmp nat_cmp name (string_bytes k)) old taken None
      → UpdatesBy string_cmp (λ k. slice_cmp nat_cmp name (string_bytes k)) taken new (Some put)
      → ((w : Text) → is_some (place_of of_name w) ≡ knows old name w) → Puts of_name put version 0
      → (n v : Text) → knows new n v ≡ (bytes_eq n name && bytes_eq v version || knows old n v)
  put-known takes puts_in old_known puts n v =
      known (get_by_text new n) n v (bytes_eq name n) refl
      (btree_map_updates_text name taken new (Some put) puts_in n
      ∙ ap (λ (f : Option Places). cond (bytes_eq name n) (Some put) f) (btree_map_updates_text name old taken None takes n))
      old_known puts
