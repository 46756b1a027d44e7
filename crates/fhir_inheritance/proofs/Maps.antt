-- What a map from names to things says of its entries with each name as its bytes.
use Rattle.std.proofs.Common.{◌≡◌, ℕ, Bool, cond, true, false, List, Option, refl, ap, sym, ◌∙◌, String, string_bytes}
use Rattle.std.specs.Str.{bytes_eq}
use Rattle.std.specs.Ordering.{nat_cmp}
use Rattle.std.specs.Cmp.Lexicographic.{slice_cmp}
use Rattle.std.specs.String.{string_cmp}
use Rattle.std.specs.BTreeMap.{BTreeMap, UpdatesBy, get_by_text}
use Rattle.std.proofs.lemmas.Map.Text.{btree_map_updates_text}
use Rattle.std.proofs.lemmas.Slice.Eq.{bytes_eq-Decides}
use Rattle.fhir_names.specs.Places.{by_name}
use Rattle.fhir_names.proofs.Named.{lookup-named}
use Rattle.fhir_inheritance.specs.Named.{Gets}

-- names are equal whichever comes first
turned : (xs ys : List ℕ) (b : Bool) → bytes_eq xs ys ≡ b → (a : Bool) → bytes_eq ys xs ≡ a → bytes_eq xs ys ≡ bytes_eq ys xs
turned xs ys true e a f = e ∙ sym ((bytes_eq-Decides ys xs).1 (sym ((bytes_eq-Decides xs ys).0 e)))
turned xs ys false e true f = ((bytes_eq-Decides xs ys).1 (sym ((bytes_eq-Decides ys xs).0 f))) ∙ sym f
turned xs ys false e false f = e ∙ sym f

pub gets : {Y A : Type 0} (old new : BTreeMap (String Y) A) (name : List ℕ) (thing : Option A)
    → UpdatesBy string_cmp (λ k. slice_cmp nat_cmp name (string_bytes k)) old new thing → Gets (by_name old.entries) (by_name new.entries) name thing
gets {Y} {A} old new name thing h = λ other.
    sym (lookup-named other new.entries)
    ∙ btree_map_updates_text name old new thing h other
    ∙ ap (λ (b : Bool). cond b thing (get_by_text old other)) (turned name other (bytes_eq name other) refl (bytes_eq other name) refl)
    ∙ ap (λ (r : Option A). cond (bytes_eq other name) thing r) (lookup-named other old.entries)
