-- Values under their keys.
use Rattle.std.proofs.Common.{◌≡◌, Bool, true, false, List, [], ◌∷◌, ◌++◌, ◌||◌, Some, None, refl, sym, ap, ◌∙◌}
use Rattle.std.specs.Prelude.{if◌then◌else◌}
use Rattle.std.specs.List.{filter}
use Rattle.std.specs.Str.{bytes_eq}
use Rattle.std.proofs.lemmas.List.{append-nil}
use Rattle.std.proofs.lemmas.List.Elements.{filter-append}
use Rattle.std.proofs.lemmas.Slice.Eq.{bytes_eq-Decides}
use Rattle.fhir_json.specs.Tree.{Text}
use Rattle.fhir_fp_values.specs.declared.value.Value.{Value}
use Rattle.fhir_fp_values.specs.declared.table.Table.{Table}
use Rattle.fhir_fp_values.specs.Values.{Plain}
use Rattle.fhir_fp_values.specs.Views.{plain_of, plains_of}
use Rattle.fhir_fp_values.specs.Equality.{Kleene, is_yes, alike, has}
use Rattle.fhir_fp_values.specs.Keys.{key_of}
use Rattle.fhir_fp_values.specs.Tables.{held, of_key, Holds}
use Rattle.fhir_fp_values.proofs.OneKey.{alike_one}

-- of another key, values aren't equal
pub not_alike : (y x : Plain) → bytes_eq (key_of x) (key_of y) ≡ false → is_yes (alike y x) ≡ false
not_alike y x other = go (alike y x) refl
  where
    go : (r : Kleene) → alike y x ≡ r → is_yes r ≡ false
    go (Some true) is =
        let e : true ≡ false =
        sym ((bytes_eq-Decides (key_of x) (key_of x)).1 refl) ∙ ap (bytes_eq (key_of x)) (sym (alike_one y x is)) ∙ other in absurd cc
    go (Some false) is = refl
    go None is = refl

-- among those of its key a value has an equal one where it has one at all
pub has_of_key : (vs : List Value) (x : Plain) → has (plains_of (of_key vs (key_of x))) x ≡ has (plains_of vs) x
has_of_key [] x = refl
has_of_key (v ∷ vs) x = go (bytes_eq (key_of x) (key_of (plain_of v))) refl (has_of_key vs x)
  where
    go : (b : Bool) → bytes_eq (key_of x) (key_of (plain_of v)) ≡ b → has (plains_of (of_key vs (key_of x))) x ≡ has (plains_of vs) x
        → has (plains_of (of_key (v ∷ vs) (key_of x))) x ≡ has (plains_of (v ∷ vs)) x
    go true is rest = rw is (ap (λ (c : Bool). is_yes (alike (plain_of v) x) || c) rest)
    go false is rest = rw is (rest ∙ ap (λ (c : Bool). c || has (plains_of vs) x) (sym (not_alike (plain_of v) x is)))

-- the same of a table
pub has_held : (table : Table) (vs : List Value) (x : Plain) (key : Text) → key ≡ key_of x → Holds table vs → has (plains_of (held table key)) x ≡ has (plains_of vs) x
has_held table vs x key is holds =
    ap (λ (ws : List Value). has (plains_of ws) x) (holds key ∙ ap (of_key vs) is) ∙ has_of_key vs x

-- one value more
pub holds_more : (table new : Table) (vs : List Value) (v : Value) (key : Text) → key ≡ key_of (plain_of v)
    → ((other : Text) → held new other ≡ (if bytes_eq other key then held table other ++ v ∷ [] else held table other))
    → Holds table vs → Holds new (vs ++ v ∷ [])
holds_more table new vs v key is puts holds = λ other.
    puts other
    ∙ ap (λ (k : Text). if bytes_eq other k then held table other ++ v ∷ [] else held table other) is
    ∙ go other (bytes_eq other (key_of (plain_of v))) refl
    ∙ sym (filter-append (λ w. bytes_eq other (key_of (plain_of w))) vs (v ∷ []))
  where
    go : (other : Text) (b : Bool) → bytes_eq other (key_of (plain_of v)) ≡ b
        → (if b then held table other ++ v ∷ [] else held table other)
        ≡ of_key vs other ++ filter (λ w. bytes_eq other (key_of (plain_of w))) (v ∷ [])
    go other true e = rw e (ap (λ (ws : List Value). ws ++ v ∷ []) (holds other))
    go other false e = rw e (holds other ∙ sym (append-nil (of_key vs other)))
