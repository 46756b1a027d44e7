-- What paths go on to, value by value.
use Rattle.std.proofs.Common.{◌≡◌, Bool, true, false, cond, List, [], ◌∷◌, ◌++◌, map, refl, ap, ap₂, ◌∙◌}
use Rattle.std.specs.List.{flat_map, filter}
use Rattle.std.specs.Str.{bytes_eq}
use Rattle.std.proofs.lemmas.List.{map-append}
use Rattle.fhir_json.specs.Tree.{Text}
use Rattle.fhir_schema.specs.Schemas.{SchemaValue}
use Rattle.fhir_instance.specs.Items.{Item, item, Kids, no_kids, kid, Named, kids_of}
use Rattle.fhir_fp_values.specs.Values.{Plain, node, truth, number, text}
use Rattle.fhir_fp_eval.specs.Meaning.{path_name, kids_named, all_kids, below, descendants, descendants_in, of_type, of_types, has_value}
use Rattle.fhirpath_laws.specs.Paths.{children_in, of_item, named_so, children_of, all_below, is_item_of}

-- ---- children of a name

kept : (b : Bool) (name : Text) (x : Item) (xs : List Item) (fs : List Named) → map node xs ≡ map (λ k. node k.1) fs
    → map node (cond b (x ∷ xs) xs) ≡ map (λ k. node k.1) (cond b ((name, x) ∷ fs) fs)
kept true name x xs fs e = ap (λ (vs : List Plain). node x ∷ vs) e
kept false name x xs fs e = e

named : (name : Text) (ks : Kids) → map node (kids_named name ks) ≡ map (λ k. node k.1) (filter (λ k. bytes_eq (path_name k.0) name) (children_in ks))
named name no_kids = refl
named name (kid m x ks) =
    kept (bytes_eq (path_name m) name) m x (kids_named name ks) (filter (λ k. bytes_eq (path_name k.0) name) (children_in ks)) (named name ks)

pub named_on : (name : Text) (vs : List Plain) → below (λ x. kids_named name (kids_of x)) vs ≡ flat_map (of_item (named_so name)) vs
named_on name [] = refl
named_on name (node x ∷ vs) = ap₂ (λ (us ws : List Plain). us ++ ws) (named name (kids_of x)) (named_on name vs)
named_on name (truth b ∷ vs) = named_on name vs
named_on name (number n ∷ vs) = named_on name vs
named_on name (text s ∷ vs) = named_on name vs

-- ---- all children

all_of : (ks : Kids) → map node (all_kids ks) ≡ map (λ k. node k.1) (children_in ks)
all_of no_kids = refl
all_of (kid name x ks) = ap (λ (vs : List Plain). node x ∷ vs) (all_of ks)

pub all_on : (vs : List Plain) → below (λ x. all_kids (kids_of x)) vs ≡ flat_map (of_item children_of) vs
all_on [] = refl
all_on (node x ∷ vs) = ap₂ (λ (us ws : List Plain). us ++ ws) (all_of (kids_of x)) (all_on vs)
all_on (truth b ∷ vs) = all_on vs
all_on (number n ∷ vs) = all_on vs
all_on (text s ∷ vs) = all_on vs

-- ---- all that is below

deep : (ks : Kids) → map node (descendants_in ks) ≡ flat_map (λ k. node k.1 ∷ map node (descendants k.1)) (children_in ks)
deep no_kids = refl
deep (kid name x ks) =
    ap (λ (vs : List Plain). node x ∷ vs)
    (map-append node (descendants x) (descendants_in ks) ∙ ap (λ (vs : List Plain). map node (descendants x) ++ vs) (deep ks))

pub deep_on : (vs : List Plain) → below descendants vs ≡ flat_map (of_item all_below) vs
deep_on [] = refl
deep_on (node (item type json ks) ∷ vs) = ap₂ (λ (us ws : List Plain). us ++ ws) (deep ks) (deep_on vs)
deep_on (truth b ∷ vs) = deep_on vs
deep_on (number n ∷ vs) = deep_on vs
deep_on (text s ∷ vs) = deep_on vs

-- ---- those of a type

one_type : (s : SchemaValue) (type : Text) (v : Plain) → of_type s type v ≡ is_item_of s type v
one_type s type (node x) = refl
one_type s type (truth b) = refl
one_type s type (number n) = refl
one_type s type (text t) = refl

pub of_their_type : (s : SchemaValue) (type : Text) (vs : List Plain) → of_types s type vs ≡ filter (is_item_of s type) vs
unfolding of_types
of_their_type s type [] = refl
of_their_type s type (v ∷ vs) = ap₂ (λ (b : Bool) (us : List Plain). cond b (v ∷ us) us) (one_type s type v) (of_their_type s type vs)

-- ---- values of several

pub no_value : (v u : Plain) (vs : List Plain) → has_value (v ∷ u ∷ vs) ≡ false
no_value (node x) u vs = refl
no_value (truth b) u vs = refl
no_value (number n) u vs = refl
no_value (text s) u vs = refl
