-- Places that are kept for definitions, and the definitions put into them.
use Rattle.std.proofs.Common.{◌≡◌, Bool, true, false, cond, ◌&&◌, ◌||◌, List, [], ◌∷◌, ◌++◌, length, take, Option, None, Some, is_some, refl, sym, ap, ◌∙◌, append_assoc, append-nil}
use Rattle.std.proofs.Common.{ℕ, suc, ◌+◌, ◌<◌, drop, drop-cons, add-one, slice_index_or, rules}
use Rattle.std.specs.Option.{option_map_or}
use Rattle.std.specs.Map.{lookup, keys_of}
use Rattle.std.specs.Str.{bytes_eq}
use Rattle.std.proofs.lemmas.Bool.{false≢true}
use Rattle.std.proofs.lemmas.Map.Made.{is_some-lookup}
use Rattle.std.proofs.lemmas.Slice.Eq.{bytes_eq-Decides}
use Rattle.std.proofs.Math.Seq.{take-append_seam}
use Rattle.fhir_json.specs.Tree.{Text, Tree, null}
use Rattle.fhir_json.specs.Views.{tree_of}
use Rattle.fhir_json.specs.declared.json.Json.{fold-roll-Json}
use Rattle.fhir_json.specs.declared.json.Json.TheVariants as json
use Rattle.fhir_package.specs.declared.kind.Kind.{Kind}
use Rattle.fhir_package.specs.declared.kind.Kind.TheVariants.{StructureDefinition, ValueSet, CodeSystem}
use Rattle.fhir_package.specs.Definitions.{Definitions, ByUrl, of_kind, with_kind, place_in}
use Rattle.fhir_package.specs.Packing.{Definition, with_definition}
use Rattle.fhir_package.specs.Changing.{put_at, put_in, put_each, with_tree, with_tree_at, has, is_same_kind}
use Rattle.fhir_package.specs.Keeping.{with_place, with_places, have_places, Extends}
use Rattle.fhir_package.proofs.Placed.{put_by_place, is_some-place}

-- ---- trees under their urls

abbrev has_at : Text → ByUrl → Bool
has_at url es = is_some (lookup (bytes_eq url) es)

has_behind : (url other : Text) (t : Tree) (es : ByUrl) → has_at other (es ++ (url, t) ∷ []) ≡ (has_at other es || bytes_eq other url)
has_behind url other t [] = by (bytes_eq other url)
  where
    by : (b : Bool) → is_some (cond b (Some t) None) ≡ b
    by true = refl
    by false = refl
has_behind url other t (e ∷ es) = by (bytes_eq other e.0) (has_behind url other t es)
  where
    by : (b : Bool) → has_at other (es ++ (url, t) ∷ []) ≡ (has_at other es || bytes_eq other url)
        → is_some (cond b (Some e.1) (lookup (bytes_eq other) (es ++ (url, t) ∷ []))) ≡ (is_some (cond b (Some e.1) (lookup (bytes_eq other) es)) || bytes_eq other url)
    by true rest = refl
    by false rest = rest

has_put : (url other : Text) (t : Tree) (es : ByUrl) → has_at url es ≡ true → has_at other (put_at url t es) ≡ has_at other es
has_put url other t [] h = absurd (false≢true h)
has_put url other t (e ∷ es) h = by (bytes_eq url e.0) (has_put url other t es) h
  where
    one : (b : Bool) (r : Option Tree) → is_some (cond b (Some t) r) ≡ is_some (cond b (Some e.1) r)
    one true r = refl
    one false r = refl

    later : (b : Bool) (r s : Option Tree) → is_some r ≡ is_some s → is_some (cond b (Some e.1) r) ≡ is_some (cond b (Some e.1) s)
    later true r s same = refl
    later false r s same = same

    by : (b : Bool) → (has_at url es ≡ true → has_at other (put_at url t es) ≡ has_at other es) → is_some (cond b (Some e.1) (lookup (bytes_eq url) es)) ≡ true
        → has_at other (cond b ((e.0, t) ∷ es) (e ∷ put_at url t es)) ≡ has_at other (e ∷ es)
    by true rest h = one (bytes_eq other e.0) (lookup (bytes_eq other) es)
    by false rest h = later (bytes_eq other e.0) (lookup (bytes_eq other) (put_at url t es)) (lookup (bytes_eq other) es) (rest h)

put_before : (url : Text) (t : Tree) (es fs : ByUrl) → has_at url es ≡ true → put_at url t (es ++ fs) ≡ put_at url t es ++ fs
put_before url t [] fs h = absurd (false≢true h)
put_before url t (e ∷ es) fs h = by (bytes_eq url e.0) (put_before url t es fs) h
  where
    by : (b : Bool) → (has_at url es ≡ true → put_at url t (es ++ fs) ≡ put_at url t es ++ fs) → is_some (cond b (Some e.1) (lookup (bytes_eq url) es)) ≡ true
        → cond b ((e.0, t) ∷ (es ++ fs)) (e ∷ put_at url t (es ++ fs)) ≡ cond b ((e.0, t) ∷ es) (e ∷ put_at url t es) ++ fs
    by true rest h = refl
    by false rest h = ap (λ (gs : ByUrl). e ∷ gs) (rest h)

put_over : (url : Text) (s t : Tree) (es : ByUrl) → has_at url es ≡ false → put_at url t (es ++ (url, s) ∷ []) ≡ put_at url t es
put_over url s t [] h = ap (λ (b : Bool). cond b ((url, t) ∷ []) ((url, s) ∷ (url, t) ∷ [])) ((bytes_eq-Decides url url).1 refl)
put_over url s t (e ∷ es) h = by (bytes_eq url e.0) (put_over url s t es) h
  where
    by : (b : Bool) → (has_at url es ≡ false → put_at url t (es ++ (url, s) ∷ []) ≡ put_at url t es)
        → is_some (cond b (Some e.1) (lookup (bytes_eq url) es)) ≡ false
        → cond b ((e.0, t) ∷ (es ++ (url, s) ∷ [])) (e ∷ put_at url t (es ++ (url, s) ∷ [])) ≡ cond b ((e.0, t) ∷ es) (e ∷ put_at url t es)
    by true rest h = absurd (false≢true (sym h))
    by false rest h = ap (λ (gs : ByUrl). e ∷ gs) (rest h)

-- ---- of each kind

abbrev behind : Kind → Text × Tree → Definitions → Definitions
behind kind e p = with_kind kind (of_kind kind p ++ e ∷ []) p

abbrev put : Kind → Text → Tree → Definitions → Definitions
put kind url t p = with_kind kind (put_at url t (of_kind kind p)) p

or_false : (a : Bool) → a ≡ (a || false)
or_false true = refl
or_false false = refl

kind_has_behind : (kind other_kind : Kind) (url other : Text) (t : Tree) (p : Definitions)
    → has other_kind other (behind kind (url, t) p) ≡ (has other_kind other p || (is_same_kind kind other_kind && bytes_eq other url))
kind_has_behind StructureDefinition StructureDefinition url other t p = has_behind url other t p.structure_definitions
kind_has_behind StructureDefinition ValueSet url other t p = or_false (has_at other p.value_sets)
kind_has_behind StructureDefinition CodeSystem url other t p = or_false (has_at other p.code_systems)
kind_has_behind ValueSet StructureDefinition url other t p = or_false (has_at other p.structure_definitions)
kind_has_behind ValueSet ValueSet url other t p = has_behind url other t p.value_sets
kind_has_behind ValueSet CodeSystem url other t p = or_false (has_at other p.code_systems)
kind_has_behind CodeSystem StructureDefinition url other t p = or_false (has_at other p.structure_definitions)
kind_has_behind CodeSystem ValueSet url other t p = or_false (has_at other p.value_sets)
kind_has_behind CodeSystem CodeSystem url other t p = has_behind url other t p.code_systems

kind_has_put : (kind other_kind : Kind) (url other : Text) (t : Tree) (p : Definitions) → has kind url p ≡ true
    → has other_kind other (put kind url t p) ≡ has other_kind other p
kind_has_put StructureDefinition StructureDefinition url other t p h = has_put url other t p.structure_definitions h
kind_has_put StructureDefinition ValueSet url other t p h = refl
kind_has_put StructureDefinition CodeSystem url other t p h = refl
kind_has_put ValueSet StructureDefinition url other t p h = refl
kind_has_put ValueSet ValueSet url other t p h = has_put url other t p.value_sets h
kind_has_put ValueSet CodeSystem url other t p h = refl
kind_has_put CodeSystem StructureDefinition url other t p h = refl
kind_has_put CodeSystem ValueSet url other t p h = refl
kind_has_put CodeSystem CodeSystem url other t p h = has_put url other t p.code_systems h

kind_put_before : (kind other_kind : Kind) (url : Text) (t : Tree) (e : Text × Tree) (p : Definitions) → has kind url p ≡ true
    → put kind url t (behind other_kind e p) ≡ behind other_kind e (put kind url t p)
kind_put_before StructureDefinition StructureDefinition url t e p h =
    ap (λ (es : ByUrl). record p { structure_definitions = es }) (put_before url t p.structure_definitions (e ∷ []) h)
kind_put_before StructureDefinition ValueSet url t e p h = refl
kind_put_before StructureDefinition CodeSystem url t e p h = refl
kind_put_before ValueSet StructureDefinition url t e p h = refl
kind_put_before ValueSet ValueSet url t e p h = ap (λ (es : ByUrl). record p { value_sets = es }) (put_before url t p.value_sets (e ∷ []) h)
kind_put_before ValueSet CodeSystem url t e p h = refl
kind_put_before CodeSystem StructureDefinition url t e p h = refl
kind_put_before CodeSystem ValueSet url t e p h = refl
kind_put_before CodeSystem CodeSystem url t e p h = ap (λ (es : ByUrl). record p { code_systems = es }) (put_before url t p.code_systems (e ∷ []) h)

kind_put_over : (kind : Kind) (url : Text) (s t : Tree) (p : Definitions) → has kind url p ≡ false
    → put kind url t (behind kind (url, s) p) ≡ put kind url t p
kind_put_over StructureDefinition url s t p h = ap (λ (es : ByUrl). record p { structure_definitions = es }) (put_over url s t p.structure_definitions h)
kind_put_over ValueSet url s t p h = ap (λ (es : ByUrl). record p { value_sets = es }) (put_over url s t p.value_sets h)
kind_put_over CodeSystem url s t p h = ap (λ (es : ByUrl). record p { code_systems = es }) (put_over url s t p.code_systems h)

-- ---- one definition

pub has_with : (d : Definition) (kind : Kind) (url : Text) (p : Definitions)
    → has kind url (with_definition d p) ≡ (has kind url p || (is_same_kind d.kind kind && bytes_eq url d.url))
has_with d kind url p = kind_has_behind d.kind kind d.url url d.tree p

has_put_in : (d e : Definition) (p : Definitions) → has d.kind d.url p ≡ true → has e.kind e.url (put_in d p) ≡ has e.kind e.url p
has_put_in d e p h = kind_has_put d.kind e.kind d.url e.url d.tree p h

same_kind : (kind : Kind) → is_same_kind kind kind ≡ true
same_kind StructureDefinition = refl
same_kind ValueSet = refl
same_kind CodeSystem = refl

has_own_place : (d : Definition) (p : Definitions) → has d.kind d.url (with_place d p) ≡ true
has_own_place d p = by (has d.kind d.url p) refl
  where
    e : Definition
    e = record d { tree = null }

    last : (a b c : Bool) → b ≡ true → c ≡ true → (a || (b && c)) ≡ true
    last true b c h k = refl
    last false true true h k = refl
    last false true false h k = k
    last false false c h k = h

    by : (b : Bool) → has d.kind d.url p ≡ b → has d.kind d.url (cond b p (with_definition e p)) ≡ true
    by true is = is
    by false isnt =
        has_with e d.kind d.url p
        ∙ last (has d.kind d.url p) (is_same_kind d.kind d.kind) (bytes_eq d.url d.url) (same_kind d.kind) ((bytes_eq-Decides d.url d.url).1 refl)

has_still : (d e : Definition) (p : Definitions) → has d.kind d.url p ≡ true → has d.kind d.url (with_place e p) ≡ true
has_still d e p h = by (has e.kind e.url p)
  where
    f : Definition
    f = record e { tree = null }

    more : (a b : Bool) → a ≡ true → (a || b) ≡ true
    more true b h = refl
    more false b h = absurd (false≢true h)

    by : (b : Bool) → has d.kind d.url (cond b p (with_definition f p)) ≡ true
    by true = h
    by false = has_with f d.kind d.url p ∙ more (has d.kind d.url p) (is_same_kind f.kind d.kind && bytes_eq d.url f.url) h

-- a definition put where it is there, and a place kept for another, in either order
put_apart : (d e : Definition) (p : Definitions) → has d.kind d.url p ≡ true → put_in d (with_place e p) ≡ with_place e (put_in d p)
put_apart d e p h =
    by (has e.kind e.url p) ∙ sym (ap (λ (b : Bool). cond b (put_in d p) (with_definition f (put_in d p))) (has_put_in d e p h))
  where
    f : Definition
    f = record e { tree = null }

    by : (b : Bool) → put_in d (cond b p (with_definition f p)) ≡ cond b (put_in d p) (with_definition f (put_in d p))
    by true = refl
    by false = kind_put_before d.kind e.kind d.url d.tree (e.url, null) p h

put_own_place : (d : Definition) (p : Definitions) → put_in d (with_place d p) ≡ put_in d p
put_own_place d p = by (has d.kind d.url p) refl
  where
    by : (b : Bool) → has d.kind d.url p ≡ b → put_in d (cond b p (with_definition (record d { tree = null }) p)) ≡ put_in d p
    by true is = refl
    by false isnt = kind_put_over d.kind d.url null d.tree p isnt

-- ---- found by their places

pub has_by_place : (kind : Kind) (url : Text) (p : Definitions) (place : Option ℕ) → place ≡ place_in kind url p → has kind url p ≡ is_some place
has_by_place kind url p place is =
    is_some-lookup (bytes_eq url) (of_kind kind p) ∙ sym (ap is_some is ∙ is_some-place (bytes_eq url) 0 (keys_of (of_kind kind p)))

pub set_there : (d : Definition) (p : Definitions) (kind : Kind) (url : Text) (t : Tree) (place : ℕ) → Some place ≡ place_in kind url p
    → (let made : Definition = record { kind = kind; url = url; tree = t } in made ≡ d) → with_tree kind place t p ≡ put_in d p
set_there d p kind url t place is made =
    ap (λ (es : ByUrl). with_kind kind es p)
    (ap (λ (r : Option ℕ). option_map_or (λ q. with_tree_at q t (of_kind kind p)) r (of_kind kind p ++ (url, t) ∷ [])) is ∙ put_by_place url t (of_kind kind p))
    ∙ ap (λ (e : Definition). put_in e p) made

pub set_nowhere : (d : Definition) (p : Definitions) (kind : Kind) (url : Text) (t : Tree) → None ≡ place_in kind url p
    → (let made : Definition = record { kind = kind; url = url; tree = t } in made ≡ d) → has d.kind d.url p ≡ true → ⊥
set_nowhere d p kind url t is made h =
    false≢true (sym (has_by_place kind url p None is) ∙ ap (λ (e : Definition). has e.kind e.url p) made ∙ h)

pub has_is : (d : Definition) (p : Definitions) (kind : Kind) (url : Text) (place : Option ℕ) → kind ≡ d.kind → url ≡ d.url → place ≡ place_in kind url p
    → has d.kind d.url p ≡ is_some place
has_is d p kind url place k u is =
    ap (λ (j : Kind). has j d.url p) (sym k) ∙ ap (λ (v : Text). has kind v p) (sym u) ∙ has_by_place kind url p place is

pub null_seen : tree_of json.Null ≡ null
null_seen = ap tree_of (sym json.rolls-Null) ∙ search (rules, fold-roll-Json)

pub place_holder : (d : Definition) (t : Tree) (p : Definitions) (kind : Kind) (url : Text) → kind ≡ d.kind → url ≡ d.url
    → with_definition (record { kind = kind; url = url; tree = t }) p ≡ with_definition (record d { tree = t }) p
place_holder d t p kind url k u =
    ap (λ (j : Kind). with_definition (record { kind = j; url = url; tree = t }) p) k
    ∙ ap (λ (v : Text). with_definition (record { kind = d.kind; url = v; tree = t }) p) u

pub place_there : (d : Definition) (p : Definitions) (kind : Kind) (url : Text) (place : ℕ) → kind ≡ d.kind → url ≡ d.url → Some place ≡ place_in kind url p
    → p ≡ with_place d p
place_there d p kind url place k u is =
    sym (ap (λ (b : Bool). cond b p (with_definition (record d { tree = null }) p)) (has_is d p kind url (Some place) k u is))

pub place_new : (d : Definition) (t : Tree) (p : Definitions) (kind : Kind) (url : Text) → t ≡ null → kind ≡ d.kind → url ≡ d.url → None ≡ place_in kind url p
    → with_definition (record { kind = kind; url = url; tree = t }) p ≡ with_place d p
place_new d t p kind url e k u is =
    place_holder d t p kind url k u ∙ ap (λ (s : Tree). with_definition (record d { tree = s }) p) e
    ∙ sym (ap (λ (b : Bool). cond b p (with_definition (record d { tree = null }) p)) (has_is d p kind url None k u is))

pub first_dropped : (ds : List Definition) (i : ℕ) (d : Definition) → i < length ds → d ≡ slice_index_or ds i d → drop i ds ≡ d ∷ drop (i + 1) ds
first_dropped ds i d l is =
    drop-cons ds i d l ∙ ap (λ (e : Definition). e ∷ drop (suc i) ds) (sym is) ∙ ap (λ (n : ℕ). d ∷ drop n ds) (sym (add-one i))

-- ---- several

has_still_all : (d : Definition) (ds : List Definition) (p : Definitions) → has d.kind d.url p ≡ true → has d.kind d.url (with_places ds p) ≡ true
has_still_all d [] p h = h
has_still_all d (e ∷ ds) p h = has_still_all d ds (with_place e p) (has_still d e p h)

put_apart_all : (d : Definition) (ds : List Definition) (p : Definitions) → has d.kind d.url p ≡ true
    → put_in d (with_places ds p) ≡ with_places ds (put_in d p)
put_apart_all d [] p h = refl
put_apart_all d (e ∷ ds) p h =
    put_apart_all d ds (with_place e p) (has_still d e p h) ∙ ap (λ (q : Definitions). with_places ds q) (put_apart d e p h)

-- places make no difference to what is put in
pub put_into_places : (ds : List Definition) (p : Definitions) → put_each ds (with_places ds p) ≡ put_each ds p
put_into_places [] p = refl
put_into_places (d ∷ ds) p =
    ap (λ (q : Definitions). put_each ds q)
    (put_apart_all d ds (with_place d p) (has_own_place d p) ∙ ap (λ (q : Definitions). with_places ds q) (put_own_place d p))
    ∙ put_into_places ds (put_in d p)

both : (a b : Bool) → a ≡ true → b ≡ true → (a && b) ≡ true
both true b h k = k
both false b h k = h

pub places_kept : (ds : List Definition) (p : Definitions) → have_places ds (with_places ds p) ≡ true
places_kept [] p = refl
places_kept (d ∷ ds) p =
    both (has d.kind d.url (with_places ds (with_place d p))) (have_places ds (with_places ds (with_place d p)))
    (has_still_all d ds (with_place d p) (has_own_place d p)) (places_kept ds (with_place d p))

pub places_stay : (d : Definition) (ds : List Definition) (p : Definitions) → has d.kind d.url p ≡ true → have_places ds (put_in d p) ≡ have_places ds p
places_stay d [] p h = refl
places_stay d (e ∷ ds) p h =
    ap (λ (b : Bool). b && have_places ds (put_in d p)) (has_put_in d e p h) ∙ ap (λ (b : Bool). has e.kind e.url p && b) (places_stay d ds p h)

pub first_has : (a b : Bool) → (a && b) ≡ true → a ≡ true
first_has true b h = refl
first_has false b h = h

pub others_have : (a b : Bool) → (a && b) ≡ true → b ≡ true
others_have true b h = h
others_have false b h = absurd (false≢true h)

-- ---- the old ones stay before the new ones

pub extends_itself : (p : Definitions) → Extends p p
extends_itself p = λ kind. ([], sym (append-nil (of_kind kind p)))

kind_extends : (kind other_kind : Kind) (old : ByUrl) (e : Text × Tree) (p : Definitions) → (others : ByUrl) × (of_kind other_kind p ≡ old ++ others)
    → (others : ByUrl) × (of_kind other_kind (behind kind e p) ≡ old ++ others)
kind_extends StructureDefinition StructureDefinition old e p x = (x.0 ++ e ∷ [], ap (λ (es : ByUrl). es ++ e ∷ []) x.1 ∙ append_assoc old x.0 (e ∷ []))
kind_extends StructureDefinition ValueSet old e p x = x
kind_extends StructureDefinition CodeSystem old e p x = x
kind_extends ValueSet StructureDefinition old e p x = x
kind_extends ValueSet ValueSet old e p x = (x.0 ++ e ∷ [], ap (λ (es : ByUrl). es ++ e ∷ []) x.1 ∙ append_assoc old x.0 (e ∷ []))
kind_extends ValueSet CodeSystem old e p x = x
kind_extends CodeSystem StructureDefinition old e p x = x
kind_extends CodeSystem ValueSet old e p x = x
kind_extends CodeSystem CodeSystem old e p x = (x.0 ++ e ∷ [], ap (λ (es : ByUrl). es ++ e ∷ []) x.1 ∙ append_assoc old x.0 (e ∷ []))

pub extends_more : (old : Definitions) (d : Definition) (p : Definitions) → Extends old p → Extends old (with_place d p)
extends_more old d p h = by (has d.kind d.url p)
  where
    by : (b : Bool) → Extends old (cond b p (with_definition (record d { tree = null }) p))
    by true = h
    by false = λ kind. kind_extends d.kind kind (of_kind kind old) (d.url, null) p (h kind)

cut : (n : ℕ) (old new others : ByUrl) → n ≡ length old → new ≡ old ++ others → take n new ≡ old
cut n old new others l e = ap (λ (m : ℕ). take m new) l ∙ ap (λ (es : ByUrl). take (length old) es) e ∙ take-append_seam old others

abbrev made : ByUrl → ByUrl → ByUrl → Definitions
made a b c = record { structure_definitions = a; value_sets = b; code_systems = c }

pub old_again : (old new : Definitions) (i j k : ℕ) → i ≡ length old.structure_definitions → j ≡ length old.value_sets → k ≡ length old.code_systems → Extends old new
    → made (take i new.structure_definitions) (take j new.value_sets) (take k new.code_systems) ≡ old
old_again old new i j k is js ks h =
    same (take i new.structure_definitions) (take j new.value_sets) (take k new.code_systems)
    (cut i old.structure_definitions new.structure_definitions (h StructureDefinition).0 is (h StructureDefinition).1)
    (cut j old.value_sets new.value_sets (h ValueSet).0 js (h ValueSet).1) (cut k old.code_systems new.code_systems (h CodeSystem).0 ks (h CodeSystem).1)
  where
    same : (a b c : ByUrl) → a ≡ old.structure_definitions → b ≡ old.value_sets → c ≡ old.code_systems → made a b c ≡ old
    same a b c e f g =
        ap (λ (x : ByUrl). made x b c) e ∙ ap (λ (x : ByUrl). made old.structure_definitions x c) f
        ∙ ap (λ (x : ByUrl). made old.structure_definitions old.value_sets x) g
