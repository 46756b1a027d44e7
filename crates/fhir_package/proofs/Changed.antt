-- What a change of one definition makes of a package.
use Rattle.std.proofs.Common.{◌≡◌, ◌≢◌, ℕ, zero, suc, Bool, true, false, not, cond, List, [], ◌∷◌, ◌++◌, Option, None, Some, is_some, slice_get, refl, sym, ap, subst, ◌∙◌}
use Rattle.std.specs.Prelude.{All}
use Rattle.std.specs.List.{IsDistinct}
use Rattle.std.specs.Map.{lookup, keys_of}
use Rattle.std.specs.Str.{bytes_eq}
use Rattle.std.proofs.lemmas.Bool.{false≢true}
use Rattle.std.proofs.lemmas.List.Elements.{All-cons, All-head, All-tail, All-push, All-filter}
use Rattle.std.proofs.lemmas.Map.Made.{IsDistinct-keys_filter}
use Rattle.std.proofs.lemmas.Map.Entries.{lookup-filter-keys}
use Rattle.std.proofs.lemmas.Slice.Eq.{bytes_eq-Decides}
use Rattle.fhir_json.specs.Tree.{Text, Tree}
use Rattle.fhir_package.specs.declared.kind.Kind.{Kind}
use Rattle.fhir_package.specs.declared.kind.Kind.TheVariants.{StructureDefinition, ValueSet, CodeSystem}
use Rattle.fhir_package.specs.Definitions.{Definitions, ByUrl, of_kind, with_kind, at_url}
use Rattle.fhir_package.specs.Packing.{Definition}
use Rattle.fhir_package.specs.Changing.{sound_definition, put_at, without_url, with_tree_at, put_in, put_each, without, has, with_tree, IsSoundEntry, AreSound, EachOnce}
use Rattle.fhir_package.proofs.Entries.{distinct_behind}
use Rattle.fhir_package.proofs.Joins.{with_kind_each, with_kind_there}
use Rattle.fhir_package.proofs.Placed.{later, same_urls}

-- ---- texts

itself : (url : Text) → bytes_eq url url ≡ true
itself url = (bytes_eq-Decides url url).1 refl

other_text : (other url : Text) → other ≢ url → bytes_eq other url ≡ false
other_text other url differ = by (bytes_eq other url) refl
  where
    by : (b : Bool) → bytes_eq other url ≡ b → b ≡ false
    by true is = absurd (differ ((bytes_eq-Decides other url).0 is))
    by false isnt = refl

-- ---- trees under their urls

put_found : (url : Text) (t : Tree) (es : ByUrl) → lookup (bytes_eq url) (put_at url t es) ≡ Some t
put_found url t [] = ap (λ (b : Bool). cond b (Some t) None) (itself url)
put_found url t (e ∷ es) = by (bytes_eq url e.0) refl (put_found url t es)
  where
    by : (b : Bool) → bytes_eq url e.0 ≡ b → lookup (bytes_eq url) (put_at url t es) ≡ Some t
        → lookup (bytes_eq url) (cond b ((e.0, t) ∷ es) (e ∷ put_at url t es)) ≡ Some t
    by true is rest = ap (λ (b : Bool). cond b (Some t) (lookup (bytes_eq url) es)) is
    by false isnt rest = ap (λ (b : Bool). cond b (Some e.1) (lookup (bytes_eq url) (put_at url t es))) isnt ∙ rest

put_elsewhere : (url other : Text) (t : Tree) (es : ByUrl) → other ≢ url → lookup (bytes_eq other) (put_at url t es) ≡ lookup (bytes_eq other) es
put_elsewhere url other t [] differ = ap (λ (b : Bool). cond b (Some t) None) (other_text other url differ)
put_elsewhere url other t (e ∷ es) differ = by (bytes_eq url e.0) refl (put_elsewhere url other t es differ)
  where
    by : (b : Bool) → bytes_eq url e.0 ≡ b → lookup (bytes_eq other) (put_at url t es) ≡ lookup (bytes_eq other) es
        → lookup (bytes_eq other) (cond b ((e.0, t) ∷ es) (e ∷ put_at url t es)) ≡ cond (bytes_eq other e.0) (Some e.1) (lookup (bytes_eq other) es)
    by true is rest =
        let apart : bytes_eq other e.0 ≡ false = ap (bytes_eq other) (sym ((bytes_eq-Decides url e.0).0 is)) ∙ other_text other url differ in
        ap (λ (b : Bool). cond b (Some t) (lookup (bytes_eq other) es)) apart ∙ sym (ap (λ (b : Bool). cond b (Some e.1) (lookup (bytes_eq other) es)) apart)
    by false isnt rest = ap (λ (r : Option Tree). cond (bytes_eq other e.0) (Some e.1) r) rest

put_there : (url : Text) (t : Tree) (es : ByUrl) → is_some (lookup (bytes_eq url) es) ≡ true → keys_of (put_at url t es) ≡ keys_of es
put_there url t [] h = absurd (false≢true h)
put_there url t (e ∷ es) h = by (bytes_eq url e.0) (put_there url t es) h
  where
    by : (b : Bool) → (is_some (lookup (bytes_eq url) es) ≡ true → keys_of (put_at url t es) ≡ keys_of es)
        → is_some (cond b (Some e.1) (lookup (bytes_eq url) es)) ≡ true → keys_of (cond b ((e.0, t) ∷ es) (e ∷ put_at url t es)) ≡ e.0 ∷ keys_of es
    by true rest h = refl
    by false rest h = ap (λ (us : List Text). e.0 ∷ us) (rest h)

none_some : (t : Tree) → (let r : Option Tree = None in Some t ≡ r) → ⊥
none_some t e = cc

put_last : (url : Text) (t : Tree) (es : ByUrl) → lookup (bytes_eq url) es ≡ None → put_at url t es ≡ es ++ (url, t) ∷ []
put_last url t [] h = refl
put_last url t (e ∷ es) h = by (bytes_eq url e.0) (put_last url t es) h
  where
    by : (b : Bool) → (lookup (bytes_eq url) es ≡ None → put_at url t es ≡ es ++ (url, t) ∷ []) → cond b (Some e.1) (lookup (bytes_eq url) es) ≡ None
        → cond b ((e.0, t) ∷ es) (e ∷ put_at url t es) ≡ e ∷ (es ++ (url, t) ∷ [])
    by true rest h = absurd (none_some e.1 h)
    by false rest h = ap (λ (fs : ByUrl). e ∷ fs) (rest h)

put_distinct : (url : Text) (t : Tree) (es : ByUrl) → IsDistinct bytes_eq (keys_of es) → IsDistinct bytes_eq (keys_of (put_at url t es))
put_distinct url t es h = by (lookup (bytes_eq url) es) refl
  where
    by : (there : Option Tree) → lookup (bytes_eq url) es ≡ there → IsDistinct bytes_eq (keys_of (put_at url t es))
    by None none = subst (λ (fs : ByUrl). IsDistinct bytes_eq (keys_of fs)) (sym (put_last url t es none)) (distinct_behind url t es h none)
    by (Some old) is = subst (λ (us : List Text). IsDistinct bytes_eq us) (sym (put_there url t es (ap is_some is))) h

put_all : (P : Text × Tree → Type 0) (url : Text) (t : Tree) (es : ByUrl) → P (url, t) → All P es → All P (put_at url t es)
put_all P url t [] new h = All-push P [] (url, t) h new
put_all P url t (e ∷ es) new h = by (bytes_eq url e.0) refl (put_all P url t es new (All-tail P e es h))
  where
    by : (b : Bool) → bytes_eq url e.0 ≡ b → All P (put_at url t es) → All P (cond b ((e.0, t) ∷ es) (e ∷ put_at url t es))
    by true is rest = All-cons P (e.0, t) es (subst (λ (u : Text). P (u, t)) ((bytes_eq-Decides url e.0).0 is) new) (All-tail P e es h)
    by false isnt rest = All-cons P e (put_at url t es) (All-head P e es h) rest

none_found : (url : Text) (es : ByUrl) → lookup (bytes_eq url) (without_url url es) ≡ None
none_found url es = lookup-filter-keys (bytes_eq url) (λ u. not (bytes_eq url u)) false (λ u is. ap not is) es

others_found : (url other : Text) (es : ByUrl) → other ≢ url → lookup (bytes_eq other) (without_url url es) ≡ lookup (bytes_eq other) es
others_found url other es differ = lookup-filter-keys (bytes_eq other) (λ u. not (bytes_eq url u)) true kept es
  where
    kept : (u : Text) → bytes_eq other u ≡ true → not (bytes_eq url u) ≡ true
    kept u is = ap not (ap (bytes_eq url) (sym ((bytes_eq-Decides other u).0 is)) ∙ other_text url other (λ e. differ (sym e)))

replaced_all : (P : Text × Tree → Type 0) (place : ℕ) (url : Text) (t : Tree) (es : ByUrl) → slice_get (keys_of es) place ≡ Some url → P (url, t) → All P es
    → All P (with_tree_at place t es)
replaced_all P place url t [] there new h = h
replaced_all P zero url t (e ∷ es) there new h = All-cons P (e.0, t) es (subst (λ (u : Text). P (u, t)) (sym (same there)) new) (All-tail P e es h)
  where
    same : Some e.0 ≡ Some url → e.0 ≡ url
    same s = cc
replaced_all P (suc place) url t (e ∷ es) there new h =
    subst (λ (fs : ByUrl). All P fs) (sym (later place t e es))
    (All-cons P e (with_tree_at place t es) (All-head P e es h) (replaced_all P place url t es there new (All-tail P e es h)))

-- ---- packages

of_kind-without : (kind : Kind) (url : Text) (p : Definitions) → of_kind kind (without url p) ≡ without_url url (of_kind kind p)
of_kind-without StructureDefinition url p = refl
of_kind-without ValueSet url p = refl
of_kind-without CodeSystem url p = refl

abbrev Sound : Kind → ByUrl → Type 0
Sound kind es = All (IsSoundEntry kind) es

abbrev Once : Kind → ByUrl → Type 0
Once kind es = IsDistinct bytes_eq (keys_of es)

pub put_sound : (d : Definition) (p : Definitions) → sound_definition d.tree ≡ Some d → AreSound p → AreSound (put_in d p)
put_sound d p new h =
    with_kind_each Sound d.kind (put_at d.url d.tree (of_kind d.kind p)) p (put_all (IsSoundEntry d.kind) d.url d.tree (of_kind d.kind p) new (h d.kind)) h

pub put_once : (d : Definition) (p : Definitions) → EachOnce p → EachOnce (put_in d p)
put_once d p h = with_kind_each Once d.kind (put_at d.url d.tree (of_kind d.kind p)) p (put_distinct d.url d.tree (of_kind d.kind p) (h d.kind)) h

pub each_sound : (ds : List Definition) (p : Definitions) → All (λ d. sound_definition d.tree ≡ Some d) ds → AreSound p → AreSound (put_each ds p)
each_sound [] p new h = h
each_sound (d ∷ ds) p new h =
    each_sound ds (put_in d p) (All-tail (λ e. sound_definition e.tree ≡ Some e) d ds new)
    (put_sound d p (All-head (λ e. sound_definition e.tree ≡ Some e) d ds new) h)

pub each_once : (ds : List Definition) (p : Definitions) → EachOnce p → EachOnce (put_each ds p)
each_once [] p h = h
each_once (d ∷ ds) p h = each_once ds (put_in d p) (put_once d p h)

there : (d : Definition) (p : Definitions) → of_kind d.kind (put_in d p) ≡ put_at d.url d.tree (of_kind d.kind p)
there d p = with_kind_there d.kind (put_at d.url d.tree (of_kind d.kind p)) p

pub put_is_found : (d : Definition) (p : Definitions) → at_url d.kind d.url (put_in d p) ≡ Some d.tree
put_is_found d p = ap (lookup (bytes_eq d.url)) (there d p) ∙ put_found d.url d.tree (of_kind d.kind p)

pub put_other_url : (d : Definition) (p : Definitions) (url : Text) → url ≢ d.url → at_url d.kind url (put_in d p) ≡ at_url d.kind url p
put_other_url d p url differ = ap (lookup (bytes_eq url)) (there d p) ∙ put_elsewhere d.url url d.tree (of_kind d.kind p) differ

other_kind : (kind k : Kind) (es : ByUrl) (p : Definitions) → kind ≢ k → of_kind kind (with_kind k es p) ≡ of_kind kind p
other_kind StructureDefinition StructureDefinition es p differ = absurd (differ refl)
other_kind StructureDefinition ValueSet es p differ = refl
other_kind StructureDefinition CodeSystem es p differ = refl
other_kind ValueSet StructureDefinition es p differ = refl
other_kind ValueSet ValueSet es p differ = absurd (differ refl)
other_kind ValueSet CodeSystem es p differ = refl
other_kind CodeSystem StructureDefinition es p differ = refl
other_kind CodeSystem ValueSet es p differ = refl
other_kind CodeSystem CodeSystem es p differ = absurd (differ refl)

pub put_other_kind : (d : Definition) (p : Definitions) (kind : Kind) → kind ≢ d.kind → of_kind kind (put_in d p) ≡ of_kind kind p
put_other_kind d p kind differ = other_kind kind d.kind (put_at d.url d.tree (of_kind d.kind p)) p differ

pub put_in_place : (d : Definition) (p : Definitions) → has d.kind d.url p ≡ true → keys_of (of_kind d.kind (put_in d p)) ≡ keys_of (of_kind d.kind p)
put_in_place d p is = ap (λ (es : ByUrl). keys_of es) (there d p) ∙ put_there d.url d.tree (of_kind d.kind p) is

pub put_behind : (d : Definition) (p : Definitions) → at_url d.kind d.url p ≡ None
    → of_kind d.kind (put_in d p) ≡ of_kind d.kind p ++ (d.url, d.tree) ∷ []
put_behind d p none = there d p ∙ put_last d.url d.tree (of_kind d.kind p) none

pub removed_sound : (url : Text) (p : Definitions) → AreSound p → AreSound (without url p)
removed_sound url p h = λ kind.
    subst (Sound kind) (sym (of_kind-without kind url p)) (All-filter (λ e. not (bytes_eq url e.0)) (IsSoundEntry kind) (of_kind kind p) (h kind))

pub removed_once : (url : Text) (p : Definitions) → EachOnce p → EachOnce (without url p)
removed_once url p h = λ kind.
    subst (Once kind) (sym (of_kind-without kind url p)) (IsDistinct-keys_filter bytes_eq (λ e. not (bytes_eq url e.0)) (of_kind kind p) (h kind))

pub removed_none : (url : Text) (p : Definitions) (kind : Kind) → at_url kind url (without url p) ≡ None
removed_none url p kind = ap (lookup (bytes_eq url)) (of_kind-without kind url p) ∙ none_found url (of_kind kind p)

pub removed_other_url : (url : Text) (p : Definitions) (kind : Kind) (other : Text) → other ≢ url → at_url kind other (without url p) ≡ at_url kind other p
removed_other_url url p kind other differ = ap (lookup (bytes_eq other)) (of_kind-without kind url p) ∙ others_found url other (of_kind kind p) differ

pub replaced_sound : (d : Definition) (place : ℕ) (p : Definitions) → sound_definition d.tree ≡ Some d → slice_get (keys_of (of_kind d.kind p)) place ≡ Some d.url
    → AreSound p → AreSound (with_tree d.kind place d.tree p)
replaced_sound d place p new there h =
    with_kind_each Sound d.kind (with_tree_at place d.tree (of_kind d.kind p)) p
    (replaced_all (IsSoundEntry d.kind) place d.url d.tree (of_kind d.kind p) there new (h d.kind)) h

pub replaced_once : (kind : Kind) (place : ℕ) (t : Tree) (p : Definitions) → EachOnce p → EachOnce (with_tree kind place t p)
replaced_once kind place t p h =
    with_kind_each Once kind (with_tree_at place t (of_kind kind p)) p
    (subst (λ (us : List Text). IsDistinct bytes_eq us) (sym (same_urls place t (of_kind kind p))) (h kind)) h
