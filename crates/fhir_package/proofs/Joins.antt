-- What stands in a package after definitions were put into it, and where two clashed.
use Rattle.std.proofs.Common.{◌≡◌, Bool, true, false, List, [], ◌∷◌, ◌++◌, Option, None, Some, Result, Ok, Err, refl, ap, subst, ◌∙◌, ◌⊎◌, inl, inr}
use Rattle.std.specs.Prelude.{Contains, if◌then◌else◌}
use Rattle.std.specs.List.{IsDistinct}
use Rattle.std.specs.Str.{bytes_eq}
use Rattle.std.specs.Map.{keys_of, lookup}
use Rattle.fhir_json.specs.Tree.{Text, Tree}
use Rattle.fhir_matching.specs.Equality.{equal}
use Rattle.fhir_package.specs.declared.kind.Kind.{Kind}
use Rattle.fhir_package.specs.declared.kind.Kind.TheVariants.{StructureDefinition, ValueSet, CodeSystem}
use Rattle.fhir_package.specs.Definitions.{Definitions, ByUrl, of_kind, with_kind, at_url}
use Rattle.fhir_package.specs.Packing.{Refusal, not_json, clash, Definition, join, joined, join_all, and_then, or_clash}
use Rattle.fhir_package.proofs.Entries.{contains_none, contains_cases, contains_first, contains_later, lookup_kept, lookup_new, lookup_behind, distinct_behind}

-- a definition equal to this one is at its kind and url
abbrev pub Shows : Definitions → Definition → Type 0
Shows p d = (t : Tree) × (at_url d.kind d.url p ≡ Some t) × (equal t d.tree ≡ true)

-- each definition of a package is one of these, and no url comes twice
pub record Stands (In : Definition → Type 0) (p : Definitions) : Type 0 where
  pub only : (kind : Kind) (url : Text) (t : Tree) → at_url kind url p ≡ Some t → In (record { kind = kind; url = url; tree = t })
  pub distinct : (kind : Kind) → IsDistinct bytes_eq (keys_of (of_kind kind p))

-- p with definitions put into it is q
pub record Grows (In Held : Definition → Type 0) (p q : Definitions) : Type 0 where
  pub stands : Stands In q
  pub keeps : (kind : Kind) (url : Text) (t : Tree) → at_url kind url p ≡ Some t → at_url kind url q ≡ Some t
  pub shows : (d : Definition) → Held d → Shows q d

pub record Differ (In : Definition → Type 0) (url : Text) : Type 0 where
  pub kind : Kind
  pub first : Tree
  pub second : Tree
  pub first_in : In (record { kind = kind; url = url; tree = first })
  pub second_in : In (record { kind = kind; url = url; tree = second })
  pub unequal : equal first second ≡ false

abbrev pub Refuses : (In : Definition → Type 0) → Refusal → Type 0
Refuses In (not_json name) = Unit {0}
Refuses In (clash url) = Differ In url

abbrev pub Ends : (In Held : Definition → Type 0) → Definitions → Result Definitions Refusal → Type 0
Ends In Held p (Ok q) = Grows In Held p q
Ends In Held p (Err refusal) = Refuses In refusal

-- ---- one kind

-- what holds of the new entries of one kind and of the old ones of each
pub with_kind_each : (P : Kind → ByUrl → Type 0) (k : Kind) (es : ByUrl) (p : Definitions) → P k es → ((kind : Kind) → P kind (of_kind kind p)) → (kind : Kind)
    → P kind (of_kind kind (with_kind k es p))
with_kind_each P StructureDefinition es p h each StructureDefinition = h
with_kind_each P StructureDefinition es p h each ValueSet = each ValueSet
with_kind_each P StructureDefinition es p h each CodeSystem = each CodeSystem
with_kind_each P ValueSet es p h each StructureDefinition = each StructureDefinition
with_kind_each P ValueSet es p h each ValueSet = h
with_kind_each P ValueSet es p h each CodeSystem = each CodeSystem
with_kind_each P CodeSystem es p h each StructureDefinition = each StructureDefinition
with_kind_each P CodeSystem es p h each ValueSet = each ValueSet
with_kind_each P CodeSystem es p h each CodeSystem = h

pub with_kind_there : (k : Kind) (es : ByUrl) (p : Definitions) → of_kind k (with_kind k es p) ≡ es
with_kind_there StructureDefinition es p = refl
with_kind_there ValueSet es p = refl
with_kind_there CodeSystem es p = refl

-- ---- definitions one after another

module _ (In : Definition → Type 0) where
  -- some put in, and then others
  pub chain : (A B C : Definition → Type 0) → ((d : Definition) → C d → A d ⊎ B d) → (p q : Definitions) (r : Result Definitions Refusal) → Grows In A p q
      → Ends In B q r → Ends In C p r
  chain A B C parts p q (Ok s) g h = record {
    stands = h.stands;
    keeps = λ kind url t e. h.keeps kind url t (g.keeps kind url t e);
    shows = λ d c. elim (parts d c) [ inl a ↦ let w = g.shows d a in (w.0, h.keeps d.kind d.url w.0 w.1, w.2) | inr b ↦ h.shows d b ];
  }
  chain A B C parts p q (Err refusal) g h = h

  pub unchanged : (Held : Definition → Type 0) (p : Definitions) → Stands In p → ((d : Definition) → Held d → Shows p d) → Grows In Held p p
  unchanged Held p s shows = record { stands = s; keeps = λ kind url t e. e; shows = shows }

  -- what is asked of the entries of a kind after one definition
  record Row (p : Definitions) (kind : Kind) (es : ByUrl) : Type 0 where
    only : (url : Text) (t : Tree) → lookup (bytes_eq url) es ≡ Some t → In (record { kind = kind; url = url; tree = t })
    distinct : IsDistinct bytes_eq (keys_of es)
    keeps : (url : Text) (t : Tree) → at_url kind url p ≡ Some t → lookup (bytes_eq url) es ≡ Some t

  old_row : (p : Definitions) → Stands In p → (kind : Kind) → Row p kind (of_kind kind p)
  old_row p s kind = record { only = s.only kind; distinct = s.distinct kind; keeps = λ url t e. e }

  new_row : (d : Definition) (p : Definitions) → In d → Stands In p → at_url d.kind d.url p ≡ None → Row p d.kind (of_kind d.kind p ++ (d.url, d.tree) ∷ [])
  new_row d p i s none = record {
    only = λ url t e. elim (lookup_behind url t d.url d.tree (of_kind d.kind p) e) [ inl old ↦ s.only d.kind url t old | inr new ↦ is_new url t new.0 new.1 ];
    distinct = distinct_behind d.url d.tree (of_kind d.kind p) (s.distinct d.kind) none;
    keeps = λ url t e. lookup_kept url t (of_kind d.kind p) ((d.url, d.tree) ∷ []) e;
  }
    where
      is_new : (url : Text) (t : Tree) → d.url ≡ url → d.tree ≡ t → In (record { kind = d.kind; url = url; tree = t })
      is_new url t e f = rw (← e, ← f) i

  put_behind : ((t : Tree) → equal t t ≡ true) → (d : Definition) (p : Definitions) → In d → Stands In p → at_url d.kind d.url p ≡ None
      → Grows In (λ e. d ≡ e) p (with_kind d.kind (of_kind d.kind p ++ (d.url, d.tree) ∷ []) p)
  put_behind same d p i s none = record {
    stands = record { only = λ kind. (rows kind).only; distinct = λ kind. (rows kind).distinct };
    keeps = λ kind. (rows kind).keeps;
    shows = λ e eq. subst (Shows q) eq (d.tree, there, same d.tree);
  }
    where
      es : ByUrl
      es = of_kind d.kind p ++ (d.url, d.tree) ∷ []

      q : Definitions
      q = with_kind d.kind es p

      rows : (kind : Kind) → Row p kind (of_kind kind q)
      rows kind = with_kind_each (Row p) d.kind es p (new_row d p i s none) (old_row p s) kind

      there : at_url d.kind d.url q ≡ Some d.tree
      there = ap (lookup (bytes_eq d.url)) (with_kind_there d.kind es p) ∙ lookup_new d.url d.tree (of_kind d.kind p) none

  -- a definition put in
  join_ends : ((t : Tree) → equal t t ≡ true) → (d : Definition) (p : Definitions) → In d → Stands In p → Ends In (λ e. d ≡ e) p (or_clash (join d p))
  join_ends same d p i s = by (at_url d.kind d.url p) refl
    where
      compared : (t : Tree) → at_url d.kind d.url p ≡ Some t → (b : Bool) → equal t d.tree ≡ b
          → Ends In (λ e. d ≡ e) p (or_clash (if b then Ok p else Err d.url))
      compared t is true alike = unchanged (λ e. d ≡ e) p s (λ e eq. subst (Shows p) eq (t, is, alike))
      compared t is false unlike = record { kind = d.kind; first = t; second = d.tree; first_in = s.only d.kind d.url t is; second_in = i; unequal = unlike }

      by : (there : Option Tree) → at_url d.kind d.url p ≡ there → Ends In (λ e. d ≡ e) p (or_clash (joined there d p))
      by None none = put_behind same d p i s none
      by (Some t) is = compared t is (equal t d.tree) refl

  -- and several, one after another
  pub join_all_ends : ((t : Tree) → equal t t ≡ true) → (ds : List Definition) (p : Definitions) → ((d : Definition) → Contains ds d → In d) → Stands In p
      → Ends In (Contains ds) p (or_clash (join_all ds p))
  join_all_ends same [] p i s = unchanged (Contains []) p s (λ d c. absurd (contains_none d c))
  join_all_ends same (d ∷ ds) p i s =
      by (join d p) (join_ends same d p (i d (contains_first d ds d refl)) s) (λ q. join_all_ends same ds q (λ e c. i e (contains_later d ds e c)))
    where
      by : (r : Result Definitions Text) → Ends In (λ e. d ≡ e) p (or_clash r)
          → ((q : Definitions) → Stands In q → Ends In (Contains ds) q (or_clash (join_all ds q)))
          → Ends In (Contains (d ∷ ds)) p (or_clash (and_then (join_all ds) r))
      by (Ok q) h rest = chain (λ e. d ≡ e) (Contains ds) (Contains (d ∷ ds)) (contains_cases d ds) p q (or_clash (join_all ds q)) h (rest q h.stands)
      by (Err url) h rest = h
