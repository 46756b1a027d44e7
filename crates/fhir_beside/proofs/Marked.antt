-- What is put in stands under urls that begin with the mark, so no text of the two packages names it.
use Rattle.std.proofs.Common.{◌≡◌, ℕ, suc, Bool, true, false, ◌&&◌, cond, [], ◌∷◌, ◌++◌, Option, None, Some, Result, Ok, Err, nat_eq, if◌then◌else◌}
use Rattle.std.proofs.Common.{refl, ap, sym, ◌∙◌, subst, arith}
use Rattle.std.proofs.lemmas.Bool.Decides.{nat_tests}
use Rattle.std.proofs.lemmas.Slice.Eq.{bytes_eq-Decides}
use Rattle.std.specs.Option.{option_and_then}
use Rattle.std.specs.Result.{result_ok}
use Rattle.std.specs.List.{starts_with, Contains}
use Rattle.std.specs.Map.{lookup}
use Rattle.std.specs.Str.{bytes_eq}
use Rattle.fhir_json.specs.Tree.{Text, Tree}
use Rattle.fhir_json.specs.Bytes.{bar}
use Rattle.fhir_names.specs.declared.fault.NameFault.{NameFault}
use Rattle.fhir_names.specs.Canonicals.{CanonicalParts, canonical_text, read_canonical}
use Rattle.fhir_names.proofs.ReadCanonicals.{canonical_found}
use Rattle.fhir_package.specs.declared.kind.Kind.{Kind}
use Rattle.fhir_package.specs.declared.kind.Kind.TheVariants.{StructureDefinition, ValueSet, CodeSystem}
use Rattle.fhir_package.specs.Definitions.{ByUrl, Definitions, at_url}
use Rattle.fhir_package.specs.Canonical.{where_version, at_version, named_by}
use Rattle.fhir_codes.specs.Concepts.{Concepts}
use Rattle.fhir_alike.specs.Mark.{package_texts, stem, BeginsNone}
use Rattle.fhir_alike.proofs.Fresh.{grown_fresh}
use Rattle.fhir_beside.specs.Standing.{is_compared}
use Rattle.fhir_beside.specs.Made.{IsListed, IsListedIf, concepts_at, is_bound, elements_of, moved, profiles_from, AreSets, with_more}
use Rattle.fhir_beside.specs.Beside.{IsBeside}

-- ---- texts that begin with a mark

begins : (mark url : Text) → starts_with nat_eq (mark ++ url) mark ≡ true
begins [] url = refl
begins (m ∷ mark) url = ap (λ b. b && starts_with nat_eq (mark ++ url) mark) (same m) ∙ begins mark url
  where
    same : (m : ℕ) → nat_eq m m ≡ true
    same m = grind (arith, nat_tests)

-- what stands in front of a text that doesn't begin with it doesn't either
front_not : (mark front rest : Text) → starts_with nat_eq (front ++ rest) mark ≡ false → starts_with nat_eq front mark ≡ false
front_not [] front rest h = h
front_not (m ∷ mark) [] rest h = refl
front_not (m ∷ mark) (x ∷ front) rest h = go (nat_eq m x) (front_not mark front rest) h
  where
    go : (b : Bool) → (starts_with nat_eq (front ++ rest) mark ≡ false → starts_with nat_eq front mark ≡ false)
        → (b && starts_with nat_eq (front ++ rest) mark) ≡ false → (b && starts_with nat_eq front mark) ≡ false
    go true so e = so e
    go false so e = refl

abbrev pub AllMarked : Text → ByUrl → Type 0
AllMarked mark [] = Unit {0}
AllMarked mark (e ∷ es) = (starts_with nat_eq e.0 mark ≡ true) × AllMarked mark es

marked_append : (mark : Text) (xs ys : ByUrl) → AllMarked mark xs → AllMarked mark ys → AllMarked mark (xs ++ ys)
marked_append mark [] ys h k = k
marked_append mark (x ∷ xs) ys h k = (h.0, marked_append mark xs ys h.1 k)

module _ (mark url : Text) (h : starts_with nat_eq url mark ≡ false) where
  pub other : (key : Text) → starts_with nat_eq key mark ≡ true → bytes_eq url key ≡ false
  other key k = go (bytes_eq url key) refl
    where
      go : (b : Bool) → bytes_eq url key ≡ b → b ≡ false
      go true e = let same : url ≡ key = (bytes_eq-Decides url key).0 e in let begun = ap (λ s. starts_with nat_eq s mark) same in cc
      go false e = refl

  none_there : (es : ByUrl) → AllMarked mark es → lookup (bytes_eq url) es ≡ None
  none_there [] m = refl
  none_there (e ∷ es) m = ap (λ b. cond b (Some e.1) (lookup (bytes_eq url) es)) (other e.0 m.0) ∙ none_there es m.1

  -- a url that doesn't begin with it finds nothing of those behind
  found_before : (es more : ByUrl) → AllMarked mark more → lookup (bytes_eq url) (es ++ more) ≡ lookup (bytes_eq url) es
  found_before [] more m = none_there more m
  found_before (e ∷ es) more m = ap (λ (o : Option Tree). cond (bytes_eq url e.0) (Some e.1) o) (found_before es more m)

-- ---- what is put in

module _ (old new : Definitions) (keeps : Text → Bool) (mark : Text) where
  profiles_marked : (place : ℕ) (es : ByUrl) → AllMarked mark (profiles_from old new keeps mark place es)
  profiles_marked place [] = tt
  profiles_marked place (e ∷ es) = go (is_compared old new place e) (profiles_marked (suc place) es)
    where
      go : (b : Bool) → AllMarked mark (profiles_from old new keeps mark (suc place) es)
          → AllMarked mark ((if b then (mark ++ e.0, moved keeps mark e.0 (elements_of place e) e.1) ∷ [] else []) ++ profiles_from old new keeps mark (suc place) es)
      go true rest = (begins mark e.0, rest)
      go false rest = rest

  none_marked : (sets : ByUrl) → sets ≡ [] → AllMarked mark sets
  none_marked sets e = subst (AllMarked mark) (sym e) tt

  listed_marked : (e : Text × Tree) (s : Option Concepts) (sets : ByUrl) → IsListed mark e s sets → AllMarked mark sets
  listed_marked e None sets h = none_marked sets h
  listed_marked e (Some s) sets h = subst (AllMarked mark) (sym h.2) (begins mark e.0, tt)

  if_marked : (b : Bool) (e : Text × Tree) (s : Option Concepts) (sets : ByUrl) → IsListedIf b mark e s sets → AllMarked mark sets
  if_marked true e s sets h = listed_marked e s sets h
  if_marked false e s sets h = none_marked sets h

  sets_marked : (place : ℕ) (es sets : ByUrl) → AreSets old new keeps mark place es sets → AllMarked mark sets
  sets_marked place [] sets h = none_marked sets h
  sets_marked place (e ∷ es) sets h =
      subst (AllMarked mark) (sym h.4)
      (marked_append mark h.0 h.1 (if_marked (is_bound old new keeps place) e (concepts_at old place) h.0 h.2) (sets_marked (suc place) es h.1 h.3))

module _ (new : Definitions) (profiles sets : ByUrl) (mark : Text) (ps : AllMarked mark profiles) (ss : AllMarked mark sets) where
  -- a url that doesn't begin with the mark finds what NEW has there
  found_new : (kind : Kind) (url : Text) → starts_with nat_eq url mark ≡ false → at_url kind url (with_more profiles sets new) ≡ at_url kind url new
  found_new StructureDefinition url h = found_before mark url h new.structure_definitions profiles ps
  found_new ValueSet url h = found_before mark url h new.value_sets sets ss
  found_new CodeSystem url h = refl

  read_new : (kind : Kind) (o : Option CanonicalParts) → ((r : CanonicalParts) → o ≡ Some r → starts_with nat_eq r.0 mark ≡ false)
      → option_and_then (at_version kind (with_more profiles sets new)) o ≡ option_and_then (at_version kind new) o
  read_new kind None h = refl
  read_new kind (Some r) h = ap (option_and_then (where_version r.1)) (found_new kind r.0 (h r refl))

  pub url_not : (text : Text) → starts_with nat_eq text mark ≡ false → (r : CanonicalParts) → text ≡ canonical_text r
      → starts_with nat_eq r.0 mark ≡ false
  url_not text h (url, None) e = ap (λ s. starts_with nat_eq s mark) (sym e) ∙ h
  url_not text h (url, Some v) e = front_not mark url (bar ∷ v) (ap (λ s. starts_with nat_eq s mark) (sym e) ∙ h)

  pub read_so : (x : Result CanonicalParts NameFault) (r : CanonicalParts) → result_ok x ≡ Some r → x ≡ Ok r
  read_so (Ok y) r e = let same : y ≡ r = cc in ap Ok same
  read_so (Err f) r e = cc

  -- nor does a canonical that doesn't begin with it name anything else
  named_new : (kind : Kind) (canonical : Text) → starts_with nat_eq canonical mark ≡ false
      → named_by kind canonical (with_more profiles sets new) ≡ named_by kind canonical new
  named_new kind canonical h =
      read_new kind (result_ok (read_canonical canonical))
      (λ r e. url_not canonical h r (canonical_found canonical r (read_so (read_canonical canonical) r e)).1)

-- ---- of the package that is made

module _ (old new beside : Definitions) (mark : Text) (types : ℕ) (b : IsBeside old new mark beside types) where
  pub mark_new : BeginsNone mark (package_texts old ++ package_texts new)
  mark_new =
      subst (λ m. BeginsNone m (package_texts old ++ package_texts new)) (sym b.mark_is) (grown_fresh stem (package_texts old ++ package_texts new))

  pub put_profiles : AllMarked mark b.profiles
  put_profiles = subst (AllMarked mark) (sym b.are_put.profiles_are) (profiles_marked old new b.are_put.keeps mark 0 old.structure_definitions)

  pub put_sets : AllMarked mark b.sets
  put_sets = sets_marked old new b.are_put.keeps mark 0 old.value_sets b.sets b.are_put.are_sets

  pub at_new : (kind : Kind) (url : Text) → Contains (package_texts old ++ package_texts new) url → at_url kind url beside ≡ at_url kind url new
  at_new kind url there =
      ap (at_url kind url) b.is_made ∙ found_new new b.profiles b.sets mark put_profiles put_sets kind url (mark_new url there)

  pub names_new : (kind : Kind) (canonical : Text) → Contains (package_texts old ++ package_texts new) canonical
      → named_by kind canonical beside ≡ named_by kind canonical new
  names_new kind canonical there =
      ap (named_by kind canonical) b.is_made ∙ named_new new b.profiles b.sets mark put_profiles put_sets kind canonical (mark_new canonical there)
