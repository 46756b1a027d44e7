-- What is noted is true, and what is true is noted.
use Rattle.std.proofs.Common.{◌≡◌, ◌≢◌, Bool, true, false, cond, ◌&&◌, List, [], ◌∷◌, Option, Some, None, is_some, refl, sym, ap, subst, ◌∙◌, inl, inr}
use Rattle.std.specs.Prelude.{Any, Contains}
use Rattle.std.specs.Option.{option_map, option_map_or, option_and_then}
use Rattle.std.specs.List.{cons_option, filter_map}
use Rattle.std.specs.Str.{bytes_eq}
use Rattle.std.proofs.lemmas.Slice.Eq.{bytes_eq-Decides}
use Rattle.fhir_json.specs.Tree.{Text}
use Rattle.fhir_archives.specs.Archives.{Archive, Named, named, all_named, name_of, version_of, is_of, is_version, first_of, has_version, Dependency, dependencies_of, Note, no_name, lacking, other, note_beside, note_of, nameless, notes_of, notes}
use Rattle.fhir_archives.specs.Telling.{Meets, IsUnmet, IsFirst, Tells, IsTrueOf}
use Rattle.fhir_archives.proofs.Members.{In, in-contained, contained-in, in_left, in_right, in_either, in_flat_map, from_flat_map, in_filter_map, from_filter_map, any_in, from_any, found_in, all_from, all_at}

-- ---- archives with their names

-- an archive under that name
abbrev under : Archive → Text → Named
under a name = record { folder = a.0; name = name; version = version_of a }

-- what is known of one that has a name
named_is : (a : Archive) (n : Named) → named a ≡ Some n → (name_of a ≡ Some n.name) × (version_of a ≡ n.version)
named_is a n e = by (name_of a) refl e
  where
    by : (o : Option Text) → name_of a ≡ o → option_map (under a) o ≡ Some n → (name_of a ≡ Some n.name) × (version_of a ≡ n.version)
    by None is e = absurd (let bad : None ≡ Some n = e in cc)
    by (Some name) is e =
        let same : under a name ≡ n = cc in
        (is ∙ ap (λ (m : Named). Some m.name) same, ap (λ (m : Named). m.version) same)

under_there : (archives : List Archive) (a : Archive) (name : Text) → In a archives → name_of a ≡ Some name → In (under a name) (all_named archives)
under_there archives a name i e = in_filter_map named archives a (under a name) i (ap (option_map (under a)) e)

same_text : (s : Text) → bytes_eq s s ≡ true
same_text s = (bytes_eq-Decides s s).1 refl

-- ---- look-ups

-- no archive has a name of which there is no first
pub none_named : (archives : List Archive) (name : Text) → first_of name (all_named archives) ≡ None → (a : Archive) → In a archives → name_of a ≢ Some name
none_named archives name none a i e =
    found_in (is_of name) (all_named archives) (under a name) (under_there archives a name i e) (same_text name) none

version_known : (version : Text) (o : Option Text) → option_map_or (λ v. bytes_eq version v) o false ≡ true → o ≡ Some version
version_known version None e = absurd (let bad : false ≡ true = e in cc)
version_known version (Some v) e = ap Some (sym ((bytes_eq-Decides version v).0 e))

both : (a b : Bool) → (a && b) ≡ true → (a ≡ true) × (b ≡ true)
both true b e = (refl, e)
both false b e = absurd (let bad : false ≡ true = e in cc)

-- an archive has a name and a version that are found
pub version_there : (archives : List Archive) (name version : Text) → has_version name version (all_named archives) ≡ true
    → (a : Archive) × In a archives × (name_of a ≡ Some name) × (version_of a ≡ Some version)
version_there archives name version e =
    let n = from_any (λ m. is_of name m && is_version version m) (all_named archives) e in
    let a = from_filter_map named archives n.0 n.1 in
    let is = named_is a.0 n.0 a.2 in
    let tests = both (is_of name n.0) (is_version version n.0) n.2 in
    (a.0, a.1, is.0 ∙ ap Some (sym ((bytes_eq-Decides name n.0.name).0 tests.0)), is.1 ∙ version_known version n.0.version tests.1)

-- no archive has those that aren't
pub version_not : (archives : List Archive) (name version : Text) → has_version name version (all_named archives) ≡ false
    → (a : Archive) → In a archives → name_of a ≡ Some name → version_of a ≡ Some version → ⊥
version_not archives name version e a i n v =
    let tested : (is_of name (under a name) && is_version version (under a name)) ≡ true =
    ap (λ (b : Bool). b && is_version version (under a name)) (same_text name)
    ∙ ap (λ (o : Option Text). option_map_or (λ w. bytes_eq version w) o false) v
    ∙ same_text version in
    let there : has_version name version (all_named archives) ≡ true =
    any_in (λ m. is_of name m && is_version version m) (all_named archives) (under a name) (under_there archives a name i n) tested in
    let bad : false ≡ true = sym e ∙ there in
    cc

-- the first of a name is the first archive that has it
deeper : (a : Archive) (archives : List Archive) (name folder : Text) (version : Option Text) → name_of a ≢ Some name → IsFirst archives name folder version
    → IsFirst (a ∷ archives) name folder version
deeper a archives name folder version isnt r = record {
  before = a ∷ r.before;
  first = r.first;
  behind = r.behind;
  stands = ap (λ l. a ∷ l) r.stands;
  none_before = all_from (λ b. name_of b ≢ Some name) (a ∷ r.before) (λ b i. elim i [
    | inl same ↦ let P : Archive → Type 0 = λ c. name_of c ≢ Some name in subst P same isnt
    | inr rest ↦ all_at (λ c. name_of c ≢ Some name) r.before b r.none_before rest
  ]);
  named = r.named;
  in_folder = r.in_folder;
  of_version = r.of_version;
}

pub some_first : (archives : List Archive) (name : Text) (f : Named) → first_of name (all_named archives) ≡ Some f → IsFirst archives name f.folder f.version
some_first [] name f e = absurd (let bad : None ≡ Some f = e in cc)
some_first (a ∷ archives) name f e = by (name_of a) refl (some_first archives name f) e
  where
    at : (n : Text) (b : Bool) → name_of a ≡ Some n → bytes_eq name n ≡ b
        → (first_of name (all_named archives) ≡ Some f → IsFirst archives name f.folder f.version)
        → cond b (Some (under a n)) (first_of name (all_named archives)) ≡ Some f → IsFirst (a ∷ archives) name f.folder f.version
    at n true is same rest h =
        let one : under a n ≡ f = cc in
        record {
          before = [];
          first = a;
          behind = archives;
          stands = refl;
          none_before = all_from (λ b. name_of b ≢ Some name) [] (λ b i. absurd i);
          named = is ∙ ap Some (sym ((bytes_eq-Decides name n).0 same));
          in_folder = ap (λ (m : Named). m.folder) one;
          of_version = ap (λ (m : Named). m.version) one;
        }
    at n false is differs rest h =
        let isnt : name_of a ≢ Some name =
        λ e. let one : n ≡ name = (let both : Some n ≡ Some name = sym is ∙ e in cc) in
        let bad : false ≡ true = sym differs ∙ (bytes_eq-Decides name n).1 (sym one) in
        cc in
        deeper a archives name f.folder f.version isnt (rest h)

    by : (o : Option Text) → name_of a ≡ o → (first_of name (all_named archives) ≡ Some f → IsFirst archives name f.folder f.version)
        → first_of name (cons_option (option_map (under a) o) (all_named archives)) ≡ Some f → IsFirst (a ∷ archives) name f.folder f.version
    by None is rest h =
        let isnt : name_of a ≢ Some name = λ e. let bad : None ≡ Some name = sym is ∙ e in cc in
        deeper a archives name f.folder f.version isnt (rest h)
    by (Some n) is rest h = at n (bytes_eq name n) is refl rest h

first_there : (archives : List Archive) (name folder : Text) (version : Option Text) (r : IsFirst archives name folder version) → In r.first archives
first_there archives name folder version r =
    let P : List Archive → Type 0 = λ l. In r.first l in
    subst P (sym r.stands) (in_right r.before (r.first ∷ r.behind) r.first (inl refl))

-- ---- what is true is noted

module _ (archives : List Archive) (a : Archive) (d : Dependency) where
  abbrev ns : List Named
  ns = all_named archives

  abbrev Noted : Option Note → Type 0
  Noted o = (note : Note) × (o ≡ Some note) × Tells a.0 d note

  abbrev of_version : Named → Option Text → Option Note
  of_version f w =
      option_map (λ version. other a.0 d.name version f.folder f.version) (option_and_then (λ version. cond (has_version d.name version ns) None (Some version)) w)

  behind_test : (f : Named) (v : Text) (b : Bool) → IsUnmet archives d → d.version ≡ Some v → has_version d.name v ns ≡ b
      → Noted (option_map (λ version. other a.0 d.name version f.folder f.version) (cond b None (Some v)))
  behind_test f v true unmet is e =
      let b = version_there archives d.name v e in
      absurd (all_at (λ c. ¬ (Meets d c)) archives b.0 unmet b.1 (b.2, inr (b.3 ∙ sym is)))
  behind_test f v false unmet is e = (other a.0 d.name v f.folder f.version, refl, (refl, refl, sym is))

  behind_version : (f : Named) (w : Option Text) → IsUnmet archives d → first_of d.name ns ≡ Some f → d.version ≡ w → Noted (of_version f w)
  behind_version f None unmet is e =
      let first = some_first archives d.name f is in
      absurd (all_at (λ c. ¬ (Meets d c)) archives first.first unmet (first_there archives d.name f.folder f.version first) (first.named, inl e))
  behind_version f (Some v) unmet is e = behind_test f v (has_version d.name v ns) unmet e refl

  behind_first : (o : Option Named) → IsUnmet archives d → first_of d.name ns ≡ o → Noted (note_beside ns a.0 d o)
  behind_first None unmet is = (lacking a.0 d.name d.version, refl, (refl, refl, refl))
  behind_first (Some f) unmet is = behind_version f d.version unmet is refl

  pub unmet_told : Contains archives a → Contains (dependencies_of a) d → IsUnmet archives d → Any (Tells a.0 d) (notes archives)
  unmet_told here there unmet =
      let noted = behind_first (first_of d.name ns) unmet refl in
      let among : In noted.0 (notes_of ns a) =
      in_right (nameless a) (filter_map (note_of ns a.0) (dependencies_of a)) noted.0
      (in_filter_map (note_of ns a.0) (dependencies_of a) d noted.0 (in-contained (dependencies_of a) d there) noted.1) in
      let c = contained-in (notes archives) noted.0 (in_flat_map (notes_of ns) archives a noted.0 (in-contained archives a here) among) in
      (c.0, noted.0, c.1, c.2, noted.2)

pub nameless_told : (archives : List Archive) (a : Archive) → Contains archives a → name_of a ≡ None → Contains (notes archives) (no_name a.0)
nameless_told archives a here none =
    let ns = all_named archives in
    let P : Option Text → Type 0 = λ o. In (no_name a.0) (cond (is_some o) [] (no_name a.0 ∷ [])) in
    let among : In (no_name a.0) (notes_of ns a) =
    in_left (nameless a) (filter_map (note_of ns a.0) (dependencies_of a)) (no_name a.0) (subst P (sym none) (inl refl)) in
    contained-in (notes archives) (no_name a.0) (in_flat_map (notes_of ns) archives a (no_name a.0) (in-contained archives a here) among)

-- ---- what is noted is true

module _ (archives : List Archive) (a : Archive) where
  abbrev every : List Named
  every = all_named archives

  nameless_true : (note : Note) → In note (nameless a) → IsTrueOf archives a note
  nameless_true note i = by (name_of a) refl i
    where
      by : (o : Option Text) → name_of a ≡ o → In note (cond (is_some o) [] (no_name a.0 ∷ [])) → IsTrueOf archives a note
      by None is i = elim i [
        | inl same ↦ let P : Note → Type 0 = λ n. IsTrueOf archives a n in subst P same (refl, is)
        | inr r ↦ absurd r
      ]
      by (Some n) is i = absurd i

  module _ (d : Dependency) (note : Note) (there : Contains (dependencies_of a) d) where
    test_true : (f : Named) (v : Text) (b : Bool) → first_of d.name every ≡ Some f → d.version ≡ Some v → has_version d.name v every ≡ b
        → option_map (λ version. other a.0 d.name version f.folder f.version) (cond b None (Some v)) ≡ Some note → IsTrueOf archives a note
    test_true f v true is e has h = absurd (let bad : None ≡ Some note = h in cc)
    test_true f v false is e has h =
        let same : other a.0 d.name v f.folder f.version ≡ note = cc in
        let P : Note → Type 0 = λ n. IsTrueOf archives a n in
        let asked : Dependency = record { name = d.name; version = Some v } in
        let Q : Option Text → Type 0 = λ w. Contains (dependencies_of a) (record { name = d.name; version = w }) in
        let unmet : IsUnmet archives asked =
        all_from (λ c. ¬ (Meets asked c)) archives (λ c i meets. elim meets.1 [
          | inl none ↦ let bad : Some v ≡ None = none in cc
          | inr of_it ↦ version_not archives d.name v has c i meets.0 of_it
        ]) in
        subst P same (refl, subst Q e there, unmet, some_first archives d.name f is)

    version_true : (f : Named) (w : Option Text) → first_of d.name every ≡ Some f → d.version ≡ w
        → option_map (λ version. other a.0 d.name version f.folder f.version) (option_and_then (λ version. cond (has_version d.name version every) None (Some version)) w)
        ≡ Some note → IsTrueOf archives a note
    version_true f None is e h = absurd (let bad : None ≡ Some note = h in cc)
    version_true f (Some v) is e h = test_true f v (has_version d.name v every) is e refl h

    pub first_true : (o : Option Named) → first_of d.name every ≡ o → note_beside every a.0 d o ≡ Some note → IsTrueOf archives a note
    first_true None is h =
        let same : lacking a.0 d.name d.version ≡ note = cc in
        let P : Note → Type 0 = λ n. IsTrueOf archives a n in
        subst P same (refl, there, all_from (λ c. name_of c ≢ Some d.name) archives (none_named archives d.name is))
    first_true (Some f) is h = version_true f d.version is refl h

pub noted_true : (archives : List Archive) (note : Note) → Contains (notes archives) note → (a : Archive) × Contains archives a × IsTrueOf archives a note
noted_true archives note c =
    let ns = all_named archives in
    let a = from_flat_map (notes_of ns) archives note (in-contained (notes archives) note c) in
    let here = contained-in archives a.0 a.1 in
    elim (in_either (nameless a.0) (filter_map (note_of ns a.0.0) (dependencies_of a.0)) note a.2) [
      | inl n ↦ (a.0, here, nameless_true archives a.0 note n)
      | inr f ↦
          let d = from_filter_map (note_of ns a.0.0) (dependencies_of a.0) note f in
          (a.0, here, first_true archives a.0 d.0 note (contained-in (dependencies_of a.0) d.0 d.1) (first_of d.0.name ns) refl d.2)
    ]
