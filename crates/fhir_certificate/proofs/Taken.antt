-- What is read stands in the text.
use Rattle.std.proofs.Common.{◌≡◌, ℕ, suc, ◌+◌, ◌==◌, ◌&&◌, Bool, true, false, List, [], ◌∷◌, ◌++◌, Option, Some}
use Rattle.std.proofs.Common.{None, length, option_map, if◌then◌else◌, refl, sym, ap, subst, ◌∙◌, eqb-true, append_assoc}
use Rattle.std.specs.Prelude.{codes, IsTrue, IsUtf8}
use Rattle.std.specs.Option.{option_map_or, option_and_then}
use Rattle.std.specs.List.{flat_map, list_all}
use Rattle.std.specs.Str.{bytes_eq}
use Rattle.std.proofs.lemmas.Bool.{and_parts}
use Rattle.std.proofs.lemmas.List.{append-nil}
use Rattle.std.proofs.lemmas.Option.{option_and_then_some, cond_some}
use Rattle.std.proofs.lemmas.Slice.Eq.{bytes_eq-Decides}
use Rattle.fhir_json.specs.Tree.{Text}
use Rattle.fhir_certificate.specs.Numbers.{Numbering, number_text, url_text, url_named}
use Rattle.fhir_certificate.specs.Versions.{is_version}
use Rattle.fhir_certificate.specs.Format.{Name, Line, item, kids, Stated, Written, urls_of, numbering, line_text, pair_text, definitions_text, front_text, text_of}
use Rattle.fhir_certificate.specs.Format.{is_field, is_url, is_name, is_line, is_stated, are_stated_if_any, Spells}
use Rattle.fhir_certificate.specs.Reading.{cut_at, longer, lines_of, is_ended, line_with, field_at, with_url, url_at, name_at, name_of, line_of, is_end, pairs_in}
use Rattle.fhir_certificate.specs.Reading.{pairs_at, behind_field, definition_fields, definition_with, definition_of, definition_lines, behind_lines}
use Rattle.fhir_certificate.specs.Reading.{behind_line, field_of, field_line, url_line, written_behind, definitions_at, front_of, written_of}
use Rattle.fhir_json.specs.Sound.{differ}
use Rattle.fhir_certificate.proofs.Naming.{differ_if_any, named_is}
use Rattle.fhir_certificate.proofs.Pairs.{ended, whole, end_line, at_some, some_true}

-- ---- fields

cut_step : (c b : ℕ) (bs : Text) (o : Option (Text × Text)) (p : Text × Text) → ((q : Text × Text) → o ≡ Some q → bs ≡ q.0 ++ c ∷ q.1) → (v : Bool)
    → (b == c) ≡ v → (if v then Some ([], bs) else option_map (λ q. (b ∷ q.0, q.1)) o) ≡ Some p → b ∷ bs ≡ p.0 ++ c ∷ p.1
cut_step c b bs o p h true is e =
    let same : b ≡ c = eqb-true b c is in
    let P : Text × Text → Type 0 = λ p. b ∷ bs ≡ p.0 ++ c ∷ p.1 in
    let q : ([], bs) ≡ p = cc in
    subst P q (ap (λ x. x ∷ bs) same)
cut_step c b bs None p h false is e = cc
cut_step c b bs (Some q) p h false is e =
    let P : Text × Text → Type 0 = λ p. b ∷ bs ≡ p.0 ++ c ∷ p.1 in
    let r : (b ∷ q.0, q.1) ≡ p = cc in
    subst P r (ap (λ t. b ∷ t) (h q refl))

pub cut_is : (c : ℕ) (text : Text) (p : Text × Text) → cut_at c text ≡ Some p → text ≡ p.0 ++ c ∷ p.1
cut_is c [] p e = cc
cut_is c (b ∷ bs) p e = cut_step c b bs (cut_at c bs) p (cut_is c bs) (b == c) refl e

pub field_at_is : (text : Text) (p : Text × Text) → field_at text ≡ Some p → (text ≡ p.0 ++ 9 ∷ p.1) × IsTrue (is_field p.0)
field_at_is text p e =
    option_and_then_some (λ p. if is_field p.0 then Some p else None) (cut_at 9 text) p e (λ q cut some.
    let parts = cond_some (is_field q.0) q p some in
    let P : Text × Text → Type 0 = λ p. (text ≡ p.0 ++ 9 ∷ p.1) × IsTrue (is_field p.0) in
    subst P parts.1 (cut_is 9 text q cut, parts.0))

pub map_some : {A B : Type 0} (f : A → B) (o : Option A) (y : B) → option_map f o ≡ Some y → (x : A) × (o ≡ Some x) × (f x ≡ y)
map_some f None y e = cc
map_some f (Some x) y e = (x, refl, cc)

-- a pair line without its line feed
abbrev pub fields_text : Numbering → Text → Name → Name → Text
fields_text ns word derived base =
    word ++ 9 ∷ (url_text ns derived.url ++ 9 ∷ (derived.id ++ 9 ∷ (url_text ns base.url ++ 9 ∷ base.id)))

pub four_fields : (ns : Numbering) (word : Text) (derived base : Name)
    → fields_text ns word derived base ++ 10 ∷ [] ≡ line_text word (url_text ns derived.url ∷ derived.id ∷ url_text ns base.url ∷ base.id ∷ [])
four_fields ns word derived base =
    ap (λ t. (word ++ 9 ∷ (url_text ns derived.url ++ 9 ∷ (derived.id ++ 9 ∷ (url_text ns base.url ++ 9 ∷ t)))) ++ 10 ∷ []) (sym (append-nil base.id))

module _ (ns : Numbering) (apart : differ_if_any ns ≡ true) where
  pub url_at_is : (text : Text) (p : Text × Text) → url_at ns text ≡ Some p → (text ≡ url_text ns p.0 ++ 9 ∷ p.1) × (is_url ns p.0 ≡ true)
  url_at_is text p e =
      option_and_then_some (with_url ns) (field_at text) p e (λ f first with.
      let named = map_some (λ url. (url, f.1)) (url_named ns f.0) p with in
      let a = field_at_is text f first in
      let h = named_is ns f.0 named.0 apart a.1 named.1 in
      let P : Text × Text → Type 0 = λ p. (text ≡ url_text ns p.0 ++ 9 ∷ p.1) × (is_url ns p.0 ≡ true) in
      subst P named.2 (a.0 ∙ ap (λ t. t ++ 9 ∷ f.1) h.0, h.1))

  pub name_at_is : (text : Text) (p : Name × Text) → name_at ns text ≡ Some p
      → (text ≡ url_text ns p.0.url ++ 9 ∷ (p.0.id ++ 9 ∷ p.1)) × IsTrue (is_name ns p.0)
  name_at_is text p e =
      option_and_then_some (λ url. option_map (λ id. (record { url = url.0; id = id.0 }, id.1)) (field_at url.1)) (url_at ns text) p e (λ url first rest.
      let second = map_some (λ id. (record { url = url.0; id = id.0 }, id.1)) (field_at url.1) p rest in
      let id = second.0 in
      let a = url_at_is text url first in
      let b = field_at_is url.1 id second.1 in
      let P : Name × Text → Type 0 = λ p. (text ≡ url_text ns p.0.url ++ 9 ∷ (p.0.id ++ 9 ∷ p.1)) × IsTrue (is_name ns p.0) in
      subst P second.2 (a.0 ∙ ap (λ t. url_text ns url.0 ++ 9 ∷ t) b.0, rw a.1 b.1))

  pub name_of_is : (text : Text) (n : Name) → name_of ns text ≡ Some n → (text ≡ url_text ns n.url ++ 9 ∷ n.id) × IsTrue (is_name ns n)
  name_of_is text n e =
      option_and_then_some (λ url. if is_field url.1 then Some (record { url = url.0; id = url.1 }) else None) (url_at ns text) n e (λ url first rest.
      let m : Name = record { url = url.0; id = url.1 } in
      let parts = cond_some (is_field url.1) m n rest in
      let a = url_at_is text url first in
      let P : Name → Type 0 = λ n. (text ≡ url_text ns n.url ++ 9 ∷ n.id) × IsTrue (is_name ns n) in
      subst P parts.1 (a.0, rw a.1 parts.0))

  -- ---- pair lines

  pub line_with_is : (word : Text) (derived base : Name) (l : Line) → line_with word derived base ≡ Some l → IsTrue (is_name ns derived)
      → IsTrue (is_name ns base) → (fields_text ns word derived base ++ 10 ∷ [] ≡ pair_text ns l) × IsTrue (is_line ns l)
  line_with_is word derived base l e d b =
      let Q : Line → Type 0 = λ l. (fields_text ns word derived base ++ 10 ∷ [] ≡ pair_text ns l) × IsTrue (is_line ns l) in
      let fields : IsTrue (is_name ns derived && is_name ns base) = rw d b in
      elim (bytes_eq word (codes "item")) as
      (λ v. bytes_eq word (codes "item") ≡ v
      → (if v then Some (item derived base) else (if bytes_eq word (codes "kids") then Some (kids derived base) else None)) ≡ Some l → Q l) [
        | true ↦ λ is some.
            let same : item derived base ≡ l = cc in
            subst Q same (rw ((bytes_eq-Decides word (codes "item")).0 is) (four_fields ns (codes "item") derived base), fields)
        | false ↦ λ isnt some.
            let parts = cond_some (bytes_eq word (codes "kids")) (kids derived base) l some in
            subst Q parts.1 (rw ((bytes_eq-Decides word (codes "kids")).0 parts.0) (four_fields ns (codes "kids") derived base), fields)
      ] refl e

  pub line_of_is : (line : Text) (l : Line) → line_of ns line ≡ Some l → (line ++ 10 ∷ [] ≡ pair_text ns l) × IsTrue (is_line ns l)
  line_of_is line l e =
      option_and_then_some (λ word. option_and_then (λ derived. option_and_then (line_with word.0 derived.0) (name_of ns derived.1)) (name_at ns word.1))
      (cut_at 9 line) l e (λ word first names.
      option_and_then_some (λ derived. option_and_then (line_with word.0 derived.0) (name_of ns derived.1)) (name_at ns word.1) l names (λ derived second rest.
      option_and_then_some (line_with word.0 derived.0) (name_of ns derived.1) l rest (λ base third with.
      let a = cut_is 9 line word first in
      let d = name_at_is word.1 derived second in
      let b = name_of_is derived.1 base third in
      let h = line_with_is word.0 derived.0 base l with d.1 b.1 in
      let text : line ≡ fields_text ns word.0 derived.0 base =
      a ∙ ap (λ t. word.0 ++ 9 ∷ t) (d.0 ∙ ap (λ t. url_text ns derived.0.url ++ 9 ∷ (derived.0.id ++ 9 ∷ t)) b.0) in
      (ap (λ t. t ++ 10 ∷ []) text ∙ h.0, h.1))))

  abbrev pub Are : List Text → List Line → Type 0
  Are lines ps = (flat_map ended lines ≡ flat_map (pair_text ns) ps ++ line_text (codes "end") []) × IsTrue (list_all (is_line ns) ps)

  are_more : (line : Text) (lines : List Text) (l : Line) (ps : List Line) → (line ++ 10 ∷ [] ≡ pair_text ns l) × IsTrue (is_line ns l) → Are lines ps
      → Are (line ∷ lines) (l ∷ ps)
  are_more line lines l ps h rest = (
    ap (λ t. t ++ flat_map ended lines) h.0 ∙ ap (λ t. pair_text ns l ++ t) rest.0
        ∙ sym (append_assoc (pair_text ns l) (flat_map (pair_text ns) ps) (line_text (codes "end") [])),
    rw h.1 rest.1,
  )

  are_some : (line : Text) (lines : List Text) (ps : List Line) → ((qs : List Line) → pairs_in ns lines ≡ Some qs → Are lines qs) → (o : Option Line)
      → line_of ns line ≡ o → option_map_or (λ l. option_map (λ qs. l ∷ qs) (pairs_in ns lines)) o (if is_end line lines then Some [] else None) ≡ Some ps
      → Are (line ∷ lines) ps
  are_some line lines ps h None is e =
      let parts = cond_some (is_end line lines) [] ps e in
      let last = end_line line lines parts.0 in
      subst (Are (line ∷ lines)) parts.1 (ap (flat_map ended) last, refl)
  are_some line lines ps h (Some l) is e =
      let more = map_some (λ qs. l ∷ qs) (pairs_in ns lines) ps e in
      subst (Are (line ∷ lines)) more.2 (are_more line lines l more.0 (line_of_is line l is) (h more.0 more.1))

  pub pairs_in_are : (lines : List Text) (ps : List Line) → pairs_in ns lines ≡ Some ps → Are lines ps
  pairs_in_are [] ps e = cc
  pairs_in_are (line ∷ lines) ps e = are_some line lines ps (pairs_in_are lines) (line_of ns line) refl e

  pub pairs_at_are : (text : Text) (ps : List Line) → pairs_at ns text ≡ Some ps
      → (text ≡ flat_map (pair_text ns) ps ++ line_text (codes "end") []) × IsTrue (list_all (is_line ns) ps)
  pairs_at_are text ps e =
      let is = some_true (is_ended text) (pairs_in ns (lines_of text)) (ap is_some_of e) in
      let are = pairs_in_are (lines_of text) ps (at_some (is_ended text) (pairs_in ns (lines_of text)) ps e) in
      (whole text is.0 ∙ are.0, are.1)
    where
      is_some_of : Option (List Line) → Bool
      is_some_of None = false
      is_some_of (Some ps) = true

-- ---- the head

pub behind_line_is : (word text rest : Text) → behind_line word text ≡ Some rest → text ≡ line_text word [] ++ rest
behind_line_is word text rest e =
    option_and_then_some (λ p. if bytes_eq p.0 word then Some p.1 else None) (cut_at 10 text) rest e (λ p cut some.
    let parts = cond_some (bytes_eq p.0 word) p.1 rest some in
    let same : p.0 ≡ word = (bytes_eq-Decides p.0 word).0 parts.0 in
    let text_is : text ≡ word ++ 10 ∷ rest = cut_is 10 text p cut ∙ ap (λ t. t ++ 10 ∷ p.1) same ∙ ap (λ t. word ++ 10 ∷ t) parts.1 in
    text_is ∙ simp append_assoc)

field_of_is : (word line field : Text) → field_of word line ≡ Some field → (line ≡ word ++ 9 ∷ field) × IsTrue (is_field field)
field_of_is word line field e =
    option_and_then_some (λ p. if bytes_eq p.0 word && is_field p.1 then Some p.1 else None) (cut_at 9 line) field e (λ p cut some.
    let parts = cond_some (bytes_eq p.0 word && is_field p.1) p.1 field some in
    let both = and_parts (bytes_eq p.0 word) (is_field p.1) parts.0 in
    let same : p.0 ≡ word = (bytes_eq-Decides p.0 word).0 both.0 in
    let F : Text → Type 0 = λ f. IsTrue (is_field f) in
    (cut_is 9 line p cut ∙ ap (λ t. t ++ 9 ∷ p.1) same ∙ ap (λ t. word ++ 9 ∷ t) parts.1, subst F parts.1 both.1))

pub field_line_is : (word text : Text) (p : Text × Text) → field_line word text ≡ Some p → (text ≡ line_text word (p.0 ∷ []) ++ p.1) × IsTrue (is_field p.0)
field_line_is word text p e =
    option_and_then_some (λ p. option_map (λ field. (field, p.1)) (field_of word p.0)) (cut_at 10 text) p e (λ q cut some.
    let more = map_some (λ field. (field, q.1)) (field_of word q.0) p some in
    let h = field_of_is word q.0 more.0 more.1 in
    let P : Text × Text → Type 0 = λ p. (text ≡ line_text word (p.0 ∷ []) ++ p.1) × IsTrue (is_field p.0) in
    subst P more.2 (cut_is 10 text q cut ∙ ap (λ t. t ++ 10 ∷ q.1) h.0 ∙ simp (append_assoc, append-nil), h.1))

pub url_line_is : (ns : Numbering) → differ_if_any ns ≡ true → (word text : Text) (p : Text × Text) → url_line ns word text ≡ Some p
    → (text ≡ line_text word (url_text ns p.0 ∷ []) ++ p.1) × IsTrue (is_url ns p.0)
url_line_is ns apart word text p e =
    option_and_then_some (with_url ns) (field_line word text) p e (λ f first with.
    let named = map_some (λ url. (url, f.1)) (url_named ns f.0) p with in
    let a = field_line_is word text f first in
    let h = named_is ns f.0 named.0 apart a.1 named.1 in
    let P : Text × Text → Type 0 = λ p. (text ≡ line_text word (url_text ns p.0 ∷ []) ++ p.1) × IsTrue (is_url ns p.0) in
    subst P named.2 (a.0 ∙ ap (λ t. line_text word (t ∷ []) ++ f.1) h.0, h.1))

-- ---- definitions

behind_field_is : (word text rest : Text) → behind_field word text ≡ Some rest → text ≡ word ++ 9 ∷ rest
behind_field_is word text rest e =
    option_and_then_some (λ p. if bytes_eq p.0 word then Some p.1 else None) (cut_at 9 text) rest e (λ p cut some.
    let parts = cond_some (bytes_eq p.0 word) p.1 rest some in
    let same : p.0 ≡ word = (bytes_eq-Decides p.0 word).0 parts.0 in
    cut_is 9 text p cut ∙ ap (λ t. t ++ 9 ∷ p.1) same ∙ ap (λ t. word ++ 9 ∷ t) parts.1)

-- a definition's line without its line feed
abbrev pub stated_text : ℕ → Stated → Text
stated_text n d = codes "def" ++ 9 ∷ (number_text n ++ 9 ∷ (d.url ++ 9 ∷ d.version))

pub stated_line : (n : ℕ) (d : Stated) → stated_text n d ++ 10 ∷ [] ≡ line_text (codes "def") (number_text n ∷ d.url ∷ d.version ∷ [])
stated_line n d = ap (λ t. (codes "def" ++ 9 ∷ (number_text n ++ 9 ∷ (d.url ++ 9 ∷ t))) ++ 10 ∷ []) (sym (append-nil d.version))

definition_of_is : (n : ℕ) (line : Text) (d : Stated) → definition_of n line ≡ Some d → (line ≡ stated_text n d) × (is_stated d ≡ true)
definition_of_is n line d e =
    option_and_then_some definition_with (definition_fields n line) d e (λ p fields with.
    option_and_then_some field_at (option_and_then (behind_field (number_text n)) (behind_field (codes "def") line)) p fields (λ rest number field.
    option_and_then_some (behind_field (number_text n)) (behind_field (codes "def") line) rest number (λ first word second.
    let a = behind_field_is (codes "def") line first word in
    let b = behind_field_is (number_text n) first rest second in
    let c = field_at_is rest p field in
    let m : Stated = record { url = p.0; version = p.1 } in
    let parts = cond_some (is_field p.1 && is_version p.1) m d with in
    let P : Stated → Type 0 = λ d. (line ≡ stated_text n d) × (is_stated d ≡ true) in
    subst P parts.1 (a ∙ ap (λ t. codes "def" ++ 9 ∷ t) (b ∙ ap (λ t. number_text n ++ 9 ∷ t) c.0), rw c.1 parts.0))))

-- the first line and what stands behind it
abbrev pub lines_cut : Option (Text × Text) → List Text
lines_cut None = []
lines_cut (Some p) = p.0 ∷ lines_of p.1

longer_cut : (b : ℕ) (o : Option (Text × Text)) → longer b (lines_cut o) ≡ lines_cut (option_map (λ p. (b ∷ p.0, p.1)) o)
longer_cut b None = refl
longer_cut b (Some p) = refl

cut_lines : (text : Text) → lines_of text ≡ lines_cut (cut_at 10 text)
cut_lines [] = refl
cut_lines (b ∷ bs) =
    elim (b == 10) as
    (λ v. (if v then [] ∷ lines_of bs else longer b (lines_of bs))
    ≡ lines_cut (if v then Some ([], bs) else option_map (λ p. (b ∷ p.0, p.1)) (cut_at 10 bs))) [
      | true ↦ refl
      | false ↦ ap (longer b) (cut_lines bs) ∙ longer_cut b (cut_at 10 bs)
    ]

abbrev pub AreStated : ℕ → Text → List Stated → Type 0
AreStated n text ds = (text ≡ definitions_text n ds ++ behind_lines (length ds) text) × (list_all is_stated ds ≡ true)

are_stated_more : (n : ℕ) (text : Text) (p : Text × Text) (d : Stated) (ds : List Stated) → cut_at 10 text ≡ Some p → (p.0 ≡ stated_text n d) × (is_stated d ≡ true)
    → AreStated (n + 1) p.1 ds → AreStated n text (d ∷ ds)
are_stated_more n text p d ds cut line rest =
    let first : text ≡ stated_text n d ++ 10 ∷ p.1 = cut_is 10 text p cut ∙ ap (λ t. t ++ 10 ∷ p.1) line.0 in
    let own = line_text (codes "def") (number_text n ∷ d.url ∷ d.version ∷ []) in
    let behind : behind_lines (suc (length ds)) text ≡ behind_lines (length ds) p.1 = ap (λ o. option_map_or (λ p. behind_lines (length ds) p.1) o []) cut in (
      first ∙ sym (append_assoc (stated_text n d) (10 ∷ []) p.1) ∙ ap (λ t. t ++ p.1) (stated_line n d) ∙ ap (λ t. own ++ t) rest.0
          ∙ sym (append_assoc own (definitions_text (n + 1) ds) (behind_lines (length ds) p.1))
          ∙ ap (λ t. (own ++ definitions_text (n + 1) ds) ++ t) (sym behind),
      rw line.1 rest.1,
    )

-- what lines that number these definitions say
abbrev pub Taken : List Stated → Type 0
Taken ds = (n : ℕ) (text : Text) → definition_lines n (lines_of text) ≡ ds → AreStated n text ds

are_stated_at : (n : ℕ) (text : Text) (p : Text × Text) (d : Stated) (ds : List Stated) → Taken ds → cut_at 10 text ≡ Some p → (o : Option Stated)
    → definition_of n p.0 ≡ o → option_map_or (λ d. d ∷ definition_lines (n + 1) (lines_of p.1)) o [] ≡ d ∷ ds → AreStated n text (d ∷ ds)
are_stated_at n text p d ds h cut None is e = cc
are_stated_at n text p d ds h cut (Some x) is e =
    let same : x ≡ d = cc in
    let later : definition_lines (n + 1) (lines_of p.1) ≡ ds = cc in
    are_stated_more n text p d ds cut (definition_of_is n p.0 d (is ∙ ap Some same)) (h (n + 1) p.1 later)

are_stated_cut : (n : ℕ) (text : Text) (d : Stated) (ds : List Stated) → Taken ds → (o : Option (Text × Text)) → cut_at 10 text ≡ o
    → definition_lines n (lines_cut o) ≡ d ∷ ds → AreStated n text (d ∷ ds)
are_stated_cut n text d ds h None cut e = cc
are_stated_cut n text d ds h (Some p) cut e = are_stated_at n text p d ds h cut (definition_of n p.0) refl e

-- the lines in front that number definitions are those of these definitions
pub definitions_are : (ds : List Stated) → Taken ds
definitions_are [] n text e = (refl, refl)
definitions_are (d ∷ ds) n text e =
    are_stated_cut n text d ds (definitions_are ds) (cut_at 10 text) refl (ap (definition_lines n) (sym (cut_lines text)) ∙ e)

-- ---- the front

abbrev pub FrontIs : Text → Option (List Stated) × Text → Type 0
FrontIs text front = (text ≡ front_text front.0 ++ front.1) × IsTrue (are_stated_if_any front.0)

definitions_at_are : (text : Text) (front : Option (List Stated) × Text) → definitions_at text ≡ Some front
    → FrontIs (line_text (codes "fhirprof-certificate 2") [] ++ text) front
definitions_at_are text front e =
    let ds = definition_lines 0 (lines_of text) in
    let first = line_text (codes "fhirprof-certificate 2") [] in
    let parts = cond_some (differ (urls_of ds)) (Some ds, behind_lines (length ds) text) front e in
    let are = definitions_are ds 0 text refl in
    subst (FrontIs (first ++ text)) parts.1
    (ap (λ t. first ++ t) are.0 ∙ sym (append_assoc first (definitions_text 0 ds) (behind_lines (length ds) text)), rw are.1 parts.0)

front_first : (text : Text) (front : Option (List Stated) × Text) (o : Option Text) → behind_line (codes "fhirprof-certificate 1") text ≡ o
    → option_map_or (λ rest. Some (None, rest)) o (option_and_then definitions_at (behind_line (codes "fhirprof-certificate 2") text)) ≡ Some front
    → FrontIs text front
front_first text front (Some rest) is e =
    let front_is : (None, rest) ≡ front = cc in
    subst (FrontIs text) front_is (behind_line_is (codes "fhirprof-certificate 1") text rest is, refl)
front_first text front None is e =
    option_and_then_some definitions_at (behind_line (codes "fhirprof-certificate 2") text) front e (λ rest second there.
    subst (λ t. FrontIs t front) (sym (behind_line_is (codes "fhirprof-certificate 2") text rest second)) (definitions_at_are rest front there))

front_of_is : (text : Text) (front : Option (List Stated) × Text) → front_of text ≡ Some front → FrontIs text front
front_of_is text front e = front_first text front (behind_line (codes "fhirprof-certificate 1") text) refl e

-- ---- the whole text

pub five_parts : (a b c d e : Text) → a ++ (b ++ (c ++ (d ++ e))) ≡ a ++ b ++ c ++ d ++ e
five_parts a b c d e = simp append_assoc

-- the numbers of stated definitions stand for different urls
pub apart_of : (ds : Option (List Stated)) → are_stated_if_any ds ≡ true → differ_if_any (numbering ds) ≡ true
apart_of None e = refl
apart_of (Some ds) e = (and_parts (list_all is_stated ds) (differ (urls_of ds)) e).1

behind_spells : (bytes : Text) (ds : Option (List Stated)) (text : Text) (w : Written) → IsUtf8 bytes → FrontIs bytes (ds, text)
    → written_behind ds text ≡ Some w → Spells bytes w
behind_spells bytes ds text w u front e =
    let ns = numbering ds in
    let apart = apart_of ds front.1 in
    option_and_then_some
    (λ derived. option_and_then
    (λ base. option_map (λ pairs. let v : Written = record { definitions = ds; derived = derived.0; base = base.0; lines = pairs } in v) (pairs_at ns base.1))
    (url_line ns (codes "base") derived.1))
    (url_line ns (codes "derived") text) w e (λ derived second more.
    option_and_then_some
    (λ base. option_map (λ pairs. let v : Written = record { definitions = ds; derived = derived.0; base = base.0; lines = pairs } in v) (pairs_at ns base.1))
    (url_line ns (codes "base") derived.1) w more (λ base third more.
    let all = map_some (λ pairs. let v : Written = record { definitions = ds; derived = derived.0; base = base.0; lines = pairs } in v) (pairs_at ns base.1) w more in
    let d = url_line_is ns apart (codes "derived") text derived second in
    let b = url_line_is ns apart (codes "base") derived.1 base third in
    let ps = pairs_at_are ns apart base.1 all.0 all.1 in
    let text_is : bytes ≡ text_of (record { definitions = ds; derived = derived.0; base = base.0; lines = all.0 }) =
    front.0
    ∙ ap (λ t. front_text ds ++ t)
    (d.0 ∙ ap (λ t. line_text (codes "derived") (url_text ns derived.0 ∷ []) ++ t)
    (b.0 ∙ ap (λ t. line_text (codes "base") (url_text ns base.0 ∷ []) ++ t) ps.0))
    ∙ five_parts (front_text ds) (line_text (codes "derived") (url_text ns derived.0 ∷ [])) (line_text (codes "base") (url_text ns base.0 ∷ []))
    (flat_map (pair_text ns) all.0) (line_text (codes "end") []) in
    subst (Spells bytes) all.2 (record { utf8 = u; text = text_is; definitions = front.1; derived = d.1; base = b.1; lines = ps.1 })))

pub written_is : (bytes : Text) (w : Written) → IsUtf8 bytes → written_of bytes ≡ Some w → Spells bytes w
written_is bytes w u e =
    option_and_then_some (λ front. written_behind front.0 front.1) (front_of bytes) w e
    (λ front first behind. behind_spells bytes front.0 front.1 w u (front_of_is bytes front first) behind)
