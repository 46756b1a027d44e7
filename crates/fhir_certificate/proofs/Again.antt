-- What stands in a text is read.
use Rattle.std.proofs.Common.{◌≡◌, ◌≢◌, ℕ, zero, suc, ◌+◌, ◌&&◌, ◌==◌, not, true, ◌⊎◌, inl, inr, List, [], ◌∷◌}
use Rattle.std.proofs.Common.{◌++◌, length, Option, Some, None, option_map, if◌then◌else◌, refl, sym, ap, ◌∙◌, arith, append_assoc}
use Rattle.std.specs.Prelude.{codes, IsTrue}
use Rattle.std.specs.Option.{option_map_or, option_and_then}
use Rattle.std.specs.List.{flat_map, list_all}
use Rattle.std.specs.Str.{bytes_eq}
use Rattle.std.proofs.lemmas.Bool.{and_parts, cond-true}
use Rattle.std.proofs.lemmas.Bool.Decides.{nat_tests}
use Rattle.std.proofs.lemmas.List.{append-nil}
use Rattle.std.proofs.lemmas.Slice.Eq.{bytes_eq-Decides}
use Rattle.fhir_json.specs.Tree.{Text}
use Rattle.fhir_json.specs.Sound.{differ}
use Rattle.fhir_certificate.specs.Numbers.{Numbering, number_text, url_text}
use Rattle.fhir_certificate.specs.Versions.{is_version}
use Rattle.fhir_certificate.specs.Format.{Name, Line, item, kids, Stated, Written, urls_of, numbering, line_text, pair_text, definitions_text, front_text}
use Rattle.fhir_certificate.specs.Format.{is_field, is_url, is_name, is_line, is_stated, are_stated_if_any, Spells}
use Rattle.fhir_certificate.specs.Reading.{cut_at, lines_of, is_ended, line_with, field_at, with_url, url_at, name_at, name_of, line_of, pairs_in, pairs_at}
use Rattle.fhir_certificate.specs.Reading.{behind_field, definition_with, definition_of, definition_lines, behind_lines}
use Rattle.fhir_certificate.specs.Reading.{behind_line, field_of, field_line, url_line, written_behind, definitions_at, front_of, written_of}
use Rattle.fhir_certificate.proofs.Cuts.{Lacks, tail_lacks, cut_some, lines_at, ended_at}
use Rattle.fhir_certificate.proofs.Numbered.{number_field}
use Rattle.fhir_certificate.proofs.Naming.{named_again, text_field, text_same}
use Rattle.fhir_certificate.proofs.Taken.{fields_text, four_fields, five_parts, stated_text, stated_line}

-- ---- what lacks a byte

-- a tab or a line feed
abbrev EndsField : ℕ → Type 0
EndsField c = (c ≡ 9) ⊎ (c ≡ 10)

byte_is_other : (x c : ℕ) → EndsField c → (not (x == 9) && not (x == 10)) ≡ true → x ≢ c
byte_is_other x c ends is = elim ends [ inl tab ↦ grind (arith, nat_tests) | inr feed ↦ grind (arith, nat_tests) ]

lacks_more : (c x : ℕ) (xs : Text) → x ≢ c → Lacks c xs → Lacks c (x ∷ xs)
lacks_more c x xs other rest zero l = other
lacks_more c x xs other rest (suc i) l = rest i (omega arith)

pub field_lacks : (c : ℕ) (f : Text) → EndsField c → IsTrue (is_field f) → Lacks c f
field_lacks c [] ends is = λ i l. absurd (omega arith)
field_lacks c (x ∷ xs) ends is =
    let parts = and_parts (not (x == 9) && not (x == 10)) (is_field xs) is in
    lacks_more c x xs (byte_is_other x c ends parts.0) (field_lacks c xs ends parts.1)

pub lacks_append : (c : ℕ) (xs ys : Text) → Lacks c xs → Lacks c ys → Lacks c (xs ++ ys)
lacks_append c [] ys h k = k
lacks_append c (x ∷ xs) ys h k = lacks_more c x (xs ++ ys) (h 0 (omega arith)) (lacks_append c xs ys (tail_lacks c x xs h) k)

-- two texts with a tab between them
tab_between : (xs ys : Text) → Lacks 10 xs → Lacks 10 ys → Lacks 10 (xs ++ 9 ∷ ys)
tab_between xs ys h k = lacks_append 10 xs (9 ∷ ys) h (lacks_more 10 9 ys (omega arith) k)

-- ---- fields

field_cut : (c : ℕ) (f rest : Text) → EndsField c → IsTrue (is_field f) → cut_at c (f ++ c ∷ rest) ≡ Some (f, rest)
field_cut c f rest ends is = cut_some c f rest (field_lacks c f ends is)

pub field_at_again : (f rest : Text) → IsTrue (is_field f) → field_at (f ++ 9 ∷ rest) ≡ Some (f, rest)
field_at_again f rest is = rw (field_cut 9 f rest (inl refl) is) (cond-true _ _ _ is)

module _ (ns : Numbering) where
  url_at_again : (url rest : Text) → is_url ns url ≡ true → url_at ns (url_text ns url ++ 9 ∷ rest) ≡ Some (url, rest)
  url_at_again url rest is =
      ap (option_and_then (with_url ns)) (field_at_again (url_text ns url) rest (text_field ns url is))
      ∙ ap (option_map (λ u. (u, rest))) (named_again ns url is)

  pub name_at_again : (n : Name) (rest : Text) → IsTrue (is_name ns n) → name_at ns (url_text ns n.url ++ 9 ∷ (n.id ++ 9 ∷ rest)) ≡ Some (n, rest)
  name_at_again n rest is =
      let parts = and_parts (is_url ns n.url) (is_field n.id) is in
      rw (url_at_again n.url (n.id ++ 9 ∷ rest) parts.0) (rw (field_at_again n.id rest parts.1) refl)

  pub name_of_again : (n : Name) → IsTrue (is_name ns n) → name_of ns (url_text ns n.url ++ 9 ∷ n.id) ≡ Some n
  name_of_again n is =
      let parts = and_parts (is_url ns n.url) (is_field n.id) is in
      rw (url_at_again n.url n.id parts.0) (cond-true _ _ _ parts.1)

  -- ---- pair lines

  pub names_again : (word : Text) (derived base : Name) → IsTrue (is_field word) → IsTrue (is_name ns derived && is_name ns base)
      → line_of ns (fields_text ns word derived base) ≡ line_with word derived base
  names_again word derived base w is =
      let parts = and_parts (is_name ns derived) (is_name ns base) is in
      let cut = field_cut 9 word (url_text ns derived.url ++ 9 ∷ (derived.id ++ 9 ∷ (url_text ns base.url ++ 9 ∷ base.id))) (inl refl) w in
      let d = name_at_again derived (url_text ns base.url ++ 9 ∷ base.id) parts.0 in
      let b = name_of_again base parts.1 in
      ap (option_and_then (λ word. option_and_then (λ derived. option_and_then (line_with word.0 derived.0) (name_of ns derived.1)) (name_at ns word.1))) cut
      ∙ ap (option_and_then (λ derived. option_and_then (line_with word derived.0) (name_of ns derived.1))) d
      ∙ ap (option_and_then (line_with word derived)) b

  -- a pair line without its line feed
  abbrev pub unended : Line → Text
  unended (item derived base) = fields_text ns (codes "item") derived base
  unended (kids derived base) = fields_text ns (codes "kids") derived base

  line_is : (l : Line) → pair_text ns l ≡ unended l ++ 10 ∷ []
  line_is (item derived base) = sym (four_fields ns (codes "item") derived base)
  line_is (kids derived base) = sym (four_fields ns (codes "kids") derived base)

  line_again : (l : Line) → IsTrue (is_line ns l) → line_of ns (unended l) ≡ Some l
  line_again (item derived base) is = names_again (codes "item") derived base refl is
  line_again (kids derived base) is = names_again (codes "kids") derived base refl is

  names_lack : (word : Text) (derived base : Name) → IsTrue (is_field word) → IsTrue (is_name ns derived && is_name ns base)
      → Lacks 10 (fields_text ns word derived base)
  names_lack word derived base w is =
      let parts = and_parts (is_name ns derived) (is_name ns base) is in
      let d = and_parts (is_url ns derived.url) (is_field derived.id) parts.0 in
      let b = and_parts (is_url ns base.url) (is_field base.id) parts.1 in
      let f : (f : Text) → IsTrue (is_field f) → Lacks 10 f = λ f h. field_lacks 10 f (inr refl) h in
      tab_between _ _ (f word w)
      (tab_between _ _ (f (url_text ns derived.url) (text_field ns derived.url d.0))
      (tab_between _ _ (f derived.id d.1) (tab_between _ _ (f (url_text ns base.url) (text_field ns base.url b.0)) (f base.id b.1))))

  line_lacks : (l : Line) → IsTrue (is_line ns l) → Lacks 10 (unended l)
  line_lacks (item derived base) is = names_lack (codes "item") derived base refl is
  line_lacks (kids derived base) is = names_lack (codes "kids") derived base refl is

  line_then : (l : Line) (rest : Text) → pair_text ns l ++ rest ≡ unended l ++ 10 ∷ rest
  line_then l rest = ap (λ t. t ++ rest) (line_is l) ∙ append_assoc (unended l) (10 ∷ []) rest

  line_split : (l : Line) (rest : Text) → IsTrue (is_line ns l) → lines_of (pair_text ns l ++ rest) ≡ unended l ∷ lines_of rest
  line_split l rest is = ap lines_of (line_then l rest) ∙ lines_at (unended l) rest (line_lacks l is)

  line_ended : (l : Line) (rest : Text) → is_ended (pair_text ns l ++ rest) ≡ is_ended rest
  line_ended l rest = ap is_ended (line_then l rest) ∙ ended_at (unended l) rest

  -- the pair lines' text, and the last line
  abbrev pub tail_of : List Line → Text
  tail_of ls = flat_map (pair_text ns) ls ++ line_text (codes "end") []

  tail_more : (l : Line) (ls : List Line) → tail_of (l ∷ ls) ≡ pair_text ns l ++ tail_of ls
  tail_more l ls = append_assoc (pair_text ns l) (flat_map (pair_text ns) ls) (line_text (codes "end") [])

  tail_ended : (ls : List Line) → is_ended (tail_of ls) ≡ true
  tail_ended [] = refl
  tail_ended (l ∷ ls) = ap is_ended (tail_more l ls) ∙ line_ended l (tail_of ls) ∙ tail_ended ls

  pairs_more : (l : Line) (lines : List Text) (ls : List Line) → IsTrue (is_line ns l) → pairs_in ns lines ≡ Some ls
      → pairs_in ns (unended l ∷ lines) ≡ Some (l ∷ ls)
  pairs_more l lines ls is e = rw (line_again l is) (rw e refl)

  tail_pairs : (ls : List Line) → IsTrue (list_all (is_line ns) ls) → pairs_in ns (lines_of (tail_of ls)) ≡ Some ls
  tail_pairs [] is = refl
  tail_pairs (l ∷ ls) is =
      let parts = and_parts (is_line ns l) (list_all (is_line ns) ls) is in
      ap (pairs_in ns) (ap lines_of (tail_more l ls) ∙ line_split l (tail_of ls) parts.0)
      ∙ pairs_more l (lines_of (tail_of ls)) ls parts.0 (tail_pairs ls parts.1)

  pub tail_again : (ls : List Line) → IsTrue (list_all (is_line ns) ls) → pairs_at ns (tail_of ls) ≡ Some ls
  tail_again ls is = cond-true (is_ended (tail_of ls)) (pairs_in ns (lines_of (tail_of ls))) None (tail_ended ls) ∙ tail_pairs ls is

-- ---- the head

head_again : (word rest : Text) → IsTrue (is_field word) → behind_line word (line_text word [] ++ rest) ≡ Some rest
head_again word rest is =
    let text : line_text word [] ++ rest ≡ word ++ 10 ∷ rest = simp (append_assoc, append-nil) in
    ap (behind_line word) text
    ∙ ap (option_and_then (λ p. if bytes_eq p.0 word then Some p.1 else None)) (field_cut 10 word rest (inr refl) is)
    ∙ cond-true _ _ _ ((bytes_eq-Decides word word).1 refl)

field_of_again : (word f : Text) → IsTrue (is_field word) → IsTrue (is_field f) → field_of word (word ++ 9 ∷ f) ≡ Some f
field_of_again word f w is =
    ap (option_and_then (λ p. if bytes_eq p.0 word && is_field p.1 then Some p.1 else None)) (field_cut 9 word f (inl refl) w)
    ∙ cond-true (bytes_eq word word && is_field f) (Some f) None (rw ((bytes_eq-Decides word word).1 refl) is)

profile_line : (word f rest : Text) → line_text word (f ∷ []) ++ rest ≡ (word ++ 9 ∷ f) ++ 10 ∷ rest
profile_line word f rest = append_assoc (word ++ 9 ∷ (f ++ [])) (10 ∷ []) rest ∙ ap (λ t. (word ++ 9 ∷ t) ++ 10 ∷ rest) (append-nil f)

field_line_again : (word f rest : Text) → IsTrue (is_field word) → IsTrue (is_field f) → field_line word (line_text word (f ∷ []) ++ rest) ≡ Some (f, rest)
field_line_again word f rest w is =
    let lacks = tab_between word f (field_lacks 10 word (inr refl) w) (field_lacks 10 f (inr refl) is) in
    ap (field_line word) (profile_line word f rest)
    ∙ ap (option_and_then (λ p. option_map (λ field. (field, p.1)) (field_of word p.0))) (cut_some 10 (word ++ 9 ∷ f) rest lacks)
    ∙ ap (option_map (λ field. (field, rest))) (field_of_again word f w is)

url_line_again : (ns : Numbering) (word url rest : Text) → IsTrue (is_field word) → IsTrue (is_url ns url)
    → url_line ns word (line_text word (url_text ns url ∷ []) ++ rest) ≡ Some (url, rest)
url_line_again ns word url rest w is =
    ap (option_and_then (with_url ns)) (field_line_again word (url_text ns url) rest w (text_field ns url is))
    ∙ ap (option_map (λ u. (u, rest))) (named_again ns url is)

-- ---- definitions

behind_field_again : (word rest : Text) → IsTrue (is_field word) → behind_field word (word ++ 9 ∷ rest) ≡ Some rest
behind_field_again word rest is =
    ap (option_and_then (λ p. if bytes_eq p.0 word then Some p.1 else None)) (field_cut 9 word rest (inl refl) is) ∙ cond-true _ _ _ (text_same word)

stated_parts : (d : Stated) → is_stated d ≡ true → (is_field d.url ≡ true) × (is_field d.version ≡ true) × (is_version d.version ≡ true)
stated_parts d is =
    let first = and_parts (is_field d.url && is_field d.version) (is_version d.version) is in
    let fields = and_parts (is_field d.url) (is_field d.version) first.0 in
    (fields.0, fields.1, first.1)

definition_again : (n : ℕ) (d : Stated) → is_stated d ≡ true → definition_of n (stated_text n d) ≡ Some d
definition_again n d is =
    let parts = stated_parts d is in
    let a = behind_field_again (codes "def") (number_text n ++ 9 ∷ (d.url ++ 9 ∷ d.version)) refl in
    let b = behind_field_again (number_text n) (d.url ++ 9 ∷ d.version) (number_field n) in
    let c = field_at_again d.url d.version parts.0 in
    ap (λ o. option_and_then definition_with (option_and_then field_at (option_and_then (behind_field (number_text n)) o))) a
    ∙ ap (λ o. option_and_then definition_with (option_and_then field_at o)) b
    ∙ ap (option_and_then definition_with) c
    ∙ cond-true (is_field d.version && is_version d.version) (Some d) None (rw (parts.1, parts.2) refl)

stated_lacks : (n : ℕ) (d : Stated) → is_stated d ≡ true → Lacks 10 (stated_text n d)
stated_lacks n d is =
    let parts = stated_parts d is in
    let f : (f : Text) → IsTrue (is_field f) → Lacks 10 f = λ f h. field_lacks 10 f (inr refl) h in
    tab_between (codes "def") (number_text n ++ 9 ∷ (d.url ++ 9 ∷ d.version)) (f (codes "def") refl)
    (tab_between (number_text n) (d.url ++ 9 ∷ d.version) (f (number_text n) (number_field n))
    (tab_between d.url d.version (f d.url parts.0) (f d.version parts.1)))

stated_then : (n : ℕ) (d : Stated) (ds : List Stated) (rest : Text)
    → definitions_text n (d ∷ ds) ++ rest ≡ stated_text n d ++ 10 ∷ (definitions_text (n + 1) ds ++ rest)
stated_then n d ds rest =
    let own = line_text (codes "def") (number_text n ∷ d.url ∷ d.version ∷ []) in
    append_assoc own (definitions_text (n + 1) ds) rest
    ∙ ap (λ t. t ++ (definitions_text (n + 1) ds ++ rest)) (sym (stated_line n d))
    ∙ append_assoc (stated_text n d) (10 ∷ []) (definitions_text (n + 1) ds ++ rest)

pub definitions_again : (ds : List Stated) (n : ℕ) (rest : Text) → list_all is_stated ds ≡ true → ((k : ℕ) → definition_lines k (lines_of rest) ≡ [])
    → (definition_lines n (lines_of (definitions_text n ds ++ rest)) ≡ ds) × (behind_lines (length ds) (definitions_text n ds ++ rest) ≡ rest)
definitions_again [] n rest are none = (none n, refl)
definitions_again (d ∷ ds) n rest are none =
    let parts = and_parts (is_stated d) (list_all is_stated ds) are in
    let later = definitions_again ds (n + 1) rest parts.1 none in
    let behind = definitions_text (n + 1) ds ++ rest in
    let lacks = stated_lacks n d parts.0 in (
      ap (definition_lines n) (ap lines_of (stated_then n d ds rest) ∙ lines_at (stated_text n d) behind lacks)
          ∙ ap (λ o. option_map_or (λ d. d ∷ definition_lines (n + 1) (lines_of behind)) o []) (definition_again n d parts.0)
          ∙ ap (λ l. d ∷ l) later.0,
      ap (λ o. option_map_or (λ p. behind_lines (length ds) p.1) o []) (ap (cut_at 10) (stated_then n d ds rest) ∙ cut_some 10 (stated_text n d) behind lacks)
          ∙ later.1,
    )

-- ---- the front

-- the line of the derived profile, and what stands behind it
abbrev pub profiles_text : Text → Text → Text
profiles_text field rest = line_text (codes "derived") (field ∷ []) ++ rest

no_definition : (field rest : Text) → is_field field ≡ true → (k : ℕ) → definition_lines k (lines_of (profiles_text field rest)) ≡ []
no_definition field rest is k =
    let lacks = tab_between (codes "derived") field (field_lacks 10 (codes "derived") (inr refl) refl) (field_lacks 10 field (inr refl) is) in
    ap (λ t. definition_lines k (lines_of t)) (profile_line (codes "derived") field rest)
    ∙ ap (definition_lines k) (lines_at (codes "derived" ++ 9 ∷ field) rest lacks)

front_again : (ds : Option (List Stated)) (field rest : Text) → are_stated_if_any ds ≡ true → is_field field ≡ true
    → front_of (front_text ds ++ profiles_text field rest) ≡ Some (ds, profiles_text field rest)
front_again None field rest are is =
    ap (λ o. option_map_or (λ rest. Some (None, rest)) o
    (option_and_then definitions_at (behind_line (codes "fhirprof-certificate 2") (front_text None ++ profiles_text field rest))))
    (head_again (codes "fhirprof-certificate 1") (profiles_text field rest) refl)
front_again (Some ds) field rest are is =
    let parts = and_parts (list_all is_stated ds) (differ (urls_of ds)) are in
    let tail = profiles_text field rest in
    let again = definitions_again ds 0 tail parts.0 (no_definition field rest is) in
    let behind = definitions_text 0 ds ++ tail in
    let found : definitions_at behind ≡ Some (Some ds, tail) =
    ap (λ (es : List Stated). if differ (urls_of es) then Some (Some es, behind_lines (length es) behind) else None) again.0
    ∙ cond-true (differ (urls_of ds)) (Some (Some ds, behind_lines (length ds) behind)) None parts.1
    ∙ ap (λ t. Some (Some ds, t)) again.1 in
    ap front_of (append_assoc (line_text (codes "fhirprof-certificate 2") []) (definitions_text 0 ds) tail)
    ∙ ap (option_and_then definitions_at) (head_again (codes "fhirprof-certificate 2") behind refl)
    ∙ found

-- ---- the whole text

pub written_again : (bytes : Text) (w : Written) → Spells bytes w → written_of bytes ≡ Some w
written_again bytes w h =
    let ds = w.definitions in
    let ns = numbering ds in
    let rest2 = line_text (codes "base") (url_text ns w.base ∷ []) ++ tail_of ns w.lines in
    let rest1 = profiles_text (url_text ns w.derived) rest2 in
    let text : bytes ≡ front_text ds ++ rest1 =
    h.text ∙ sym (five_parts (front_text ds) (line_text (codes "derived") (url_text ns w.derived ∷ []))
    (line_text (codes "base") (url_text ns w.base ∷ [])) (flat_map (pair_text ns) w.lines) (line_text (codes "end") [])) in
    ap written_of text
    ∙ ap (option_and_then (λ front. written_behind front.0 front.1))
    (front_again ds (url_text ns w.derived) rest2 h.definitions (text_field ns w.derived h.derived))
    ∙ ap (option_and_then (λ derived. option_and_then
    (λ base. option_map (λ pairs. let v : Written = record { definitions = ds; derived = derived.0; base = base.0; lines = pairs } in v) (pairs_at ns base.1))
    (url_line ns (codes "base") derived.1)))
    (url_line_again ns (codes "derived") w.derived rest2 refl h.derived)
    ∙ ap (option_and_then (λ base. option_map
    (λ pairs. let v : Written = record { definitions = ds; derived = w.derived; base = base.0; lines = pairs } in v) (pairs_at ns base.1)))
    (url_line_again ns (codes "base") w.base (tail_of ns w.lines) refl h.base)
    ∙ ap (option_map (λ pairs. let v : Written = record { definitions = ds; derived = w.derived; base = w.base; lines = pairs } in v)) (tail_again ns w.lines h.lines)

pub spelled_once : (bytes : Text) (v w : Written) → Spells bytes v → Spells bytes w → v ≡ w
spelled_once bytes v w p q = let a = written_again bytes v p in let b = written_again bytes w q in cc
