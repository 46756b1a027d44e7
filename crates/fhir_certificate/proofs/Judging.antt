-- What a text means in a schema, and what is read of it.
use Rattle.std.proofs.Common.{◌≡◌, ℕ, ◌<◌, ◌≤◌, ◌&&◌, Bool, true, false, nat_le, List, [], ◌∷◌, ◌++◌, length, Option, Some, None}
use Rattle.std.proofs.Common.{option_map, is_some, if◌then◌else◌, Result, Ok, Err, ◌⊎◌, inl, inr, refl, sym, ap, subst, ◌∙◌, arith}
use Rattle.std.specs.Prelude.{IsTrue, IsUtf8, IfOk, IfErr, MatchResult}
use Rattle.std.specs.Option.{option_map_or, option_and_then}
use Rattle.std.specs.List.{flat_map, list_all}
use Rattle.std.specs.Str.{is_utf8}
use Rattle.std.proofs.lemmas.Bool.{cond-true, cond-false, and_parts, cases_Bool}
use Rattle.std.proofs.lemmas.Bool.Decides.{nat_tests}
use Rattle.std.proofs.lemmas.List.{append-nil}
use Rattle.std.proofs.lemmas.Str.{is_utf8-from_IsUtf8, IsUtf8-from_is_utf8}
use Rattle.fhir_json.specs.Tree.{Text}
use Rattle.fhir_json.specs.Memory.{GivesOr}
use Rattle.fhir_nodes.specs.declared.node.NodeRef.{NodeRef}
use Rattle.fhir_schema.specs.Schemas.{SchemaValue, has, root, node}
use Rattle.fhir_certificate.specs.declared.fault.CertFault.{CertFault}
use Rattle.fhir_certificate.specs.declared.fault.CertFault.TheVariants.{WrongFormat, UnknownNode, TooManyPairs, NoMemory, OtherVersion}
use Rattle.fhir_certificate.specs.declared.pair.NodePair.{NodePair}
use Rattle.fhir_certificate.specs.declared.pair.Pair.{Pair}
use Rattle.fhir_certificate.specs.declared.pair.Pair.TheVariants.{Item, Kids}
use Rattle.fhir_certificate.specs.Certificate.{CertificateValue, are_nodes, fits}
use Rattle.fhir_certificate.specs.Format.{Name, Line, item, kids, Written, Spells}
use Rattle.fhir_certificate.specs.Judging.{limit, node_of, pair_of, with_item, with_kids, with_lines}
use Rattle.fhir_certificate.specs.Judging.{are_loaded, are_usable, certificate_of, has_room, has_versions, within, certificate_or_fault, Stands}
use Rattle.fhir_certificate.specs.Faults.{is_no_memory, Means}
use Rattle.fhir_certificate.specs.Reading.{written_of, reading}
use Rattle.fhir_certificate.specs.Lines.{are_known, pairs_of, item_in, kids_in, LeadsTo}
use Rattle.fhir_certificate.specs.declared.lines.LinesRead.{LinesRead}
use Rattle.fhir_certificate.proofs.Taken.{written_is}
use Rattle.fhir_certificate.proofs.Again.{written_again}

-- ---- what is built is what is meant

-- the certificate of all pairs that are known
abbrev pub built : SchemaValue → Written → CertificateValue
built s w = record {
  derived = w.derived;
  base = w.base;
  items = flat_map item_in (pairs_of s w.lines);
  kids = flat_map kids_in (pairs_of s w.lines);
}

-- pairs in front of a certificate's own
abbrev pub filled : CertificateValue → List Pair → CertificateValue
filled c ps = record { derived = c.derived; base = c.base; items = flat_map item_in ps ++ c.items; kids = flat_map kids_in ps ++ c.kids }

one_item : (pair : Option NodePair) (known : Bool) (ps : List Pair) (c : CertificateValue)
    → option_and_then (with_item pair) (if known then Some (filled c ps) else None)
    ≡ (if is_some (option_map Item pair) && known then Some (filled c (option_map_or (λ p. p ∷ ps) (option_map Item pair) ps)) else None)
one_item (Some p) true ps c = refl
one_item (Some p) false ps c = refl
one_item None true ps c = refl
one_item None false ps c = refl

one_kids : (pair : Option NodePair) (known : Bool) (ps : List Pair) (c : CertificateValue)
    → option_and_then (with_kids pair) (if known then Some (filled c ps) else None)
    ≡ (if is_some (option_map Kids pair) && known then Some (filled c (option_map_or (λ p. p ∷ ps) (option_map Kids pair) ps)) else None)
one_kids (Some p) true ps c = refl
one_kids (Some p) false ps c = refl
one_kids None true ps c = refl
one_kids None false ps c = refl

lines_are : (s : SchemaValue) (lines : List Line) (c : CertificateValue)
    → with_lines s lines c ≡ (if are_known s lines then Some (filled c (pairs_of s lines)) else None)
lines_are s [] c = refl
lines_are s (item d b ∷ lines) c =
    ap (option_and_then (with_item (pair_of s d b))) (lines_are s lines c) ∙ one_item (pair_of s d b) (are_known s lines) (pairs_of s lines) c
lines_are s (kids d b ∷ lines) c =
    ap (option_and_then (with_kids (pair_of s d b))) (lines_are s lines c) ∙ one_kids (pair_of s d b) (are_known s lines) (pairs_of s lines) c

filled_empty : (derived base : Text) (ps : List Pair)
    → filled (record { derived = derived; base = base; items = []; kids = [] }) ps
    ≡ (let c : CertificateValue = record { derived = derived; base = base; items = flat_map item_in ps; kids = flat_map kids_in ps } in c)
filled_empty derived base ps = rw (append-nil (flat_map item_in ps), append-nil (flat_map kids_in ps)) refl

both_tests : (a b : Bool) (x : CertificateValue) → (if a then (if b then Some x else None) else None) ≡ (if a && b then Some x else None)
both_tests true b x = refl
both_tests false b x = refl

pub certificate_is : (s : SchemaValue) (w : Written) → certificate_of s w ≡ (if are_usable s w && are_known s w.lines then Some (built s w) else None)
certificate_is s w =
    ap (λ o. if are_usable s w then o else None)
    (lines_are s w.lines (record { derived = w.derived; base = w.base; items = []; kids = [] })
    ∙ ap (λ c. if are_known s w.lines then Some c else None) (filled_empty w.derived w.base (pairs_of s w.lines)))
    ∙ both_tests (are_usable s w) (are_known s w.lines) (built s w)

test_of : (b : Bool) (x : CertificateValue) → is_some (if b then Some x else None) ≡ b
test_of true x = refl
test_of false x = refl

pub has_certificate : (s : SchemaValue) (w : Written) → (are_usable s w && are_known s w.lines) ≡ is_some (certificate_of s w)
has_certificate s w = sym (ap is_some (certificate_is s w) ∙ test_of (are_usable s w && are_known s w.lines) (built s w))

pub certificate_built : (s : SchemaValue) (w : Written) → is_some (certificate_of s w) ≡ true → certificate_of s w ≡ Some (built s w)
certificate_built s w is = certificate_is s w ∙ cond-true _ _ _ (has_certificate s w ∙ is)

pub room : (n : ℕ) → n ≤ limit → nat_le n limit ≡ true
room n le = grind (arith, nat_tests)

-- what is answered where there is a certificate
pub answer_some : (s : SchemaValue) (w : Written) → is_some (certificate_of s w) ≡ true → certificate_or_fault s w ≡ within s w (built s w)
answer_some s w is = ap (λ o. option_map_or (within s w) o (Err UnknownNode)) (certificate_built s w is)

pub answer_within : (s : SchemaValue) (w : Written) (c : CertificateValue) → length w.lines ≤ limit → has_versions s w ≡ true → within s w c ≡ Ok c
answer_within s w c le own = cond-true _ _ _ (room (length w.lines) le) ∙ cond-true _ _ _ own

pub built_or_fault : (s : SchemaValue) (w : Written) (r : Result CertificateValue CertFault) → is_some (certificate_of s w) ≡ true → length w.lines ≤ limit
    → has_versions s w ≡ true → MatchResult r (λ c. c ≡ built s w) (λ fault. fault ≡ NoMemory)
    → GivesOr is_no_memory (λ c. c) r (certificate_or_fault s w)
built_or_fault s w (Ok c) is le own e = answer_some s w is ∙ answer_within s w (built s w) le own ∙ ap Ok (sym e)
built_or_fault s w (Err NoMemory) is le own e = tt
built_or_fault s w (Err WrongFormat) is le own e = cc
built_or_fault s w (Err UnknownNode) is le own e = cc
built_or_fault s w (Err TooManyPairs) is le own e = cc
built_or_fault s w (Err OtherVersion) is le own e = cc

-- ---- what the lines say is judged

and_true : (a : Bool) → (a && true) ≡ a
and_true true = refl
and_true false = refl

none_of : (o : Option CertificateValue) → is_some o ≡ false → o ≡ None
none_of None is = refl
none_of (Some c) is = cc

over : (n : ℕ) → limit < n → nat_le n limit ≡ false
over n lt = grind (arith, nat_tests)

module _ (s : SchemaValue) (w : Written) (so_far : LinesRead) (h : LeadsTo s (are_usable s w) so_far [] w.lines) where
  lines_known : so_far.is_known ≡ is_some (certificate_of s w)
  lines_known = sym (and_true so_far.is_known) ∙ h.known ∙ has_certificate s w

  lines_count : so_far.count ≡ length w.lines
  lines_count = let e = h.count in omega arith

  lines_few : so_far.count ≤ limit → length w.lines ≤ limit
  lines_few le = let n = lines_count in omega arith

  pub lines_unknown : so_far.is_known ≡ false → certificate_or_fault s w ≡ Err UnknownNode
  lines_unknown is = ap (λ o. option_map_or (within s w) o (Err UnknownNode)) (none_of (certificate_of s w) (sym lines_known ∙ is))

  pub lines_over : so_far.is_known ≡ true → limit < so_far.count → certificate_or_fault s w ≡ Err TooManyPairs
  lines_over is lt =
      let many : limit < length w.lines = let e = lines_count in omega arith in
      answer_some s w (sym lines_known ∙ is) ∙ cond-false _ _ _ (over (length w.lines) many)

  pub lines_other : so_far.is_known ≡ true → so_far.count ≤ limit → has_versions s w ≡ false → certificate_or_fault s w ≡ Err OtherVersion
  lines_other is le other =
      answer_some s w (sym lines_known ∙ is) ∙ cond-true _ _ _ (room (length w.lines) (lines_few le)) ∙ cond-false _ _ _ other

  -- the certificate of what the lines say
  abbrev pub kept : CertificateValue
  kept = record { derived = w.derived; base = w.base; items = so_far.items.items; kids = so_far.kids.items }

  kept_built : so_far.is_known ≡ true → so_far.count ≤ limit → kept ≡ built s w
  kept_built is le =
      let items : so_far.items.items ≡ flat_map item_in (pairs_of s w.lines) = sym (append-nil so_far.items.items) ∙ h.items is le in
      let kids : so_far.kids.items ≡ flat_map kids_in (pairs_of s w.lines) = sym (append-nil so_far.kids.items) ∙ h.kids is le in
      rw (items, kids) refl

  pub lines_certificate : (r : Result CertificateValue CertFault) → so_far.is_known ≡ true → so_far.count ≤ limit → has_versions s w ≡ true
      → MatchResult r (λ c. c ≡ kept) (λ fault. fault ≡ NoMemory)
      → GivesOr is_no_memory (λ c. c) r (certificate_or_fault s w)
  lines_certificate (Ok c) is le own e = built_or_fault s w (Ok c) (sym lines_known ∙ is) (lines_few le) own (e ∙ kept_built is le)
  lines_certificate (Err fault) is le own e = built_or_fault s w (Err fault) (sym lines_known ∙ is) (lines_few le) own e

-- ---- what is read of bytes

pub reading_other : (s : SchemaValue) (bytes : Text) → ¬ IsUtf8 bytes → reading s bytes ≡ Err WrongFormat
reading_other s bytes h = elim (cases_Bool (is_utf8 bytes)) [ inl is ↦ absurd (h (IsUtf8-from_is_utf8 bytes is)) | inr isnt ↦ rw isnt refl ]

pub reading_text : (s : SchemaValue) (bytes : Text) → IsUtf8 bytes
    → reading s bytes ≡ option_map_or (certificate_or_fault s) (written_of bytes) (Err WrongFormat)
reading_text s bytes u = rw (is_utf8-from_IsUtf8 bytes u) refl

pub reading_spelled : (s : SchemaValue) (bytes : Text) (w : Written) → Spells bytes w → reading s bytes ≡ certificate_or_fault s w
reading_spelled s bytes w h = reading_text s bytes h.utf8 ∙ ap (λ o. option_map_or (certificate_or_fault s) o (Err WrongFormat)) (written_again bytes w h)

-- what the bytes spell is judged, or they spell nothing
abbrev pub IsTold : SchemaValue → Text → Type 0
IsTold s bytes = ((w : Written) × Spells bytes w × (reading s bytes ≡ certificate_or_fault s w))
    ⊎ ((reading s bytes ≡ Err WrongFormat) × ((w : Written) → Spells bytes w → ⊥))

told_text : (s : SchemaValue) (bytes : Text) → IsUtf8 bytes → (o : Option Written) → written_of bytes ≡ o → IsTold s bytes
told_text s bytes u None e =
    inr (reading_text s bytes u ∙ ap (λ o. option_map_or (certificate_or_fault s) o (Err WrongFormat)) e, λ w h. let again = written_again bytes w h in cc)
told_text s bytes u (Some w) e = let h = written_is bytes w u e in inl (w, h, reading_spelled s bytes w h)

pub told : (s : SchemaValue) (bytes : Text) → IsTold s bytes
told s bytes =
    elim (cases_Bool (is_utf8 bytes)) [
      | inl is ↦ told_text s bytes (IsUtf8-from_is_utf8 bytes is) (written_of bytes) refl
      | inr isnt ↦ inr (rw isnt refl, λ w h. let is = is_utf8-from_IsUtf8 bytes h.utf8 in cc)
    ]

-- ---- what an answer says

at_most : (n : ℕ) → nat_le n limit ≡ true → n ≤ limit
at_most n e = grind (arith, nat_tests)

beyond : (n : ℕ) → nat_le n limit ≡ false → limit < n
beyond n e = grind (arith, nat_tests)

-- what each answer says of what is meant, of whether there is room, and of the versions
abbrev pub Says : Option CertificateValue → Bool → Bool → Result CertificateValue CertFault → Type 0
Says o b v (Ok c) = (o ≡ Some c) × (b ≡ true) × (v ≡ true)
Says o b v (Err WrongFormat) = ⊥
Says o b v (Err UnknownNode) = o ≡ None
Says o b v (Err TooManyPairs) = (is_some o ≡ true) × (b ≡ false)
Says o b v (Err NoMemory) = ⊥
Says o b v (Err OtherVersion) = (is_some o ≡ true) × (b ≡ true) × (v ≡ false)

says : (o : Option CertificateValue) (b v : Bool)
    → Says o b v (option_map_or (λ c. if b then (if v then Ok c else Err OtherVersion) else Err TooManyPairs) o (Err UnknownNode))
says None b v = refl
says (Some c) true true = (refl, refl, refl)
says (Some c) true false = (refl, refl, refl)
says (Some c) false v = (refl, refl)

pub certificate_or_fault-says : (s : SchemaValue) (w : Written) (r : Result CertificateValue CertFault) → certificate_or_fault s w ≡ r
    → Says (certificate_of s w) (has_room w) (has_versions s w) r
certificate_or_fault-says s w r e =
    subst (Says (certificate_of s w) (has_room w) (has_versions s w)) e (says (certificate_of s w) (has_room w) (has_versions s w))

pub reads_ok : (s : SchemaValue) (bytes : Text) (c : CertificateValue) → reading s bytes ≡ Ok c → Stands s bytes c
reads_ok s bytes c e =
    elim (told s bytes) [
      | inl t ↦ let h = certificate_or_fault-says s t.0 (Ok c) (sym t.2 ∙ e) in (t.0, t.1, h.0, at_most (length t.0.lines) h.1, h.2)
      | inr t ↦ let no = t.0 in cc
    ]

pub is_found : (s : SchemaValue) (bytes : Text) (r : Result CertificateValue CertFault) → GivesOr is_no_memory (λ c. c) r (reading s bytes)
    → IfOk r (λ c. Stands s bytes c)
is_found s bytes (Ok c) e = reads_ok s bytes c e
is_found s bytes (Err fault) e = tt

pub is_only : (s : SchemaValue) (bytes : Text) (r : Result CertificateValue CertFault) (w : Written) → GivesOr is_no_memory (λ c. c) r (reading s bytes)
    → Spells bytes w → GivesOr is_no_memory (λ c. c) r (certificate_or_fault s w)
is_only s bytes r w h spells = subst (λ (answer : Result CertificateValue CertFault). GivesOr is_no_memory (λ c. c) r answer)
    (reading_spelled s bytes w spells) h

pub is_refused : (s : SchemaValue) (bytes : Text) (r : Result CertificateValue CertFault) → GivesOr is_no_memory (λ c. c) r (reading s bytes)
    → IfErr r (λ fault. Means fault s bytes)
is_refused s bytes (Ok c) e = tt
is_refused s bytes (Err NoMemory) e = tt
is_refused s bytes (Err WrongFormat) e =
    elim (told s bytes) [
      | inl t ↦ absurd (certificate_or_fault-says s t.0 (Err WrongFormat) (sym t.2 ∙ e))
      | inr t ↦ t.1
    ]
is_refused s bytes (Err UnknownNode) e =
    elim (told s bytes) [
      | inl t ↦ (t.0, t.1, certificate_or_fault-says s t.0 (Err UnknownNode) (sym t.2 ∙ e))
      | inr t ↦ let no = t.0 in cc
    ]
is_refused s bytes (Err TooManyPairs) e =
    elim (told s bytes) [
      | inl t ↦ let h = certificate_or_fault-says s t.0 (Err TooManyPairs) (sym t.2 ∙ e) in (t.0, t.1, h.0, beyond (length t.0.lines) h.1)
      | inr t ↦ let no = t.0 in cc
    ]
is_refused s bytes (Err OtherVersion) e =
    elim (told s bytes) [
      | inl t ↦
          let h = certificate_or_fault-says s t.0 (Err OtherVersion) (sym t.2 ∙ e) in
          (t.0, t.1, h.0, at_most (length t.0.lines) h.1, h.2)
      | inr t ↦ let no = t.0 in cc
    ]

-- ---- what is read fits

abbrev pub NamedNodes : Type 0
NamedNodes = (s : SchemaValue) (url id : Text) (n : NodeRef) → node s url id ≡ Some n → IsTrue (has s n)

pair_nodes : (s : SchemaValue) (derived base : Option NodeRef) (p : NodePair) → ((n : NodeRef) → derived ≡ Some n → IsTrue (has s n))
    → ((n : NodeRef) → base ≡ Some n → IsTrue (has s n))
    → option_and_then (λ n. option_map (λ m. let q : NodePair = record { derived = n; base = m } in q) base) derived ≡ Some p → are_nodes s p ≡ true
pair_nodes s None base p h k e = cc
pair_nodes s (Some n) None p h k e = cc
pair_nodes s (Some n) (Some m) p h k e =
    let q : NodePair = record { derived = n; base = m } in
    let same : q ≡ p = cc in
    subst (λ (p : NodePair). are_nodes s p ≡ true) same (rw (h n refl) (k m refl))

pair_fits : NamedNodes → (s : SchemaValue) (derived base : Name) (p : NodePair) → pair_of s derived base ≡ Some p → are_nodes s p ≡ true
pair_fits named s derived base p e = pair_nodes s (node_of s derived) (node_of s base) p (named s derived.url derived.id) (named s base.url base.id) e

abbrev pub PairsFit : SchemaValue → List Pair → Type 0
PairsFit s ps = (list_all (are_nodes s) (flat_map item_in ps) ≡ true) × (list_all (are_nodes s) (flat_map kids_in ps) ≡ true)

item_fits : (s : SchemaValue) (pair : Option NodePair) (ps : List Pair) → ((p : NodePair) → pair ≡ Some p → are_nodes s p ≡ true) → PairsFit s ps
    → PairsFit s (option_map_or (λ p. p ∷ ps) (option_map Item pair) ps)
item_fits s None ps h rest = rest
item_fits s (Some p) ps h rest = (rw (h p refl) rest.0, rest.1)

kids_fit : (s : SchemaValue) (pair : Option NodePair) (ps : List Pair) → ((p : NodePair) → pair ≡ Some p → are_nodes s p ≡ true) → PairsFit s ps
    → PairsFit s (option_map_or (λ p. p ∷ ps) (option_map Kids pair) ps)
kids_fit s None ps h rest = rest
kids_fit s (Some p) ps h rest = (rest.0, rw (h p refl) rest.1)

pairs_fit : NamedNodes → (s : SchemaValue) (lines : List Line) → PairsFit s (pairs_of s lines)
pairs_fit named s [] = (refl, refl)
pairs_fit named s (item d b ∷ lines) = item_fits s (pair_of s d b) (pairs_of s lines) (pair_fits named s d b) (pairs_fit named s lines)
pairs_fit named s (kids d b ∷ lines) = kids_fit s (pair_of s d b) (pairs_of s lines) (pair_fits named s d b) (pairs_fit named s lines)

some_is : (o : Option CertificateValue) (c : CertificateValue) → o ≡ Some c → is_some o ≡ true
some_is (Some d) c e = refl
some_is None c e = cc

pub meant_fits : NamedNodes → (s : SchemaValue) (w : Written) (c : CertificateValue) → certificate_of s w ≡ Some c → fits s c ≡ true
meant_fits named s w c e =
    let is = some_is (certificate_of s w) c e in
    let parts = and_parts (are_usable s w) (are_known s w.lines) (has_certificate s w ∙ is) in
    let roots = and_parts (is_some (root s w.derived)) (is_some (root s w.base)) (and_parts _ (are_loaded s w.definitions) parts.0).0 in
    let b = certificate_built s w is in
    let same : built s w ≡ c = cc in
    let pairs = pairs_fit named s w.lines in
    subst (λ (c : CertificateValue). fits s c ≡ true) same (rw (roots.0, roots.1, pairs.0, pairs.1) refl)

pub is_fit : NamedNodes → (s : SchemaValue) (bytes : Text) (r : Result CertificateValue CertFault) → GivesOr is_no_memory (λ c. c) r (reading s bytes)
    → IfOk r (λ c. IsTrue (fits s c))
is_fit named s bytes (Ok c) e = let h = reads_ok s bytes c e in meant_fits named s h.0 c h.2
is_fit named s bytes (Err fault) e = tt
