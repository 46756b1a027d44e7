-- Ids: what is read was written so, and what is written so is read.
use Rattle.std.proofs.Common.{◌≡◌, ℕ, ◌<◌, ◌==◌, nat_le, Bool, true, false, not, ◌&&◌, cond, List, [], ◌∷◌, ◌++◌, length, map, Option, Some, None, Ok, Err}
use Rattle.std.proofs.Common.{refl, sym, ap, subst, ◌∙◌, arith}
use Rattle.std.specs.List.{list_all, slice_split, onto_first, join_with_byte}
use Rattle.std.specs.Option.{is_none, option_map_or, option_or}
use Rattle.std.proofs.lemmas.Bool.{cond-true, cond-false, and_parts, and_from, not-true}
use Rattle.std.proofs.lemmas.List.Folds.{list_all-append}
use Rattle.std.proofs.lemmas.List.Splits.{join_with_byte-slice_split}
use Rattle.fhir_names.specs.declared.fault.NameFault.{NameFault}
use Rattle.fhir_names.specs.declared.fault.NameFault.TheVariants.{Empty, SliceOfSlice}
use Rattle.fhir_json.specs.Tree.{Text}
use Rattle.fhir_json.specs.Bytes.{dot, slash, colon, is_empty}
use Rattle.fhir_names.specs.Texts.{is_plain, lacks, cut_at_first}
use Rattle.fhir_names.specs.Segments.{SegmentParts, segment_text, is_name, is_slice, is_segment, segment_parts, segments_of, slice_fault, segment_fault}
use Rattle.fhir_names.specs.Segments.{first_fault, id_fault}
use Rattle.fhir_names.specs.Ids.{id_text, IsIdOf, read_id}
use Rattle.fhir_names.proofs.Answered.{no_value, read_ok, if_plain, around}
use Rattle.fhir_names.proofs.Cuts.{IsFirstCut, first_is, first_none, first_found, split_none, split_some}

-- a segment, by where its first ':' is
abbrev pub segment_parts_by : Text → Option (Text × Text) → SegmentParts
segment_parts_by s r = option_map_or (λ (p : Text × Text). (p.0, Some p.1)) r (s, None)

-- ---- segment by segment

pub segments_some : (text : Text) (q : Text × Text) → cut_at_first dot text ≡ Some q → segments_of text ≡ segment_parts q.0 ∷ segments_of q.1
segments_some text q e = ap (map segment_parts) (split_some dot text q e)

pub segments_none : (text : Text) → cut_at_first dot text ≡ None → segments_of text ≡ segment_parts text ∷ []
segments_none text e = ap (map segment_parts) (split_none dot text e)

or_none : (o : Option NameFault) → option_or o None ≡ o
or_none None = refl
or_none (Some x) = refl

pub fault_some : (text : Text) (q : Text × Text) → cut_at_first dot text ≡ Some q
    → first_fault (segments_of text) ≡ option_or (segment_fault (segment_parts q.0)) (first_fault (segments_of q.1))
fault_some text q e = ap first_fault (segments_some text q e)

pub fault_none : (text : Text) → cut_at_first dot text ≡ None → first_fault (segments_of text) ≡ segment_fault (segment_parts text)
fault_none text e = ap first_fault (segments_none text e) ∙ or_none (segment_fault (segment_parts text))

-- ---- the segments joined give the text back

segment_text_by : (s : Text) (r : Option (Text × Text)) → IsFirstCut colon s r → segment_text (segment_parts_by s r) ≡ s
segment_text_by s None h = refl
segment_text_by s (Some p) h = sym h.0

all_spelled : (ss : List Text) → map segment_text (map segment_parts ss) ≡ ss
all_spelled [] = refl
all_spelled (s ∷ ss) =
    ap (λ x. x ∷ map segment_text (map segment_parts ss)) (segment_text_by s (cut_at_first colon s) (first_is colon s)) ∙ ap (λ l. s ∷ l) (all_spelled ss)

pub joined : (text : Text) → id_text (segments_of text) ≡ text
joined text =
    ap (join_with_byte dot) (all_spelled (slice_split (λ b. b == dot) text)) ∙ join_with_byte-slice_split dot text

-- ---- names

name_parts : (n : Text) → is_name n ≡ true → (is_empty n ≡ false) × (is_plain n ≡ true) × (lacks dot n ≡ true) × (lacks colon n ≡ true)
name_parts n h =
    let a = and_parts (not (is_empty n) && is_plain n && lacks dot n) (lacks colon n) h in
    let b = and_parts (not (is_empty n) && is_plain n) (lacks dot n) a.0 in
    let c = and_parts (not (is_empty n)) (is_plain n) b.0 in
    (not-true _ c.0, c.1, b.1, a.1)

name_from : (n : Text) → is_empty n ≡ false → is_plain n ≡ true → lacks dot n ≡ true → lacks colon n ≡ true → is_name n ≡ true
name_from n e p d c = and_from _ _ (and_from _ _ (and_from _ _ (ap not e) p) d) c

slice_parts : (s : Text) → is_slice s ≡ true → (is_empty s ≡ false) × (is_plain s ≡ true) × (lacks dot s ≡ true) × (lacks slash s ≡ true)
slice_parts s h =
    let a = and_parts (not (is_empty s) && is_plain s && lacks dot s) (lacks slash s) h in
    let b = and_parts (not (is_empty s) && is_plain s) (lacks dot s) a.0 in
    let c = and_parts (not (is_empty s)) (is_plain s) b.0 in
    (not-true _ c.0, c.1, b.1, a.1)

slice_from : (s : Text) → is_empty s ≡ false → is_plain s ≡ true → lacks dot s ≡ true → lacks slash s ≡ true → is_slice s ≡ true
slice_from s e p d c = and_from _ _ (and_from _ _ (and_from _ _ (ap not e) p) d) c

-- ---- what is read was written so

-- it has neither a control character nor a dot
abbrev pub IsWhole : Text → Type 0
IsWhole s = (is_plain s ≡ true) × (lacks dot s ≡ true)

abbrev pub AllWhole : List Text → Type 0
AllWhole [] = Unit {0}
AllWhole (s ∷ ss) = IsWhole s × AllWhole ss

whole_step : (x : ℕ) (b : Bool) → (x == dot) ≡ b → nat_le 32 x ≡ true → (ss : List Text) → AllWhole ss → AllWhole (cond b ([] ∷ ss) (onto_first x ss))
whole_step x true e k ss h = ((refl, refl), h)
whole_step x false e k [] h = ((and_from _ _ k refl, and_from _ _ (ap not e) refl), tt)
whole_step x false e k (s ∷ ss) h = ((and_from _ _ k h.0.0, and_from _ _ (ap not e) h.0.1), h.1)

all_whole : (text : Text) → is_plain text ≡ true → AllWhole (slice_split (λ b. b == dot) text)
all_whole [] h = ((refl, refl), tt)
all_whole (x ∷ xs) h =
    let both = and_parts (nat_le 32 x) (is_plain xs) h in
    whole_step x (x == dot) refl both.0 (slice_split (λ b. b == dot) xs) (all_whole xs both.1)

no_fault : (s : Text) (o : Option NameFault) → (cond (is_empty s) (Some Empty) o) ≡ None → (is_empty s ≡ false) × (o ≡ None)
no_fault [] o h = absurd (cc)
no_fault (x ∷ s) o h = (refl, h)

no_slash : (b : Bool) (f : NameFault) → cond b None (Some f) ≡ None → b ≡ true
no_slash true f h = refl
no_slash false f h = absurd (cc)

segment_good : (s : Text) → IsWhole s → (r : Option (Text × Text)) → IsFirstCut colon s r → segment_fault (segment_parts_by s r) ≡ None
    → is_segment (segment_parts_by s r) ≡ true
segment_good s w None h k =
    let name = no_fault s None k in
    and_from _ _ (name_from s name.0 w.0 w.1 h) refl
segment_good s w (Some p) h k =
    let name = no_fault p.0 (slice_fault p.1) k in
    let slice = no_fault p.1 (cond (lacks slash p.1) None (Some SliceOfSlice)) name.1 in
    let plain = around (nat_le 32) s p.0 p.1 colon h.0 w.0 in
    let dots = around (λ b. not (b == dot)) s p.0 p.1 colon h.0 w.1 in
    and_from _ _ (name_from p.0 name.0 plain.0 dots.0 h.1) (slice_from p.1 slice.0 plain.1 dots.1 (no_slash _ _ slice.1))

or_parts : (a b : Option NameFault) → option_or a b ≡ None → (a ≡ None) × (b ≡ None)
or_parts None b h = (refl, h)
or_parts (Some x) b h = absurd (cc)

segments_good : (ss : List Text) → AllWhole ss → first_fault (map segment_parts ss) ≡ None → list_all is_segment (map segment_parts ss) ≡ true
segments_good [] w h = refl
segments_good (s ∷ ss) w h =
    let both = or_parts (segment_fault (segment_parts s)) (first_fault (map segment_parts ss)) h in
    and_from _ _ (segment_good s w.0 (cut_at_first colon s) (first_is colon s) both.0) (segments_good ss w.1 both.1)

-- the text has a part
has_segment : (text : Text) (r : Option (Text × Text)) → cut_at_first dot text ≡ r → 0 < length (segments_of text)
has_segment text None e = rw (segments_none text e) (omega arith)
has_segment text (Some q) e = rw (segments_some text q e) (omega arith)

pub id_found : (text : Text) (ps : List SegmentParts) → read_id text ≡ Ok ps → IsIdOf ps text
id_found text ps h =
    let read = read_ok (id_fault text) (segments_of text) ps h in
    let plain = if_plain (is_plain text) (first_fault (segments_of text)) read.0 in
    let good : IsIdOf (segments_of text) text =
    (has_segment text (cut_at_first dot text) refl, segments_good (slice_split (λ b. b == dot) text) (all_whole text plain.0) plain.1, sym (joined text)) in
    subst (λ (qs : List SegmentParts). IsIdOf qs text) read.1 good

-- ---- what is written so is read

pub whole : (n : Text) (o : Option Text) → is_segment (n, o) ≡ true → IsWhole (segment_text (n, o))
whole n None h =
    let name = name_parts n (and_parts (is_name n) true h).0 in
    (name.1, name.2)
whole n (Some s) h =
    let both = and_parts (is_name n) (is_slice s) h in
    let name = name_parts n both.0 in
    let slice = slice_parts s both.1 in
    (list_all-append (nat_le 32) n (colon ∷ s) ∙ and_from _ _ name.1 slice.1, list_all-append (λ b. not (b == dot)) n (colon ∷ s) ∙ and_from _ _ name.2 slice.2)

pub back : (n : Text) (o : Option Text) → is_segment (n, o) ≡ true → segment_parts (segment_text (n, o)) ≡ (n, o)
back n None h = ap (segment_parts_by n) (first_none colon n (name_parts n (and_parts (is_name n) true h).0).3)
back n (Some s) h =
    ap (segment_parts_by (n ++ colon ∷ s)) (first_found colon n s (name_parts n (and_parts (is_name n) (is_slice s) h).0).3)

faultless : (n : Text) (o : Option Text) → is_segment (n, o) ≡ true → segment_fault (n, o) ≡ None
faultless n None h = cond-false _ _ _ (name_parts n (and_parts (is_name n) true h).0).0
faultless n (Some s) h =
    let both = and_parts (is_name n) (is_slice s) h in
    let slice = slice_parts s both.1 in
    cond-false _ _ _ (name_parts n both.0).0 ∙ cond-false _ _ _ slice.0 ∙ cond-true _ _ _ slice.3

split_joined : (p : SegmentParts) (ps : List SegmentParts) → list_all is_segment (p ∷ ps) ≡ true
    → slice_split (λ b. b == dot) (id_text (p ∷ ps)) ≡ map segment_text (p ∷ ps)
split_joined p [] h =
    split_none dot (segment_text p) (first_none dot (segment_text p) (whole p.0 p.1 (and_parts (is_segment p) true h).0).1)
split_joined p (q ∷ ps) h =
    let both = and_parts (is_segment p) (list_all is_segment (q ∷ ps)) h in
    let rest = id_text (q ∷ ps) in
    split_some dot (segment_text p ++ dot ∷ rest) (segment_text p, rest) (first_found dot (segment_text p) rest (whole p.0 p.1 both.0).1)
    ∙ ap (λ l. segment_text p ∷ l) (split_joined q ps both.1)

plain_joined : (p : SegmentParts) (ps : List SegmentParts) → list_all is_segment (p ∷ ps) ≡ true → is_plain (id_text (p ∷ ps)) ≡ true
plain_joined p [] h = (whole p.0 p.1 (and_parts (is_segment p) true h).0).0
plain_joined p (q ∷ ps) h =
    let both = and_parts (is_segment p) (list_all is_segment (q ∷ ps)) h in
    list_all-append (nat_le 32) (segment_text p) (dot ∷ id_text (q ∷ ps)) ∙ and_from _ _ (whole p.0 p.1 both.0).0 (plain_joined q ps both.1)

all_back : (ps : List SegmentParts) → list_all is_segment ps ≡ true → map segment_parts (map segment_text ps) ≡ ps
all_back [] h = refl
all_back (p ∷ ps) h =
    let both = and_parts (is_segment p) (list_all is_segment ps) h in
    ap (λ x. x ∷ map segment_parts (map segment_text ps)) (back p.0 p.1 both.0) ∙ ap (λ l. p ∷ l) (all_back ps both.1)

none_first : (ps : List SegmentParts) → list_all is_segment ps ≡ true → first_fault ps ≡ None
none_first [] h = refl
none_first (p ∷ ps) h =
    let both = and_parts (is_segment p) (list_all is_segment ps) h in
    ap (λ o. option_or o (first_fault ps)) (faultless p.0 p.1 both.0) ∙ none_first ps both.1

read_written : (ps : List SegmentParts) → 0 < length ps → list_all is_segment ps ≡ true → read_id (id_text ps) ≡ Ok ps
read_written [] l h = absurd (omega arith)
read_written (p ∷ ps) l h =
    let text = id_text (p ∷ ps) in
    let parts : segments_of text ≡ p ∷ ps = ap (map segment_parts) (split_joined p ps h) ∙ all_back (p ∷ ps) h in
    let none : id_fault text ≡ None = cond-true _ _ _ (plain_joined p ps h) ∙ ap first_fault parts ∙ none_first (p ∷ ps) h in
    ap (λ o. option_map_or Err o (Ok (segments_of text))) none ∙ ap Ok parts

pub id_only : (text : Text) (ps : List SegmentParts) → IsIdOf ps text → read_id text ≡ Ok ps
id_only text ps h = ap read_id h.2 ∙ read_written ps h.0 h.1

pub id_kept : (text : Text) → is_none (id_fault text) ≡ true → IsIdOf (segments_of text) text
id_kept text h =
    id_found text (segments_of text) (ap (λ (o : Option NameFault). option_map_or Err o (Ok (segments_of text))) (no_value (id_fault text) h))
