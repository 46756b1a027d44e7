-- Which fault the flaws of a text tell.
use Rattle.std.proofs.Common.{◌≡◌, ℕ, ◌&&◌, ◌||◌, not, Bool, true, false, List, [], ◌∷◌, ◌++◌, length, Option, Some, None, is_some, option_map, if◌then◌else◌, Result, Ok, Err}
use Rattle.std.proofs.Common.{◌==◌, refl, sym, ap, subst, ◌∙◌, arith, ne_eqb}
use Rattle.std.specs.Prelude.{codes, IsTrue, IsUtf8, is_none, IfOk}
use Rattle.std.specs.Option.{option_map_or, option_and_then}
use Rattle.std.proofs.lemmas.Bool.{and_parts, cond-true, cond-false, false≢true}
use Rattle.std.proofs.lemmas.Option.{option_and_then_some}
use Rattle.fhir_json.specs.Bytes.{is_empty}
use Rattle.fhir_json.specs.Sound.{differ}
use Rattle.fhir_json.specs.Tree.{Text}
use Rattle.fhir_json.specs.Memory.{IsFault}
use Rattle.fhir_schema.specs.Schemas.{SchemaValue, root}
use Rattle.fhir_certificate.specs.declared.fault.CertFault.{CertFault}
use Rattle.fhir_certificate.specs.declared.fault.CertFault.TheVariants.{WrongFormat, UnknownNode, TooManyPairs, NoMemory, OtherVersion}
use Rattle.fhir_certificate.specs.declared.flaw.Flaw.{Flaw}
use Rattle.fhir_certificate.specs.declared.flaw.FlawKind.{FlawKind}
use Rattle.fhir_certificate.specs.declared.flaw.FlawKind.TheVariants.{Expected, Definition, Element, Version}
use Rattle.fhir_certificate.specs.Certificate.{CertificateValue}
use Rattle.fhir_certificate.specs.Faults.{is_no_memory, Means}
use Rattle.fhir_certificate.specs.Format.{Line, Stated, Written, urls_of, numbering}
use Rattle.fhir_certificate.specs.Judging.{are_loaded, certificate_of, has_room, has_versions, within, certificate_or_fault}
use Rattle.fhir_certificate.specs.Reading.{lines_of, is_ended, pair_lines, pairs_in, pairs_at, behind_line, url_line, written_behind, definition_lines, behind_lines}
use Rattle.fhir_certificate.specs.Reading.{definitions_at, written_numbered, front_of, written_of, reading}
use Rattle.fhir_certificate.specs.Lines.{are_known}
use Rattle.fhir_certificate.specs.Flaws.{is_of_format, is_of_version, any_of_format, are_of_versions, fault_of_flaws, fault_of_lines, is_other}
use Rattle.fhir_certificate.proofs.Judging.{has_certificate, reading_other, reading_text, is_refused}
use Rattle.fhir_certificate.proofs.Pairs.{are_front, at_some}
use Rattle.fhir_certificate.proofs.Taken.{map_some}
use Rattle.fhir_certificate.proofs.Again.{written_again}

-- ---- one flaw more

or_false : (b : Bool) → (b || false) ≡ b
or_false true = refl
or_false false = refl

or_group : (a b c : Bool) → (a || (b || c)) ≡ (a || b || c)
or_group true b c = refl
or_group false b c = refl

pub format_push : (flaws : List Flaw) (f : Flaw) → any_of_format (flaws ++ f ∷ []) ≡ (any_of_format flaws || is_of_format f.kind)
format_push [] f = or_false (is_of_format f.kind)
format_push (g ∷ gs) f =
    ap (λ b. is_of_format g.kind || b) (format_push gs f) ∙ or_group (is_of_format g.kind) (any_of_format gs) (is_of_format f.kind)

pub some_push : (flaws : List Flaw) (f : Flaw) → is_empty (flaws ++ f ∷ []) ≡ false
some_push [] f = refl
some_push (g ∷ gs) f = refl

and_false : (b : Bool) → (b && false) ≡ false
and_false true = refl
and_false false = refl

none_push : (flaws : List Flaw) (f : Flaw) → is_of_version f.kind ≡ false → are_of_versions (flaws ++ f ∷ []) ≡ false
none_push [] f e = rw e refl
none_push (g ∷ gs) f e = ap (λ b. is_of_version g.kind && b) (none_push gs f e) ∙ and_false (is_of_version g.kind)

pub versions_push : (flaws : List Flaw) (f : Flaw) → is_of_version f.kind ≡ false → are_of_versions (flaws ++ f ∷ []) ≡ is_empty (flaws ++ f ∷ [])
versions_push flaws f e = none_push flaws f e ∙ sym (some_push flaws f)

-- ---- behind the pairs

pub format_end : {A : Type 0} (pairs : Option A) (is old mid new : Bool) → is_some pairs ≡ is → mid ≡ old → new ≡ (mid || not is)
    → new ≡ (old || is_none pairs)
format_end None is old mid new e m n = n ∙ ap (λ b. b || not is) m ∙ ap (λ i. old || not i) (sym e)
format_end (Some ps) is old mid new e m n = n ∙ ap (λ b. b || not is) m ∙ ap (λ i. old || not i) (sym e)

and_true : (a : Bool) → a ≡ (a && true)
and_true true = refl
and_true false = refl

pub known_end : (s : SchemaValue) (lines : List Line) (mid whole : Bool) → lines ≡ [] → (mid && are_known s lines) ≡ whole → mid ≡ whole
known_end s [] mid whole none e = and_true mid ∙ e
known_end s (l ∷ ls) mid whole none e = cc

-- ---- behind the definitions

abbrev pub written_where : Option (List Stated) → Text → Text → List Line → Written
written_where ds derived base lines = record { definitions = ds; derived = derived; base = base; lines = lines }

behind_parts : (ds : Option (List Stated)) (text : Text) (derived base : Text × Text) → url_line (numbering ds) (codes "derived") text ≡ Some derived
    → url_line (numbering ds) (codes "base") derived.1 ≡ Some base
    → written_behind ds text ≡ option_map (written_where ds derived.0 base.0) (pairs_at (numbering ds) base.1)
behind_parts ds text derived base first second = rw (first, second) refl

-- what is written where these are its parts: pair lines, and nothing but them
pub behind_is : (ds : Option (List Stated)) (text : Text) (derived base : Text × Text) (w : Written)
    → url_line (numbering ds) (codes "derived") text ≡ Some derived → url_line (numbering ds) (codes "base") derived.1 ≡ Some base
    → written_behind ds text ≡ Some w
    → IsTrue (is_some (pairs_at (numbering ds) base.1)) × (w ≡ written_where ds derived.0 base.0 (pair_lines (numbering ds) (lines_of base.1)))
behind_is ds text derived base w first second e =
    let ns = numbering ds in
    let all = map_some (written_where ds derived.0 base.0) (pairs_at ns base.1) w (sym (behind_parts ds text derived base first second) ∙ e) in
    let front = are_front ns (lines_of base.1) all.0 (at_some (is_ended base.1) (pairs_in ns (lines_of base.1)) all.0 all.1) in
    (rw all.1 refl, sym all.2 ∙ ap (written_where ds derived.0 base.0) (sym front))

pub behind_known : (s : SchemaValue) (w : Written) (ds : Option (List Stated)) (derived base : Text) (lines : List Line) (old first second all : Bool)
    → w ≡ written_where ds derived base lines → first ≡ (old && is_some (root s derived)) → second ≡ (first && is_some (root s base))
    → all ≡ (second && are_known s lines) → all ≡ (old && is_some (root s w.derived) && is_some (root s w.base) && are_known s w.lines)
behind_known s w ds derived base lines old first second all is d b k =
    k ∙ ap (λ x. x && are_known s lines) (b ∙ ap (λ x. x && is_some (root s base)) d)
    ∙ ap (λ v. old && is_some (root s v.derived) && is_some (root s v.base) && are_known s v.lines) (sym is)

-- the definitions in it are those that were given
pub behind_definitions : (ds : Option (List Stated)) (text : Text) (w : Written) → written_behind ds text ≡ Some w → w.definitions ≡ ds
behind_definitions ds text w e =
    let ns = numbering ds in
    option_and_then_some
    (λ derived. option_and_then (λ base. option_map (written_where ds derived.0 base.0) (pairs_at ns base.1)) (url_line ns (codes "base") derived.1))
    (url_line ns (codes "derived") text) w e (λ derived second more.
    option_and_then_some (λ base. option_map (written_where ds derived.0 base.0) (pairs_at ns base.1)) (url_line ns (codes "base") derived.1) w more
    (λ base third more.
    let all = map_some (written_where ds derived.0 base.0) (pairs_at ns base.1) w more in
    ap (λ v. v.definitions) (sym all.2)))

regroup : (old ld rd rb kn : Bool) → (old && ld && rd && rb && kn) ≡ (old && ((rd && rb && ld) && kn))
regroup false ld rd rb kn = refl
regroup true true true true kn = refl
regroup true true true false kn = refl
regroup true true false rb kn = refl
regroup true false true true kn = refl
regroup true false true false kn = refl
regroup true false false rb kn = refl

-- nothing is unknown exactly where there is a certificate
pub known_with : (s : SchemaValue) (ds : Option (List Stated)) (text : Text) (w : Written) (old mid all : Bool) → written_behind ds text ≡ Some w
    → mid ≡ (old && are_loaded s ds) → all ≡ (mid && is_some (root s w.derived) && is_some (root s w.base) && are_known s w.lines)
    → all ≡ (old && is_some (certificate_of s w))
known_with s ds text w old mid all e m k =
    k ∙ ap (λ x. x && is_some (root s w.derived) && is_some (root s w.base) && are_known s w.lines)
    (m ∙ ap (λ v. old && are_loaded s v) (sym (behind_definitions ds text w e)))
    ∙ regroup old (are_loaded s w.definitions) (is_some (root s w.derived)) (is_some (root s w.base)) (are_known s w.lines)
    ∙ ap (λ x. old && x) (has_certificate s w)

pub known_named : (s : SchemaValue) (text : Text) (w : Written) (old all : Bool) → written_behind None text ≡ Some w
    → all ≡ (old && is_some (root s w.derived) && is_some (root s w.base) && are_known s w.lines)
    → all ≡ (old && is_some (certificate_of s w))
known_named s text w old all e k = known_with s None text w old old all e (and_true old) k

-- ---- the definitions

pub numbered_none : (text : Text) → differ (urls_of (definition_lines 0 (lines_of text))) ≡ false → written_numbered text ≡ None
numbered_none text e =
    let ds = definition_lines 0 (lines_of text) in
    ap (option_and_then (λ front. written_behind front.0 front.1)) (cond-false (differ (urls_of ds)) (Some (Some ds, behind_lines (length ds) text)) None e)

pub numbered_some : (text : Text) → differ (urls_of (definition_lines 0 (lines_of text))) ≡ true
    → written_numbered text ≡ written_behind (Some (definition_lines 0 (lines_of text))) (behind_lines (length (definition_lines 0 (lines_of text))) text)
numbered_some text e =
    let ds = definition_lines 0 (lines_of text) in
    ap (option_and_then (λ front. written_behind front.0 front.1)) (cond-true (differ (urls_of ds)) (Some (Some ds, behind_lines (length ds) text)) None e)

pub numbered_parts : (text rest : Text) (ds : Option (List Stated)) → ds ≡ Some (definition_lines 0 (lines_of text))
    → rest ≡ behind_lines (length (definition_lines 0 (lines_of text))) text → differ (urls_of (definition_lines 0 (lines_of text))) ≡ true
    → written_numbered text ≡ written_behind ds rest
numbered_parts text rest ds is behind apart = numbered_some text apart ∙ sym (rw (is, behind) refl)

-- ---- the whole text

pub text_named : (text rest : Text) → behind_line (codes "fhirprof-certificate 1") text ≡ Some rest → written_of text ≡ written_behind None rest
text_named text rest e =
    ap (λ o. option_and_then (λ front. written_behind front.0 front.1)
    (option_map_or (λ rest. Some (None, rest)) o (option_and_then definitions_at (behind_line (codes "fhirprof-certificate 2") text)))) e

pub text_numbered : (text rest : Text) → behind_line (codes "fhirprof-certificate 1") text ≡ None
    → behind_line (codes "fhirprof-certificate 2") text ≡ Some rest → written_of text ≡ written_numbered rest
text_numbered text rest e f = rw (e, f) refl

pub text_other : (text : Text) → behind_line (codes "fhirprof-certificate 1") text ≡ None → behind_line (codes "fhirprof-certificate 2") text ≡ None
    → written_of text ≡ None
text_other text e f = rw (e, f) refl

-- the definitions in a text are those in front of it
pub front_definitions : (text : Text) (ds : Option (List Stated)) (rest : Text) (w : Written) → front_of text ≡ Some (ds, rest) → written_of text ≡ Some w
    → w.definitions ≡ ds
front_definitions text ds rest w front e =
    behind_definitions ds rest w (sym (ap (option_and_then (λ front. written_behind front.0 front.1)) front) ∙ e)

-- ---- versions

not_format : (kind : FlawKind) → is_of_version kind ≡ true → is_of_format kind ≡ false
not_format (Expected part) e = cc
not_format (Definition url) e = refl
not_format (Element url id) e = refl
not_format (Version url written own) e = refl

none_of_format : (flaws : List Flaw) → are_of_versions flaws ≡ true → any_of_format flaws ≡ false
none_of_format [] e = refl
none_of_format (f ∷ fs) e =
    let parts = and_parts (is_of_version f.kind) (are_of_versions fs) e in
    rw (not_format f.kind parts.0, none_of_format fs parts.1) refl

pub versions_fault : (flaws : List Flaw) → are_of_versions flaws ≡ true → is_empty flaws ≡ false → fault_of_flaws flaws ≡ Some OtherVersion
versions_fault flaws all some = rw (none_of_format flaws all, some, all) refl

-- those that a call answers
pub versions_answered : {X E : Type 0} (view : X → List Flaw) (r : Result X E) (own : Bool) → IfOk r (λ x. are_of_versions (view x) ≡ true)
    → IfOk r (λ x. is_empty (view x) ≡ own) → own ≡ false → IfOk r (λ x. fault_of_flaws (view x) ≡ Some OtherVersion)
versions_answered view (Ok x) own all none e = versions_fault (view x) all (none ∙ e)
versions_answered view (Err e) own all none is = tt

-- ---- the fault

-- where none of the flaws is of a version
told_text : (flaws : List Flaw) → are_of_versions flaws ≡ is_empty flaws
    → fault_of_flaws flaws ≡ (if any_of_format flaws then Some WrongFormat else (if is_empty flaws then None else Some UnknownNode))
told_text [] e = refl
told_text (f ∷ fs) e = rw e refl

judged : (s : SchemaValue) (w : Written) (none : Bool) (c : Option CertificateValue) → none ≡ is_some c → none ≡ false
    → (if none then None else Some UnknownNode) ≡ fault_of_lines (option_map_or (within s w) c (Err UnknownNode))
judged s w none None e f = rw e refl
judged s w none (Some c) e f = absurd (false≢true (sym f ∙ e))

told_by : (s : SchemaValue) (flaws : List Flaw) (o : Option Written) → are_of_versions flaws ≡ is_empty flaws → is_empty flaws ≡ false
    → any_of_format flaws ≡ is_none o → ((w : Written) → o ≡ Some w → is_empty flaws ≡ is_some (certificate_of s w))
    → fault_of_flaws flaws ≡ fault_of_lines (option_map_or (certificate_or_fault s) o (Err WrongFormat))
told_by s flaws None own some format none = told_text flaws own ∙ rw format refl
told_by s flaws (Some w) own some format none = told_text flaws own ∙ rw format (judged s w (is_empty flaws) (certificate_of s w) (none w refl) some)

-- where there are some
pub flaws_of_text : (s : SchemaValue) (bytes : Text) (flaws : List Flaw) → IsUtf8 bytes → are_of_versions flaws ≡ is_empty flaws → is_empty flaws ≡ false
    → any_of_format flaws ≡ is_none (written_of bytes)
    → ((w : Written) → written_of bytes ≡ Some w → is_empty flaws ≡ is_some (certificate_of s w))
    → fault_of_flaws flaws ≡ fault_of_lines (reading s bytes)
flaws_of_text s bytes flaws u own some format none =
    told_by s flaws (written_of bytes) own some format none ∙ ap fault_of_lines (sym (reading_text s bytes u))

-- what is left where nothing is wrong with the format and the nodes
abbrev Left : Option CertFault → Type 0
Left None = Unit {0}
Left (Some WrongFormat) = ⊥
Left (Some UnknownNode) = ⊥
Left (Some TooManyPairs) = ⊥
Left (Some NoMemory) = ⊥
Left (Some OtherVersion) = Unit {0}

left_within : (c : CertificateValue) (b v : Bool) → Left (fault_of_lines (if b then (if v then Ok c else Err OtherVersion) else Err TooManyPairs))
left_within c true true = tt
left_within c true false = tt
left_within c false v = tt

left_of : (s : SchemaValue) (w : Written) (o : Option CertificateValue) → is_some o ≡ true
    → Left (fault_of_lines (option_map_or (within s w) o (Err UnknownNode)))
left_of s w None is = absurd (false≢true is)
left_of s w (Some c) is = left_within c (has_room w) (has_versions s w)

no_format : (flaws : List Flaw) → is_empty flaws ≡ true → any_of_format flaws ≡ false
no_format [] e = refl
no_format (f ∷ fs) e = absurd (false≢true e)

fault_left : (s : SchemaValue) (bytes : Text) (found : List Flaw) (o : Option Written) → IsUtf8 bytes → is_empty found ≡ true → any_of_format found ≡ is_none o
    → ((w : Written) → o ≡ Some w → is_empty found ≡ is_some (certificate_of s w)) → written_of bytes ≡ o → Left (fault_of_lines (reading s bytes))
fault_left s bytes found None u empty format none e = absurd (false≢true (sym (no_format found empty) ∙ format))
fault_left s bytes found (Some w) u empty format none e =
    subst (λ (r : Result CertificateValue CertFault). Left (fault_of_lines r))
    (sym (reading_text s bytes u ∙ ap (λ o. option_map_or (certificate_or_fault s) o (Err WrongFormat)) e))
    (left_of s w (certificate_of s w) (sym (none w refl) ∙ empty))

answered : (flaws : List Flaw) (r : Result CertificateValue CertFault) → Left (fault_of_lines r)
    → (fault_of_lines r ≡ Some OtherVersion → fault_of_flaws flaws ≡ Some OtherVersion)
    → (fault_of_lines r ≡ None → flaws ≡ [])
    → fault_of_flaws flaws ≡ fault_of_lines r
answered flaws (Ok c) l other nothing = ap fault_of_flaws (nothing refl)
answered flaws (Err WrongFormat) l other nothing = absurd l
answered flaws (Err UnknownNode) l other nothing = absurd l
answered flaws (Err TooManyPairs) l other nothing = ap fault_of_flaws (nothing refl)
answered flaws (Err NoMemory) l other nothing = ap fault_of_flaws (nothing refl)
answered flaws (Err OtherVersion) l other nothing = other refl

-- where there are none
pub versions_of_text : (s : SchemaValue) (bytes : Text) (found flaws : List Flaw) → IsUtf8 bytes → is_empty found ≡ true
    → any_of_format found ≡ is_none (written_of bytes)
    → ((w : Written) → written_of bytes ≡ Some w → is_empty found ≡ is_some (certificate_of s w))
    → (fault_of_lines (reading s bytes) ≡ Some OtherVersion → fault_of_flaws flaws ≡ Some OtherVersion)
    → (fault_of_lines (reading s bytes) ≡ None → flaws ≡ [])
    → fault_of_flaws flaws ≡ fault_of_lines (reading s bytes)
versions_of_text s bytes found flaws u empty format none other nothing =
    answered flaws (reading s bytes) (fault_left s bytes found (written_of bytes) u empty format none refl) other nothing

-- those that a call answers
pub versions_told : {X E : Type 0} (view : X → List Flaw) (r : Result X E) (s : SchemaValue) (bytes : Text) (found : List Flaw) → IsUtf8 bytes
    → is_empty found ≡ true → any_of_format found ≡ is_none (written_of bytes)
    → ((w : Written) → written_of bytes ≡ Some w → is_empty found ≡ is_some (certificate_of s w))
    → IfOk r (λ x. fault_of_lines (reading s bytes) ≡ Some OtherVersion → fault_of_flaws (view x) ≡ Some OtherVersion)
    → IfOk r (λ x. fault_of_lines (reading s bytes) ≡ None → view x ≡ [])
    → IfOk r (λ x. fault_of_flaws (view x) ≡ fault_of_lines (reading s bytes))
versions_told view (Ok x) s bytes found u empty format none other nothing = versions_of_text s bytes found (view x) u empty format none other nothing
versions_told view (Err e) s bytes found u empty format none other nothing = tt

-- where another version is written
kept : {X E : Type 0} (view : X → List Flaw) (r : Result X E) (o : Option CertFault) → IfOk r (λ x. fault_of_flaws (view x) ≡ Some OtherVersion)
    → IfOk r (λ x. o ≡ Some OtherVersion → fault_of_flaws (view x) ≡ Some OtherVersion)
kept view (Ok x) o h = λ _. h
kept view (Err e) o h = tt

means_other : (s : SchemaValue) (bytes : Text) (r : Result CertificateValue CertFault) → reading s bytes ≡ r → is_other (fault_of_lines r) ≡ true
    → Means OtherVersion s bytes
means_other s bytes (Ok c) e is = absurd (false≢true is)
means_other s bytes (Err WrongFormat) e is = absurd (false≢true is)
means_other s bytes (Err UnknownNode) e is = absurd (false≢true is)
means_other s bytes (Err TooManyPairs) e is = absurd (false≢true is)
means_other s bytes (Err NoMemory) e is = absurd (false≢true is)
means_other s bytes (Err OtherVersion) e is = is_refused s bytes (Err OtherVersion) e

pub other_told : {X E : Type 0} (view : X → List Flaw) (r : Result X E) (s : SchemaValue) (bytes text : Text) → text ≡ bytes
    → is_other (fault_of_lines (reading s bytes)) ≡ true
    → ((w : Written) → written_of text ≡ Some w → has_versions s w ≡ false → IfOk r (λ x. fault_of_flaws (view x) ≡ Some OtherVersion))
    → IfOk r (λ x. fault_of_lines (reading s bytes) ≡ Some OtherVersion → fault_of_flaws (view x) ≡ Some OtherVersion)
other_told view r s bytes text same is h =
    let means = means_other s bytes (reading s bytes) refl is in
    kept view r (fault_of_lines (reading s bytes)) (h means.0 (ap written_of same ∙ written_again bytes means.0 means.1) means.4)

pub other_none : {X E : Type 0} (view : X → List Flaw) (r : Result X E) (o : Option CertFault) → is_other o ≡ true
    → IfOk r (λ x. o ≡ None → view x ≡ [])
other_none view (Ok x) o is = λ none. absurd (false≢true (sym (ap is_other none) ∙ is))
other_none view (Err e) o is = tt

-- whether a version is to blame, where a fault was answered
pub other_of : {E : Type 0} (s : SchemaValue) (bytes : Text) (fault : CertFault) (r : Result Bool E) → IsFault (is_no_memory fault) fault (reading s bytes)
    → IfOk r (λ _. is_no_memory fault ≡ false) → IfOk r (λ is. is ≡ is_other (Some fault))
    → IfOk r (λ has. has ≡ is_other (fault_of_lines (reading s bytes)))
other_of s bytes fault (Err e) h told other = tt
other_of s bytes WrongFormat (Ok b) h told other = other ∙ ap (λ r. is_other (fault_of_lines r)) (sym h)
other_of s bytes UnknownNode (Ok b) h told other = other ∙ ap (λ r. is_other (fault_of_lines r)) (sym h)
other_of s bytes TooManyPairs (Ok b) h told other = other ∙ ap (λ r. is_other (fault_of_lines r)) (sym h)
other_of s bytes NoMemory (Ok b) h told other = absurd (false≢true (sym told))
other_of s bytes OtherVersion (Ok b) h told other = other ∙ ap (λ r. is_other (fault_of_lines r)) (sym h)

-- a list is empty where its length is 0
pub empty_len : {A : Type 0} (xs : List A) (n : ℕ) (b : Bool) → n ≡ length xs → b ≡ (n == 0) → b ≡ is_empty xs
empty_len [] n b l e = e ∙ ap (λ k. k == 0) l
empty_len (x ∷ xs) n b l e = e ∙ ne_eqb n 0 (λ z. absurd (omega arith))

pub flaws_of_other : (s : SchemaValue) (bytes : Text) (flaws : List Flaw) → ¬ IsUtf8 bytes → fault_of_flaws flaws ≡ Some WrongFormat
    → fault_of_flaws flaws ≡ fault_of_lines (reading s bytes)
flaws_of_other s bytes flaws other e = e ∙ ap fault_of_lines (sym (reading_other s bytes other))
