-- The pair lines of a text, and its end.
use Rattle.std.proofs.Common.{◌≡◌, ℕ, ◌==◌, Bool, true, false, List, [], ◌∷◌, ◌++◌, Option, Some}
use Rattle.std.proofs.Common.{None, option_map, is_some, if◌then◌else◌, refl, sym, ap, ◌∙◌, arith, eqb-true}
use Rattle.std.specs.Prelude.{codes}
use Rattle.std.specs.Option.{option_map_or}
use Rattle.std.specs.List.{flat_map}
use Rattle.std.specs.Str.{bytes_eq}
use Rattle.std.proofs.lemmas.Bool.{and_parts}
use Rattle.std.proofs.lemmas.Slice.Eq.{bytes_eq-Decides}
use Rattle.fhir_json.specs.Tree.{Text}
use Rattle.fhir_certificate.specs.Numbers.{Numbering}
use Rattle.fhir_certificate.specs.Format.{Line}
use Rattle.fhir_json.specs.Bytes.{is_empty}
use Rattle.fhir_certificate.specs.Reading.{longer, lines_of, is_ended, line_of, pair_lines, is_end, pairs_in, pairs_at}

-- ---- a text is its lines

abbrev pub ended : Text → Text
ended line = line ++ 10 ∷ []

whole_longer : (b c : ℕ) (cs : Text) (lines : List Text) → c ∷ cs ≡ flat_map ended lines → b ∷ c ∷ cs ≡ flat_map ended (longer b lines)
whole_longer b c cs [] is = cc
whole_longer b c cs (l ∷ ls) is = ap (λ t. b ∷ t) is

whole_step : (b : ℕ) (bs : Text) (lines : List Text) → bs ≡ flat_map ended lines → (b == 10) ≡ true → b ∷ bs ≡ flat_map ended ([] ∷ lines)
whole_step b bs lines is feed = let e : b ≡ 10 = eqb-true b 10 feed in cc

pub whole : (text : Text) → is_ended text ≡ true → text ≡ flat_map ended (lines_of text)
whole [] e = refl
whole (b ∷ []) e = let is : b ≡ 10 = eqb-true b 10 e in rw is refl
whole (b ∷ c ∷ cs) e =
    let rest = whole (c ∷ cs) e in
    elim (b == 10) as (λ v. (b == 10) ≡ v → b ∷ c ∷ cs ≡ flat_map ended (if v then [] ∷ lines_of (c ∷ cs) else longer b (lines_of (c ∷ cs)))) [
      | true ↦ λ feed. whole_step b (c ∷ cs) (lines_of (c ∷ cs)) rest feed
      | false ↦ λ other. whole_longer b c cs (lines_of (c ∷ cs)) rest
    ] refl

-- ---- pair lines

-- one pair line more in front
some_more : (l : Line) (ended : Bool) (pairs : Option (List Line))
    → is_some (if ended then option_map (λ ps. l ∷ ps) pairs else None) ≡ is_some (if ended then pairs else None)
some_more l true (Some ps) = refl
some_more l true None = refl
some_more l false pairs = refl

pub next_all : (ns : Numbering) (text line rest : Text) (l : Line) → is_ended text ≡ is_ended rest → lines_of text ≡ line ∷ lines_of rest
    → line_of ns line ≡ Some l → is_some (pairs_at ns text) ≡ is_some (pairs_at ns rest)
next_all ns text line rest l e lines is = rw (e, lines, is) (some_more l (is_ended rest) (pairs_in ns (lines_of rest)))

are_step : (o : Option Line) (all : Option (List Line)) (is : Bool) (ls ps : List Line)
    → ((qs : List Line) → all ≡ Some qs → ls ≡ qs)
    → option_map_or (λ l. option_map (λ qs. l ∷ qs) all) o (if is then Some [] else None) ≡ Some ps
    → option_map_or (λ l. l ∷ ls) o [] ≡ ps
are_step None all true ls ps h e = grind arith
are_step None all false ls ps h e = cc
are_step (Some l) None is ls ps h e = cc
are_step (Some l) (Some qs) is ls ps h e = let same : ls ≡ qs = h qs refl in cc

-- the pairs are those in front
pub are_front : (ns : Numbering) (lines : List Text) (ps : List Line) → pairs_in ns lines ≡ Some ps → pair_lines ns lines ≡ ps
are_front ns [] ps e = cc
are_front ns (line ∷ lines) ps e = are_step (line_of ns line) (pairs_in ns lines) (is_end line lines) (pair_lines ns lines) ps (are_front ns lines) e

told : (o : Option (List Line)) (b : Bool) (ls : List Line) → ((ps : List Line) → o ≡ Some ps → ls ≡ ps) → is_some o ≡ b → o ≡ (if b then Some ls else None)
told None true ls h e = cc
told None false ls h e = refl
told (Some ps) true ls h e = ap Some (sym (h ps refl))
told (Some ps) false ls h e = cc

pub at_some : (b : Bool) (o : Option (List Line)) (ps : List Line) → (if b then o else None) ≡ Some ps → o ≡ Some ps
at_some true o ps e = e
at_some false o ps e = cc

pub pairs_told : (ns : Numbering) (text : Text) (b : Bool) → is_some (pairs_at ns text) ≡ b
    → pairs_at ns text ≡ (if b then Some (pair_lines ns (lines_of text)) else None)
pairs_told ns text b e =
    told (pairs_at ns text) b (pair_lines ns (lines_of text))
    (λ ps is. are_front ns (lines_of text) ps (at_some (is_ended text) (pairs_in ns (lines_of text)) ps is)) e

-- ---- the end

same_tests : (a b : Bool) → (a ≡ true → b ≡ true) → (b ≡ true → a ≡ true) → a ≡ b
same_tests true b f g = sym (f refl)
same_tests false true f g = g refl
same_tests false false f g = refl

pub some_true : (b : Bool) (pairs : Option (List Line)) → is_some (if b then pairs else None) ≡ true → (b ≡ true) × (is_some pairs ≡ true)
some_true true pairs e = (refl, e)
some_true false pairs e = cc

none_left : (lines : List Text) → is_empty lines ≡ true → lines ≡ []
none_left [] e = refl
none_left (l ∷ ls) e = cc

pub end_line : (line : Text) (lines : List Text) → is_end line lines ≡ true → line ∷ lines ≡ codes "end" ∷ []
end_line line lines e =
    let parts = and_parts (bytes_eq line (codes "end")) (is_empty lines) e in
    let word : line ≡ codes "end" = (bytes_eq-Decides line (codes "end")).0 parts.0 in
    let last : lines ≡ [] = none_left lines parts.1 in
    cc

end_of : (ns : Numbering) (line : Text) (lines : List Text) (o : Option Line)
    → option_map_or (λ l. l ∷ pair_lines ns lines) o [] ≡ []
    → is_some (option_map_or (λ l. option_map (λ qs. l ∷ qs) (pairs_in ns lines)) o (if is_end line lines then Some [] else None)) ≡ true
    → line ∷ lines ≡ codes "end" ∷ []
end_of ns line lines (Some l) none some = cc
end_of ns line lines None none some = end_line line lines (some_true (is_end line lines) (Some []) some).0

last_line : (ns : Numbering) (lines : List Text) → pair_lines ns lines ≡ [] → is_some (pairs_in ns lines) ≡ true → lines ≡ codes "end" ∷ []
last_line ns [] none some = cc
last_line ns (line ∷ lines) none some = end_of ns line lines (line_of ns line) none some

-- where no pair line is in front, only the last line is
pub end_is : (ns : Numbering) (text : Text) → pair_lines ns (lines_of text) ≡ [] → is_some (pairs_at ns text) ≡ bytes_eq text (codes "end" ++ 10 ∷ [])
end_is ns text none =
    same_tests (is_some (pairs_at ns text)) (bytes_eq text (codes "end" ++ 10 ∷ []))
    (λ some.
    let parts = some_true (is_ended text) (pairs_in ns (lines_of text)) some in
    (bytes_eq-Decides text (codes "end" ++ 10 ∷ [])).1 (whole text parts.0 ∙ ap (flat_map ended) (last_line ns (lines_of text) none parts.1)))
    (λ same. rw ((bytes_eq-Decides text (codes "end" ++ 10 ∷ [])).0 same) refl)
