-- No refusal lies outside the text.
use Rattle.std.proofs.Common.{◌≡◌, ℕ, zero, suc, ◌-◌, ◌≤◌, Bool, true, false, cond, eqb, ltb, ◌&&◌, List, [], ◌∷◌, ◌++◌, length, drop, Option, Some, None, Result, Ok, Err, refl}
use Rattle.std.proofs.Common.{subst, arith}
use Rattle.std.specs.Prelude.{IfErr, codes, nat_eq}
use Rattle.std.specs.List.{starts_with}
use Rattle.std.specs.Str.{is_utf8}
use Rattle.std.specs.Str.Lossy.{utf8_valid_len}
use Rattle.std.proofs.lemmas.Bool.{and_parts, eqb-true}
use Rattle.std.proofs.lemmas.List.{length-append, length-drop}
use Rattle.fhir_json.specs.declared.json.Json.{Json}
use Rattle.fhir_json.specs.declared.refusal.Expected.TheVariants.{Utf8, OtherHalf, Colon}
use Rattle.fhir_json.specs.declared.refusal.Refusal.{Refusal}
use Rattle.fhir_json.specs.Refusals.{fault_met, unmet}
use Rattle.fhir_json.specs.Tree.{Tree, string, array, object, Property, items_of, members_of, names}
use Rattle.fhir_json.specs.Views.{tree_of}
use Rattle.fhir_json.specs.Memory.{GivesOr, IsFault}
use Rattle.fhir_json.specs.Number.{after_number}
use Rattle.fhir_json.specs.Strings.{short_escape, code_unit, is_high, is_low}
use Rattle.fhir_json.specs.Sound.{is_among, max_depth}
use Rattle.fhir_json.specs.Grammar.{mark}
use Rattle.fhir_json.specs.Reading.{is_no_memory, is_want_of_memory, ◌>>=◌, Parse, under, after_blanks, or_fault, with_rest, unit_at, low_half, low_at, unicode_at}
use Rattle.fhir_json.specs.Reading.{escape_at, text_at, string_at, number_before, number_at, word_at, part_end, parts_at, list_or_empty as list_opened, list_at, name_at}
use Rattle.fhir_json.specs.Reading.{behind_colon, member_at, value_by_first, too_deep, value_at, tree_at_end, tree_at, text_behind_mark, placed_reading}
use Rattle.fhir_json.proofs.Takes.{blanks_stand}

-- ---- steps

-- no more than n bytes are left, where it was read and where it was refused
abbrev IsWithin : {A : Type 0} → ℕ → Result (A × List ℕ) Refusal → Type 0
IsWithin n (Ok x) = length x.1 ≤ n
IsWithin n (Err refusal) = refusal.left ≤ n

within_more : {A : Type 0} (n m : ℕ) (r : Result (A × List ℕ) Refusal) → n ≤ m → IsWithin n r → IsWithin m r
within_more n m (Ok x) le h = omega arith
within_more n m (Err d) le h = omega arith

within_bind : {A B : Type 0} (n : ℕ) (r : Result (A × List ℕ) Refusal) (f : A × List ℕ → Result (B × List ℕ) Refusal) → IsWithin n r
    → ((x : A × List ℕ) → length x.1 ≤ n → IsWithin n (f x)) → IsWithin n (r >>= f)
within_bind n (Ok x) f h next = next x h
within_bind n (Err d) f h next = h

within_under : {A B : Type 0} (n : ℕ) (f : A → B) (r : Result (A × List ℕ) Refusal) → IsWithin n r → IsWithin n (under f r)
within_under n f (Ok x) h = h
within_under n f (Err d) h = h

either_within : {A : Type 0} (n : ℕ) (b : Bool) (x y : Result (A × List ℕ) Refusal) → IsWithin n x → IsWithin n y → IsWithin n (cond b x y)
either_within n true x y h k = h
either_within n false x y h k = k

blanks_shorter : (bs : List ℕ) → length (after_blanks bs) ≤ length bs
blanks_shorter bs = let blanks = blanks_stand bs in omega (arith, length-append blanks.0 (after_blanks bs), subst (λ (w : List ℕ). length bs ≡ length w) blanks.1 refl)

-- ---- strings

rest_within : {A : Type 0} (n : ℕ) (d : Refusal) (o : Option A) (bs : List ℕ) → length bs ≤ n → d.left ≤ n → IsWithin n (or_fault d (with_rest o bs))
rest_within n d (Some x) bs h k = h
rest_within n d None bs h k = k

unit_within : (n : ℕ) (d : Refusal) (bs : List ℕ) → length bs ≤ n → d.left ≤ n → IsWithin n (or_fault d (unit_at bs))
unfolding unit_at
unit_within n d [] h k = k
unit_within n d (a ∷ []) h k = k
unit_within n d (a ∷ b ∷ []) h k = k
unit_within n d (a ∷ b ∷ c ∷ []) h k = k
unit_within n d (a ∷ b ∷ c ∷ e ∷ bs) h k = rest_within n d (code_unit a b c e) bs (omega arith) k

half_within : (high : ℕ) (bs : List ℕ) (o : Option (ℕ × List ℕ)) → IsWithin (length bs) (or_fault (unmet OtherHalf bs) o)
    → IsWithin (length bs) (low_half high bs o)
half_within high bs None h = h
half_within high bs (Some low) h = either_within (length bs) (is_low low.0) _ _ h (omega arith)

low_within : (high : ℕ) (bs : List ℕ) → IsWithin (length bs) (low_at high bs)
unfolding low_at
low_within high [] = omega arith
low_within high (a ∷ []) = omega arith
low_within high (a ∷ b ∷ bs) =
    let n = suc (suc (length bs)) in
    either_within n (eqb a 92 && eqb b 117) _ _
    (half_within high (a ∷ b ∷ bs) (unit_at bs) (unit_within n (unmet OtherHalf (a ∷ b ∷ bs)) bs (omega arith) (omega arith))) (omega arith)

unicode_within : (bs : List ℕ) → IsWithin (length bs) (unicode_at bs)
unfolding unicode_at
unicode_within bs =
    within_bind (length bs) (or_fault _ (unit_at bs)) _ (unit_within (length bs) _ bs (omega arith) (omega arith))
    (λ u h. either_within (length bs) (is_high u.0) _ _ (within_more (length u.1) (length bs) (low_at u.0 u.1) h (low_within u.0 u.1))
    (either_within (length bs) (is_low u.0) _ _ (omega arith) h))

escape_within : (bs : List ℕ) → IsWithin (length bs) (escape_at bs)
unfolding escape_at
escape_within [] = omega arith
escape_within (b ∷ bs) =
    let n = suc (length bs) in
    either_within n (eqb b 117) _ _ (within_more (length bs) n (unicode_at bs) (omega arith) (unicode_within bs))
    (within_under n _ _ (rest_within n _ (short_escape b) bs (omega arith) (omega arith)))

text_within : (n : ℕ) (bs : List ℕ) → IsWithin (length bs) (text_at n bs)
unfolding text_at
text_within zero bs = omega arith
text_within (suc n) [] = omega arith
text_within (suc n) (b ∷ bs) =
    let all = suc (length bs) in
    either_within all (eqb b 34) _ _ (omega arith)
    (either_within all (eqb b 92) _ _
    (within_bind all (escape_at bs) _ (within_more (length bs) all (escape_at bs) (omega arith) (escape_within bs))
    (λ c h. within_under all _ _ (within_more (length c.1) all (text_at n c.1) h (text_within n c.1))))
    (either_within all (ltb b 32) _ _ (omega arith) (within_under all _ _ (within_more (length bs) all (text_at n bs) (omega arith) (text_within n bs)))))

string_within : (bs : List ℕ) → IsWithin (length bs) (string_at bs)
unfolding string_at
string_within [] = omega arith
string_within (b ∷ bs) =
    let all = suc (length bs) in
    either_within all (eqb b 34) _ _ (within_more (length bs) all (text_at (length bs) bs) (omega arith) (text_within (length bs) bs)) (omega arith)

-- ---- words

number_within : (bs : List ℕ) → IsWithin (length bs) (number_at bs)
unfolding number_at
number_within bs = at (after_number bs)
  where
    at : (o : Option (List ℕ)) → IsWithin (length bs) (number_before bs o)
    at None = omega arith
    at (Some rest) = omega (arith, length-drop {A = ℕ})

word_within : (bs : List ℕ) → IsWithin (length bs) (word_at bs)
unfolding word_at
word_within bs =
    let n = length bs in
    either_within n (starts_with nat_eq bs (codes "null")) _ _ (omega (arith, length-drop 4 bs))
    (either_within n (starts_with nat_eq bs (codes "true")) _ _ (omega (arith, length-drop 4 bs))
    (either_within n (starts_with nat_eq bs (codes "false")) _ _ (omega (arith, length-drop 5 bs)) (number_within bs)))

-- ---- lists

module _ {A : Type 0} (close : ℕ) (part : List A → Parse A) (part_within : (front : List A) (bs : List ℕ) → IsWithin (length bs) (part front bs)) where
  end_within : (n : ℕ) (over more : Parse (List A)) (at : List ℕ) → length at ≤ n → ((rest : List ℕ) → length rest ≤ n → IsWithin n (over rest))
      → ((rest : List ℕ) → length rest ≤ n → IsWithin n (more rest)) → IsWithin n (part_end close over more at)
  end_within n over more [] h ends goes_on = omega arith
  end_within n over more (b ∷ at) h ends goes_on =
      either_within n (eqb b close) _ _ (ends at (omega arith)) (either_within n (eqb b 44) _ _ (goes_on at (omega arith)) h)

  parts_within : (n : ℕ) (front : List A) (bs : List ℕ) → IsWithin (length bs) (parts_at close part n front bs)
  unfolding parts_at
  parts_within zero front bs = omega arith
  parts_within (suc n) front bs =
      let all = length bs in
      within_bind all (part front bs) _ (part_within front bs)
      (λ t h. end_within all _ _ (after_blanks t.1) (omega (arith, blanks_shorter t.1)) (λ rest k. k)
      (λ rest k. within_more (length rest) all (parts_at close part n (front ++ t.0 ∷ []) rest) k (parts_within n (front ++ t.0 ∷ []) rest)))

  list_within : (bs : List ℕ) → IsWithin (length bs) (list_at close part bs)
  unfolding list_at
  list_within bs = at (after_blanks bs) (blanks_shorter bs)
    where
      at : (rest : List ℕ) → length rest ≤ length bs
          → IsWithin (length bs) (list_opened close (parts_at close part (suc (length bs)) []) rest)
      at [] h = omega arith
      at (b ∷ rest) h =
          either_within (length bs) (eqb b close) _ _ (omega arith)
          (within_more (suc (length rest)) (length bs) (parts_at close part (suc (length bs)) [] (b ∷ rest)) h (parts_within (suc (length bs)) [] (b ∷ rest)))

-- ---- members

name_within : (front : List Property) (bs : List ℕ) → IsWithin (length bs) (name_at front bs)
unfolding name_at
name_within front bs =
    let shorter = blanks_shorter bs in
    within_bind (length bs) (string_at (after_blanks bs)) _
    (within_more (length (after_blanks bs)) (length bs) (string_at (after_blanks bs)) shorter (string_within (after_blanks bs)))
    (λ name h. either_within (length bs) (is_among name.0 (names (members_of front))) _ _ shorter h)

-- behind a colon
colon_bind : {B : Type 0} (n : ℕ) (at : List ℕ) (f : List ℕ → Result (B × List ℕ) Refusal) → length at ≤ n
    → ((rest : List ℕ) → length rest ≤ n → IsWithin n (f rest)) → IsWithin n (behind_colon at >>= f)
colon_bind n [] f h next = omega arith
colon_bind n (b ∷ at) f h next = go (eqb b 58)
  where
    go : (c : Bool) → IsWithin n (cond c (Ok at) (Err (unmet Colon (b ∷ at))) >>= f)
    go true = next at (omega arith)
    go false = h

member_within : (value : Parse Tree) → ((bs : List ℕ) → IsWithin (length bs) (value bs)) → (front : List Property) (bs : List ℕ)
    → IsWithin (length bs) (member_at value front bs)
unfolding member_at
member_within value value_within front bs =
    let n = length bs in
    within_bind n (name_at front bs) _ (name_within front bs)
    (λ name h. colon_bind n (after_blanks name.1) _ (omega (arith, blanks_shorter name.1))
    (λ rest k. within_bind n (value rest) _ (within_more (length rest) n (value rest) k (value_within rest)) (λ t j. j)))

-- ---- values

begun_within : (items : Parse (List Tree)) (members : Parse (List Property)) → ((bs : List ℕ) → IsWithin (suc (length bs)) (items bs))
    → ((bs : List ℕ) → IsWithin (suc (length bs)) (members bs)) → (at : List ℕ) → IsWithin (length at) (value_by_first items members at)
begun_within items members h k [] = omega arith
begun_within items members h k (b ∷ at) =
    let n = suc (length at) in
    either_within n (eqb b 34) _ _ (within_under n string (string_at (b ∷ at)) (string_within (b ∷ at)))
    (either_within n (eqb b 91) _ _ (within_under n (λ ts. array (items_of ts)) (items at) (h at))
    (either_within n (eqb b 123) _ _ (within_under n (λ ms. object (members_of ms)) (members at) (k at)) (word_within (b ∷ at))))

value_within : (d : ℕ) (bs : List ℕ) → IsWithin (length bs) (value_at d bs)
unfolding value_at
value_within zero bs =
    within_more (length (after_blanks bs)) (length bs) (value_by_first too_deep too_deep (after_blanks bs)) (blanks_shorter bs)
    (begun_within too_deep too_deep (λ rest. omega arith) (λ rest. omega arith) (after_blanks bs))
value_within (suc d) bs =
    let value = λ (rest : List ℕ). value_within d rest in
    let items = list_at 93 (λ front. value_at d) in
    let members = list_at 125 (member_at (value_at d)) in
    within_more (length (after_blanks bs)) (length bs) (value_by_first items members (after_blanks bs)) (blanks_shorter bs)
    (begun_within items members
    (λ rest. within_more (length rest) (suc (length rest)) (items rest) (omega arith) (list_within 93 (λ front. value_at d) (λ front. value) rest))
    (λ rest. within_more (length rest) (suc (length rest)) (members rest) (omega arith)
    (list_within 125 (member_at (value_at d)) (member_within (value_at d) value) rest))
    (after_blanks bs))

-- ---- whole texts

-- no more than n bytes are left where it was refused
abbrev IsRefusedWithin : {A : Type 0} → ℕ → Result A Refusal → Type 0
IsRefusedWithin n (Ok x) = Unit {0}
IsRefusedWithin n (Err refusal) = refusal.left ≤ n

tree_within : (n : ℕ) (bs : List ℕ) → length bs ≤ n → IsRefusedWithin n (tree_at bs)
unfolding tree_at
tree_within n bs h = at (value_at max_depth bs) (within_more (length bs) n (value_at max_depth bs) h (value_within max_depth bs))
  where
    ends : (t : Tree) (rest : List ℕ) → length rest ≤ n → IsRefusedWithin n (tree_at_end t rest)
    ends t [] k = tt
    ends t (b ∷ rest) k = k

    at : (r : Result (Tree × List ℕ) Refusal) → IsWithin n r → IsRefusedWithin n (r >>= λ t. tree_at_end t.0 (after_blanks t.1))
    at (Ok t) k = ends t.0 (after_blanks t.1) (omega (arith, blanks_shorter t.1))
    at (Err d) k = k

placed_within : (bytes : List ℕ) → IsRefusedWithin (length bytes) (placed_reading bytes)
unfolding placed_reading
placed_within bytes = go (is_utf8 bytes) (record { expected = Utf8; left = length bytes - utf8_valid_len bytes }) (omega arith)
  where
    behind : (b : Bool) → length (cond b (drop 3 bytes) bytes) ≤ length bytes
    behind true = omega (arith, length-drop 3 bytes)
    behind false = omega arith

    go : (b : Bool) (d : Refusal) → d.left ≤ length bytes → IsRefusedWithin (length bytes) (cond b (tree_at (text_behind_mark bytes)) (Err d))
    go true d h = tree_within (length bytes) (text_behind_mark bytes) (behind (starts_with nat_eq bytes mark))
    go false d h = h

-- a refusal of the reader lies within the bytes, and want of memory leaves none
pub left_within : (bytes : List ℕ) (r : Result Json Refusal) → GivesOr is_want_of_memory tree_of r (placed_reading bytes)
    → IfErr r (λ refusal. refusal.left ≤ length bytes)
left_within bytes (Ok json) h = tt
left_within bytes (Err d) h = at (is_want_of_memory d) refl h
  where
    at : (b : Bool) → is_want_of_memory d ≡ b → IsFault b d (placed_reading bytes) → d.left ≤ length bytes
    at true is h = let none = eqb-true d.left 0 (and_parts (is_no_memory (fault_met d)) (eqb d.left 0) is).1 in omega arith
    at false isnt h = subst (IsRefusedWithin (length bytes)) h (placed_within bytes)
