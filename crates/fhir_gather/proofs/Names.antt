-- The names of the files in which definitions are written.
use Rattle.std.proofs.Common.{Ordering, Less, ◌≡◌, ℕ, zero, suc, ◌+◌, ◌/◌, ◌%◌, ◌<◌, ◌≤◌, ◌^◌, Bool, true, false, cond, not, ◌&&◌, ◌==◌, List, [], ◌∷◌, ◌++◌, map, length, take, Some}
use Rattle.std.proofs.Common.{refl, sym, ap, subst, ◌∙◌, inl, inr, arith, length-append, append_assoc}
use Rattle.std.specs.Prelude.{◌≢◌, All, slice_get, codes}
use Rattle.std.specs.List.{AllByRecursion}
use Rattle.std.specs.List.Sorted.{IsStrictlySortedBy}
use Rattle.std.specs.Map.{keys_of}
use Rattle.std.specs.Cmp.Lexicographic.{slice_cmp}
use Rattle.std.specs.Ordering.{nat_cmp}
use Rattle.std.proofs.lemmas.Bool.{cases_Bool}
use Rattle.std.proofs.lemmas.Bool.Decides.{Decides-eqb}
use Rattle.std.proofs.lemmas.Int.Digits.{length-digits_of-le}
use Rattle.std.proofs.lemmas.List.{length-map, length-take}
use Rattle.std.proofs.lemmas.List.Elements.{All-from_recursion}
use Rattle.std.proofs.lemmas.List.Folds.{list_all-append}
use Rattle.std.proofs.lemmas.Slice.Eq.{ends_is}
use Rattle.fhir_json.specs.Tree.{Text}
use Rattle.fhir_json.specs.Bytes.{minus, dot, slash, digit_zero}
use Rattle.fhir_names.specs.Texts.{lacks}
use Rattle.fhir_package.specs.declared.kind.Kind.{Kind}
use Rattle.fhir_package.specs.declared.kind.Kind.TheVariants.{StructureDefinition, ValueSet, CodeSystem}
use Rattle.fhir_package.specs.Packing.{is_json_name}
use Rattle.fhir_gather.specs.Gathering.{Taken}
use Rattle.fhir_gather.specs.Written.{last_digits, digit_count, kind_word, underscore, is_name_byte, name_byte, url_bytes, url_part, file_name, written_from, written}
use Rattle.fhir_gather.specs.Found.{IsFileName}
use Rattle.fhir_gather.proofs.Digits.{below_power, digits_rise, length-last_digits, less_behind}

abbrev by_bytes : Text → Text → Ordering
by_bytes = slice_cmp nat_cmp

-- ---- they rise

-- what stands behind the number
abbrev behind_number : Taken → Text
behind_number t = minus ∷ (kind_word t.definition.kind ++ minus ∷ (url_part t.definition.url ++ codes ".json"))

later_name : (count p q : ℕ) (t u : Taken) → p < q → q < count → by_bytes (file_name count p t) (file_name count q u) ≡ Less
later_name count p q t u h k =
    less_behind (last_digits (digit_count count) (p + 1)) (last_digits (digit_count count) (q + 1)) (behind_number t) (behind_number u)
    (length-last_digits (digit_count count) (p + 1) ∙ sym (length-last_digits (digit_count count) (q + 1)))
    (digits_rise (digit_count count) (p + 1) (q + 1) (omega arith) (omega (arith, below_power count)))

later_names : (count p q : ℕ) (t : Taken) (us : List Taken) → p < q → q + length us ≤ count
    → AllByRecursion (λ n. by_bytes (file_name count p t) n ≡ Less) (keys_of (written_from count q us))
later_names count p q t [] h k = tt
later_names count p q t (u ∷ us) h k = (later_name count p q t u h (omega arith), later_names count p (q + 1) t us (omega arith) (omega arith))

pub names_rise : (count p : ℕ) (ts : List Taken) → p + length ts ≤ count → IsStrictlySortedBy by_bytes (keys_of (written_from count p ts))
unfolding IsStrictlySortedBy
names_rise count p [] h = tt
names_rise count p (t ∷ ts) h = (later_names count p (p + 1) t ts (omega arith) (omega arith), names_rise count (p + 1) ts (omega arith))

pub rising_names : (ts : List Taken) → IsStrictlySortedBy (slice_cmp nat_cmp) (keys_of (written ts))
rising_names ts = names_rise (length ts) 0 ts (omega arith)

-- ---- what is said of one name is said of all

each_name : (P : Text → Type 0) (count p : ℕ) (ts : List Taken) → ((q : ℕ) (t : Taken) → q < count → P (file_name count q t)) → p + length ts ≤ count
    → AllByRecursion P (keys_of (written_from count p ts))
each_name P count p [] each h = tt
each_name P count p (t ∷ ts) each h = (each p t (omega arith), each_name P count (p + 1) ts each (omega arith))

all_names : (P : Text → Type 0) (ts : List Taken) → ((q : ℕ) (t : Taken) → q < length ts → P (file_name (length ts) q t)) → All P (keys_of (written ts))
all_names P ts each = All-from_recursion P (keys_of (written ts)) (each_name P (length ts) 0 ts each (omega arith))

-- ---- the bytes of a name

differs : (a b : ℕ) → a ≢ b → not (a == b) ≡ true
differs a b h = elim (cases_Bool (a == b)) [ inl is ↦ absurd (h ((Decides-eqb a b).0 is)) | inr isnt ↦ ap not isnt ]

both : (a b : Bool) → a ≡ true → b ≡ true → (a && b) ≡ true
both true b h k = k
both false b h k = absurd cc

lacks_both : (c : ℕ) (xs ys : Text) → lacks c xs ≡ true → lacks c ys ≡ true → lacks c (xs ++ ys) ≡ true
lacks_both c xs ys h k = list_all-append (λ b. not (b == c)) xs ys ∙ both (lacks c xs) (lacks c ys) h k

digits_lack : (c width n : ℕ) → c < 48 → lacks c (last_digits width n) ≡ true
digits_lack c zero n h = refl
digits_lack c (suc width) n h =
    lacks_both c (last_digits width (n / 10)) ((digit_zero + n % 10) ∷ []) (digits_lack c width (n / 10) h)
    (both (not ((digit_zero + n % 10) == c)) true (differs (digit_zero + n % 10) c (λ e. absurd (omega arith))) refl)

byte_differs : (c b : ℕ) → is_name_byte c ≡ false → underscore ≢ c → name_byte b ≢ c
byte_differs c b isnt other = by (is_name_byte b) refl
  where
    by : (is : Bool) → is_name_byte b ≡ is → cond is b underscore ≢ c
    by true is = λ e. let both_ways : true ≡ false = sym is ∙ ap is_name_byte e ∙ isnt in absurd cc
    by false is = other

url_lacks : (c : ℕ) (url : Text) → is_name_byte c ≡ false → underscore ≢ c → lacks c (map name_byte url) ≡ true
url_lacks c [] isnt other = refl
url_lacks c (b ∷ url) isnt other =
    both (not (name_byte b == c)) (lacks c (map name_byte url)) (differs (name_byte b) c (byte_differs c b isnt other)) (url_lacks c url isnt other)

name_lacks : (c count p : ℕ) (t : Taken) → c < 48 → is_name_byte c ≡ false → underscore ≢ c → ((kind : Kind) → lacks c (kind_word kind) ≡ true)
    → lacks c (codes ".json") ≡ true → lacks c (minus ∷ []) ≡ true → lacks c (file_name count p t) ≡ true
name_lacks c count p t small isnt other kinds json dash =
    lacks_both c (last_digits (digit_count count) (p + 1)) (behind_number t) (digits_lack c (digit_count count) (p + 1) (omega arith))
    (lacks_both c (minus ∷ []) (kind_word t.definition.kind ++ minus ∷ (url_part t.definition.url ++ codes ".json")) dash
    (lacks_both c (kind_word t.definition.kind) (minus ∷ (url_part t.definition.url ++ codes ".json")) (kinds t.definition.kind)
    (lacks_both c (minus ∷ []) (url_part t.definition.url ++ codes ".json") dash
    (lacks_both c (url_part t.definition.url) (codes ".json") (url_lacks c (take url_bytes t.definition.url) isnt other) json))))

kinds_lack_slash : (kind : Kind) → lacks slash (kind_word kind) ≡ true
kinds_lack_slash StructureDefinition = refl
kinds_lack_slash ValueSet = refl
kinds_lack_slash CodeSystem = refl

kinds_lack_zero : (kind : Kind) → lacks 0 (kind_word kind) ≡ true
kinds_lack_zero StructureDefinition = refl
kinds_lack_zero ValueSet = refl
kinds_lack_zero CodeSystem = refl

-- ---- its first byte

first_byte : (width n b : ℕ) (rest : Text) → b ≢ dot → slice_get (last_digits width n ++ b ∷ rest) 0 ≢ Some dot
first_byte zero n b rest h = λ e. let same : b ≡ dot = cc in h same
first_byte (suc width) n b rest h =
    subst (λ (xs : Text). slice_get xs 0 ≢ Some dot) (sym (append_assoc (last_digits width (n / 10)) ((digit_zero + n % 10) ∷ []) (b ∷ rest)))
    (first_byte width (n / 10) (digit_zero + n % 10) (b ∷ rest) (λ e. absurd (omega arith)))

-- ---- its end

abbrev before_json : ℕ → ℕ → Taken → Text
before_json count p t = last_digits (digit_count count) (p + 1) ++ minus ∷ (kind_word t.definition.kind ++ minus ∷ url_part t.definition.url)

ends : (a b c d : Text) (x y : ℕ) → a ++ x ∷ (b ++ y ∷ (c ++ d)) ≡ (a ++ x ∷ (b ++ y ∷ c)) ++ d
ends a b c d x y =
    ap (λ (r : Text). a ++ x ∷ r) (sym (append_assoc b (y ∷ c) d)) ∙ sym (append_assoc a (x ∷ (b ++ y ∷ c)) d)

pub json_at_end : (count p : ℕ) (t : Taken) → is_json_name (file_name count p t) ≡ true
json_at_end count p t =
    (ends_is Decides-eqb (file_name count p t) (codes ".json") (is_json_name (file_name count p t)) refl).1 (before_json count p t)
    (ends (last_digits (digit_count count) (p + 1)) (kind_word t.definition.kind) (url_part t.definition.url) (codes ".json") minus minus)

plain_name : (count p : ℕ) (t : Taken) → IsFileName (file_name count p t)
plain_name count p t = record {
  is_json = json_at_end count p t;
  no_slash = name_lacks slash count p t (omega arith) refl (λ e. absurd (omega arith)) kinds_lack_slash refl refl;
  no_zero = name_lacks 0 count p t (omega arith) refl (λ e. absurd (omega arith)) kinds_lack_zero refl refl;
  not_hidden = first_byte (digit_count count) (p + 1) minus (kind_word t.definition.kind ++ minus ∷ (url_part t.definition.url ++ codes ".json")) (λ e. absurd (omega arith));
}

pub plain_names : (ts : List Taken) → All IsFileName (keys_of (written ts))
plain_names ts = all_names IsFileName ts (λ q t h. plain_name (length ts) q t)

-- ---- its length

kind_length : (kind : Kind) → length (kind_word kind) ≤ 19
kind_length StructureDefinition = omega arith
kind_length ValueSet = omega arith
kind_length CodeSystem = omega arith

url_length : (url : Text) → length (url_part url) ≤ 150
url_length url = omega (arith, length-map (take url_bytes url) name_byte, length-take url_bytes url)

short_name : (count p : ℕ) (t : Taken) → digit_count count ≤ 79 → length (file_name count p t) ≤ 255
short_name count p t h =
    let digits = last_digits (digit_count count) (p + 1) in
    let kind = kind_word t.definition.kind in
    let url = url_part t.definition.url in
    omega (
      arith,
      length-append digits (behind_number t),
      length-append kind (minus ∷ (url ++ codes ".json")),
      length-append url (codes ".json"),
      length-last_digits (digit_count count) (p + 1),
      kind_length t.definition.kind,
      url_length t.definition.url,
    )

pub short_names : (ts : List Taken) → length ts < 10 ^ 79 → All (λ n. length n ≤ 255) (keys_of (written ts))
short_names ts few = all_names (λ n. length n ≤ 255) ts (λ q t h. short_name (length ts) q t (length-digits_of-le 10 79 (length ts) (omega arith) few))
