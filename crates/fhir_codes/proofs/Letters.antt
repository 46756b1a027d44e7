-- The sets of the worked package, by what they have.
use Rattle.std.proofs.Common.{◌≡◌, List, [], ◌∷◌, Bool, true, false, not, ◌&&◌, ◌||◌, codes, refl, sym, ◌∙◌, ap}
use mathlib.Core.Bool.{false≢true}
use Rattle.std.specs.List.{list_any}
use Rattle.std.specs.FinSet as set
use Rattle.std.specs.Str.{bytes_eq}
use Rattle.std.proofs.lemmas.Slice.Eq.{bytes_eq-Decides}
use Rattle.fhir_json.specs.Tree.{Text}
use Rattle.fhir_codes.specs.Concepts.{Concept, Concepts, union_of, common}
use Rattle.fhir_codes.specs.Example.{letters, set_of}
use Rattle.fhir_codes.proofs.Members.{concept_total, has, one_set, has-of_system, has-union_of, has-common}

-- two codes that differ aren't both the same
apart : (x a b : Text) (p q : Bool) → bytes_eq x a ≡ p → bytes_eq x b ≡ q → bytes_eq a b ≡ false → (p && q) ≡ false
apart x a b true true hp hq ne =
    absurd (false≢true (sym ne ∙ ap (λ y. bytes_eq y b) (sym ((bytes_eq-Decides x a).0 hp)) ∙ hq))
apart x a b true false hp hq ne = refl
apart x a b false q hp hq ne = refl

-- what a difference of unions has
has_less : (ss ts : List Concepts) (c : Concept) → has (set.difference (union_of ss) (union_of ts)) c ≡ (list_any (λ s. has s c) ss && not (list_any (λ s. has s c) ts))
has_less ss ts c =
    set.contains-difference concept_total (union_of ss) (union_of ts) c
    ∙ ap (λ b. b && not (has (union_of ts) c)) (has-union_of ss c)
    ∙ ap (λ b. list_any (λ s. has s c) ss && not b) (has-union_of ts c)

whole : (x : Bool) → ((x || false) && true) ≡ x
whole true = refl
whole false = refl

pub all_of : (s : Concepts) → set.difference (union_of (s ∷ [])) (union_of []) ≡ s
all_of s = one_set (set.difference (union_of (s ∷ [])) (union_of [])) s (λ c. has_less (s ∷ []) [] c ∙ whole (has s c))

less_b : (s a b c : Bool) → (a && b) ≡ false → (c && b) ≡ false → (((s && (a || (b || (c || false)))) || false) && not ((s && (b || false)) || false)) ≡ (s && (a || (c || false)))
less_b false a b c h k = refl
less_b true true true c h k = absurd (false≢true (sym h))
less_b true true false c h k = refl
less_b true false true true h k = absurd (false≢true (sym k))
less_b true false true false h k = refl
less_b true false false true h k = refl
less_b true false false false h k = refl

pub without_b : set.difference (union_of (set_of (codes "a" ∷ codes "b" ∷ codes "c" ∷ []) ∷ [])) (union_of (set_of (codes "b" ∷ []) ∷ [])) ≡ set_of (codes "a" ∷ codes "c" ∷ [])
without_b =
    one_set (set.difference (union_of (set_of (codes "a" ∷ codes "b" ∷ codes "c" ∷ []) ∷ [])) (union_of (set_of (codes "b" ∷ []) ∷ []))) (set_of (codes "a" ∷ codes "c" ∷ [])) (λ c.
    has_less (set_of (codes "a" ∷ codes "b" ∷ codes "c" ∷ []) ∷ []) (set_of (codes "b" ∷ []) ∷ []) c
    ∙ ap (λ x. (x || false) && not (has (set_of (codes "b" ∷ [])) c || false)) (has-of_system letters (codes "a" ∷ codes "b" ∷ codes "c" ∷ []) c)
    ∙ ap (λ x. ((bytes_eq c.system letters && list_any (bytes_eq c.code) (codes "a" ∷ codes "b" ∷ codes "c" ∷ [])) || false) && not (x || false)) (has-of_system letters (codes "b" ∷ []) c)
    ∙ less_b (bytes_eq c.system letters) (bytes_eq c.code (codes "a")) (bytes_eq c.code (codes "b")) (bytes_eq c.code (codes "c"))
    (apart c.code (codes "a") (codes "b") (bytes_eq c.code (codes "a")) (bytes_eq c.code (codes "b")) refl refl refl)
    (apart c.code (codes "c") (codes "b") (bytes_eq c.code (codes "c")) (bytes_eq c.code (codes "b")) refl refl refl)
    ∙ sym (has-of_system letters (codes "a" ∷ codes "c" ∷ []) c))

both_a : (s a b d : Bool) → (a && b) ≡ false → ((((s && (a || (b || false))) && ((((s && (a || (b || (d || false)))) || false) && true) && true)) || false) && not ((s && (b || false)) || false)) ≡ (s && (a || false))
both_a false a b d h = refl
both_a true true true d h = absurd (false≢true (sym h))
both_a true true false d h = refl
both_a true false true d h = refl
both_a true false false true h = refl
both_a true false false false h = refl

abbrev ab : Concepts
ab = set_of (codes "a" ∷ codes "b" ∷ [])

abbrev abd : Concepts
abd = set_of (codes "a" ∷ codes "b" ∷ codes "d" ∷ [])

abbrev only : Concepts
only = set_of (codes "b" ∷ [])

abbrev other : Concepts
other = set.difference (union_of (abd ∷ [])) (union_of [])

has_other : (c : Concept) → has other c ≡ (((bytes_eq c.system letters && (bytes_eq c.code (codes "a") || (bytes_eq c.code (codes "b") || (bytes_eq c.code (codes "d") || false)))) || false) && true)
has_other c = has_less (abd ∷ []) [] c ∙ ap (λ x. (x || false) && true) (has-of_system letters (codes "a" ∷ codes "b" ∷ codes "d" ∷ []) c)

-- what a and b have in common with the other
abbrev inner : Concept → Bool
inner c =
    (bytes_eq c.system letters && (bytes_eq c.code (codes "a") || (bytes_eq c.code (codes "b") || false)))
    && ((((bytes_eq c.system letters && (bytes_eq c.code (codes "a") || (bytes_eq c.code (codes "b") || (bytes_eq c.code (codes "d") || false)))) || false) && true) && true)

pub common_a : set.difference (union_of (common (ab ∷ other ∷ []) ∷ [])) (union_of (only ∷ [])) ≡ set_of (codes "a" ∷ [])
common_a =
    one_set (set.difference (union_of (common (ab ∷ other ∷ []) ∷ [])) (union_of (only ∷ []))) (set_of (codes "a" ∷ [])) (λ c.
    has_less (common (ab ∷ other ∷ []) ∷ []) (only ∷ []) c
    ∙ ap (λ x. (x || false) && not (has only c || false))
    (has-common ab (other ∷ []) c
    ∙ ap (λ x. x && (has other c && true)) (has-of_system letters (codes "a" ∷ codes "b" ∷ []) c)
    ∙ ap (λ x. (bytes_eq c.system letters && list_any (bytes_eq c.code) (codes "a" ∷ codes "b" ∷ [])) && (x && true)) (has_other c))
    ∙ ap (λ x. (inner c || false) && not (x || false)) (has-of_system letters (codes "b" ∷ []) c)
    ∙ both_a (bytes_eq c.system letters) (bytes_eq c.code (codes "a")) (bytes_eq c.code (codes "b")) (bytes_eq c.code (codes "d"))
    (apart c.code (codes "a") (codes "b") (bytes_eq c.code (codes "a")) (bytes_eq c.code (codes "b")) refl refl refl)
    ∙ sym (has-of_system letters (codes "a" ∷ []) c))

either : (s a c : Bool) → (((s && (a || false)) || ((s && (c || false)) || false)) && true) ≡ (s && (a || (c || false)))
either false a c = refl
either true true c = refl
either true false true = refl
either true false false = refl

pub united_a_c : set.difference (union_of (set_of (codes "a" ∷ []) ∷ set_of (codes "c" ∷ []) ∷ [])) (union_of []) ≡ set_of (codes "a" ∷ codes "c" ∷ [])
united_a_c =
    one_set (set.difference (union_of (set_of (codes "a" ∷ []) ∷ set_of (codes "c" ∷ []) ∷ [])) (union_of [])) (set_of (codes "a" ∷ codes "c" ∷ [])) (λ c.
    has_less (set_of (codes "a" ∷ []) ∷ set_of (codes "c" ∷ []) ∷ []) [] c
    ∙ ap (λ x. (x || (has (set_of (codes "c" ∷ [])) c || false)) && true) (has-of_system letters (codes "a" ∷ []) c)
    ∙ ap (λ x. ((bytes_eq c.system letters && (bytes_eq c.code (codes "a") || false)) || (x || false)) && true) (has-of_system letters (codes "c" ∷ []) c)
    ∙ either (bytes_eq c.system letters) (bytes_eq c.code (codes "a")) (bytes_eq c.code (codes "c"))
    ∙ sym (has-of_system letters (codes "a" ∷ codes "c" ∷ []) c))

less_other : (s a b c d : Bool) → (a && c) ≡ false → (b && c) ≡ false → (d && c) ≡ false
    → (((s && (a || (b || (c || false)))) || false) && not ((((s && (a || (b || (d || false)))) || false) && true) || false)) ≡ (s && (c || false))
less_other false a b c d h k l = refl
less_other true true b true d h k l = absurd (false≢true (sym h))
less_other true true b false d h k l = refl
less_other true false true true d h k l = absurd (false≢true (sym k))
less_other true false true false d h k l = refl
less_other true false false true true h k l = absurd (false≢true (sym l))
less_other true false false true false h k l = refl
less_other true false false false true h k l = refl
less_other true false false false false h k l = refl

abbrev abc : Concepts
abc = set_of (codes "a" ∷ codes "b" ∷ codes "c" ∷ [])

pub without_other_c : set.difference (union_of (abc ∷ [])) (union_of (other ∷ [])) ≡ set_of (codes "c" ∷ [])
without_other_c =
    one_set (set.difference (union_of (abc ∷ [])) (union_of (other ∷ []))) (set_of (codes "c" ∷ [])) (λ c.
    has_less (abc ∷ []) (other ∷ []) c
    ∙ ap (λ x. (x || false) && not (has other c || false)) (has-of_system letters (codes "a" ∷ codes "b" ∷ codes "c" ∷ []) c)
    ∙ ap (λ x. ((bytes_eq c.system letters && list_any (bytes_eq c.code) (codes "a" ∷ codes "b" ∷ codes "c" ∷ [])) || false) && not (x || false)) (has_other c)
    ∙ less_other (bytes_eq c.system letters) (bytes_eq c.code (codes "a")) (bytes_eq c.code (codes "b")) (bytes_eq c.code (codes "c")) (bytes_eq c.code (codes "d"))
    (apart c.code (codes "a") (codes "c") (bytes_eq c.code (codes "a")) (bytes_eq c.code (codes "c")) refl refl refl)
    (apart c.code (codes "b") (codes "c") (bytes_eq c.code (codes "b")) (bytes_eq c.code (codes "c")) refl refl refl)
    (apart c.code (codes "d") (codes "c") (bytes_eq c.code (codes "d")) (bytes_eq c.code (codes "c")) refl refl refl)
    ∙ sym (has-of_system letters (codes "c" ∷ []) c))
