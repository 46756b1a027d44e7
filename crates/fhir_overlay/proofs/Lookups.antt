-- Members of an object of which some may be absent: what stands under a name, and which is a choice of a stem.
use Rattle.std.proofs.Common.{◌≡◌, List, [], ◌∷◌, Bool, true, false, Option, None, Some, refl, arith, if◌then◌else◌, is_some, not, IsTrue}
use Rattle.std.specs.Prelude.{nat_eq, ◌||◌}
use Rattle.std.specs.Option.{option_or}
use Rattle.std.specs.Char.{is_ascii_uppercase}
use Rattle.std.specs.Str.{bytes_eq}
use Rattle.std.proofs.lemmas.Bool.{false≢true}
use Rattle.fhir_json.specs.Tree.{Text, Tree, Property}
use Rattle.fhir_json.specs.Fields.{field, choice_in, allows_choice, is_choice}
use Rattle.fhir_overlay.specs.Json.{member_if, object_of}
use Rattle.fhir_overlay.specs.Writable.{is_named}

-- ---- fields

-- what a member is under a name
abbrev pub taken : Text → Option Property → Option Tree
taken name None = None
taken name (Some p) = if bytes_eq name p.0 then Some p.1 else None

pub field-more : (name : Text) (m : Option Property) (ms : List (Option Property))
    → field name (object_of (m ∷ ms)) ≡ option_or (taken name m) (field name (object_of ms))
field-more name None ms = refl
field-more name (Some p) ms = grind arith

pub taken-named : (name n : Text) (value : Option Tree) → taken name (member_if n value) ≡ (if bytes_eq name n then value else None)
taken-named name n None = grind arith
taken-named name n (Some t) = refl

pub or_none : {A : Type 0} (o : Option A) → option_or o None ≡ o
or_none None = refl
or_none (Some x) = refl

-- a name that is a choice of a stem isn't one that is none
pub differs : (stem name n : Text) → is_choice stem name ≡ false → is_choice stem n ≡ true → bytes_eq name n ≡ false
differs [] [] [] other is = absurd (false≢true is)
differs [] [] (c ∷ cs) other is = refl
differs [] (b ∷ bs) [] other is = absurd (false≢true is)
differs [] (b ∷ bs) (c ∷ cs) other is = grind arith
differs (a ∷ at) [] [] other is = absurd (false≢true is)
differs (a ∷ at) [] (c ∷ cs) other is = refl
differs (a ∷ at) (b ∷ bs) [] other is = absurd (false≢true is)
differs (a ∷ at) (b ∷ bs) (c ∷ cs) other is = grind (arith, differs at bs cs)

pub taken-choice : (stem name : Text) (m : Option Property) → IsTrue (is_named stem m) → is_choice stem name ≡ false → taken name m ≡ None
taken-choice stem name None is other = refl
taken-choice stem name (Some p) is other = rw (differs stem name p.0 other is) refl

-- ---- choices

-- a member, if it is a choice of the stem
abbrev pub chosen : Text → Option Property → Option Property
chosen stem None = None
chosen stem (Some p) = if is_choice stem p.0 then Some p else None

pub choice_in-more : (stem : Text) (m : Option Property) (ms : List (Option Property))
    → choice_in stem (object_of (m ∷ ms)) ≡ option_or (chosen stem m) (choice_in stem (object_of ms))
choice_in-more stem None ms = refl
choice_in-more stem (Some p) ms = grind arith

pub allows_choice-more : (stem : Text) (m : Option Property) (ms : List (Option Property))
    → allows_choice stem (object_of (m ∷ ms))
    ≡ (if is_some (chosen stem m) then not (is_some (choice_in stem (object_of ms))) else allows_choice stem (object_of ms))
allows_choice-more stem None ms = refl
allows_choice-more stem (Some p) ms = grind arith

pub chosen-named : (stem n : Text) (value : Option Tree) → chosen stem (member_if n value) ≡ (if is_choice stem n then member_if n value else None)
chosen-named stem n None = grind arith
chosen-named stem n (Some t) = refl

pub chosen-own : (stem : Text) (m : Option Property) → IsTrue (is_named stem m) → chosen stem m ≡ m
chosen-own stem None is = refl
chosen-own stem (Some p) is = rw is refl

-- two stems of which no name is a choice of both
abbrev pub are_apart : Text → Text → Bool
are_apart [] [] = false
are_apart [] (b ∷ bs) = not (is_ascii_uppercase b)
are_apart (a ∷ at) [] = not (is_ascii_uppercase a)
are_apart (a ∷ at) (b ∷ bs) = not (nat_eq a b) || are_apart at bs

pub apart : (stem other n : Text) → are_apart stem other ≡ true → is_choice stem n ≡ true → is_choice other n ≡ false
apart [] [] n differ is = absurd (false≢true differ)
apart [] (b ∷ bs) [] differ is = absurd (false≢true is)
apart [] (b ∷ bs) (c ∷ cs) differ is = grind arith
apart (a ∷ at) [] [] differ is = absurd (false≢true is)
apart (a ∷ at) [] (c ∷ cs) differ is = grind arith
apart (a ∷ at) (b ∷ bs) [] differ is = absurd (false≢true is)
apart (a ∷ at) (b ∷ bs) (c ∷ cs) differ is = grind (arith, apart at bs cs)

pub chosen-other : (stem other : Text) (m : Option Property) → IsTrue (is_named stem m) → are_apart stem other ≡ true → chosen other m ≡ None
chosen-other stem other None is differ = refl
chosen-other stem other (Some p) is differ = rw (apart stem other p.0 differ is) refl
