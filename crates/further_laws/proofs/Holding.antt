-- What holds of values that may be absent, and of each element of a list.
use Rattle.std.proofs.Common.{Bool, true, false, List, [], ◌∷◌, ◌++◌, map, Option, None, Some}
use Rattle.std.specs.Prelude.{IfSome}
use Rattle.std.specs.Option.{option_map, option_and_then}
use Rattle.std.specs.List.{AllByRecursion}
use Rattle.fhir_instance.specs.Typing.{both, joined, where_true}

-- ---- what holds of a value, if there is one

-- what follows for its image holds of that
pub if_mapped : {A B : Type 0} (P : A → Type 0) (Q : B → Type 0) (f : A → B) → ((x : A) → P x → Q (f x))
    → (o : Option A) → IfSome o P → IfSome (option_map f o) Q
if_mapped P Q f step None holds = tt
if_mapped P Q f step (Some x) holds = step x holds

-- what follows for the value that it gives holds of that
pub if_then : {A B : Type 0} (P : A → Type 0) (Q : B → Type 0) (f : A → Option B) → ((x : A) → P x → IfSome (f x) Q)
    → (o : Option A) → IfSome o P → IfSome (option_and_then f o) Q
if_then P Q f step None holds = tt
if_then P Q f step (Some x) holds = step x holds

-- what holds of whatever a value gives holds of what this one gives
pub any_then : {A B : Type 0} (Q : B → Type 0) (f : A → Option B) → ((x : A) → IfSome (f x) Q) → (o : Option A)
    → IfSome (option_and_then f o) Q
any_then Q f step None = tt
any_then Q f step (Some x) = step x

-- what holds of a value holds of it where it is there on a condition
pub if_true : {A : Type 0} (P : A → Type 0) (b : Bool) (x : A) → P x → IfSome (where_true b x) P
if_true P true x holds = holds
if_true P false x holds = tt

-- ---- what holds of each element

-- what holds in two lists holds in both together
each_of_two : {A : Type 0} (P : A → Type 0) (xs ys : List A) → AllByRecursion P xs → AllByRecursion P ys → AllByRecursion P (xs ++ ys)
each_of_two P [] ys each more = more
each_of_two P (x ∷ xs) ys each more = (each.0, each_of_two P xs ys each.1 more)

-- the same, where a list may be absent
each_of_both : {A : Type 0} (P : A → Type 0) (a b : Option (List A)) → IfSome a (AllByRecursion P) → IfSome b (AllByRecursion P)
    → IfSome (both a b) (AllByRecursion P)
each_of_both P None b each more = tt
each_of_both P (Some xs) None each more = tt
each_of_both P (Some xs) (Some ys) each more = each_of_two P xs ys each more

-- what holds in each list that an element gives holds in all of them together
pub each_of_joined : {X A : Type 0} (P : A → Type 0) (f : X → Option (List A)) (xs : List X)
    → AllByRecursion (λ x. IfSome (f x) (AllByRecursion P)) xs → IfSome (joined (map f xs)) (AllByRecursion P)
each_of_joined P f [] each = tt
each_of_joined P f (x ∷ xs) each = each_of_both P (f x) (joined (map f xs)) each.0 (each_of_joined P f xs each.1)

-- what follows for the images of elements holds of those
pub each_of_map : {X A : Type 0} (P : X → Type 0) (Q : A → Type 0) (f : X → A) → ((x : X) → P x → Q (f x))
    → (xs : List X) → AllByRecursion P xs → AllByRecursion Q (map f xs)
each_of_map P Q f step [] each = tt
each_of_map P Q f step (x ∷ xs) each = (step x each.0, each_of_map P Q f step xs each.1)

-- what follows for elements holds of them
pub each_then : {A : Type 0} (P Q : A → Type 0) → ((x : A) → P x → Q x) → (xs : List A) → AllByRecursion P xs → AllByRecursion Q xs
each_then P Q step [] each = tt
each_then P Q step (x ∷ xs) each = (step x each.0, each_then P Q step xs each.1)

-- what holds of anything holds of elements
pub each_of_any : {A : Type 0} (P : A → Type 0) → ((x : A) → P x) → (xs : List A) → AllByRecursion P xs
each_of_any P step [] = tt
each_of_any P step (x ∷ xs) = (step x, each_of_any P step xs)
