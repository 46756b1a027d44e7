-- Laws of the order of elements.
use Rattle.std.proofs.Common.{◌≡◌, arith, length, reverse, List, [], ◌∷◌, ◌++◌, map, Bool, true, false, Option, Some, None, is_some, refl, ap, sym, ◌∙◌, subst, String, string_bytes}
use Rattle.std.specs.Map.{lookup}
use Rattle.std.specs.Str.{bytes_eq}
use Rattle.std.specs.Option.{option_map_or}
use Rattle.std.proofs.lemmas.Bool.{false≢true}
use Rattle.std.proofs.lemmas.Option.{none-some}
use Rattle.std.proofs.lemmas.List.{append_assoc, reverse-append}
use Rattle.fhir_json.specs.Tree.{Text}
use Rattle.fhir_elements.specs.Element.{Element}
use Rattle.fhir_package.specs.Definitions.{Definitions}
use Rattle.fhir_asking.specs.Asking.{Asking, wants, found, is_wanting, known, Has, Holds, NeedsItself}
use Rattle.fhir_overlay.specs.Overlay.{bounds_fit}
use Rattle.fhir_inheritance.specs.Keys.{key}
use Rattle.fhir_inheritance.specs.Node.{Node}
use Rattle.fhir_inheritance.specs.Inheriting.{asking}
use Rattle.fhir_snapshot.specs.Order.{IsAt, Lists, under, IsThere}
use Rattle.fhir_snapshot.specs.Listing.{node_fits, IsFine, Decides}
use Rattle.fhir_snapshot.proofs.Texts.{seen_snoc}

-- no name has two answers
abbrev pub OneAnswer : Type 0
OneAnswer = (asking : Text → Asking Node) (name : Text) (one other : Option Node) → Has asking name one → Has asking name other → one ≡ other

-- ---- what is there

pub is_at : (p : Definitions) (table : List (Text × Option Node)) (name : Text) (o : Option Node) → Holds (asking p) table → known table name ≡ found o → Has (asking p) name o
is_at p table name o holds e = (holds.0, holds.1 name o e)

same_node : (n m : Node) → Some n ≡ Some m → n ≡ m
same_node n m e = cc

pub one_node : OneAnswer → (p : Definitions) (name : Text) (n m : Node) → Has (asking p) name (Some n) → Has (asking p) name (Some m) → n ≡ m
one_node one p name n m a b = same_node n m (one (asking p) name (Some n) (Some m) a b)

-- what needs itself isn't there
pub not_itself : (p : Definitions) (name : Text) (n : Node) → NeedsItself (asking p) name → Has (asking p) name (Some n) → ⊥
not_itself p name n needs at = false≢true (sym (ap is_wanting at.1) ∙ needs at.0)

pub fine_itself : (p : Definitions) (table : List (Text × Option Node)) (name : Text) → NeedsItself (asking p) name → IsFine p name table false
fine_itself p table name needs = λ n at fits. not_itself p name n needs at

known_as : (table : List (Text × Option Node)) (name : Text) (o : Option (Option Node)) → lookup (bytes_eq name) table ≡ o → known table name ≡ option_map_or found o (wants name)
known_as table name o e = ap (λ (r : Option (Option Node)). option_map_or found r (wants name)) e

pub fine_none : (p : Definitions) (table : List (Text × Option Node)) (name : Text) → is_wanting (known table name) ≡ false → lookup (bytes_eq name) table ≡ None → IsFine p name table false
fine_none p table name settled e = absurd (false≢true (sym settled ∙ ap is_wanting (known_as table name None e)))

unfit : (o : Option Node) (n : Node) → o ≡ Some n → node_fits o ≡ false → bounds_fit n.element ≡ false
unfit o n e f = ap node_fits (sym e) ∙ f

fine_by : OneAnswer → (p : Definitions) (table : List (Text × Option Node)) (name : Text) → Holds (asking p) table → (o : Option Node) → known table name ≡ found o → (b : Bool) → node_fits o ≡ b → IsFine p name table b
fine_by one p table name holds None e true fits = absurd (false≢true fits)
fine_by one p table name holds (Some n) e true fits = (n, e, fits)
fine_by one p table name holds o e false fits = λ n at ok.
    let same : o ≡ Some n = one (asking p) name o (Some n) (is_at p table name o holds e) at in
    false≢true (sym (unfit o n same fits) ∙ ok)

pub fine_there : OneAnswer → (p : Definitions) (table : List (Text × Option Node)) (name : Text) (o : Option Node) → Holds (asking p) table → lookup (bytes_eq name) table ≡ Some o → IsFine p name table (node_fits o)
fine_there one p table name o holds e = fine_by one p table name holds o (known_as table name (Some o) e) (node_fits o) refl

-- ---- one turn

-- what is left begins with an id: what is listed goes on with its element
pub goes_on : (p : Definitions) (url id : Text) (n : Node) (ids start left : List Text) (listed more : List Element) → IsAt p url id n → bounds_fit n.element ≡ true
    → more ≡ listed ++ n.element ∷ [] → left ≡ under id n ++ ids
    → ((es : List Element) → Lists p url es (id ∷ ids) → Lists p url (listed ++ es) start)
    → (es : List Element) → Lists p url es left → Lists p url (more ++ es) start
goes_on p url id n ids start left listed more at fits is left_is h es l =
    let one : Lists p url es (under id n ++ ids) = subst (Lists p url es) left_is l in
    let two : Lists p url (listed ++ (n.element ∷ es)) start = h (n.element ∷ es) (n, at, fits, refl, one) in
    let same : listed ++ (n.element ∷ es) ≡ more ++ es = sym (append_assoc listed (n.element ∷ []) es) ∙ ap (λ l. l ++ es) (sym is) in
    subst (λ l. Lists p url l start) same two

only_at : OneAnswer → (p : Definitions) (url id : Text) (n : Node) (ids left : List Text) (es listed more : List Element) → IsAt p url id n
    → more ≡ listed ++ n.element ∷ [] → left ≡ under id n ++ ids → (rest : List Element) → es ≡ listed ++ rest → Lists p url rest (id ∷ ids)
    → (after : List Element) × (es ≡ more ++ after) × Lists p url after left
only_at one p url id n ids left es listed more at is left_is [] e l = absurd l
only_at one p url id n ids left es listed more at is left_is (r ∷ rest) e l =
    let same : l.0 ≡ n = one_node one p _ l.0 n l.1 at in
    let first : r ≡ n.element = sym l.3 ∙ ap (λ m. m.element) same in
    let there : Lists p url rest (under id n ++ ids) = subst (λ m. Lists p url rest (under id m ++ ids)) same l.4 in
    let whole : es ≡ more ++ rest = e ∙ ap (λ f. listed ++ (f ∷ rest)) first ∙ sym (append_assoc listed (n.element ∷ []) rest) ∙ ap (λ l. l ++ rest) (sym is) in
    (rest, whole, subst (Lists p url rest) (sym left_is) there)

pub only_so : OneAnswer → (p : Definitions) (url id : Text) (n : Node) (ids start left : List Text) (listed more : List Element) → IsAt p url id n
    → more ≡ listed ++ n.element ∷ [] → left ≡ under id n ++ ids
    → ((es : List Element) → Lists p url es start → (rest : List Element) × (es ≡ listed ++ rest) × Lists p url rest (id ∷ ids))
    → (es : List Element) → Lists p url es start → (rest : List Element) × (es ≡ more ++ rest) × Lists p url rest left
only_so one p url id n ids start left listed more at is left_is h es l =
    let r = h es l in
    only_at one p url id n ids left es listed more at is left_is r.0 r.1 r.2

none_at : (p : Definitions) (url id : Text) (ids : List Text) → ((n : Node) → IsAt p url id n → bounds_fit n.element ≡ true → ⊥) → (rest : List Element) → Lists p url rest (id ∷ ids) → ⊥
none_at p url id ids h [] l = l
none_at p url id ids h (r ∷ rest) l = h l.0 l.1 l.2

-- where the next one isn't fine, there is no list
pub none_so : (p : Definitions) (url id : Text) (ids start : List Text) (listed : List Element) → ((n : Node) → IsAt p url id n → bounds_fit n.element ≡ true → ⊥)
    → ((es : List Element) → Lists p url es start → (rest : List Element) × (es ≡ listed ++ rest) × Lists p url rest (id ∷ ids))
    → (es : List Element) → Lists p url es start → ⊥
none_so p url id ids start listed bad h es l = let r = h es l in none_at p url id ids bad r.0 r.2

-- ---- lists of texts

pub nothing_left : {X : Type 0} (xs : List X) → length xs ≡ 0 → xs ≡ []
nothing_left [] e = refl
nothing_left (x ∷ xs) e = absurd (omega (arith, e))

module _ {Z : Type 0} where
  pub last_first : (ss : List (String Z)) (s : String Z) (ts : List (String Z)) → ts ≡ ss ++ s ∷ [] → reverse (map string_bytes ts) ≡ string_bytes s ∷ reverse (map string_bytes ss)
  last_first ss s ts e = ap reverse (seen_snoc ss s ts e) ∙ reverse-append (map string_bytes ss) (string_bytes s ∷ [])

-- ---- what has to be there

pub there_itself : (p : Definitions) (url id name : Text) → name ≡ key id url → NeedsItself (asking p) name → IsThere p url id → ⊥
there_itself p url id name is needs at = not_itself p name at.0 needs (subst (λ k. Has (asking p) k (Some at.0)) (sym is) at.1)

pub there_none : (p : Definitions) (url id name : Text) (table : List (Text × Option Node)) → is_wanting (known table name) ≡ false → lookup (bytes_eq name) table ≡ None → IsThere p url id → ⊥
there_none p url id name table settled e at = false≢true (sym settled ∙ ap is_wanting (known_as table name None e))

there_by : OneAnswer → (p : Definitions) (url id : Text) (o : Option Node) → Has (asking p) (key id url) o → Decides (is_some o) (IsThere p url id)
there_by one p url id None has = λ at. none-some at.0 (one (asking p) (key id url) None (Some at.0) has at.1)
there_by one p url id (Some n) has = (n, has)

pub there_some : OneAnswer → (p : Definitions) (url id name : Text) (table : List (Text × Option Node)) (o : Option Node) → name ≡ key id url → Holds (asking p) table → lookup (bytes_eq name) table ≡ Some o → Decides (is_some o) (IsThere p url id)
there_some one p url id name table o is holds e =
    there_by one p url id o (subst (λ k. Has (asking p) k o) is (is_at p table name o holds (known_as table name (Some o) e)))
