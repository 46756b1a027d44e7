-- The items of a resource in a row.
use Rattle.std.proofs.Common.{◌≡◌, ◌<◌, ◌≤◌, ◌+◌, ℕ, zero, suc, Bool, true, false, Option, List, [], ◌∷◌, ◌++◌, map, length, take, get_or, refl, sym, ap, ◌∙◌, subst, arith, Some, None, ◌⊎◌, inl, inr}
use Rattle.std.specs.List.{slice_get, AllByRecursion}
use Rattle.std.specs.Prelude.{if◌then◌else◌, nat_lt}
use Rattle.std.proofs.lemmas.Bool.{ltb-true, lt-ltb, le-ltb}
use Rattle.std.specs.Option.{option_map, option_map_or}
use Rattle.std.proofs.lemmas.List.{get_or_append_left, get_or-append-add, length-append}
use Rattle.std.proofs.lemmas.Option.{slice_get_past, slice_get-get_or}
use Rattle.std.proofs.lemmas.List.{length-map, map-append, append_assoc, take_more, take_all}
use Rattle.fhir_json.specs.Tree.{Text}
use Rattle.fhir_schema.specs.Schemas.{SchemaValue}
use Rattle.fhir_nodes.specs.declared.node.NodeRef.{NodeRef}
use Rattle.fhir_instance.specs.Items.{Item, Kids, no_kids, kid, kids_of, kids_in}
use Rattle.fhir_instance.specs.View.{named_of, named_in}
use Rattle.fhir_instance.specs.declared.typed.Kid.{Kid as Child}
use Rattle.fhir_conformance.specs.Positions.{kid_at}
use Rattle.fhir_conformance.specs.Conformance.{nearest_to, is_resource_item}
use Rattle.fhir_validator.specs.declared.layout.Stand.{Stand}
use Rattle.fhir_validator.specs.Layouts.{LayoutValue, laid_out, Spot, spot_in, spot_of, spots_in, nowhere, numbered, place_in_row, spot_at, item_at, resource_of, kids_at, AreStands, AreFrom, AreLaid, IsLaid}

slice_get_left : {A : Type 0} (xs ys : List A) (i : ℕ) → i < length xs → slice_get (xs ++ ys) i ≡ slice_get xs i
slice_get_left [] ys i h = absurd (omega arith)
slice_get_left (x ∷ xs) ys zero h = refl
slice_get_left (x ∷ xs) ys (suc i) h = slice_get_left xs ys i (omega arith)

slice_get_right : {A : Type 0} (xs ys : List A) (i : ℕ) → slice_get (xs ++ ys) (length xs + i) ≡ slice_get ys i
slice_get_right [] ys i = ap (slice_get ys) (omega arith)
slice_get_right (x ∷ xs) ys i =
    let e : suc (length xs) + i ≡ suc (length xs + i) = omega arith in
    ap (slice_get (x ∷ (xs ++ ys))) e ∙ slice_get_right xs ys i

pub numbered_left : (xs ys : List Spot) (i : ℕ) → i < length xs → numbered (xs ++ ys) i ≡ numbered xs i
numbered_left xs ys i h = get_or_append_left xs ys nowhere i h

-- ---- one item's children more

module _ (s : SchemaValue) where
  -- the children of an item among more
  same_kids : (xs ys : List Spot) (i : ℕ) → i < length xs → kids_at s (xs ++ ys) i ≡ kids_at s xs i
  same_kids xs ys i h = ap (λ x. spots_in s x.resource (kids_of x.itself)) (numbered_left xs ys i h)

  kept : (xs ys : List Spot) (i first : ℕ) → i < length xs → AreFrom s xs i first → AreFrom s (xs ++ ys) i first
  kept xs ys i first h from =
      let e : kids_at s (xs ++ ys) i ≡ kids_at s xs i = same_kids xs ys i h in
      record {
        behind = from.behind;
        within = subst (λ ks. first + length ks ≤ length (xs ++ ys)) (sym e) (omega (arith, length-append xs ys, from.within));
        each = λ j below.
            let inside : j < length (kids_at s xs i) = subst (λ ks. j < length ks) e below in
            slice_get_left xs ys (first + j) (omega (arith, from.within, inside)) ∙ from.each j inside ∙ ap (λ ks. slice_get ks j) (sym e);
      }

  put : (xs : List Spot) (i : ℕ) → i < length xs → AreFrom s (xs ++ kids_at s xs i) i (length xs)
  put xs i h =
      let e : kids_at s (xs ++ kids_at s xs i) i ≡ kids_at s xs i = same_kids xs (kids_at s xs i) i h in
      record {
        behind = h;
        within = subst (λ ks. length xs + length ks ≤ length (xs ++ kids_at s xs i)) (sym e) (omega (arith, length-append xs (kids_at s xs i)));
        each = λ j below. slice_get_right xs (kids_at s xs i) j ∙ ap (λ ks. slice_get ks j) (sym e);
      }

  pub one_more : (xs : List Spot) (firsts : List ℕ) → length firsts < length xs → AreLaid s xs firsts
      → AreLaid s (xs ++ kids_at s xs (length firsts)) (firsts ++ length xs ∷ [])
  one_more xs firsts h laid i within =
      elim (nearer i (length firsts) (omega (arith, within, length-append firsts (length xs ∷ [])))) [
        | inl before ↦
            subst (AreFrom s (xs ++ kids_at s xs (length firsts)) i) (sym (get_or_append_left firsts (length xs ∷ []) 0 i before))
            (kept xs (kids_at s xs (length firsts)) i (get_or firsts i 0) (omega arith) (laid i before))
        | inr here ↦
            let e : get_or (firsts ++ length xs ∷ []) i 0 ≡ length xs = ap (λ j. get_or (firsts ++ length xs ∷ []) j 0) (here ∙ sym_add (length firsts)) ∙ get_or-append-add firsts (length xs ∷ []) 0 0 in
            subst (AreFrom s (xs ++ kids_at s xs (length firsts)) i) (sym e)
            (subst (λ j. AreFrom s (xs ++ kids_at s xs (length firsts)) j (length xs)) (sym here) (put xs (length firsts) h))
      ]
    where
      nearer : (i n : ℕ) → i < n + 1 → (i < n) ⊎ (i ≡ n)
      nearer i n h = grind arith

      sym_add : (n : ℕ) → n ≡ n + 0
      sym_add n = omega arith

  -- ---- finding a child

  kid_at-in : (around : Item) (ks : Kids) (i : ℕ) → slice_get (spots_in s around ks) i ≡ option_map (spot_of s around) (kid_at ks i)
  kid_at-in around no_kids i = refl
  kid_at-in around (kid name x ks) zero = refl
  kid_at-in around (kid name x ks) (suc i) = kid_at-in around ks i

  -- what stands where a child does
  parts : (around : Item) (o : Option Item) (spot : Spot) → Some spot ≡ option_map (spot_of s around) o
      → (Some spot.itself ≡ o) × (spot.resource ≡ nearest_to s around spot.itself)
  parts around None spot e = absurd (Some≢None spot e)
    where
      Some≢None : (spot : Spot) → Some spot ≡ None → ⊥
      Some≢None spot e = cc
  parts around (Some x) spot e =
      let is : spot ≡ spot_of s around x = cc in
      (ap (λ z. Some z.itself) is, subst (λ z. z.resource ≡ nearest_to s around z.itself) (sym is) refl)

  pub found : (xs : List Spot) (i first j : ℕ) → AreFrom s xs i first → j < length (kids_at s xs i)
      → (Some (numbered xs (first + j)).itself ≡ kid_at (kids_of (numbered xs i).itself) j)
      × ((numbered xs (first + j)).resource ≡ nearest_to s (numbered xs i).resource (numbered xs (first + j)).itself)
  found xs i first j from h =
      parts (numbered xs i).resource (kid_at (kids_of (numbered xs i).itself) j) (numbered xs (first + j))
      (sym (slice_get-get_or xs (first + j) nowhere (omega (arith, from.within, h)))
      ∙ from.each j h
      ∙ kid_at-in (numbered xs i).resource (kids_of (numbered xs i).itself) j)

  pub missed : (xs : List Spot) (i j : ℕ) → length (kids_at s xs i) ≤ j → None ≡ kid_at (kids_of (numbered xs i).itself) j
  missed xs i j h =
      none_of (kid_at (kids_of (numbered xs i).itself) j)
      (sym (kid_at-in (numbered xs i).resource (kids_of (numbered xs i).itself) j) ∙ slice_get_past (kids_at s xs i) j h)
    where
      none_of : (o : Option Item) → option_map (spot_of s (numbered xs i).resource) o ≡ None → None ≡ o
      none_of None e = refl
      none_of (Some x) e = cc

-- ---- the children of a `Typed`

abbrev pub spot_of_kid : SchemaValue → Item → Child → Spot
spot_of_kid s around k = spot_of s around (named_of k).1

pub spots_of : (s : SchemaValue) (around : Item) (ks : List Child) (x : Item) → kids_in (named_in ks) ≡ kids_of x
    → spots_in s around (kids_of x) ≡ map (spot_of_kid s around) ks
spots_of s around ks x e = ap (spots_in s around) (sym e) ∙ unnamed ks
  where
    unnamed : (ks : List Child) → spots_in s around (kids_in (named_in ks)) ≡ map (spot_of_kid s around) ks
    unnamed [] = refl
    unnamed (k ∷ ks) = ap (λ xs. spot_of_kid s around k ∷ xs) (unnamed ks)

pub count_of : (s : SchemaValue) (around : Item) (ks : List Child) (x : Item) → kids_in (named_in ks) ≡ kids_of x
    → length (spots_in s around (kids_of x)) ≡ length ks
count_of s around ks x e = ap length (spots_of s around ks x e) ∙ length-map ks (spot_of_kid s around)

pub all_pushed : {A : Type 0} (P : A → Type 0) (xs : List A) (x : A) → AllByRecursion P xs → P x → AllByRecursion P (xs ++ x ∷ [])
all_pushed P [] x each h = (h, tt)
all_pushed P (y ∷ ys) x each h = (each.0, all_pushed P ys x each.1 h)

any_default : {A : Type 0} (xs : List A) (i : ℕ) (d e : A) → i < length xs → get_or xs i d ≡ get_or xs i e
any_default [] i d e h = absurd (omega arith)
any_default (x ∷ xs) zero d e h = refl
any_default (x ∷ xs) (suc i) d e h = any_default xs i d e (omega arith)

-- the first child's number as it is read
pub first_read : (firsts : List ℕ) (i first : ℕ) → i < length firsts → first ≡ get_or firsts i first → first ≡ get_or firsts i 0
first_read firsts i first h e = e ∙ any_default firsts i first 0 h

pub item_read : {A : Type 0} (f : A → Spot) (xs : List A) (i : ℕ) (x : A) → i < length xs → x ≡ get_or xs i x → numbered (map f xs) i ≡ f x
item_read f [] i x h e = absurd (omega arith)
item_read f (y ∷ ys) zero x h e = ap f (sym e)
item_read f (y ∷ ys) (suc i) x h e = item_read f ys i x (omega arith) e

-- a child more behind the items, and all of them
pub put_next : {A : Type 0} (f : A → Spot) (g : Child → Spot) (xs : List A) (x : A) (before : List Spot) (ks : List Child) (i : ℕ) (k : Child)
    → i < length ks → k ≡ get_or ks i k → map f xs ≡ before ++ take i (map g ks) → f x ≡ g k
    → map f (xs ++ x ∷ []) ≡ before ++ take (i + 1) (map g ks)
put_next f g xs x before ks i k h is e same =
    let n : i < length (map g ks) = subst (λ n. i < n) (sym (length-map ks g)) h in
    let r : get_or (map g ks) i nowhere ≡ g k = item_read g ks i k h is in
    map-append f xs (x ∷ []) ∙ ap (λ ys. ys ++ f x ∷ []) e ∙ append_assoc before (take i (map g ks)) (f x ∷ [])
    ∙ ap (λ y. before ++ (take i (map g ks) ++ y ∷ [])) (same ∙ sym r)
    ∙ ap (λ ys. before ++ ys) (sym (take_more (map g ks) i nowhere n))

pub put_all : {A : Type 0} (s : SchemaValue) (around : Item) (f : A → Spot) (xs : List A) (ks : List Child) (x : Item) (i : ℕ) (before : List Spot)
    → kids_in (named_in ks) ≡ kids_of x → length ks ≤ i → map f xs ≡ before ++ take i (map (spot_of_kid s around) ks)
    → map f xs ≡ before ++ spots_in s around (kids_of x)
put_all s around f xs ks x i before same h e =
    let n : length (map (spot_of_kid s around) ks) ≤ i = subst (λ n. n ≤ i) (sym (length-map ks (spot_of_kid s around))) h in
    e ∙ ap (λ ys. before ++ ys) (take_all i (map (spot_of_kid s around) ks) n ∙ sym (spots_of s around ks x same))

pub laid_more : (s : SchemaValue) (xs ys : List Spot) (firsts more : List ℕ) (i n : ℕ) (x : Spot) → length firsts ≡ i → i < length xs → n ≡ length xs
    → numbered xs i ≡ x → ys ≡ xs ++ spots_in s x.resource (kids_of x.itself) → more ≡ firsts ++ n ∷ [] → AreLaid s xs firsts → AreLaid s ys more
laid_more s xs ys firsts more i n x at h count same e f laid =
    let k : kids_at s xs (length firsts) ≡ spots_in s x.resource (kids_of x.itself) =
    ap (λ y. spots_in s y.resource (kids_of y.itself)) (ap (numbered xs) at ∙ same) in
    subst (λ zs. AreLaid s zs more) (ap (λ zs. xs ++ zs) k ∙ sym e)
    (subst (λ ms. AreLaid s (xs ++ kids_at s xs (length firsts)) ms) (ap (λ m. firsts ++ m ∷ []) (sym count) ∙ sym f)
    (one_more s xs firsts (omega (arith, at, h)) laid))

pub longer : {A : Type 0} (xs ys zs : List A) → ys ≡ xs ++ zs → length xs ≤ length ys
longer xs ys zs e = omega (arith, ap length e, length-append xs zs)

-- an item is its own nearest resource where it is one
pub own_nearest : (s : SchemaValue) (around x : Item) → nearest_to s (nearest_to s around x) x ≡ nearest_to s around x
own_nearest s around x = by_case (is_resource_item s x)
  where
    by_case : (b : Bool) → (if b then x else (if b then x else around)) ≡ (if b then x else around)
    by_case true = refl
    by_case false = refl

pub own_outermost : (s : SchemaValue) (x : Item) → nearest_to s x x ≡ x
own_outermost s x = by_case (is_resource_item s x)
  where
    by_case : (b : Bool) → (if b then x else x) ≡ x
    by_case true = refl
    by_case false = refl

-- ---- what stands at a place

pub all_at : {A : Type 0} (P : A → Type 0) (xs : List A) (i : ℕ) (x : A) → i < length xs → x ≡ get_or xs i x → AllByRecursion P xs → P x
all_at P [] i x h is each = absurd (omega arith)
all_at P (y ∷ ys) zero x h is each = subst P (sym is) each.0
all_at P (y ∷ ys) (suc i) x h is each = all_at P ys i x (omega arith) is each.1

nearest_at : (s : SchemaValue) (stands : List Stand) (i : ℕ) → i < length stands → AreStands s stands
    → nearest_to s (numbered (map spot_in stands) i).resource (numbered (map spot_in stands) i).itself ≡ (numbered (map spot_in stands) i).resource
nearest_at s [] i h each = absurd (omega arith)
nearest_at s (stand ∷ stands) zero h each = each.0.nearest
nearest_at s (stand ∷ stands) (suc i) h each = nearest_at s stands i (omega arith) each.1

module _ (s : SchemaValue) (given : List Text) (stands : List Stand) where
  abbrev pub row : LayoutValue
  row = laid_out s given stands

  pub long : length row.spots ≡ length stands
  long = length-map stands spot_in

  pub place_below : (number : ℕ) → number < length stands → place_in_row row number ≡ number
  place_below number h = ap (λ b. if b then number else 0) (lt-ltb number (length row.spots) (omega (arith, h, long)))

  pub place_past : (number : ℕ) → length stands ≤ number → place_in_row row number ≡ 0
  place_past number h = ap (λ b. if b then number else 0) (le-ltb number (length row.spots) (omega (arith, h, long)))

  pub place_within : (number : ℕ) → 0 < length stands → place_in_row row number < length row.spots
  place_within number some = by_case (nat_lt number (length row.spots)) refl
    where
      by_case : (b : Bool) → nat_lt number (length row.spots) ≡ b → (if b then number else 0) < length row.spots
      by_case true e = ltb-true number (length row.spots) e
      by_case false e = omega (arith, some, long)

  pub spot_found : (number i : ℕ) (stand : Stand) → i ≡ place_in_row row number → i < length stands → stand ≡ get_or stands i stand → spot_at row number ≡ spot_in stand
  spot_found number i stand at h is = ap (numbered row.spots) (sym at) ∙ item_read spot_in stands i stand h is

  -- what is true of a child's number
  pub record IsKid (number position kid : ℕ) : Type 0 where
    pub there : Some (item_at row kid) ≡ kid_at (kids_of (item_at row number)) position
    pub near : resource_of row kid ≡ nearest_to s (resource_of row number) (item_at row kid)
    pub behind : place_in_row row number < place_in_row row kid
    pub within : place_in_row row kid < length row.spots

  module _ (firsts : List ℕ) (laid : IsLaid s stands firsts) (number i : ℕ) (at : i ≡ place_in_row row number) where
    inside_row : i < length stands
    inside_row = subst (λ i. i < length stands) (sym at) (subst (λ n. place_in_row row number < n) long (place_within number laid.some))

    here : numbered row.spots i ≡ spot_at row number
    here = ap (numbered row.spots) at

    pub kid_found : (position first : ℕ) → first ≡ get_or firsts i first → position < length (kids_at s row.spots i) → IsKid number position (first + position)
    kid_found position first is h =
        let inside : i < length firsts = omega (arith, laid.each, inside_row) in
        let from : AreFrom s row.spots i first = subst (AreFrom s row.spots i) (sym (first_read firsts i first inside is)) (laid.laid i inside) in
        let below : first + position < length stands = omega (arith, from.within, h, long) in
        let same : place_in_row row (first + position) ≡ first + position = place_below (first + position) below in
        let there : spot_at row (first + position) ≡ numbered row.spots (first + position) = ap (numbered row.spots) same in
        let kid = found s row.spots i first position from h in
        let spot = spot_at row (first + position) in
        let around = (numbered row.spots i).resource in
        let own : resource_of row number ≡ around =
        subst (λ z. nearest_to s z.resource z.itself ≡ around) here (nearest_at s stands i inside_row laid.stood) in
        record {
          there = ap (λ z. Some z.itself) there ∙ kid.0 ∙ ap (λ z. kid_at (kids_of z.itself) position) here;
          near =
              ap (λ r. nearest_to s r spot.itself) (subst (λ z. z.resource ≡ nearest_to s around z.itself) (sym there) kid.1)
              ∙ own_nearest s around spot.itself ∙ ap (λ r. nearest_to s r spot.itself) (sym own);
          behind = omega (arith, same, at, from.behind);
          within = omega (arith, same, below, long);
        }

    pub kid_missed : (position : ℕ) → length (kids_at s row.spots i) ≤ position → None ≡ kid_at (kids_of (item_at row number)) position
    kid_missed position h = missed s row.spots i position h ∙ ap (λ z. kid_at (kids_of z.itself) position) here
