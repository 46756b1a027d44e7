-- What is found in a JSON text is where its values begin.
use Rattle.std.proofs.Common.{◌≡◌, ℕ, true, false, List, [], ◌∷◌, ◌++◌, Some, None, refl, sym, ap, subst, ◌∙◌, append_assoc}
use Rattle.std.proofs.lemmas.List.{append-nil}
use Rattle.std.specs.Prelude.{Bool}
use Rattle.std.specs.List.{AllZip}
use Rattle.fhir_json.specs.Tree.{Text, Tree, null, boolean, number, string, array, object, Items, no_items, item, Members, no_members, member}
use Rattle.fhir_json.specs.Grammar.{AreBlanks, Padded, Named, Spells, SpellsItems, SpellsMoreItems, SpellsMembers, SpellsMoreMembers}
use Rattle.fhir_json.specs.declared.position.Position.{Position}
use Rattle.fhir_positions.specs.declared.values.Inside.{Inside}
use Rattle.fhir_positions.specs.declared.values.Inside.TheVariants as insides
use Rattle.fhir_positions.specs.declared.values.Kind.TheVariants.{Blank, End, Opening}
use Rattle.fhir_positions.specs.Positions.{behind_front, values_in, values_in_items, values_in_members}
use Rattle.fhir_positions.specs.Lexing.{Seen, kind_of, settled, passed, lexed}
use Rattle.fhir_positions.proofs.Lexed.{at, ready, lexed-append, blanks_pass, word_begins, number_begins_at, string_begins}

-- ---- what ends a value

abbrev is_outside : Inside → Bool
is_outside insides.Between = true
is_outside insides.Word = true
is_outside insides.Text = false
is_outside insides.Escape = false

-- outside of strings, these were found, if a string in front is a value
pub record Ends (all : List Position) (s : Seen) : Type 0 where
  pub outside : is_outside s.inside ≡ true
  pub is : settled s.found s.string ≡ all

ends_ready : (all : List Position) → Ends all (ready all)
ends_ready all = record { outside = refl; is = append-nil all }

ends_blank : (all : List Position) (here : Position) (b : ℕ) → kind_of b ≡ Blank → (s : Seen) → Ends all s → Ends all (passed here b s)
ends_blank all here b kind s h = subst (λ (z : Seen). Ends all z) (sym (same s.inside h.outside)) (record { outside = refl; is = h.is })
  where
    same : (inside : Inside) → is_outside inside ≡ true → passed here b (at inside s.found s.string) ≡ at insides.Between s.found s.string
    same insides.Between o = rw kind refl
    same insides.Word o = rw kind refl
    same insides.Text o = absurd cc
    same insides.Escape o = absurd cc

ends_blanks : (all : List Position) (bs : List ℕ) → AreBlanks bs → (front : List ℕ) (s : Seen) → Ends all s → Ends all (lexed s front bs)
ends_blanks all [] h front s e = e
ends_blanks all (b ∷ bs) h front s e =
    let kind : kind_of b ≡ Blank = rw h.0 refl in
    ends_blanks all bs h.1 (front ++ b ∷ []) (passed (behind_front front) b s) (ends_blank all (behind_front front) b kind s e)

-- a comma, or a closing bracket or brace
ends_end : (all : List Position) (here : Position) (b : ℕ) → kind_of b ≡ End → (s : Seen) → Ends all s → passed here b s ≡ ready all
ends_end all here b kind s h = same s.inside h.outside ∙ ap ready h.is
  where
    same : (inside : Inside) → is_outside inside ≡ true → passed here b (at inside s.found s.string) ≡ ready (settled s.found s.string)
    same insides.Between o = rw kind refl
    same insides.Word o = rw kind refl
    same insides.Text o = absurd cc
    same insides.Escape o = absurd cc

-- ---- lists beside one another

both_zip : {A B : Type 0} (R : A → B → Type 0) (xs ys : List A) (ps qs : List B) → AllZip R xs ps → AllZip R ys qs → AllZip R (xs ++ ys) (ps ++ qs)
both_zip R [] ys [] qs h k = k
both_zip R [] ys (p ∷ ps) qs h k = absurd h
both_zip R (x ∷ xs) ys [] qs h k = absurd h
both_zip R (x ∷ xs) ys (p ∷ ps) qs h k = (h.0, both_zip R xs ys ps qs h.1 k)

module _ (text : List ℕ) where
  -- a value begins behind a front of the text
  abbrev pub Begins : Tree → Position → Type 0
  Begins t p = (front v rest : List ℕ) × (text ≡ front ++ (v ++ rest)) × Spells t v × (p ≡ behind_front front)

  -- behind those that were found, these values are
  pub record Finds (ts : List Tree) (found : List Position) (s : Seen) : Type 0 where
    pub positions : List Position
    pub begin : AllZip Begins ts positions
    pub ends : Ends (found ++ positions) s

  one_found : (t : Tree) (found : List Position) (front v rest : List ℕ) (s : Seen) → text ≡ front ++ (v ++ rest) → Spells t v
      → is_outside s.inside ≡ true → settled s.found s.string ≡ found ++ behind_front front ∷ [] → Finds (t ∷ []) found s
  one_found t found front v rest s is h o e = record {
    positions = behind_front front ∷ [];
    begin = ((front, v, rest, is, h, refl), tt);
    ends = record { outside = o; is = e };
  }

  word_found : (t : Tree) (found : List Position) (front v rest : List ℕ) → text ≡ front ++ (v ++ rest) → Spells t v
      → lexed (ready found) front v ≡ at insides.Word (found ++ behind_front front ∷ []) None → Finds (t ∷ []) found (lexed (ready found) front v)
  word_found t found front v rest is h e =
      subst (λ (z : Seen). Finds (t ∷ []) found z) (sym e)
      (one_found t found front v rest (at insides.Word (found ++ behind_front front ∷ []) None) is h refl (append-nil (found ++ behind_front front ∷ [])))

  -- what stands between blanks
  padded_found : (P : List ℕ → Type 0) (ts : List Tree) → ((found : List Position) (front v rest : List ℕ) → text ≡ front ++ (v ++ rest) → P v
      → Finds ts found (lexed (ready found) front v)) → (found : List Position) (front bs rest : List ℕ) → text ≡ front ++ (bs ++ rest) → Padded P bs
      → Finds ts found (lexed (ready found) front bs)
  padded_found P ts inner found front bs rest is h =
      let before = h.0 in
      let v = h.1 in
      let after = h.2 in
      let there : text ≡ (front ++ before) ++ (v ++ (after ++ rest)) =
      is ∙ ap (λ (z : List ℕ). front ++ (z ++ rest)) h.3 ∙ regroup front before v after rest in
      let value = inner found (front ++ before) v (after ++ rest) there h.5 in
      let passes : lexed (ready found) front bs ≡ lexed (lexed (ready found) (front ++ before) v) ((front ++ before) ++ v) after =
      ap (λ (z : List ℕ). lexed (ready found) front z) h.3
      ∙ lexed-append (ready found) front before (v ++ after)
      ∙ ap (λ (s : Seen). lexed s (front ++ before) (v ++ after)) (blanks_pass found None front before h.4)
      ∙ lexed-append (ready found) (front ++ before) v after in
      subst (λ (s : Seen). Finds ts found s) (sym passes)
      (record {
        positions = value.positions;
        begin = value.begin;
        ends = ends_blanks (found ++ value.positions) after h.6 ((front ++ before) ++ v) (lexed (ready found) (front ++ before) v) value.ends;
      })
    where
      regroup : (f b v a r : List ℕ) → f ++ ((b ++ (v ++ a)) ++ r) ≡ (f ++ b) ++ (v ++ (a ++ r))
      regroup f b v a r = simp append_assoc

  -- a name, a colon, and what stands behind it
  named_found : (name : Text) (P : List ℕ → Type 0) (ts : List Tree)
      → ((found : List Position) (front v rest : List ℕ) → text ≡ front ++ (v ++ rest) → P v → Finds ts found (lexed (ready found) front v))
      → (found : List Position) (front bs rest : List ℕ) → text ≡ front ++ (bs ++ rest) → Named name P bs → Finds ts found (lexed (ready found) front bs)
  named_found name P ts inner found front bs rest is h =
      let key = h.0 in
      let value = h.1 in
      let k = h.3 in
      let behind = (front ++ key) ++ 58 ∷ [] in
      let here = behind_front (front ++ k.0) in
      let there : text ≡ behind ++ (value ++ rest) = is ∙ ap (λ (z : List ℕ). front ++ (z ++ rest)) h.2 ∙ regroup front key value rest in
      let named : lexed (ready found) front key ≡ at insides.Between found (Some here) =
      ap (λ (z : List ℕ). lexed (ready found) front z) k.3
      ∙ lexed-append (ready found) front k.0 (k.1 ++ k.2)
      ∙ ap (λ (s : Seen). lexed s (front ++ k.0) (k.1 ++ k.2)) (blanks_pass found None front k.0 k.4)
      ∙ lexed-append (ready found) (front ++ k.0) k.1 k.2
      ∙ ap (λ (s : Seen). lexed s ((front ++ k.0) ++ k.1) k.2) (string_begins found (front ++ k.0) name k.1 k.5)
      ∙ blanks_pass found (Some here) ((front ++ k.0) ++ k.1) k.2 k.6 in
      let passes : lexed (ready found) front bs ≡ lexed (ready found) behind value =
      ap (λ (z : List ℕ). lexed (ready found) front z) h.2
      ∙ lexed-append (ready found) front key (58 ∷ value)
      ∙ ap (λ (s : Seen). lexed s (front ++ key) (58 ∷ value)) named in
      subst (λ (s : Seen). Finds ts found s) (sym passes) (padded_found P ts inner found behind value rest there h.4)
    where
      regroup : (f k v r : List ℕ) → f ++ ((k ++ 58 ∷ v) ++ r) ≡ ((f ++ k) ++ 58 ∷ []) ++ (v ++ r)
      regroup f k v r = simp append_assoc

  -- one part, and what stands behind it
  found_then : (ts us : List Tree) (found : List Position) (s z : Seen) (one : Finds ts found s) → Finds us (found ++ one.positions) z → Finds (ts ++ us) found z
  found_then ts us found s z one more = record {
    positions = one.positions ++ more.positions;
    begin = both_zip Begins ts us one.positions more.positions one.begin more.begin;
    ends = subst (λ (all : List Position). Ends all z) (append_assoc found one.positions more.positions) more.ends;
  }

  parts_found : (Q M : List ℕ → Type 0) (ts us : List Tree)
      → ((found : List Position) (front bs rest : List ℕ) → text ≡ front ++ (bs ++ rest) → Q bs → Finds ts found (lexed (ready found) front bs))
      → ((found : List Position) (front bs rest : List ℕ) (s : Seen) → text ≡ front ++ (bs ++ rest) → M bs → Ends found s → Finds us found (lexed s front bs))
      → (found : List Position) (front bs rest first others : List ℕ) → text ≡ front ++ (bs ++ rest) → bs ≡ first ++ others → Q first → M others
      → Finds (ts ++ us) found (lexed (ready found) front bs)
  parts_found Q M ts us part more found front bs rest first others is e q m =
      let here : text ≡ front ++ (first ++ (others ++ rest)) = is ∙ ap (λ (z : List ℕ). front ++ (z ++ rest)) e ∙ ap (λ (z : List ℕ). front ++ z) (append_assoc first others rest) in
      let there : text ≡ (front ++ first) ++ (others ++ rest) = here ∙ sym (append_assoc front first (others ++ rest)) in
      let one = part found front first (others ++ rest) here q in
      let behind = more (found ++ one.positions) (front ++ first) others rest (lexed (ready found) front first) there m one.ends in
      let passes : lexed (ready found) front bs ≡ lexed (lexed (ready found) front first) (front ++ first) others =
      ap (λ (z : List ℕ). lexed (ready found) front z) e ∙ lexed-append (ready found) front first others in
      subst (λ (s : Seen). Finds (ts ++ us) found s) (sym passes)
      (found_then ts us found (lexed (ready found) front first) (lexed (lexed (ready found) front first) (front ++ first) others) one behind)

  -- the same behind a comma
  more_found : (Q M : List ℕ → Type 0) (ts us : List Tree)
      → ((found : List Position) (front bs rest : List ℕ) → text ≡ front ++ (bs ++ rest) → Q bs → Finds ts found (lexed (ready found) front bs))
      → ((found : List Position) (front bs rest : List ℕ) (s : Seen) → text ≡ front ++ (bs ++ rest) → M bs → Ends found s → Finds us found (lexed s front bs))
      → (found : List Position) (front bs rest first others : List ℕ) (s : Seen) → text ≡ front ++ (bs ++ rest) → bs ≡ 44 ∷ (first ++ others) → Q first
      → M others → Ends found s → Finds (ts ++ us) found (lexed s front bs)
  more_found Q M ts us part more found front bs rest first others s is e q m ends =
      let there : text ≡ (front ++ 44 ∷ []) ++ ((first ++ others) ++ rest) =
      is ∙ ap (λ (z : List ℕ). front ++ (z ++ rest)) e ∙ sym (append_assoc front (44 ∷ []) ((first ++ others) ++ rest)) in
      let passes : lexed s front bs ≡ lexed (ready found) (front ++ 44 ∷ []) (first ++ others) =
      ap (λ (z : List ℕ). lexed s front z) e
      ∙ ap (λ (z : Seen). lexed z (front ++ 44 ∷ []) (first ++ others)) (ends_end found (behind_front front) 44 refl s ends) in
      subst (λ (z : Seen). Finds (ts ++ us) found z) (sym passes)
      (parts_found Q M ts us part more found (front ++ 44 ∷ []) (first ++ others) rest first others there refl q m)

  -- nothing more
  none_found : (found : List Position) (s : Seen) → Ends found s → Finds [] found s
  none_found found s ends = record { positions = []; begin = tt; ends = subst (λ (all : List Position). Ends all s) (sym (append-nil found)) ends }

  -- an array or an object
  nested_found : (t : Tree) (ts : List Tree) (first last : ℕ) → kind_of first ≡ Opening → kind_of last ≡ End → (body : List ℕ)
      → ((found : List Position) (front rest : List ℕ) → text ≡ front ++ (body ++ rest) → Finds ts found (lexed (ready found) front body))
      → (found : List Position) (front v rest : List ℕ) → text ≡ front ++ (v ++ rest) → Spells t v → v ≡ first ∷ (body ++ last ∷ [])
      → Finds (t ∷ ts) found (lexed (ready found) front v)
  nested_found t ts first last opens closes body inner found front v rest is h e =
      let here = behind_front front in
      let found1 = found ++ here ∷ [] in
      let front1 = front ++ first ∷ [] in
      let there : text ≡ front1 ++ (body ++ (last ∷ rest)) = is ∙ ap (λ (z : List ℕ). front ++ (z ++ rest)) e ∙ regroup front body rest in
      let inside = inner found1 front1 (last ∷ rest) there in
      let opened : passed here first (ready found) ≡ ready found1 = rw (opens, append-nil found) refl in
      let passes : lexed (ready found) front v ≡ ready (found1 ++ inside.positions) =
      ap (λ (z : List ℕ). lexed (ready found) front z) e
      ∙ ap (λ (s : Seen). lexed s front1 (body ++ last ∷ [])) opened
      ∙ lexed-append (ready found1) front1 body (last ∷ [])
      ∙ ends_end (found1 ++ inside.positions) (behind_front (front1 ++ body)) last closes (lexed (ready found1) front1 body) inside.ends in
      subst (λ (s : Seen). Finds (t ∷ ts) found s) (sym passes)
      (record {
        positions = here ∷ inside.positions;
        begin = ((front, v, rest, is, h, refl), inside.begin);
        ends = subst (λ (all : List Position). Ends all (ready (found1 ++ inside.positions))) (append_assoc found (here ∷ []) inside.positions)
            (ends_ready (found1 ++ inside.positions));
      })
    where
      regroup : (f b r : List ℕ) → f ++ ((first ∷ (b ++ last ∷ [])) ++ r) ≡ (f ++ first ∷ []) ++ (b ++ (last ∷ r))
      regroup f b r = simp append_assoc

  mutual
    -- a value
    pub value_found : (t : Tree) (found : List Position) (front v rest : List ℕ) → text ≡ front ++ (v ++ rest) → Spells t v
        → Finds (values_in t) found (lexed (ready found) front v)
    value_found null found front v rest is h =
        word_found null found front v rest is h
        (ap (λ (z : List ℕ). lexed (ready found) front z) h ∙ word_begins found front 110 (117 ∷ 108 ∷ 108 ∷ []) (refl, (refl, (refl, (refl, tt)))))
    value_found (boolean true) found front v rest is h =
        word_found (boolean true) found front v rest is h
        (ap (λ (z : List ℕ). lexed (ready found) front z) h ∙ word_begins found front 116 (114 ∷ 117 ∷ 101 ∷ []) (refl, (refl, (refl, (refl, tt)))))
    value_found (boolean false) found front v rest is h =
        word_found (boolean false) found front v rest is h
        (ap (λ (z : List ℕ). lexed (ready found) front z) h
        ∙ word_begins found front 102 (97 ∷ 108 ∷ 115 ∷ 101 ∷ []) (refl, (refl, (refl, (refl, (refl, tt))))))
    value_found (number n) found front v rest is h =
        word_found (number n) found front v rest is h (ap (λ (z : List ℕ). lexed (ready found) front z) h.0 ∙ number_begins_at found front n h.1)
    value_found (string s) found front v rest is h =
        subst (λ (z : Seen). Finds (string s ∷ []) found z) (sym (string_begins found front s v h))
        (one_found (string s) found front v rest (at insides.Between found (Some (behind_front front))) is h refl refl)
    value_found (array ts) found front v rest is h =
        nested_found (array ts) (values_in_items ts) 91 93 refl refl h.0 (λ f b r k. items_found ts f b h.0 r k h.2) found front v rest is h h.1
    value_found (object ms) found front v rest is h =
        nested_found (object ms) (values_in_members ms) 123 125 refl refl h.0 (λ f b r k. members_found ms f b h.0 r k h.2) found front v rest is h h.1

    -- the values of an array
    items_found : (ts : Items) (found : List Position) (front bs rest : List ℕ) → text ≡ front ++ (bs ++ rest) → SpellsItems ts bs
        → Finds (values_in_items ts) found (lexed (ready found) front bs)
    items_found no_items found front bs rest is h =
        none_found found (lexed (ready found) front bs) (ends_blanks found bs h front (ready found) (ends_ready found))
    items_found (item t ts) found front bs rest is h =
        parts_found (Padded (Spells t)) (SpellsMoreItems ts) (values_in t) (values_in_items ts)
        (λ f b w r k q. padded_found (Spells t) (values_in t) (λ g c u d l m. value_found t g c u d l m) f b w r k q)
        (λ f b w r s k m e. more_items_found ts f b w r s k m e) found front bs rest h.0 h.1 is h.2 h.3 h.4

    -- those behind the first
    more_items_found : (ts : Items) (found : List Position) (front bs rest : List ℕ) (s : Seen) → text ≡ front ++ (bs ++ rest) → SpellsMoreItems ts bs
        → Ends found s → Finds (values_in_items ts) found (lexed s front bs)
    more_items_found no_items found front bs rest s is h e =
        subst (λ (z : List ℕ). Finds [] found (lexed s front z)) (sym h) (none_found found s e)
    more_items_found (item t ts) found front bs rest s is h e =
        more_found (Padded (Spells t)) (SpellsMoreItems ts) (values_in t) (values_in_items ts)
        (λ f b w r k q. padded_found (Spells t) (values_in t) (λ g c u d l m. value_found t g c u d l m) f b w r k q)
        (λ f b w r s k m e. more_items_found ts f b w r s k m e) found front bs rest h.0 h.1 s is h.2 h.3 h.4 e

    -- the members of an object
    members_found : (ms : Members) (found : List Position) (front bs rest : List ℕ) → text ≡ front ++ (bs ++ rest) → SpellsMembers ms bs
        → Finds (values_in_members ms) found (lexed (ready found) front bs)
    members_found no_members found front bs rest is h =
        none_found found (lexed (ready found) front bs) (ends_blanks found bs h front (ready found) (ends_ready found))
    members_found (member name t ms) found front bs rest is h =
        parts_found (Named name (Spells t)) (SpellsMoreMembers ms) (values_in t) (values_in_members ms)
        (λ f b w r k q. named_found name (Spells t) (values_in t) (λ g c u d l m. value_found t g c u d l m) f b w r k q)
        (λ f b w r s k m e. more_members_found ms f b w r s k m e) found front bs rest h.0 h.1 is h.2 h.3 h.4

    -- those behind the first
    more_members_found : (ms : Members) (found : List Position) (front bs rest : List ℕ) (s : Seen) → text ≡ front ++ (bs ++ rest) → SpellsMoreMembers ms bs
        → Ends found s → Finds (values_in_members ms) found (lexed s front bs)
    more_members_found no_members found front bs rest s is h e =
        subst (λ (z : List ℕ). Finds [] found (lexed s front z)) (sym h) (none_found found s e)
    more_members_found (member name t ms) found front bs rest s is h e =
        more_found (Named name (Spells t)) (SpellsMoreMembers ms) (values_in t) (values_in_members ms)
        (λ f b w r k q. named_found name (Spells t) (values_in t) (λ g c u d l m. value_found t g c u d l m) f b w r k q)
        (λ f b w r s k m e. more_members_found ms f b w r s k m e) found front bs rest h.0 h.1 s is h.2 h.3 h.4 e

  -- a whole text
  pub text_found : (t : Tree) → Padded (Spells t) text → Finds (values_in t) [] (lexed (ready []) [] text)
  text_found t h =
      padded_found (Spells t) (values_in t) (λ g c u d l m. value_found t g c u d l m) [] [] text [] (sym (append-nil text)) h
