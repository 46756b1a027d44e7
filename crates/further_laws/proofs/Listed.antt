-- Definitions that a list puts in.
use Rattle.std.proofs.Common.{◌≡◌, ◌≢◌, Bool, true, false, ◌&&◌, ◌||◌, cond, List, [], ◌∷◌, ◌++◌, Option, None, Some, refl, sym, ap, ◌∙◌}
use Rattle.std.specs.Option.{option_map, option_and_then}
use Rattle.std.specs.List.{list_any}
use Rattle.std.specs.Map.{lookup}
use Rattle.std.specs.Str.{bytes_eq}
use Rattle.std.proofs.lemmas.Bool.{false≢true}
use Rattle.std.proofs.lemmas.Slice.Eq.{bytes_eq-Decides}
use Rattle.fhir_json.specs.Tree.{Text, Tree}
use Rattle.fhir_package.specs.declared.kind.Kind.{Kind}
use Rattle.fhir_package.specs.declared.kind.Kind.TheVariants.{StructureDefinition, ValueSet, CodeSystem}
use Rattle.fhir_package.specs.Definitions.{ByUrl, Definitions, of_kind, at_url}
use Rattle.fhir_package.specs.Packing.{Definition}
use Rattle.fhir_package.specs.Changing.{sound_definition, put_in, put_each, is_same_kind, is_same, has_twice}
use Rattle.fhir_commands.specs.Commands.{put}
use Rattle.fhir_commands.specs.declared.reply.PutAnswer.TheVariants as puts
use Rattle.fhir_registry.specs.Session.{definitions_of, put_answer, put_after, after}

-- ---- what trees are

-- The definitions of a list in which a tree stands have its own among them, and behind it those of the trees behind.
record Among (d : Definition) (rest : List Tree) (ds : List Definition) : Type 0 where
  before : List Definition
  behind : List Definition
  split : ds ≡ before ++ d ∷ behind
  others : definitions_of rest ≡ Some behind

one_of : (front back : List Tree) (t : Tree) (d : Definition) → sound_definition t ≡ Some d → (ds : List Definition)
    → definitions_of (front ++ t ∷ back) ≡ Some ds → Among d back ds
one_of [] back t d is ds all =
    by (definitions_of back) refl (sym (ap (λ (o : Option Definition). option_and_then (λ (e : Definition). option_map (λ (es : List Definition). e ∷ es) (definitions_of back)) o) is) ∙ all)
  where
    by : (o : Option (List Definition)) → definitions_of back ≡ o → option_map (λ (es : List Definition). d ∷ es) o ≡ Some ds → Among d back ds
    by None at e = absurd cc
    by (Some es) at e = let same : d ∷ es ≡ ds = cc in record { before = []; behind = es; split = sym same; others = at }
one_of (x ∷ front) back t d is ds all =
    by (sound_definition x) (definitions_of (front ++ t ∷ back)) refl all (λ es at. one_of front back t d is es at)
  where
    by : (o : Option Definition) (rest : Option (List Definition)) → definitions_of (front ++ t ∷ back) ≡ rest
        → option_and_then (λ (e : Definition). option_map (λ (es : List Definition). e ∷ es) rest) o ≡ Some ds
        → ((es : List Definition) → definitions_of (front ++ t ∷ back) ≡ Some es → Among d back es) → Among d back ds
    by None rest at e later = absurd cc
    by (Some c) None at e later = absurd cc
    by (Some c) (Some es) at e later =
        let more = later es at in
        let same : c ∷ es ≡ ds = cc in
        record { before = c ∷ more.before; behind = more.behind; split = sym same ∙ ap (λ (l : List Definition). c ∷ l) more.split; others = more.others }

pub none_of : (front back : List Tree) (t : Tree) → sound_definition t ≡ None → definitions_of (front ++ t ∷ back) ≡ None
none_of [] back t is = rw (is) refl
none_of (x ∷ front) back t is = rw (none_of front back t is) (by (sound_definition x))
  where
    by : (o : Option Definition) → option_and_then (λ (d : Definition). option_map (λ (ds : List Definition). d ∷ ds) None) o ≡ None
    by None = refl
    by (Some d) = refl

-- ---- those of one kind and url

kind_same : (a b : Kind) → is_same_kind a b ≡ true → a ≡ b
kind_same StructureDefinition StructureDefinition h = refl
kind_same StructureDefinition ValueSet h = absurd (false≢true h)
kind_same StructureDefinition CodeSystem h = absurd (false≢true h)
kind_same ValueSet StructureDefinition h = absurd (false≢true h)
kind_same ValueSet ValueSet h = refl
kind_same ValueSet CodeSystem h = absurd (false≢true h)
kind_same CodeSystem StructureDefinition h = absurd (false≢true h)
kind_same CodeSystem ValueSet h = absurd (false≢true h)
kind_same CodeSystem CodeSystem h = refl

same_kind : (a : Kind) → is_same_kind a a ≡ true
same_kind StructureDefinition = refl
same_kind ValueSet = refl
same_kind CodeSystem = refl

or_first : (a b : Bool) → (a || b) ≡ false → a ≡ false
or_first true b h = h
or_first false b h = refl

or_second : (a b : Bool) → (a || b) ≡ false → b ≡ false
or_second true b h = absurd (false≢true (sym h))
or_second false b h = h

none_behind : (before behind : List Definition) (d : Definition) → has_twice (before ++ d ∷ behind) ≡ false → list_any (is_same d) behind ≡ false
none_behind [] behind d h = or_first _ _ h
none_behind (x ∷ before) behind d h = none_behind before behind d (or_second _ _ h)

any_among : (d e : Definition) (before behind : List Definition) → is_same d e ≡ true → list_any (is_same d) (before ++ e ∷ behind) ≡ true
any_among d e [] behind h = rw (h) refl
any_among d e (x ∷ before) behind h = rw (any_among d e before behind h) (by (is_same d x))
  where
    by : (b : Bool) → (b || true) ≡ true
    by true = refl
    by false = refl

-- ---- what is put in

each_split : (before behind : List Definition) (d : Definition) (p : Definitions)
    → put_each (before ++ d ∷ behind) p ≡ put_each behind (put_in d (put_each before p))
each_split [] behind d p = refl
each_split (x ∷ before) behind d p = each_split before behind d (put_in x p)

module _
    (other_url : (d : Definition) (p : Definitions) (url : Text) → url ≢ d.url → at_url d.kind url (put_in d p) ≡ at_url d.kind url p)
    (other_kind : (d : Definition) (p : Definitions) (kind : Kind) → kind ≢ d.kind → of_kind kind (put_in d p) ≡ of_kind kind p)
    (itself : (d : Definition) (p : Definitions) → at_url d.kind d.url (put_in d p) ≡ Some d.tree) where
  other : (d e : Definition) (p : Definitions) → is_same d e ≡ false → at_url d.kind d.url (put_in e p) ≡ at_url d.kind d.url p
  other d e p h = by (is_same_kind d.kind e.kind) refl h
    where
      by : (b : Bool) → is_same_kind d.kind e.kind ≡ b → (b && bytes_eq d.url e.url) ≡ false → at_url d.kind d.url (put_in e p) ≡ at_url d.kind d.url p
      by false apart h =
          ap (λ (es : ByUrl). lookup (bytes_eq d.url) es)
          (other_kind e p d.kind (λ same. false≢true (sym apart ∙ ap (λ (k : Kind). is_same_kind d.kind k) (sym same) ∙ same_kind d.kind)))
      by true at h =
          let same : d.kind ≡ e.kind = kind_same d.kind e.kind at in
          ap (λ (k : Kind). at_url k d.url (put_in e p)) same
          ∙ other_url e p d.url (λ u. false≢true (sym h ∙ (bytes_eq-Decides d.url e.url).1 u))
          ∙ ap (λ (k : Kind). at_url k d.url p) (sym same)

  stays : (d : Definition) (ds : List Definition) (p : Definitions) → list_any (is_same d) ds ≡ false → at_url d.kind d.url (put_each ds p) ≡ at_url d.kind d.url p
  stays d [] p h = refl
  stays d (e ∷ ds) p h = stays d ds (put_in e p) (or_second _ _ h) ∙ other d e p (or_first _ _ h)

  is_found : (ds : List Definition) (d : Definition) (rest : List Tree) (p : Definitions) → Among d rest ds → has_twice ds ≡ false → at_url d.kind d.url (put_each ds p) ≡ Some d.tree
  is_found ds d rest p among h =
      ap (λ (es : List Definition). at_url d.kind d.url (put_each es p)) among.split
      ∙ ap (λ (q : Definitions). at_url d.kind d.url q) (each_split among.before among.behind d p)
      ∙ stays d among.behind (put_in d (put_each among.before p)) (none_behind among.before among.behind d (ap has_twice (sym among.split) ∙ h))
      ∙ itself d (put_each among.before p)

  pub found : (front back : List Tree) (t : Tree) (d : Definition) (p : Definitions) → sound_definition t ≡ Some d
      → put_answer (definitions_of (front ++ t ∷ back)) ≡ puts.Done
      → at_url d.kind d.url (after (put (front ++ t ∷ back)) p) ≡ Some d.tree
  found front back t d p is done = by (definitions_of (front ++ t ∷ back)) refl done
    where
      on : (ds : List Definition) → Among d back ds → (b : Bool) → has_twice ds ≡ b → cond b puts.Twice puts.Done ≡ puts.Done
          → at_url d.kind d.url (cond b p (put_each ds p)) ≡ Some d.tree
      on ds among true h done = absurd cc
      on ds among false h done = is_found ds d back p among h

      by : (o : Option (List Definition)) → definitions_of (front ++ t ∷ back) ≡ o → put_answer o ≡ puts.Done → at_url d.kind d.url (put_after o p) ≡ Some d.tree
      by None at done = absurd cc
      by (Some ds) at done = on ds (one_of front back t d is ds at) (has_twice ds) refl done

pub refused : (ts : List Tree) (p : Definitions) → (put_answer (definitions_of ts) ≡ puts.Done → ⊥) → after (put ts) p ≡ p
refused ts p not_done = by (definitions_of ts) not_done
  where
    on : (b : Bool) (q : Definitions) → (cond b puts.Twice puts.Done ≡ puts.Done → ⊥) → cond b p q ≡ p
    on true q h = refl
    on false q h = absurd (h refl)

    by : (o : Option (List Definition)) → (put_answer o ≡ puts.Done → ⊥) → put_after o p ≡ p
    by None h = refl
    by (Some ds) h = on (has_twice ds) (put_each ds p) h

pub bad : (front back : List Tree) (t : Tree) → sound_definition t ≡ None → put_answer (definitions_of (front ++ t ∷ back)) ≡ puts.NoDefinition
bad front back t is = ap put_answer (none_of front back t is)

pub twice : (front between back : List Tree) (t u : Tree) (d e : Definition) → sound_definition t ≡ Some d → sound_definition u ≡ Some e
    → is_same d e ≡ true → put_answer (definitions_of (front ++ t ∷ (between ++ u ∷ back))) ≡ puts.Done → ⊥
twice front between back t u d e first second same done = by (definitions_of (front ++ t ∷ (between ++ u ∷ back))) refl done
  where
    on : (ds : List Definition) → definitions_of (front ++ t ∷ (between ++ u ∷ back)) ≡ Some ds → (b : Bool) → has_twice ds ≡ b
        → cond b puts.Twice puts.Done ≡ puts.Done → ⊥
    on ds at true h done = absurd cc
    on ds at false h done =
        let one = one_of front (between ++ u ∷ back) t d first ds at in
        let other = one_of between back u e second one.behind one.others in
        false≢true (sym (none_behind one.before one.behind d (ap has_twice (sym one.split) ∙ h))
        ∙ ap (λ (es : List Definition). list_any (is_same d) es) other.split ∙ any_among d e other.before other.behind same)

    by : (o : Option (List Definition)) → definitions_of (front ++ t ∷ (between ++ u ∷ back)) ≡ o → put_answer o ≡ puts.Done → ⊥
    by None at done = absurd cc
    by (Some ds) at done = on ds at (has_twice ds) refl done
