-- What is kept stays right.
use Rattle.std.proofs.Common.{◌≡◌, ◌-◌, ℕ, Bool, true, false, not, List, [], ◌∷◌, inl, inr, Option, None, Some, is_some, take, Contains, filter, Vec, refl, sym, ap, ap₂, subst, ◌∙◌, ◌||◌}
use Rattle.std.specs.Prelude.{if◌then◌else◌, IsSomeAnd, slice_get, IfOk, Result, Ok, Err, OnOk, OnErr}
use Rattle.std.specs.List.{list_any}
use Rattle.std.specs.Option.{option_map, option_map_or}
use Rattle.std.specs.Map.{lookup, lookup_entry, remove_entry}
use Rattle.std.proofs.lemmas.Bool.{false≢true}
use Rattle.lru.specs.LruCache.{LruCache, lru_cache, promoted, put_entries}
use Rattle.lru.proofs.Splits.{Contains-head, Contains-tail, Contains-cons, Contains-nil}
use Rattle.lru.proofs.CallerLemmas.{Contains-promoted, Contains-put_entries, Contains-lookup_entry}
use Rattle.lru.proofs.Pairs.{lookup-lookup_entry}
use Rattle.fhir_json.specs.Tree.{Text}
use Rattle.fhir_package.specs.Definitions.{Definitions}
use Rattle.fhir_reach.specs.declared.key.Key.{Key}
use Rattle.fhir_reach.specs.Keys.{KeyValue, key_seen, keys_seen, has_key, same_keys}
use Rattle.fhir_reach.specs.Reach.{restrict}
use Rattle.fhir_reach.specs.Search.{reached}
use Rattle.fhir_schema.specs.Schemas.{SchemaValue}
use Rattle.fhir_commands.specs.Commands.{CommandValue, asks_same, question_seen}
use Rattle.fhir_commands.specs.declared.question.Question.{Question}
use Rattle.fhir_commands.specs.declared.question.Question.TheVariants.{Validate, Derive}
use Rattle.fhir_commands.specs.Replies.{ReplyValue, refuses}
use Rattle.fhir_registry.specs.declared.kept.Kept.{Kept}
use Rattle.fhir_registry.specs.Session.{IsQuestion, IsReplyBy, starts_by, reach_of}
use Rattle.fhir_registry.specs.Sound.{IsSchemaOf, IsRightFor, IsRightSchema, AreRightSchemas, IsRightReply, AreRightReplies, AddsReply, KeepsNew, is_untouched, Retains, IsSound}
use Rattle.fhir_registry.proofs.Elsewhere.{by_reach}
use Rattle.fhir_registry.proofs.Equal.{starts_eq, same_start, asks_one, IsQuestionTest, one_equality}
use Rattle.fhir_commands.specs.contracts.question.QuestionPartialEq.TheImpl as questions

-- ---- entries of any cache

not-true : (b : Bool) → not b ≡ true → b ≡ false
not-true true h = cc
not-true false h = refl

-- what a filter leaves was there, and passes
of_filter : {X : Type 0} (p : X → Bool) (xs : List X) (x : X) → Contains (filter p xs) x → Contains xs x × (p x ≡ true)
of_filter p [] x c = absurd (Contains-nil x c)
of_filter p (y ∷ xs) x c = go (p y) refl c (of_filter p xs x)
  where
    go : (b : Bool) → p y ≡ b → Contains (if b then y ∷ filter p xs else filter p xs) x → (Contains (filter p xs) x → Contains xs x × (p x ≡ true)) → Contains (y ∷ xs) x × (p x ≡ true)
    go true e d rest = elim (Contains-cons y (filter p xs) x d) [
      | inl same ↦ (subst (Contains (y ∷ xs)) same (Contains-head y xs), ap p (sym same) ∙ e)
      | inr on ↦ let r = rest on in (Contains-tail y xs x r.0, r.1)
    ]
    go false e d rest = let r = rest d in (Contains-tail y xs x r.0, r.1)

module _ {Q V : Type 0} (P : Q × V → Type 0) where
  abbrev pub AllAre : LruCache Q V → Type 0
  AllAre cache = (e : Q × V) → Contains cache.entries e → P e

  pub all_promoted : (test : Q → Bool) (old new : LruCache Q V) → new ≡ lru_cache (promoted test old.entries) old.cap → AllAre old → AllAre new
  all_promoted test old new is all = subst AllAre (sym is) (λ e c. all e (Contains-promoted test old.entries e c))

  pub all_put : (eq : Q → Q → Bool) → ((k q : Q) (v : V) → eq k q ≡ true → P (k, v) → P (q, v)) → (k : Q) (v : V) (old new : LruCache Q V)
      → new ≡ lru_cache (put_entries eq old k v) old.cap → P (k, v) → AllAre old → AllAre new
  all_put eq same k v old new is good all = subst AllAre (sym is) each
    where
      each : AllAre (lru_cache (put_entries eq old k v) old.cap)
      each e c = elim (Contains-put_entries eq old k v e c) [
        | inl was ↦ all e was
        | inr put ↦ subst (λ (w : V). P (e.0, w)) (sym put.0) (elim put.1 [
          | inl key ↦ subst (λ (q : Q). P (q, v)) (sym key) good
          | inr there ↦ same k e.0 v there.2 good
        ])
      ]

  none_are : (cap : ℕ) → AllAre (lru_cache [] cap)
  none_are cap e c = absurd (Contains-nil e c)

pub same_cap : {Q A : Type 0} (changed : List KeyValue) (old new : LruCache Q (Kept A)) → Retains changed old new → new.cap ≡ old.cap
same_cap changed old new left = elim left [
  | inl is ↦ ap (λ c. c.cap) is
  | inr is ↦ ap (λ c. c.cap) is
]

-- ---- lists of the same keys

-- what is reached is touched as what is kept in its stead
module _ (tests : (keys others : List KeyValue) → same_keys keys others ≡ true → (k : KeyValue) → has_key keys k ≡ has_key others k) where
  pub touched_as : (keys others changed : List KeyValue) → same_keys keys others ≡ true → list_any (has_key keys) changed ≡ list_any (has_key others) changed
  touched_as keys others [] same = refl
  touched_as keys others (k ∷ changed) same = ap₂ (λ (a b : Bool). a || b) (tests keys others same k) (touched_as keys others changed same)

  untouched : {A : Type 0} (kept : Kept A) (others changed : List KeyValue) → same_keys kept.keys others ≡ true → is_untouched changed kept ≡ true
      → list_any (has_key others) changed ≡ false
  untouched kept others changed same stays = sym (touched_as kept.keys others changed same) ∙ not-true _ stays

  -- ---- what is kept, once the definitions change

  module _ (p q : Definitions) (changed : List KeyValue)
      (same : (keys : List KeyValue) → list_any (has_key keys) changed ≡ false → restrict q keys ≡ restrict p keys)
      (reach : (start : List KeyValue) → list_any (has_key (reached p start)) changed ≡ false → reached q start ≡ reached p start) where
    moved_schema : {Y : Type 0} (e : Vec Key Y × Kept SchemaValue) → is_untouched changed e.1 ≡ true → IsRightSchema p e → IsRightSchema q e
    moved_schema e stays right =
        let start = keys_seen e.0.items in
        let free = untouched e.1 (reached p start) changed right.same stays in
        let on = reach start free in
        record {
          same = subst (λ (keys : List KeyValue). same_keys e.1.keys keys ≡ true) (sym on) right.same;
          schema = subst (λ (d : Definitions). IsSchemaOf d e.1.value) (sym (same (reached p start) free) ∙ ap (λ (keys : List KeyValue). restrict q keys) (sym on)) right.schema;
        }

    pub moved_schemas : {Y : Type 0} (old new : LruCache (Vec Key Y) (Kept SchemaValue)) → Retains changed old new → AreRightSchemas p old → AreRightSchemas q new
    moved_schemas old new left right = elim left [
      | inl is ↦ subst (AreRightSchemas q) (sym is) (λ e c. let from = of_filter (λ e. is_untouched changed e.1) old.entries e c in moved_schema e from.1 (right e from.0))
      | inr is ↦ subst (AreRightSchemas q) (sym is) (none_are (IsRightSchema q) old.cap)
    ]

    module _ (texts : Option (List Text)) where
      is_question : (question : Question) → IsQuestion (question_seen question)
      is_question (Validate profile bytes) = tt
      is_question (Derive derived base) = tt

      moved_reply : (e : Question × Kept ReplyValue) → is_untouched changed e.1 ≡ true → IsRightReply texts p e → IsRightReply texts q e
      moved_reply e stays right =
          let c = question_seen e.0 in
          let free = untouched e.1 (reach_of p c) changed right.same stays in
          record {
            same = subst (λ (keys : List KeyValue). same_keys e.1.keys keys ≡ true) (sym (reach (starts_by c) free)) right.same;
            reply = by_reach texts p q c e.1.value (is_question e.0) (sym (same (reach_of p c) free)) (reach (starts_by c) free) right.reply;
            answers = right.answers;
          }

      pub moved_replies : (old new : LruCache Question (Kept ReplyValue)) → Retains changed old new → AreRightReplies texts p old → AreRightReplies texts q new
      moved_replies old new left right = elim left [
        | inl is ↦ subst (AreRightReplies texts q) (sym is) (λ e c. let from = of_filter (λ e. is_untouched changed e.1) old.entries e c in moved_reply e from.1 (right e from.0))
        | inr is ↦ subst (AreRightReplies texts q) (sym is) (none_are (IsRightReply texts q) old.cap)
      ]

      pub moved_sound : {Y : Type 0} (schemas new : LruCache (Vec Key Y) (Kept SchemaValue)) (replies others : LruCache Question (Kept ReplyValue))
          → Retains changed schemas new → Retains changed replies others → IsSound texts p schemas replies → IsSound texts q new others
      moved_sound schemas new replies others left rest sound = record {
        right_schemas = moved_schemas schemas new left sound.right_schemas;
        right_replies = moved_replies replies others rest sound.right_replies;
        schemas_bound = same_cap changed schemas new left ∙ sound.schemas_bound;
        replies_bound = same_cap changed replies others rest ∙ sound.replies_bound;
      }

-- what is left was right by the definitions that were, too
pub left_schemas : {Y : Type 0} (p : Definitions) (changed : List KeyValue) (old new : LruCache (Vec Key Y) (Kept SchemaValue)) → Retains changed old new
    → AreRightSchemas p old → AreRightSchemas p new
left_schemas p changed old new left right = elim left [
  | inl is ↦ subst (AreRightSchemas p) (sym is) (λ e c. right e (of_filter (λ e. is_untouched changed e.1) old.entries e c).0)
  | inr is ↦ subst (AreRightSchemas p) (sym is) (none_are (IsRightSchema p) old.cap)
]

pub left_replies : (texts : Option (List Text)) (p : Definitions) (changed : List KeyValue) (old new : LruCache Question (Kept ReplyValue)) → Retains changed old new
    → AreRightReplies texts p old → AreRightReplies texts p new
left_replies texts p changed old new left right = elim left [
  | inl is ↦ subst (AreRightReplies texts p) (sym is) (λ e c. right e (of_filter (λ e. is_untouched changed e.1) old.entries e c).0)
  | inr is ↦ subst (AreRightReplies texts p) (sym is) (none_are (IsRightReply texts p) old.cap)
]

pub left_sound : {Y : Type 0} (texts : Option (List Text)) (p : Definitions) (changed : List KeyValue) (schemas new : LruCache (Vec Key Y) (Kept SchemaValue))
    (replies others : LruCache Question (Kept ReplyValue)) → Retains changed schemas new → Retains changed replies others → IsSound texts p schemas replies
    → IsSound texts p new others
left_sound texts p changed schemas new replies others left rest sound = record {
  right_schemas = left_schemas p changed schemas new left sound.right_schemas;
  right_replies = left_replies texts p changed replies others rest sound.right_replies;
  schemas_bound = same_cap changed schemas new left ∙ sound.schemas_bound;
  replies_bound = same_cap changed replies others rest ∙ sound.replies_bound;
}

-- whether memory was refused or not
pub either_sound : {B E Y : Type 0} (r : Result B E) (texts : Option (List Text)) (p q now : Definitions) (schemas : LruCache (Vec Key Y) (Kept SchemaValue))
    (replies : LruCache Question (Kept ReplyValue)) → OnOk r (now ≡ q) → OnErr r (now ≡ p) → IsSound texts q schemas replies → IsSound texts p schemas replies
    → IsSound texts now schemas replies
either_sound (Ok x) texts p q now schemas replies ok err new old = subst (λ (d : Definitions). IsSound texts d schemas replies) (sym ok) new
either_sound (Err x) texts p q now schemas replies ok err new old = subst (λ (d : Definitions). IsSound texts d schemas replies) (sym err) old

-- ---- what is put in

-- equal starts have one schema
pub same_schema : {Y : Type 0} (p : Definitions) (k q : Vec Key Y) (kept : Kept SchemaValue) → starts_eq k q ≡ true → IsRightSchema p (k, kept) → IsRightSchema p (q, kept)
same_schema p k q kept eq right = subst (λ (start : List KeyValue). IsRightFor p (reached p start) kept) (same_start k q eq) right

pub same_reply : (texts : Option (List Text)) (p : Definitions) (k q : Question) (kept : Kept ReplyValue) → asks_same (question_seen k) (question_seen q) ≡ true
    → IsRightReply texts p (k, kept) → IsRightReply texts p (q, kept)
same_reply texts p k q kept eq right =
    let one = asks_one (question_seen k) (question_seen q) eq in
    record {
      same = subst (λ (c : CommandValue). same_keys kept.keys (reach_of p c) ≡ true) one right.same;
      reply = subst (λ (c : CommandValue). IsReplyBy texts p c (kept.value)) one right.reply;
      answers = right.answers;
    }

-- a reply that is right may be kept
pub kept_right : (texts : Option (List Text)) (p : Definitions) (q : Question) (reply : ReplyValue) (keys : List KeyValue) (old new : LruCache Question (Kept ReplyValue))
    → KeepsNew q reply keys old new → same_keys keys (reach_of p (question_seen q)) ≡ true → IsReplyBy texts p (question_seen q) reply
    → AreRightReplies texts p old → AreRightReplies texts p new
kept_right texts p q reply keys old new keeps same told right = elim keeps [
  | inl refusal ↦ subst (AreRightReplies texts p) (sym refusal.1) right
  | inr answered ↦ elim answered.1 [
    | inl is ↦ subst (AreRightReplies texts p) (sym is) right
    | inr put ↦ all_put (IsRightReply texts p) (λ k r. asks_same (question_seen k) (question_seen r)) (same_reply texts p) q put.0 old new put.3 (record {
      same = subst (λ (l : List KeyValue). same_keys l (reach_of p (question_seen q)) ≡ true) (sym put.2) same;
      reply = subst (IsReplyBy texts p (question_seen q)) (sym put.1) told;
      answers = ap refuses put.1 ∙ answered.0;
    }) right
  ]
]

-- ---- what is asked of keys one by one

pub any_seen : (holds : KeyValue → Bool) (keys : List Key) → list_any (λ (key : Key). holds (key_seen key)) keys ≡ list_any holds (keys_seen keys)
any_seen holds [] = refl
any_seen holds (k ∷ keys) = ap (λ (b : Bool). holds (key_seen k) || b) (any_seen holds keys)

-- ---- the cache's own test

pub adds_reply : {B E : Type 0} (r : Result B E) → IsQuestionTest → (q : Question) (kept : Kept ReplyValue) (reply : ReplyValue) (keys : List KeyValue)
    (old new : LruCache Question (Kept ReplyValue)) → OnOk r (new ≡ lru_cache (put_entries questions.eq-value.it old q kept) old.cap) → OnErr r (new ≡ old)
    → kept.value ≡ reply → kept.keys ≡ keys → AddsReply q reply keys old new
adds_reply (Ok x) is q kept reply keys old new put same said with =
    inr (kept, said, with, put ∙ ap (λ (eq : Question → Question → Bool). lru_cache (put_entries eq old q kept) old.cap) (one_equality is))
adds_reply (Err x) is q kept reply keys old new put same said with = inl same

-- ---- schemas

-- one that is kept with the same keys is the schema for these
pub shared_right : {Y : Type 0} (p : Definitions) (cache : LruCache (Vec Key Y) (Kept SchemaValue)) (keys : List KeyValue) (start : Vec Key Y) (found kept : Kept SchemaValue)
    → ((p : Definitions) (keys others : List KeyValue) → same_keys keys others ≡ true → restrict p keys ≡ restrict p others)
    → AreRightSchemas p cache → Contains cache.entries (start, found) → same_keys found.keys keys ≡ true → kept.value ≡ found.value → kept.keys ≡ found.keys
    → IsRightFor p keys kept
shared_right p cache keys start found kept restrictions right there same value held =
    let own = right (start, found) there in
    let reach = reached p (keys_seen start.items) in
    record {
      same = subst (λ (l : List KeyValue). same_keys l keys ≡ true) (sym held) same;
      schema = subst (λ (s : SchemaValue). IsSchemaOf (restrict p keys) s) (sym value)
          (subst (λ (d : Definitions). IsSchemaOf d found.value) (sym (restrictions p found.keys reach own.same) ∙ restrictions p found.keys keys same) own.schema);
    }

pub shared_ok : {E Y : Type 0} (r : Result (Kept SchemaValue) E) (p : Definitions) (cache : LruCache (Vec Key Y) (Kept SchemaValue)) (keys : List KeyValue) (start : Vec Key Y)
    (found : Kept SchemaValue) → ((p : Definitions) (keys others : List KeyValue) → same_keys keys others ≡ true → restrict p keys ≡ restrict p others)
    → AreRightSchemas p cache → Contains cache.entries (start, found) → same_keys found.keys keys ≡ true → IfOk r (λ k. k.value ≡ found.value) → IfOk r (λ k. k.keys ≡ found.keys)
    → IfOk r (λ kept. IsRightFor p keys kept)
shared_ok (Ok kept) p cache keys start found restrictions right there same value held = shared_right p cache keys start found kept restrictions right there same value held
shared_ok (Err e) p cache keys start found restrictions right there same value held = tt

-- what is put is the first, and so is what is found and promoted
pub put_first : {Q V : Type 0} (P : Q × V → Type 0) (eq : Q → Q → Bool) (q : Q) (v : V) (old new : LruCache Q V) → new ≡ lru_cache (put_entries eq old q v) old.cap
    → ((k : Q) → P (k, v)) → IsSomeAnd (slice_get new.entries 0) P
put_first {Q} {V} P eq q v old new is good = subst (λ (s : LruCache Q V). IsSomeAnd (slice_get s.entries 0) P) (sym is) (go (lookup_entry (eq q) old.entries))
  where
    go : (o : Option (Q × V)) → IsSomeAnd (slice_get (option_map_or (λ e. (e.0, v) ∷ remove_entry (eq q) old.entries) o ((q, v) ∷ take (old.cap - 1) old.entries)) 0) P
    go None = good q
    go (Some e) = good e.0

pub promoted_first : {Q V : Type 0} (P : Q × V → Type 0) (test : Q → Bool) (old new : LruCache Q V) → new ≡ lru_cache (promoted test old.entries) old.cap
    → is_some (lookup test old.entries) ≡ true → ((e : Q × V) → Contains old.entries e → test e.0 ≡ true → P e) → IsSomeAnd (slice_get new.entries 0) P
promoted_first {Q} {V} P test old new is found good =
    subst (λ (s : LruCache Q V). IsSomeAnd (slice_get s.entries 0) P) (sym is) (go (lookup_entry test old.entries) refl)
  where
    go : (o : Option (Q × V)) → lookup_entry test old.entries ≡ o → IsSomeAnd (slice_get (option_map_or (λ e. e ∷ remove_entry test old.entries) o old.entries) 0) P
    go None e =
        let none : is_some (lookup test old.entries) ≡ false = ap is_some (sym (lookup-lookup_entry test old.entries) ∙ ap (λ (o : Option (Q × V)). option_map (λ f. f.1) o) e) in
        absurd (false≢true (sym none ∙ found))
    go (Some f) e = let there = Contains-lookup_entry test old.entries f e in good f there.0 there.1
