-- What is kept, as callers see it.
use Rattle.std.proofs.Common.{◌≡◌, ℕ, zero, suc, ◌-◌, Bool, true, false, not, cond, List, [], ◌∷◌, map, take, filter, Option, None, Some, IfSome, is_some, Contains, refl, sym, ap, ap₂, subst, ◌∙◌, inl, inr, ◌⊎◌}
use Rattle.std.specs.Prelude.{Result, Ok, Err, OnOk, OnErr, IfOk}
use Rattle.std.specs.List.{list_any}
use Rattle.std.specs.Option.{option_map, option_map_or}
use Rattle.std.specs.Map.{lookup, lookup_entry, remove_entry}
use Rattle.lru.specs.LruCache.{LruCache, lru_cache, promoted}
use Rattle.lru.proofs.Splits.{Contains-head, Contains-tail}
use Rattle.lru.proofs.CallerLemmas.{Contains-lookup}
use Rattle.fhir_json.specs.Tree.{Text, Tree}
use Rattle.fhir_package.specs.Definitions.{Definitions}
use Rattle.fhir_package.specs.Packing.{Definition}
use Rattle.fhir_reach.specs.Reach.{all_put_keys}
use Rattle.fhir_reach.specs.Keys.{KeyValue, has_key, same_keys}
use Rattle.fhir_commands.specs.Commands.{CommandValue, put, remove, asks_same, question_seen}
use Rattle.fhir_commands.specs.declared.question.Question.{Question}
use Rattle.fhir_commands.specs.Replies.{ReplyValue, reply_seen, refuses, reply_tree, line_of}
use Rattle.fhir_commands.specs.declared.reply.Reply.{Reply}
use Rattle.fhir_registry.specs.declared.kept.Kept.{Kept}
use Rattle.fhir_registry.specs.Session.{IsReplyBy, reach_of}
use Rattle.fhir_registry.specs.Lines.{WritesReply}
use Rattle.fhir_registry.specs.Keeping.{KeptReplies, reply_kept, left_by, ForgetsAll, KeepsFor}
use Rattle.fhir_registry.specs.Sound.{entry_seen, IsRightReply, AreRightReplies, AddsReply, KeepsNew, is_untouched, Retains}
use Rattle.fhir_registry.proofs.Equal.{asks_one, IsQuestionTest, one_test}
use Rattle.fhir_commands.specs.contracts.question.QuestionPartialEq.TheImpl as questions
use Rattle.fhir_registry.proofs.Right.{touched_as, kept_right}
use Rattle.std.proofs.lemmas.Option.{same_Some}

abbrev Entries : Type 0
Entries = List (Question × Kept ReplyValue)

abbrev told_of : Kept ReplyValue → ReplyValue
told_of kept = kept.value

module _ (c : CommandValue) where
  abbrev test : Question → Bool
  test q = asks_same c (question_seen q)

  pub lookup_seen : (es : Entries) → reply_kept c (map entry_seen es) ≡ option_map told_of (lookup test es)
  lookup_seen [] = refl
  lookup_seen (e ∷ es) = by (test e.0) (lookup_seen es)
    where
      by : (b : Bool) → reply_kept c (map entry_seen es) ≡ option_map told_of (lookup test es)
          → cond b (Some (told_of e.1)) (reply_kept c (map entry_seen es)) ≡ option_map told_of (cond b (Some e.1) (lookup test es))
      by true rest = refl
      by false rest = rest

  entry_there : (es : Entries) → lookup_entry (asks_same c) (map entry_seen es) ≡ option_map entry_seen (lookup_entry test es)
  entry_there [] = refl
  entry_there (e ∷ es) = by (test e.0) (entry_there es)
    where
      by : (b : Bool) → lookup_entry (asks_same c) (map entry_seen es) ≡ option_map entry_seen (lookup_entry test es)
          → cond b (Some (entry_seen e)) (lookup_entry (asks_same c) (map entry_seen es)) ≡ option_map entry_seen (cond b (Some e) (lookup_entry test es))
      by true rest = refl
      by false rest = rest

  removed_seen : (es : Entries) → remove_entry (asks_same c) (map entry_seen es) ≡ map entry_seen (remove_entry test es)
  removed_seen [] = refl
  removed_seen (e ∷ es) = by (test e.0) (removed_seen es)
    where
      by : (b : Bool) → remove_entry (asks_same c) (map entry_seen es) ≡ map entry_seen (remove_entry test es)
          → cond b (map entry_seen es) (entry_seen e ∷ remove_entry (asks_same c) (map entry_seen es)) ≡ map entry_seen (cond b es (e ∷ remove_entry test es))
      by true rest = refl
      by false rest = ap (λ (l : KeptReplies). entry_seen e ∷ l) rest

  pub promoted_seen : (es : Entries) → map entry_seen (promoted test es) ≡ promoted (asks_same c) (map entry_seen es)
  promoted_seen es = by (lookup_entry test es) ∙ sym (ap (λ (o : Option (CommandValue × ReplyValue)). option_map_or (λ e. e ∷ remove_entry (asks_same c) (map entry_seen es)) o (map entry_seen es)) (entry_there es))
    where
      by : (o : Option (Question × Kept ReplyValue)) → map entry_seen (option_map_or (λ e. e ∷ remove_entry test es) o es)
          ≡ option_map_or (λ e. e ∷ remove_entry (asks_same c) (map entry_seen es)) (option_map entry_seen o) (map entry_seen es)
      by None = refl
      by (Some e) = ap (λ (l : KeptReplies). entry_seen e ∷ l) (sym (removed_seen es))

-- no change is kept
pub none_kept_put : (ts : List Tree) (kept : KeptReplies) → reply_kept (put ts) kept ≡ None
none_kept_put ts [] = refl
none_kept_put ts (e ∷ kept) = none_kept_put ts kept

pub none_kept_remove : (url : Text) (kept : KeptReplies) → reply_kept (remove url) kept ≡ None
none_kept_remove url [] = refl
none_kept_remove url (e ∷ kept) = none_kept_remove url kept

pub all_left : (p : Definitions) (kept : KeptReplies) → left_by p [] kept ≡ kept
all_left p [] = refl
all_left p (e ∷ kept) = ap (λ (l : KeptReplies). e ∷ l) (all_left p kept)

pub some_mapped : {A B : Type 0} (f : A → B) (o : Option A) → is_some (option_map f o) ≡ is_some o
some_mapped f None = refl
some_mapped f (Some x) = refl

-- what is kept to a command is a reply to it
pub kept_is : (texts : Option (List Text)) (p : Definitions) (c : CommandValue) (cache : LruCache Question (Kept ReplyValue)) → AreRightReplies texts p cache
    → IfSome (reply_kept c (map entry_seen cache.entries)) (λ r. IsReplyBy texts p c r × (refuses r ≡ false))
kept_is texts p c cache right =
    subst (λ (o : Option ReplyValue). IfSome o (λ r. IsReplyBy texts p c r × (refuses r ≡ false))) (sym (lookup_seen c cache.entries)) (by (lookup (test c) cache.entries) refl)
  where
    by : (o : Option (Kept ReplyValue)) → lookup (test c) cache.entries ≡ o → IfSome (option_map told_of o) (λ r. IsReplyBy texts p c r × (refuses r ≡ false))
    by None is = tt
    by (Some kept) is =
        let at = Contains-lookup (test c) cache.entries kept is in
        let e : Question × Kept ReplyValue = (at.0, kept) in
        let good = right e at.1 in
        (subst (λ (d : CommandValue). IsReplyBy texts p d (told_of kept)) (sym (asks_one c (question_seen at.0) at.2)) good.reply, good.answers)

-- ---- what is left

module _ (tests : (keys others : List KeyValue) → same_keys keys others ≡ true → (k : KeyValue) → has_key keys k ≡ has_key others k) (texts : Option (List Text)) (p : Definitions) where
  left_seen : (changed : List KeyValue) (es : Entries) → ((e : Question × Kept ReplyValue) → Contains es e → IsRightReply texts p e)
      → map entry_seen (filter (λ e. is_untouched changed e.1) es) ≡ left_by p changed (map entry_seen es)
  left_seen changed [] right = refl
  left_seen changed (e ∷ es) right =
      by (is_untouched changed e.1) (ap not (touched_as tests e.1.keys (reach_of p (question_seen e.0)) changed (right e (Contains-head e es)).same))
      (left_seen changed es (λ x there. right x (Contains-tail e es x there)))
    where
      by : (b : Bool) → b ≡ not (list_any (has_key (reach_of p (question_seen e.0))) changed)
          → map entry_seen (filter (λ e. is_untouched changed e.1) es) ≡ left_by p changed (map entry_seen es)
          → map entry_seen (cond b (e ∷ filter (λ e. is_untouched changed e.1) es) (filter (λ e. is_untouched changed e.1) es)) ≡ left_by p changed (map entry_seen (e ∷ es))
      by true is rest =
          ap (λ (l : KeptReplies). entry_seen e ∷ l) rest
          ∙ ap (λ (b : Bool). cond b (entry_seen e ∷ left_by p changed (map entry_seen es)) (left_by p changed (map entry_seen es))) is
      by false is rest =
          rest ∙ ap (λ (b : Bool). cond b (entry_seen e ∷ left_by p changed (map entry_seen es)) (left_by p changed (map entry_seen es))) is

  pub forgets_seen : (changed : List KeyValue) (old new : LruCache Question (Kept ReplyValue)) → Retains changed old new → AreRightReplies texts p old
      → ForgetsAll p changed (map entry_seen old.entries) (map entry_seen new.entries)
  forgets_seen changed old new left right = elim left [
    | inl is ↦ inl (ap (λ (c : LruCache Question (Kept ReplyValue)). map entry_seen c.entries) is ∙ left_seen changed old.entries right)
    | inr is ↦ inr (ap (λ (c : LruCache Question (Kept ReplyValue)). map entry_seen c.entries) is)
  ]

-- ---- what is kept anew

taken_seen : (n : ℕ) (es : Entries) → map entry_seen (take n es) ≡ take n (map entry_seen es)
taken_seen zero es = refl
taken_seen (suc n) [] = refl
taken_seen (suc n) (e ∷ es) = ap (λ (l : KeptReplies). entry_seen e ∷ l) (taken_seen n es)

none_there : (test : Question → Bool) (es : Entries) → lookup test es ≡ None → lookup_entry test es ≡ None
none_there test [] none = refl
none_there test (e ∷ es) none = by (test e.0) none (none_there test es)
  where
    by : (b : Bool) → cond b (Some e.1) (lookup test es) ≡ None → (lookup test es ≡ None → lookup_entry test es ≡ None) → cond b (Some e) (lookup_entry test es) ≡ None
    by true none rest = cc
    by false none rest = rest none

added_seen : (q : Question) (reply : ReplyValue) (keys : List KeyValue) (old new : LruCache Question (Kept ReplyValue)) → old.cap ≡ 256
    → lookup (test (question_seen q)) old.entries ≡ None → AddsReply q reply keys old new
    → (map entry_seen new.entries ≡ map entry_seen old.entries) ⊎ (map entry_seen new.entries ≡ (question_seen q, reply) ∷ take 255 (map entry_seen old.entries))
added_seen q reply keys old new cap none adds = elim adds [
  | inl is ↦ inl (ap (λ (c : LruCache Question (Kept ReplyValue)). map entry_seen c.entries) is)
  | inr grows ↦ inr (
      ap (λ (c : LruCache Question (Kept ReplyValue)). map entry_seen c.entries) grows.3
      ∙ ap (λ (o : Option (Question × Kept ReplyValue)). map entry_seen (option_map_or (λ e. (e.0, grows.0) ∷ remove_entry (test (question_seen q)) old.entries) o ((q, grows.0) ∷ take (old.cap - 1) old.entries)))
      (none_there (test (question_seen q)) old.entries none)
      ∙ ap (λ (n : ℕ). (question_seen q, grows.0.value) ∷ map entry_seen (take (n - 1) old.entries)) cap
      ∙ ap₂ (λ (r : ReplyValue) (l : KeptReplies). (question_seen q, r) ∷ l) grows.1 (taken_seen 255 old.entries))
]

pub keeps_seen : (q : Question) (reply : ReplyValue) (keys : List KeyValue) (old new : LruCache Question (Kept ReplyValue)) → old.cap ≡ 256
    → lookup (test (question_seen q)) old.entries ≡ None → KeepsNew q reply keys old new
    → KeepsFor (question_seen q) reply (reply_kept (question_seen q) (map entry_seen old.entries)) (map entry_seen old.entries) (map entry_seen new.entries)
keeps_seen q reply keys old new cap none keeps =
    subst (λ (o : Option ReplyValue). KeepsFor (question_seen q) reply o (map entry_seen old.entries) (map entry_seen new.entries))
    (sym (lookup_seen (question_seen q) old.entries ∙ ap (option_map told_of) none)) (elim keeps [
      | inl refusal ↦ inl (ap (λ (c : LruCache Question (Kept ReplyValue)). map entry_seen c.entries) refusal.1)
      | inr answered ↦ elim (added_seen q reply keys old new cap none answered.1) [
        | inl same ↦ inl same
        | inr grown ↦ inr (answered.0, grown)
      ]
    ])

-- what is found goes first
pub found_seen : (q : Question) (reply : ReplyValue) (old new : LruCache Question (Kept ReplyValue)) → new ≡ lru_cache (promoted (test (question_seen q)) old.entries) old.cap
    → Some reply ≡ option_map told_of (lookup (test (question_seen q)) old.entries)
    → KeepsFor (question_seen q) reply (reply_kept (question_seen q) (map entry_seen old.entries)) (map entry_seen old.entries) (map entry_seen new.entries)
found_seen q reply old new is found =
    subst (λ (o : Option ReplyValue). KeepsFor (question_seen q) reply o (map entry_seen old.entries) (map entry_seen new.entries))
    (found ∙ sym (lookup_seen (question_seen q) old.entries))
    (ap (λ (c : LruCache Question (Kept ReplyValue)). map entry_seen c.entries) is ∙ promoted_seen (question_seen q) old.entries)

-- where nothing is found, nothing goes first
pub unfound : (test : Question → Bool) (old new : LruCache Question (Kept ReplyValue)) → new ≡ lru_cache (promoted test old.entries) old.cap → lookup test old.entries ≡ None → new ≡ old
unfound test old new is none =
    is ∙ ap (λ (o : Option (Question × Kept ReplyValue)). lru_cache (option_map_or (λ e. e ∷ remove_entry test old.entries) o old.entries) old.cap) (none_there test old.entries none)

pub none_of : (o : Option (Kept ReplyValue)) → None ≡ option_map told_of o → o ≡ None
none_of None is = refl
none_of (Some kept) is = cc

-- ---- ends of calls

pub on_ok : {A E P : Type 0} (r : Result A E) → P → OnOk r P
on_ok (Ok x) h = h
on_ok (Err e) h = tt

-- what is found is the reply that is kept
pub is_kept : (q : Question) (reply : ReplyValue) (es : Entries) → Some reply ≡ option_map told_of (lookup (test (question_seen q)) es)
    → reply_kept (question_seen q) (map entry_seen es) ≡ Some reply
is_kept q reply es found = lookup_seen (question_seen q) es ∙ sym found

-- the line that is kept is that of a right reply
pub line_there : (texts : Option (List Text)) (p : Definitions) (c : CommandValue) (cache : LruCache Question (Kept ReplyValue)) → AreRightReplies texts p cache
    → (written : List ℕ) → Some written ≡ option_map (λ kept. line_of (reply_tree kept.value)) (lookup (test c) cache.entries) → WritesReply (IsReplyBy texts p) c written
line_there texts p c cache right written found =
    by (lookup (test c) cache.entries)
    (subst (λ (o : Option ReplyValue). IfSome o (λ r. IsReplyBy texts p c r × (refuses r ≡ false))) (lookup_seen c cache.entries) (kept_is texts p c cache right)) found
  where
    by : (o : Option (Kept ReplyValue)) → IfSome (option_map told_of o) (λ r. IsReplyBy texts p c r × (refuses r ≡ false))
        → Some written ≡ option_map (λ kept. line_of (reply_tree kept.value)) o → WritesReply (IsReplyBy texts p) c written
    by None h is = cc
    by (Some kept) h is = (kept.value, h.0, same_Some written (line_of (reply_tree kept.value)) is)

-- where nothing is put in, nothing is forgotten
pub none_put_in : (p : Definitions) (kept : KeptReplies) (ds : List Definition) → ds ≡ [] → ForgetsAll p (all_put_keys ds p) kept kept
none_put_in p kept ds none = inl (sym (ap (λ (l : List Definition). left_by p (all_put_keys l p) kept) none ∙ all_left p kept))

pub if_none : {A : Type 0} (P : A → Type 0) (o : Option A) → o ≡ None → IfSome o P
if_none P None is = tt
if_none P (Some x) is = cc

pub if_some : {A : Type 0} (P : A → Type 0) (o : Option A) (x : A) → o ≡ Some x → P x → IfSome o P
if_some {A} P o x is h = subst (λ (o : Option A). IfSome o P) (sym is) h

-- whether a reply is kept
pub holds_seen : (q : Question) (es : Entries) (kept : KeptReplies) (d : CommandValue) (told : Bool) → IsQuestionTest → told ≡ is_some (lookup (questions.eq-value.it q) es)
    → map entry_seen es ≡ kept → question_seen q ≡ d → told ≡ is_some (reply_kept d kept)
holds_seen q es kept d told is asked seen same =
    asked
    ∙ ap (λ (f : Question → Bool). is_some (lookup f es)) (one_test is q)
    ∙ sym (some_mapped told_of (lookup (test (question_seen q)) es))
    ∙ ap is_some (sym (lookup_seen (question_seen q) es))
    ∙ ap₂ (λ (c : CommandValue) (l : KeptReplies). is_some (reply_kept c l)) same seen

-- ---- replies that are computed

abbrev pub IsComputed : {E : Type 0} → Result Reply E → Definitions → Question → LruCache Question (Kept ReplyValue) → LruCache Question (Kept ReplyValue) → Type 0
IsComputed r p q old new = IfOk r (λ reply. (keys : List KeyValue) × (same_keys keys (reach_of p (question_seen q)) ≡ true) × KeepsNew q (reply_seen reply) keys old new)

pub computed_right : {E : Type 0} (r : Result Reply E) (texts : Option (List Text)) (p : Definitions) (q : Question) (old new : LruCache Question (Kept ReplyValue))
    → OnErr r (new ≡ old) → IfOk r (λ reply. IsReplyBy texts p (question_seen q) (reply_seen reply)) → IsComputed r p q old new
    → AreRightReplies texts p old → AreRightReplies texts p new
computed_right (Ok reply) texts p q old new same told kept right = kept_right texts p q (reply_seen reply) kept.0 old new kept.2 kept.1 told right
computed_right (Err e) texts p q old new same told kept right = subst (AreRightReplies texts p) (sym same) right

pub computed_cap : {E : Type 0} (r : Result Reply E) (p : Definitions) (q : Question) (old new : LruCache Question (Kept ReplyValue)) → OnErr r (new ≡ old) → IsComputed r p q old new
    → new.cap ≡ old.cap
computed_cap (Err e) p q old new same kept = ap (λ c. c.cap) same
computed_cap (Ok reply) p q old new same kept = elim kept.2 [
  | inl refusal ↦ ap (λ c. c.cap) refusal.1
  | inr answered ↦ elim answered.1 [
    | inl is ↦ ap (λ c. c.cap) is
    | inr grows ↦ ap (λ c. c.cap) grows.3
  ]
]

pub computed_keeps : {E : Type 0} (r : Result Reply E) (p : Definitions) (q : Question) (old new : LruCache Question (Kept ReplyValue)) → old.cap ≡ 256
    → lookup (test (question_seen q)) old.entries ≡ None → IsComputed r p q old new
    → IfOk r (λ reply. KeepsFor (question_seen q) (reply_seen reply) (reply_kept (question_seen q) (map entry_seen old.entries)) (map entry_seen old.entries) (map entry_seen new.entries))
computed_keeps (Ok reply) p q old new cap none kept = keeps_seen q (reply_seen reply) kept.0 old new cap none kept.2
computed_keeps (Err e) p q old new cap none kept = tt
