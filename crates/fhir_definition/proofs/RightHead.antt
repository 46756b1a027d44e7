-- The fields of a head, which are judged in another order than they are written.
use Rattle.std.proofs.Common.{◌≡◌, Bool, true, false, ◌&&◌, is_some, codes, refl}
use Rattle.fhir_json.specs.Tree.{Text, Tree}
use Rattle.fhir_json.specs.Fields.{text_in, allows_text, allows_flag}
use Rattle.fhir_prims.specs.Texts.{is_uri}
use Rattle.fhir_definition.specs.Head.{kind_in, has_right_derivation, is_known_if_primitive, has_right_snapshot, has_right_head}

abbrev all_nine : Bool → Bool → Bool → Bool → Bool → Bool → Bool → Bool → Bool → Bool
all_nine u v k a t b d p s = u && v && k && a && t && b && d && p && s

needed_fails : (u v k a t b d p s : Bool) → (k && t) ≡ false → all_nine u v k a t b d p s ≡ false
needed_fails false v k a t b d p s e = refl
needed_fails true false k a t b d p s e = refl
needed_fails true true false a t b d p s e = refl
needed_fails true true true false t b d p s e = refl
needed_fails true true true true false b d p s e = refl
needed_fails true true true true true b d p s e = cc

optional_fails : (u v k a t b d p s : Bool) → (v && a && b && d && s) ≡ false → all_nine u v k a t b d p s ≡ false
optional_fails false v k a t b d p s e = refl
optional_fails true false k a t b d p s e = refl
optional_fails true true false a t b d p s e = refl
optional_fails true true true false t b d p s e = refl
optional_fails true true true true false b d p s e = refl
optional_fails true true true true true false d p s e = refl
optional_fails true true true true true true false p s e = refl
optional_fails true true true true true true true false s e = refl
optional_fails true true true true true true true true false e = refl
optional_fails true true true true true true true true true e = cc

all_hold : (u v k a t b d p s : Bool) → u ≡ true → (k && t) ≡ true → (v && a && b && d && s) ≡ true → p ≡ true
    → all_nine u v k a t b d p s ≡ true
all_hold true true true true true true true true true e f g h = refl
all_hold false v k a t b d p s e f g h = cc
all_hold true v false a t b d p s e f g h = cc
all_hold true v true a false b d p s e f g h = cc
all_hold true false true a true b d p s e f g h = cc
all_hold true true true false true b d p s e f g h = cc
all_hold true true true true true false d p s e f g h = cc
all_hold true true true true true true false p s e f g h = cc
all_hold true true true true true true true p false e f g h = cc
all_hold true true true true true true true false true e f g h = cc

pub needed_wrong : (url : Text) (t : Tree) → (is_some (kind_in t) && is_some (text_in (codes "type") t)) ≡ false → has_right_head url t ≡ false
needed_wrong url t e =
    needed_fails (is_uri url) (allows_text (codes "version") t) (is_some (kind_in t)) (allows_flag (codes "abstract") t)
    (is_some (text_in (codes "type") t)) (allows_text (codes "baseDefinition") t) (has_right_derivation t) (is_known_if_primitive t)
    (has_right_snapshot t) e

pub optional_wrong : (url : Text) (t : Tree) → (allows_text (codes "version") t && allows_flag (codes "abstract") t && allows_text (codes "baseDefinition") t
    && has_right_derivation t && has_right_snapshot t) ≡ false → has_right_head url t ≡ false
optional_wrong url t e =
    optional_fails (is_uri url) (allows_text (codes "version") t) (is_some (kind_in t)) (allows_flag (codes "abstract") t)
    (is_some (text_in (codes "type") t)) (allows_text (codes "baseDefinition") t) (has_right_derivation t) (is_known_if_primitive t)
    (has_right_snapshot t) e

pub head_right : (url : Text) (t : Tree) → is_uri url ≡ true → (is_some (kind_in t) && is_some (text_in (codes "type") t)) ≡ true
    → (allows_text (codes "version") t && allows_flag (codes "abstract") t && allows_text (codes "baseDefinition") t
    && has_right_derivation t && has_right_snapshot t) ≡ true → is_known_if_primitive t ≡ true → has_right_head url t ≡ true
head_right url t e f g h =
    all_hold (is_uri url) (allows_text (codes "version") t) (is_some (kind_in t)) (allows_flag (codes "abstract") t)
    (is_some (text_in (codes "type") t)) (allows_text (codes "baseDefinition") t) (has_right_derivation t) (is_known_if_primitive t)
    (has_right_snapshot t) e f g h
