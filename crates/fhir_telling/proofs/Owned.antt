-- What is told of a resource by its own profiles, and of bytes that are none.
use Rattle.std.proofs.Common.{◌≡◌, List, ◌∷◌, Bool, true, false, is_some, Result, Ok, Err, IfOk, sym, subst, ◌∙◌}
use Rattle.std.proofs.lemmas.Bool.{false≢true}
use Rattle.fhir_json.specs.declared.fault.JsonFault.{JsonFault}
use Rattle.fhir_json.specs.declared.memory.NoMemory.{NoMemory}
use Rattle.fhir_json.specs.Grammar.{Reads}
use Rattle.fhir_json.specs.Memory.{IsFault}
use Rattle.fhir_json.specs.Tree.{Text, Tree}
use Rattle.fhir_claims.specs.Claims.{type_node, own_url, profiles_of, skipped_of}
use Rattle.fhir_telling.specs.declared.judgement.Told.{Told}
use Rattle.fhir_telling.specs.Judgements.{ToldValue}
use Rattle.fhir_telling.specs.Questions.{QuestionValue}
use Rattle.fhir_telling.specs.Telling.{AreToldByOwn, IsToldByOwn}

-- what is known of a result that is right
pub as_ok : {P Q : Told → Type 0} → ((t : Told) → P t → Q t) → (r : Result Told NoMemory) → IfOk r P → IfOk r Q
as_ok so (Ok t) is = so t is
as_ok so (Err e) is = tt

pub by_claims : (q : QuestionValue) (bytes : Text) (t : Tree) (told : ToldValue) (typed : Bool) (profiles skipped : List Text) → Reads bytes t
    → typed ≡ is_some (type_node q.schema t) → profiles ≡ profiles_of q.schema q.skips_unknown t → skipped ≡ skipped_of q.schema q.skips_unknown t
    → (others : List Text) × (profiles_of q.schema q.skips_unknown t ≡ own_url q.schema t ∷ others)
    → ((own : Text) (others : List Text) → profiles ≡ own ∷ others → AreToldByOwn q bytes typed own others skipped told)
    → IsToldByOwn q bytes told
by_claims q bytes t told typed profiles skipped reads same_type same_profiles same_skipped (others, first) so = record {
  t = t;
  reads = reads;
  own = own_url q.schema t;
  claims = others;
  profiles = first;
  are = subst (λ s. AreToldByOwn q bytes (is_some (type_node q.schema t)) (own_url q.schema t) others s told) same_skipped
      (subst (λ b. AreToldByOwn q bytes b (own_url q.schema t) others skipped told) same_type (so (own_url q.schema t) others (same_profiles ∙ first)));
}

pub not_read : (b : Bool) (fault : JsonFault) (t : Tree) → b ≡ false → IsFault b fault (Ok t) → ⊥
not_read true fault t e h = absurd (false≢true (sym e))
not_read false fault t e h = cc
