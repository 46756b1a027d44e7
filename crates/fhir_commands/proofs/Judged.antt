-- The line of a validation, from its parts.
use Rattle.std.proofs.Common.{◌≡◌, [], ◌++◌, codes, sym, ap, ◌∙◌}
use Rattle.std.proofs.lemmas.List.{append-nil, append_assoc}
use Rattle.fhir_json.specs.Tree.{Text, Tree}
use Rattle.fhir_json.specs.Compact.{compact, escape_text}
use Rattle.fhir_commands.specs.declared.reply.Standing.{Standing}
use Rattle.fhir_commands.specs.declared.reply.Standing.TheVariants.{Conforms, Violates, Open, Fault}
use Rattle.fhir_commands.specs.Replies.{validate, reply_tree, line_of, judgement_front}

-- the outcome is the last member, behind which the object and the line end
ended : (t : Text) → t ++ codes "}\n" ≡ ((t ++ []) ++ codes "}") ++ codes "\n"
ended t = ap (λ (u : Text). u ++ codes "}\n") (sym (append-nil t)) ∙ sym (append_assoc (t ++ []) (codes "}") (codes "\n"))

pub judged : (standing : Standing) (outcome : Tree) → judgement_front standing ++ (compact outcome ++ codes "}\n") ≡ line_of (reply_tree (validate standing outcome))
unfolding escape_text
judged Conforms outcome = ap (λ t. judgement_front Conforms ++ t) (ended (compact outcome))
judged Violates outcome = ap (λ t. judgement_front Violates ++ t) (ended (compact outcome))
judged Open outcome = ap (λ t. judgement_front Open ++ t) (ended (compact outcome))
judged Fault outcome = ap (λ t. judgement_front Fault ++ t) (ended (compact outcome))
