use Rattle.std.proofs.Common.{◌≡◌, ◌||◌, true, false, refl, sym, ap, ◌∙◌, arith, rules}
use Rattle.std.specs.Str.{bytes_eq}
use Rattle.fhir_json.specs.Tree.{Text, names}
use Rattle.fhir_json.specs.Views.{members_view, property_of}
use Rattle.fhir_json.specs.Keys.{has_key}
use Rattle.fhir_json.proofs.Differing.{all_new, all_new-none, all_new-added, all_new-held, names_from}
use Rattle.fhir_json.proofs.uniqueness.differ_in.Goals as goal

pub loop-member-init : goal.loop-member-init
loop-member-init c = all_new-none (λ name. has_key name c.new-seen.result) (names (members_view c.args.members.now)) (λ name. rw (c.new-seen.ensures.empty) refl)

pub returns-then-not-branch : goal.returns-then-not-branch
returns-then-not-branch c =
    let first = names_from c.args.members.now c.loop-member.member-index c.member-item.result (omega arith) c.member-item.is in
    let held : has_key ((property_of c.member-item.result).0) c.loop-member.seen ≡ true = grind arith in
    sym (all_new-held (λ name. has_key name c.loop-member.seen) _ _ held) ∙ ap (all_new (λ name. has_key name c.loop-member.seen)) (sym first) ∙ c.loop-member.invariant

pub loop-member-preserved : goal.loop-member-preserved
loop-member-preserved c =
    let first = names_from c.args.members.now c.loop-member.member-index c.member-item.result (omega arith) c.member-item.is in
    let added : (other : Text) → has_key other c.add_name.new.set ≡ (bytes_eq other (property_of c.member-item.result).0 || has_key other c.loop-member.seen) = λ other. grind arith in
    let free : has_key ((property_of c.member-item.result).0) c.loop-member.seen ≡ false = grind arith in
    sym (all_new-added (λ name. has_key name c.loop-member.seen) (λ name. has_key name c.add_name.new.set) _ _ added free)
    ∙ ap (all_new (λ name. has_key name c.loop-member.seen)) (sym first) ∙ c.loop-member.invariant
