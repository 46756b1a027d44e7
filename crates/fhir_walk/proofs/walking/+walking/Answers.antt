use Rattle.std.proofs.Common.{◌≡◌, ◌+◌, ◌&&◌, true, false, ℕ, suc, None, map, drop, string_bytes, add-one, refl, sym, ap, ◌∙◌}
use Rattle.std.specs.List.{list_any, flat_map}
use Rattle.std.proofs.lemmas.List.{drop_all}
use Rattle.fhir_json.specs.Bytes.{is_empty}
use Rattle.fhir_schema.specs.Covers.{covers, type_at}
use Rattle.fhir_schema.specs.Schemas.{type_root, slices}
use Rattle.fhir_instance.specs.Items.{type_of}
use Rattle.fhir_instance.specs.View.{item_of}
use Rattle.fhir_conformance.specs.Positions.{members}
use Rattle.fhir_conformance.specs.Asks.{child_ask, places_from, places_of, slice_asks, sliced_asks, own_root, root_asks, inner_asks}
use Rattle.fhir_conformance.specs.Conformance.{constant, conforms, types_hold, profile_holds}
use Rattle.fhir_walk.specs.Walks.{none, pass_all, rest_holds, is_rightly_sliced, Tells, TellsBeside, TellsOfKids}
use Rattle.fhir_walk.proofs.Parts.{joined, sliced_split, root_parts, inner_parts_last, root_told, inner_told}
use Rattle.fhir_walk.proofs.Kids.{named_from, first_asked, named_first, told_there}
use Rattle.fhir_walk.proofs.Settled.{settled_by}
use Rattle.fhir_walk.proofs.Sliced.{member_asked, member_told, asked_from, asked_next}
use Rattle.fhir_walk.proofs.Turns.{next, empty_is, both_left, both_failed, either_left, either_held, or_held, or_failed, empty_mapped, any_mapped, told_more}
use Rattle.fhir_walk.proofs.walking.+walking.Goals as goal

pub item_conforms-returns-then-is_root : goal.item_conforms-returns-then-is_root
item_conforms-returns-then-is_root t c =
    let s = c.args.schema.now in
    let x = item_of c.args.item.now in
    let n = c.args.node in
    told_more (Tells (item_of c.args.around.now) (λ here. pass_all s here x (root_asks s x n))) (Tells (item_of c.args.around.now) (λ here. conforms s (constant false) here x n))
    (λ told tells here near. tells here near
    ∙ sym (root_told s (c.roots_are_roots.ensures.of_type s) (c.roots_are_roots.ensures.of_canonical s) here x n (sym c.is_root.ensures ∙ c.if-is_root.true)))
    c.root_conforms.result c.root_conforms.ensures

pub item_conforms-returns-else-is_root : goal.item_conforms-returns-else-is_root
item_conforms-returns-else-is_root t c =
    let s = c.args.schema.now in
    let x = item_of c.args.item.now in
    let n = c.args.node in
    told_more (Tells (item_of c.args.around.now) (λ here. pass_all s here x (inner_asks s x n))) (Tells (item_of c.args.around.now) (λ here. conforms s (constant false) here x n))
    (λ told tells here near. tells here near
    ∙ sym (inner_told s (c.roots_are_roots.ensures.of_type s) (c.roots_are_roots.ensures.of_canonical s) here x n (sym c.is_root.ensures ∙ c.if-is_root.false)))
    c.inner_conforms.result c.inner_conforms.ensures

pub root_conforms-returns : goal.root_conforms-returns
root_conforms-returns t c =
    let s = c.args.schema.now in
    let x = item_of c.args.item.now in
    let r = c.args.root in
    let covered : covers s (type_at s r) (type_of x) ≡ true =
    (λ i. covers s (sym c.type_code.ensures i) (sym c.code.ensures i)) ∙ sym c.covers.ensures ∙ c.if-not-covers.false in
    told_more (TellsBeside s x None (item_of c.args.around.now) (λ here. rest_holds s here x r)) (Tells (item_of c.args.around.now) (λ here. pass_all s here x (root_asks s x r)))
    (λ told tells here near. tells here near refl
    ∙ sym (both_left (pass_all s here x (root_asks s x r)) (covers s (type_at s r) (type_of x)) (rest_holds s here x r) (root_parts s here x r) covered))
    c.rest_conforms.result c.rest_conforms.ensures

pub inner_conforms-returns-then-not-branch : goal.inner_conforms-returns-then-not-branch
inner_conforms-returns-then-not-branch t c = λ here near.
    let s = c.args.schema.now in
    let x = item_of c.args.item.now in
    let n = c.args.node in
    both_failed (pass_all s here x (inner_asks s x n)) (types_hold s none (conforms s (constant false) here x) x n)
    (pass_all s here x (own_root (type_root s (type_of x))) && rest_holds s here x n) (inner_parts_last s here x n)
    (sym (c.in_ok-types_hold.ensures here near) ∙ c.if-not-branch.true)

pub inner_conforms-returns-then-not-branch-2 : goal.inner_conforms-returns-then-not-branch-2
inner_conforms-returns-then-not-branch-2 t c = λ here near.
    let s = c.args.schema.now in
    let x = item_of c.args.item.now in
    let n = c.args.node in
    let own = pass_all s here x (own_root (type_root s (type_of x))) in
    both_failed (pass_all s here x (inner_asks s x n)) own (rest_holds s here x n)
    (both_left (pass_all s here x (inner_asks s x n)) (types_hold s none (conforms s (constant false) here x) x n) (own && rest_holds s here x n) (inner_parts_last s here x n)
    (sym (c.in_ok-types_hold.ensures here near) ∙ c.if-not-branch.false))
    (ap (λ o. pass_all s here x (own_root o)) (sym c.own_root-root.ensures) ∙ sym (c.in_ok-own_root_holds.ensures here near) ∙ c.if-not-branch-2.true)

pub inner_conforms-returns : goal.inner_conforms-returns
inner_conforms-returns t c =
    let s = c.args.schema.now in
    let x = item_of c.args.item.now in
    let n = c.args.node in
    let root = c.own_root-root.result in
    told_more (TellsBeside s x root (item_of c.args.around.now) (λ here. rest_holds s here x n)) (Tells (item_of c.args.around.now) (λ here. pass_all s here x (inner_asks s x n)))
    (λ told tells here near.
    let own = pass_all s here x (own_root (type_root s (type_of x))) in
    let holds : pass_all s here x (own_root root) ≡ true = sym (c.in_ok-own_root_holds.ensures here near) ∙ c.if-not-branch-2.false in
    tells here near (settled_by s (c.roots_are_roots.ensures.of_type s) (c.roots_are_roots.ensures.of_canonical s) here x root (λ r is. c.roots_are_roots.ensures.of_type s (type_of x) r (sym c.own_root-root.ensures ∙ is)) holds)
    ∙ sym (both_left (pass_all s here x (inner_asks s x n)) own (rest_holds s here x n)
    (both_left (pass_all s here x (inner_asks s x n)) (types_hold s none (conforms s (constant false) here x) x n) (own && rest_holds s here x n) (inner_parts_last s here x n)
    (sym (c.in_ok-types_hold.ensures here near) ∙ c.if-not-branch.false))
    (ap (λ o. pass_all s here x (own_root o)) (sym c.own_root-root.ensures) ∙ holds)))
    c.rest_conforms.result c.rest_conforms.ensures

pub named_conform-returns-then-not-branch : goal.named_conform-returns-then-not-branch
named_conform-returns-then-not-branch t c = λ here stands.
    let s = c.args.schema.now in
    let x = item_of c.args.item.now in
    let n = c.args.node in
    let name = c.args.name.now in
    let ks = c.kids-kid-items.result.now in
    let i = c.loop-kid.kid-index in
    let k = c.kid-item.result in
    let rest = named_from s here x n name (suc i) (drop (i + 1) ks) in
    let step : named_from s here x n name i (drop i ks) ≡ (first_asked s here x n name i k && rest) =
    ap (named_from s here x n name i) (next ks i k c.loop-kid-test.true c.kid-item.is) ∙ named_first s here x n name i k (drop (i + 1) ks) in
    let told : c.in_ok-kid_conforms.field-0 ≡ first_asked s here x n name i k =
    told_there s here x n name i k ks (item_of c.args.resource.now) c.in_ok-kid_conforms.field-0 c.kids-kid-items.ensures c.loop-kid-test.true c.kid-item.is stands
    (λ here near. c.in_ok-kid_conforms.ensures here near) in
    both_failed (named_from s here x n name i (drop i ks)) (first_asked s here x n name i k) rest step (sym told ∙ c.if-not-branch.true)
    ∙ c.loop-kid.invariant here stands
    ∙ ap (λ kids. pass_all s here x (map (child_ask n) (places_from 0 name kids))) c.kids-kid-items.ensures

pub named_conform-loop-kid-preserved : goal.named_conform-loop-kid-preserved
named_conform-loop-kid-preserved t c = λ here stands.
    let s = c.args.schema.now in
    let x = item_of c.args.item.now in
    let n = c.args.node in
    let name = c.args.name.now in
    let ks = c.kids-kid-items.result.now in
    let i = c.loop-kid.kid-index in
    let k = c.kid-item.result in
    let rest = named_from s here x n name (suc i) (drop (i + 1) ks) in
    let step : named_from s here x n name i (drop i ks) ≡ (first_asked s here x n name i k && rest) =
    ap (named_from s here x n name i) (next ks i k c.loop-kid-test.true c.kid-item.is) ∙ named_first s here x n name i k (drop (i + 1) ks) in
    let told : c.in_ok-kid_conforms.field-0 ≡ first_asked s here x n name i k =
    told_there s here x n name i k ks (item_of c.args.resource.now) c.in_ok-kid_conforms.field-0 c.kids-kid-items.ensures c.loop-kid-test.true c.kid-item.is stands
    (λ here near. c.in_ok-kid_conforms.ensures here near) in
    ap (λ (j : ℕ). named_from s here x n name j (drop (i + 1) ks)) (add-one i)
    ∙ sym (both_left (named_from s here x n name i (drop i ks)) (first_asked s here x n name i k) rest step (sym told ∙ c.if-not-branch.false))
    ∙ c.loop-kid.invariant here stands

pub profiles_hold-returns-then-branch : goal.profiles_hold-returns-then-branch
profiles_hold-returns-then-branch t c = λ here near.
    let s = c.args.schema.now in
    let x = item_of c.args.item.now in
    let p = profile_holds s none (conforms s (constant false) here x) x in
    let ps = c.args.profiles.now in
    let i = c.loop-profile.profile-index in
    let one = c.profile-item.result in
    or_held (is_empty (map string_bytes ps)) (list_any p (map string_bytes ps))
    (either_held (list_any (λ q. p (string_bytes q)) (drop i ps)) (p (string_bytes one)) (list_any (λ q. p (string_bytes q)) (drop (i + 1) ps))
    (ap (list_any (λ q. p (string_bytes q))) (next ps i one c.loop-profile-test.true c.profile-item.is))
    (sym (c.in_ok-profile_holds.ensures here near ∙ ap p c.as_str.ensures.value) ∙ c.if-branch.true)
    ∙ c.loop-profile.invariant here near
    ∙ any_mapped p string_bytes ps)

pub profiles_hold-loop-profile-preserved : goal.profiles_hold-loop-profile-preserved
profiles_hold-loop-profile-preserved t c = λ here near.
    let s = c.args.schema.now in
    let x = item_of c.args.item.now in
    let p = profile_holds s none (conforms s (constant false) here x) x in
    let ps = c.args.profiles.now in
    let i = c.loop-profile.profile-index in
    let one = c.profile-item.result in
    sym (either_left (list_any (λ q. p (string_bytes q)) (drop i ps)) (p (string_bytes one)) (list_any (λ q. p (string_bytes q)) (drop (i + 1) ps))
    (ap (list_any (λ q. p (string_bytes q))) (next ps i one c.loop-profile-test.true c.profile-item.is))
    (sym (c.in_ok-profile_holds.ensures here near ∙ ap p c.as_str.ensures.value) ∙ c.if-branch.false))
    ∙ c.loop-profile.invariant here near

pub profiles_hold-returns : goal.profiles_hold-returns
profiles_hold-returns t c = λ here near.
    let s = c.args.schema.now in
    let x = item_of c.args.item.now in
    let p = profile_holds s none (conforms s (constant false) here x) x in
    let ps = c.args.profiles.now in
    let i = c.loop-profile.profile-index in
    or_failed (is_empty (map string_bytes ps)) (list_any p (map string_bytes ps))
    (sym (empty_mapped string_bytes ps) ∙ sym c.is_empty.ensures ∙ c.if-is_empty.false)
    (sym (ap (list_any (λ q. p (string_bytes q))) (drop_all i ps c.loop-profile-test.false))
    ∙ c.loop-profile.invariant here near
    ∙ any_mapped p string_bytes ps)

pub members_conform-returns-then-not-branch : goal.members_conform-returns-then-not-branch
members_conform-returns-then-not-branch t c = λ here stands.
    let s = c.args.schema.now in
    let x = item_of c.args.item.now in
    let n = c.args.slice in
    let name = c.args.name.now in
    let ks = c.kids-kid-items.result.now in
    let i = c.loop-kid.kid-index in
    let k = c.kid-item.result in
    let told : c.in_ok-member_conforms.field-0 ≡ member_asked s here x n name i k =
    member_told s here x n name i k ks (item_of c.args.resource.now) c.in_ok-member_conforms.field-0 c.kids-kid-items.ensures c.loop-kid-test.true c.kid-item.is stands
    (λ here near. c.in_ok-member_conforms.ensures here near) in
    both_failed (asked_from s here x n name i (drop i ks)) (member_asked s here x n name i k) (asked_from s here x n name (i + 1) (drop (i + 1) ks))
    (asked_next s here x n name i k ks c.kids-kid-items.ensures c.loop-kid-test.true c.kid-item.is) (sym told ∙ c.if-not-branch.true)
    ∙ c.loop-kid.invariant here stands
    ∙ ap (λ kids. pass_all s here x (map (child_ask n) (members s x n (places_from 0 name kids)))) c.kids-kid-items.ensures

pub members_conform-loop-kid-preserved : goal.members_conform-loop-kid-preserved
members_conform-loop-kid-preserved t c = λ here stands.
    let s = c.args.schema.now in
    let x = item_of c.args.item.now in
    let n = c.args.slice in
    let name = c.args.name.now in
    let ks = c.kids-kid-items.result.now in
    let i = c.loop-kid.kid-index in
    let k = c.kid-item.result in
    let told : c.in_ok-member_conforms.field-0 ≡ member_asked s here x n name i k =
    member_told s here x n name i k ks (item_of c.args.resource.now) c.in_ok-member_conforms.field-0 c.kids-kid-items.ensures c.loop-kid-test.true c.kid-item.is stands
    (λ here near. c.in_ok-member_conforms.ensures here near) in
    sym (both_left (asked_from s here x n name i (drop i ks)) (member_asked s here x n name i k) (asked_from s here x n name (i + 1) (drop (i + 1) ks))
    (asked_next s here x n name i k ks c.kids-kid-items.ensures c.loop-kid-test.true c.kid-item.is) (sym told ∙ c.if-not-branch.false))
    ∙ c.loop-kid.invariant here stands

pub sliced_conform-returns-then-not-is_rightly_sliced : goal.sliced_conform-returns-then-not-is_rightly_sliced
sliced_conform-returns-then-not-is_rightly_sliced t c = λ here stands.
    let s = c.args.schema.now in
    let x = item_of c.args.item.now in
    let n = c.args.node in
    let name = c.args.name.now in
    let some : is_empty (slices s n) ≡ false =
    sym (empty_is c.slices-slices.result.now ∙ ap is_empty c.slices-slices.ensures) ∙ sym c.is_empty.ensures ∙ c.if-is_empty.false in
    both_failed (pass_all s here x (sliced_asks s x name (places_of name x) n)) (is_rightly_sliced s n name x)
    (pass_all s here x (flat_map (slice_asks s x name (places_of name x) n) (slices s n)))
    (sliced_split s here x name n some (sym c.asks_sequence.ensures ∙ c.if-asks_sequence.false)) (sym c.is_rightly_sliced.ensures ∙ c.if-not-is_rightly_sliced.true)

pub sliced_conform-returns : goal.sliced_conform-returns
sliced_conform-returns t c =
    let s = c.args.schema.now in
    let x = item_of c.args.item.now in
    let n = c.args.node in
    let name = c.args.name.now in
    let some : is_empty (slices s n) ≡ false =
    sym (empty_is c.slices-slices.result.now ∙ ap is_empty c.slices-slices.ensures) ∙ sym c.is_empty.ensures ∙ c.if-is_empty.false in
    told_more
    (TellsOfKids s x (item_of c.args.resource.now) (λ here. pass_all s here x (flat_map (slice_asks s x name (places_of name x) n) (slices s n))))
    (TellsOfKids s x (item_of c.args.resource.now) (λ here. pass_all s here x (sliced_asks s x name (places_of name x) n)))
    (λ told tells here stands. tells here stands
    ∙ sym (both_left (pass_all s here x (sliced_asks s x name (places_of name x) n)) (is_rightly_sliced s n name x)
    (pass_all s here x (flat_map (slice_asks s x name (places_of name x) n) (slices s n)))
    (sliced_split s here x name n some (sym c.asks_sequence.ensures ∙ c.if-asks_sequence.false)) (sym c.is_rightly_sliced.ensures ∙ c.if-not-is_rightly_sliced.false)))
    c.slices_conform.result c.slices_conform.ensures

pub slices_conform-returns-then-not-branch : goal.slices_conform-returns-then-not-branch
slices_conform-returns-then-not-branch t c = λ here stands.
    let s = c.args.schema.now in
    let x = item_of c.args.item.now in
    let f = slice_asks s x c.args.name.now (places_of c.args.name.now x) c.args.node in
    let ks = c.slices-slice-items.result.now in
    let i = c.loop-slice.slice-index in
    let k = c.slice-item.result in
    both_failed (pass_all s here x (flat_map f (drop i ks))) (pass_all s here x (f k)) (pass_all s here x (flat_map f (drop (i + 1) ks)))
    (ap (λ l. pass_all s here x (flat_map f l)) (next ks i k c.loop-slice-test.true c.slice-item.is) ∙ joined s here x (f k) (flat_map f (drop (i + 1) ks)))
    (sym (c.in_ok-slice_conforms.ensures here stands) ∙ c.if-not-branch.true)
    ∙ c.loop-slice.invariant here stands
    ∙ ap (λ l. pass_all s here x (flat_map f l)) c.slices-slice-items.ensures

pub slices_conform-loop-slice-preserved : goal.slices_conform-loop-slice-preserved
slices_conform-loop-slice-preserved t c = λ here stands.
    let s = c.args.schema.now in
    let x = item_of c.args.item.now in
    let f = slice_asks s x c.args.name.now (places_of c.args.name.now x) c.args.node in
    let ks = c.slices-slice-items.result.now in
    let i = c.loop-slice.slice-index in
    let k = c.slice-item.result in
    sym (both_left (pass_all s here x (flat_map f (drop i ks))) (pass_all s here x (f k)) (pass_all s here x (flat_map f (drop (i + 1) ks)))
    (ap (λ l. pass_all s here x (flat_map f l)) (next ks i k c.loop-slice-test.true c.slice-item.is) ∙ joined s here x (f k) (flat_map f (drop (i + 1) ks)))
    (sym (c.in_ok-slice_conforms.ensures here stands) ∙ c.if-not-branch.false))
    ∙ c.loop-slice.invariant here stands
