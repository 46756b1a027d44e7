use Rattle.std.proofs.Common.{◌≡◌, ℕ, ◌+◌, ◌<◌, length, length-drop, drop, nat_lt, List, Some, true, refl, sym, ap, ap₂, ◌∙◌, subst, arith, rules}
use Rattle.std.specs.Result.{OnOk}
use Rattle.fhir_json.proofs.Folds.{tree-arr}
use Rattle.fhir_json.specs.Views.{tree_of}
use Rattle.std.specs.List.{slice_get}
use Rattle.fhir_forms.specs.Forms.{Form}
use Rattle.fhir_schema.specs.Schemas.{forms}
use Rattle.fhir_instance.specs.declared.spelled.Spelled.{Spelled}
use Rattle.fhir_instance.specs.Spelled.{first_form, count_front}
use Rattle.fhir_instance.specs.Typing.{both, items_from}
use Rattle.fhir_instance.specs.Found.{kids_found, frame_of, held_at}
use Rattle.fhir_instance.proofs.Joining.{value_items, companion_items, step_joined, values_from, companions_from, pairs_from, pair_step, pairs_end, held_found, pair_value, one_pair, starts, places_fit}
use Rattle.fhir_instance.proofs.Ordered.{ascends_all}
use Rattle.fhir_instance.proofs.Walking.{rest_items, all_items, all_rest, first_within, first_places, first_rest, walk_step, walk_end, drop_more, IsRest}
use Rattle.std.proofs.lemmas.Bool.{lt-ltb}
use Rattle.fhir_instance.proofs.+typing.Goals as goal

pub children::add_each_value-loop-i-preserved : goal.children::add_each_value-loop-i-preserved
children::add_each_value-loop-i-preserved t c =
    step_joined (value_items c.args.schema.now c.args.form.now) c.args.items.now.items c.loop-i.i _ c.index.result.now _ _ _ refl
    (omega arith) c.index.ensures c.in_ok-add_value.ensures c.loop-i.invariant

pub children::add_each_alone-loop-i-preserved : goal.children::add_each_alone-loop-i-preserved
children::add_each_alone-loop-i-preserved t c =
    step_joined (companion_items c.args.schema.now c.args.form.now) c.args.items.now.items c.loop-i.i _ c.index.result.now _ _ _ refl
    (omega arith) c.index.ensures c.in_ok-add_alone.ensures c.loop-i.invariant

pub children::add_values-returns-in-Arr : goal.children::add_values-returns-in-Arr
children::add_values-returns-in-Arr t c =
    let is = ap tree_of c.in-Arr.is ∙ tree-arr c.in-Arr.items in
    subst (λ w. OnOk c.add_each_value.result (kids_found c.add_each_value.new.found ≡ both (kids_found c.args.found.now) w))
    (values_from c.args.schema.now c.args.form.now (tree_of c.args.json.now) c.in-Arr.items.items
    (sym c.if-not-repeats.ensures) is) c.add_each_value.ensures

pub children::add_companions-returns-in-Arr : goal.children::add_companions-returns-in-Arr
children::add_companions-returns-in-Arr t c =
    let is = ap tree_of c.in-Arr.is ∙ tree-arr c.in-Arr.items in
    subst (λ w. OnOk c.add_each_alone.result (kids_found c.add_each_alone.new.found ≡ both (kids_found c.args.found.now) w))
    (companions_from c.args.schema.now c.args.form.now (tree_of c.args.json.now) c.in-Arr.items.items
    (sym c.if-not-repeats.ensures) is) c.add_each_alone.ensures

pub pairs::add_both-returns-in-Arr-values : goal.pairs::add_both-returns-in-Arr-values
pairs::add_both-returns-in-Arr-values t c =
    let companions = ap tree_of c.in-Arr.is ∙ tree-arr c.in-Arr.companions in
    let values = ap tree_of c.in-Arr-values.is ∙ tree-arr c.in-Arr-values.values in
    subst (λ w. OnOk c.add_each_pair.result (kids_found c.add_each_pair.new.found ≡ both (kids_found c.args.found.now) w))
    (pairs_from c.args.schema.now c.args.form.now (tree_of c.args.values.now)
    (tree_of c.args.companions.now) c.in-Arr-values.values.items c.in-Arr.companions.items
    (sym c.if-not-repeats.ensures) values companions) c.add_each_pair.ensures

pub pairs::add_both-returns-then-not-repeats : goal.pairs::add_both-returns-then-not-repeats
pairs::add_both-returns-then-not-repeats t c =
    subst (λ w. OnOk c.add_one_pair.result (kids_found c.add_one_pair.new.found ≡ both (kids_found c.args.found.now) w))
    (one_pair c.args.schema.now c.args.form.now (tree_of c.args.values.now) (tree_of c.args.companions.now)
    (sym c.if-not-repeats.ensures)) c.add_one_pair.ensures

pub pairs::add_each_pair-loop-i-preserved : goal.pairs::add_each_pair-loop-i-preserved
pairs::add_each_pair-loop-i-preserved t c =
    pair_step c.args.schema.now c.args.form.now c.args.values.now.items c.args.companions.now.items c.loop-i.i c.index-in-loop-i.result.now
    c.index.result.now _ _ _ (omega arith) (omega arith) c.index-in-loop-i.ensures c.index.ensures c.in_ok-add_pair.ensures c.loop-i.invariant

pub pairs::add_each_pair-returns : goal.pairs::add_each_pair-returns
pairs::add_each_pair-returns t c =
    pairs_end c.args.schema.now c.args.form.now c.args.values.now.items c.args.companions.now.items c.loop-i.i (kids_found c.loop-i.found)
    (kids_found c.args.found.now) (omega arith) (omega arith) (omega arith) c.loop-i.invariant

pub children::add_form-returns-in-Some-companion : goal.children::add_form-returns-in-Some-companion
children::add_form-returns-in-Some-companion t c =
    let s = c.args.schema.now in
    let ms = c.args.members.now.items in
    let n = c.index-in-Some-companion.result.now in
    let none = ap (held_at s ms) c.in_default.is in
    let companion = held_found s ms c.args.at.companion c.in-Some-companion.k n (tree_of n.value) c.in-Some-companion.is c.requires.1
    c.index-in-Some-companion.ensures (pair_value n) in
    subst (λ w. OnOk c.add_companions.result (kids_found c.add_companions.new.found ≡ both (kids_found c.args.found.now) w))
    (ap₂ (items_from s c.args.form.now) (sym none) (sym companion)) c.add_companions.ensures

pub children::add_valued-returns-in_default : goal.children::add_valued-returns-in_default
children::add_valued-returns-in_default t c =
    let s = c.args.schema.now in
    let ms = c.args.members.now.items in
    let m = c.index-in_default.result.now in
    let value = held_found s ms (Some c.args.value) c.args.value m (tree_of m.value) refl c.requires.0 c.index-in_default.ensures (pair_value m) in
    let none = ap (held_at s ms) c.in_default.is in
    subst (λ w. OnOk c.add_values.result (kids_found c.add_values.new.found ≡ both (kids_found c.args.found.now) w))
    (ap₂ (items_from s c.args.form.now) (sym value) (sym none)) c.add_values.ensures

pub children::add_valued-returns : goal.children::add_valued-returns
children::add_valued-returns t c =
    let s = c.args.schema.now in
    let ms = c.args.members.now.items in
    let m = c.index-4.result.now in
    let n = c.index-3.result.now in
    let value = held_found s ms (Some c.args.value) c.args.value m (tree_of m.value) refl c.requires.0 c.index-4.ensures (pair_value m) in
    let companion = held_found s ms c.args.companion c.in-Some.k n (tree_of n.value) c.in-Some.is c.requires.1 c.index-3.ensures (pair_value n) in
    subst (λ w. OnOk c.add_both.result (kids_found c.add_both.new.found ≡ both (kids_found c.args.found.now) w))
    (ap₂ (items_from s c.args.form.now) (sym value) (sym companion)) c.add_both.ensures

pub children::object_kids-loop-i-init : goal.children::object_kids-loop-i-init
children::object_kids-loop-i-init t c =
    let s = c.args.schema.now in
    let fr = frame_of c.args.node c.args.role in
    let ms = c.args.members.now.items in
    let es = c.in_ok-spelled.spelled.items in
    let some : nat_lt 0 (length ms) ≡ true = lt-ltb 0 (length ms) (omega arith) in
    record {
      found = starts s fr ms (kids_found c.sorted_in.new.found) (kids_found c.in_ok-found.found)
          (rest_items s fr ms es) some c.in_ok-found.ensures c.in_ok-spelled.ensures.found
          (all_items s fr ms es c.forms_are_apart.ensures c.in_ok-spelled.ensures.spelled);
      rest = all_rest s fr ms es (ascends_all es c.in_ok-spelled.ensures.ascends) c.in_ok-spelled.ensures.spelled;
    }

pub children::object_kids-form_at-form-requires : goal.children::object_kids-form_at-form-requires
children::object_kids-form_at-form-requires t c =
    let s = c.args.schema.now in
    let es = drop c.loop-i.i c.in_ok-spelled.spelled.items in
    let some : 0 < length es = omega (arith, length-drop c.loop-i.i c.in_ok-spelled.spelled.items) in
    let within = first_within s (frame_of c.args.node c.args.role) c.args.members.now.items es c.loop-i.invariant.rest some in
    let form : c.group_at-group.result.form ≡ first_form es = c.group_at-group.ensures.form in
    let long : length c.forms-forms.result.now ≡ length (forms s c.args.node) = ap (λ (fs : List Form). length fs) c.forms-forms.ensures in
    omega arith

pub children::object_kids-add_form-requires : goal.children::object_kids-add_form-requires
children::object_kids-add_form-requires t c =
    let s = c.args.schema.now in
    let fr = frame_of c.args.node c.args.role in
    let ms = c.args.members.now.items in
    let es = drop c.loop-i.i c.in_ok-spelled.spelled.items in
    let f = c.form_at-form.result.now in
    let group = c.group_at-group.result in
    let some : 0 < length es = omega (arith, length-drop c.loop-i.i c.in_ok-spelled.spelled.items) in
    let form : slice_get (forms s c.args.node) (first_form es) ≡ Some f =
    ap₂ (λ (fs : List Form) (k : ℕ). slice_get fs k) (sym c.forms-forms.ensures) (sym c.group_at-group.ensures.form) ∙ c.form_at-form.ensures in (
      search rules,
      places_fit ms f group.places
          (first_places s fr ms es f group.places c.forms_are_apart.ensures c.loop-i.invariant.rest some form c.group_at-group.ensures.places),
    )

pub children::object_kids-loop-i-preserved : goal.children::object_kids-loop-i-preserved
children::object_kids-loop-i-preserved t c =
    let s = c.args.schema.now in
    let fr = frame_of c.args.node c.args.role in
    let ms = c.args.members.now.items in
    let all = c.in_ok-spelled.spelled.items in
    let es = drop c.loop-i.i all in
    let f = c.form_at-form.result.now in
    let group = c.group_at-group.result in
    let some : 0 < length es = omega (arith, length-drop c.loop-i.i all) in
    let form : slice_get (forms s c.args.node) (first_form es) ≡ Some f =
    ap₂ (λ (fs : List Form) (k : ℕ). slice_get fs k) (sym c.forms-forms.ensures) (sym c.group_at-group.ensures.form) ∙ c.form_at-form.ensures in
    let rest : drop (c.loop-i.i + group.count) all ≡ drop (count_front (first_form es) es) es =
    drop_more all c.loop-i.i group.count (c.loop-i.i + group.count) refl ∙ ap (λ (n : ℕ). drop n es) c.group_at-group.ensures.count in
    record {
      found = walk_step s fr ms es (drop (c.loop-i.i + group.count) all) f group.places (kids_found c.loop-i.found)
          (kids_found c.add_form.new.found) _ c.forms_are_apart.ensures
          c.loop-i.invariant.rest some form c.group_at-group.ensures.places rest c.in_ok-add_form.ensures c.loop-i.invariant.found;
      rest = subst (λ (l : List Spelled). IsRest s fr ms l) (sym rest) (first_rest s fr ms es c.loop-i.invariant.rest some);
    }

pub children::object_kids-returns : goal.children::object_kids-returns
children::object_kids-returns t c =
    walk_end c.args.schema.now (frame_of c.args.node c.args.role) c.args.members.now.items c.in_ok-spelled.spelled.items c.loop-i.i
    (kids_found c.loop-i.found) _ (omega arith) c.loop-i.invariant.found
