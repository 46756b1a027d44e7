use Rattle.std.proofs.Common.{◌∙◌}
use Rattle.fhir_entail.proofs.Unlike.{as_seen, unlike_boolean, unlike_number, unlike_text, unlike_name, unlike_child, unlike_call, unlike_typed, unlike_filtered, unlike_binary}
use Rattle.fhir_entail.proofs.sameness.+same_expression.Goals as goal

pub returns-in_default-2 : goal.returns-in_default-2
returns-in_default-2 t c = rw c.in_default.is-0 (unlike_boolean c.in_default.field-0-0 _ c.in_default.not-Boolean-1 ∙ as_seen _ _)

pub returns-in_default-3 : goal.returns-in_default-3
returns-in_default-3 t c = rw c.in_default.is-0 (unlike_number c.in_default.field-0-0 _ c.in_default.not-Number-1 ∙ as_seen _ _)

pub returns-in_default-4 : goal.returns-in_default-4
returns-in_default-4 t c = rw c.in_default.is-0 (unlike_text c.in_default.field-0-0 _ c.in_default.not-Text-1 ∙ as_seen _ _)

pub returns-in_default-8 : goal.returns-in_default-8
returns-in_default-8 t c = rw c.in_default.is-0 (unlike_name c.in_default.field-0-0 _ c.in_default.not-Name-1 ∙ as_seen _ _)

pub returns-in_default-9 : goal.returns-in_default-9
returns-in_default-9 t c = rw c.in_default.is-0 (unlike_child c.in_default.field-0-0 c.in_default.field-1-0 _ c.in_default.not-Child-1 ∙ as_seen _ _)

pub returns-in_default-10 : goal.returns-in_default-10
returns-in_default-10 t c = rw c.in_default.is-0 (unlike_call c.in_default.field-0-0 c.in_default.field-1-0 _ c.in_default.not-Call-1 ∙ as_seen _ _)

pub returns-in_default-11 : goal.returns-in_default-11
returns-in_default-11 t c = rw c.in_default.is-0 (unlike_typed c.in_default.field-0-0 c.in_default.field-1-0 c.in_default.field-2-0 _ c.in_default.not-Typed-1 ∙ as_seen _ _)

pub returns-in_default-12 : goal.returns-in_default-12
returns-in_default-12 t c = rw c.in_default.is-0 (unlike_filtered c.in_default.field-0-0 c.in_default.field-1-0 c.in_default.field-2-0 _ c.in_default.not-Filtered-1 ∙ as_seen _ _)

pub returns-in_default-13 : goal.returns-in_default-13
returns-in_default-13 t c = rw c.in_default.is-0 (unlike_binary c.in_default.field-0-0 c.in_default.field-1-0 c.in_default.field-2-0 _ c.in_default.not-Binary-1 ∙ as_seen _ _)
