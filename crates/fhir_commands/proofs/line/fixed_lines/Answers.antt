use Rattle.std.proofs.Common.{refl}
use Rattle.fhir_json.specs.Compact.{escape_text}
use Rattle.fhir_commands.proofs.line.fixed_lines.Goals as goal

pub returns-clause-line : goal.returns-clause-line
unfolding escape_text
returns-clause-line c = refl

pub returns-clause-memory : goal.returns-clause-memory
unfolding escape_text
returns-clause-memory c = refl

pub returns-clause-put_done : goal.returns-clause-put_done
unfolding escape_text
returns-clause-put_done c = refl

pub returns-clause-put_no_definition : goal.returns-clause-put_no_definition
unfolding escape_text
returns-clause-put_no_definition c = refl

pub returns-clause-put_twice : goal.returns-clause-put_twice
unfolding escape_text
returns-clause-put_twice c = refl

pub returns-clause-remove_done : goal.returns-clause-remove_done
unfolding escape_text
returns-clause-remove_done c = refl

pub returns-clause-remove_absent : goal.returns-clause-remove_absent
unfolding escape_text
returns-clause-remove_absent c = refl

pub returns-clause-derive_missing : goal.returns-clause-derive_missing
unfolding escape_text
returns-clause-derive_missing c = refl

pub returns-clause-derive_unusable : goal.returns-clause-derive_unusable
unfolding escape_text
returns-clause-derive_unusable c = refl
