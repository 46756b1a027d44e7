use Rattle.answer_laws.proofs.Replying.{errors_told, told_faults, noted_status, noted_out}
use Rattle.answer_laws.proofs.commands.streams_of_commands.Goals as goal

pub returns-clause-errors : goal.returns-clause-errors
returns-clause-errors c q s files reply is plain = errors_told q s files reply is plain

pub returns-clause-told : goal.returns-clause-told
returns-clause-told c q s files reply is told = told_faults q s files reply is told

pub returns-clause-noted_status : goal.returns-clause-noted_status
returns-clause-noted_status c notes out status = noted_status notes status out

pub returns-clause-noted_out : goal.returns-clause-noted_out
returns-clause-noted_out c notes out status = noted_out notes status out
