use Rattle.answer_laws.proofs.Replying.{one_status}
use Rattle.answer_laws.proofs.commands.statuses_of_commands.Goals as goal

pub returns : goal.returns
returns c q s files reply is = one_status q s files reply is
