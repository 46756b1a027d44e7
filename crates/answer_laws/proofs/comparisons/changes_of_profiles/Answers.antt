use Rattle.answer_laws.proofs.Compared.{narrows_new, widens_old, same_new, same_old}
use Rattle.answer_laws.proofs.comparisons.changes_of_profiles.Goals as goal

pub returns-clause-narrows : goal.returns-clause-narrows
returns-clause-narrows c old made mark place e w there profile said is = narrows_new old made mark place e w there profile said is

pub returns-clause-widens : goal.returns-clause-widens
returns-clause-widens c old made mark place e w there profile said is = widens_old old made mark place e w there profile said is

pub returns-clause-same_new : goal.returns-clause-same_new
returns-clause-same_new c old made mark place e w there profile said is = same_new old made mark place e w there profile said is

pub returns-clause-same_old : goal.returns-clause-same_old
returns-clause-same_old c old made mark place e w there profile said is = same_old old made mark place e w there profile said is
