use Rattle.std.proofs.Common.{refl}
use lib.Utf8.{encode}
use Rattle.std.specs.Fmt.{digits}
use Rattle.std.specs.Str.{chars}
use Rattle.tool_laws.proofs.pages.written_pages.Goals as goal

pub returns-clause-tree : goal.returns-clause-tree
unfolding digits chars encode
returns-clause-tree c = refl

pub returns-clause-coded : goal.returns-clause-coded
unfolding digits chars encode
returns-clause-coded c = refl

pub returns-clause-whole : goal.returns-clause-whole
unfolding digits chars encode
returns-clause-whole c = refl
