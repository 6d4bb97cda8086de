use Rattle.std.proofs.Common.{refl}
use Rattle.std.specs.Fmt.{digits}
use Rattle.world_text.proofs.world_law.worked_world_lines.Goals as goal

pub returns-clause-one_datagram : goal.returns-clause-one_datagram
unfolding digits
returns-clause-one_datagram c = refl

pub returns-clause-every_line : goal.returns-clause-every_line
unfolding digits
returns-clause-every_line c = refl
