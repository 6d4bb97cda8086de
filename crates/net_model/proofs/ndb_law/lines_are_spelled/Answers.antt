use Rattle.std.proofs.Common.{true}
use Rattle.net_base.specs.NdbText.{goes_on}
use Rattle.formats.proofs.Shared.{line_reads, line_has_no_cause, line_is_spelled}
use Rattle.net_model.proofs.ndb_law.lines_are_spelled.Goals as goal
use Rattle.net_base.proofs.Shared.{and_none}

pub returns : goal.returns
returns c = record {
  reads = λ line pairs r. (line_reads line pairs r, line_has_no_cause true line pairs (and_none (goes_on line)) r);
  spelled = λ line file none. line_is_spelled true line file none;
}
