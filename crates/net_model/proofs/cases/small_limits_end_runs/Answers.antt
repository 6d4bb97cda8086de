use Rattle.net_model.proofs.CasesLimits.{lossy_passed, lossy_limited, datagram_enough, datagram_unlimited, nobody_moves_less, nobody_limited}
use Rattle.net_model.proofs.cases.small_limits_end_runs.Goals as goal

pub returns : goal.returns
returns c = record {
  passed = lossy_passed;
  limited = lossy_limited;
  enough = datagram_enough;
  enough_is_unlimited = datagram_unlimited;
  clock_moves = nobody_moves_less;
  clock_is_limited = nobody_limited;
}
