-- Runs whose callers may record few entries.
use Rattle.std.proofs.Common.{◌≡◌, true, false, [], ◌∷◌, ◌++◌, take, refl}
use Rattle.std.specs.Fmt.{digits}
use Rattle.rand_pcg.specs.Lcg.{state_after}
use Rattle.net_base.specs.Calm.{limited_to}
use Rattle.net_base.specs.Net.{opening_net}
use Rattle.net_base.specs.Number.{number}
use Rattle.net_model.specs.Rounds.{rounds_to}
use Rattle.world_text.specs.WorkedIl.{lossy_world, lossy_history}
use Rattle.world_text.specs.WorkedRuns.{who_recorded, moves, nobody_world}
use Rattle.world_text.specs.WorkedUdp.{datagram_world, datagram_history}

pub lossy_passed : who_recorded (rounds_to 7 60 lossy_world (opening_net lossy_world)).past ≡ who_recorded (take 19 lossy_history) ++ (2 ∷ 2 ∷ 2 ∷ [])
unfolding number digits state_after
lossy_passed = refl

pub lossy_limited : limited_to 7 lossy_world (rounds_to 7 60 lossy_world (opening_net lossy_world)) ≡ true
unfolding number digits state_after
lossy_limited = refl

pub datagram_enough : (rounds_to 8 30 datagram_world (opening_net datagram_world)).past ≡ datagram_history
unfolding number digits state_after
datagram_enough = refl

pub datagram_unlimited : limited_to 8 datagram_world (rounds_to 8 30 datagram_world (opening_net datagram_world)) ≡ false
unfolding number digits state_after
datagram_unlimited = refl

pub nobody_moves_less : moves (rounds_to 10 100 nobody_world (opening_net nobody_world)).past ≡ 10 ∷ 510 ∷ 1510 ∷ 3510 ∷ []
unfolding number digits state_after
nobody_moves_less = refl

pub nobody_limited : limited_to 10 nobody_world (rounds_to 10 100 nobody_world (opening_net nobody_world)) ≡ true
unfolding number digits state_after
nobody_limited = refl
