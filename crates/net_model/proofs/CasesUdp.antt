-- The history of a datagram is legal, timed and done, and is the run's.
use Rattle.std.proofs.Common.{◌≡◌, true, [], refl, arith}
use Rattle.std.specs.Fmt.{digits}
use Rattle.rand_pcg.specs.Lcg.{state_after}
use Rattle.net_base.specs.Calm.{done}
use Rattle.net_base.specs.Legal.{IsLegal, IsTimed}
use Rattle.net_base.specs.Net.{after, opening_net}
use Rattle.net_base.specs.Number.{number}
use Rattle.net_model.specs.Rounds.{run_of}
use Rattle.world_text.specs.WorkedUdp.{datagram_world, datagram_history}
use Rattle.net_model.proofs.Walk.{Follow, is_legal, is_timed}

pub datagram_is_done : done datagram_world (after datagram_world datagram_history) ≡ true
unfolding number digits state_after
datagram_is_done = refl

pub datagram_is_the_run : run_of 30 datagram_world ≡ datagram_history
unfolding number digits state_after
datagram_is_the_run = refl

follow : Follow datagram_world [] (opening_net datagram_world) datagram_history
unfolding number digits state_after
follow = (
  record { answers = refl; at_moment = refl; cites = refl; is_asked = refl; is_ready = refl; is_known = (refl, omega arith); has_room = omega arith },
  (
    record { answers = refl; at_moment = refl; cites = refl; is_asked = refl; is_ready = refl; is_known = (refl, omega arith); has_room = omega arith },
    (
      record { answers = refl; at_moment = refl; cites = refl; is_asked = refl; is_ready = refl; is_known = (refl, omega arith); has_room = omega arith },
      (
        record { answers = refl; at_moment = refl; cites = refl; is_asked = refl; is_ready = refl; is_known = (refl, omega arith); has_room = omega arith },
        (
          record { answers = refl; at_moment = refl; cites = refl; is_asked = refl; is_ready = refl; is_known = (refl, omega arith); has_room = omega arith },
          (
            record { answers = refl; at_moment = refl; cites = refl; is_asked = refl; is_ready = refl; is_known = (refl, omega arith); has_room = omega arith },
            (
              record { answers = refl; at_moment = refl; cites = refl; is_asked = refl; is_ready = refl; is_known = (refl, omega arith); has_room = omega arith },
              (
                record { answers = refl; at_moment = refl; cites = refl; is_asked = refl; is_ready = refl; is_known = (refl, omega arith); has_room = omega arith },
                (
                  record { answers = refl; at_moment = refl; cites = refl; is_asked = refl; is_ready = refl; is_known = (refl, omega arith); has_room = omega arith },
                  (
                    record { answers = refl; at_moment = refl; cites = refl; is_asked = refl; is_ready = refl; is_known = (refl, omega arith); has_room = omega arith },
                    (
                      record { answers = refl; at_moment = refl; cites = refl; is_asked = refl; is_ready = refl; is_known = (refl, omega arith); has_room = omega arith },
                      (
                        record { answers = refl; at_moment = refl; cites = refl; is_asked = refl; is_ready = refl; is_known = (refl, omega arith); has_room = omega arith },
                        (
                          record { answers = refl; at_moment = refl; cites = refl; is_asked = refl; is_ready = refl; is_known = (refl, omega arith); has_room = omega arith },
                          (
                            record { answers = refl; at_moment = refl; cites = refl; is_asked = refl; is_ready = refl; is_known = (refl, omega arith); has_room = omega arith },
                            (
                              record { answers = refl; at_moment = refl; cites = refl; is_asked = refl; is_ready = refl; is_known = (refl, omega arith); has_room = omega arith },
                              (
                                record { answers = refl; at_moment = refl; cites = refl; is_asked = refl; is_ready = refl; is_known = (refl, omega arith); has_room = omega arith },
                                (
                                  record { answers = refl; at_moment = refl; cites = refl; is_asked = refl; is_ready = refl; is_known = (refl, omega arith); has_room = omega arith },
                                  (record { answers = refl; at_moment = refl; cites = refl; is_asked = refl; is_ready = refl; is_known = (refl, omega arith); has_room = omega arith }, tt),
                                ),
                              ),
                            ),
                          ),
                        ),
                      ),
                    ),
                  ),
                ),
              ),
            ),
          ),
        ),
      ),
    ),
  ),
)

pub datagram_is_legal : IsLegal datagram_world datagram_history
datagram_is_legal = is_legal datagram_world datagram_history follow

pub datagram_is_timed : IsTimed datagram_world datagram_history
datagram_is_timed = is_timed datagram_world datagram_history (tt, (tt, (tt, (tt, (tt, (tt, (tt, (tt, (tt, (tt, (tt, (tt, (tt, (tt, (tt, (tt, (tt, (tt, tt))))))))))))))))))
