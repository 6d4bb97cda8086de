-- The histories of a lost frame and of a refused call are legal, timed and done, and are the runs'.
use Rattle.std.proofs.Common.{◌≡◌, true, [], ◌∷◌, Some, codes, refl, arith}
use Rattle.std.specs.Fmt.{digits}
use Rattle.rand_pcg.specs.Lcg.{state_after}
use Rattle.std.proofs.lemmas.List.Elements.{All-from_recursion}
use Rattle.net_base.specs.Calm.{done}
use Rattle.net_base.specs.Legal.{IsLegal, IsTimed}
use Rattle.net_base.specs.Net.{after, opening_net}
use Rattle.net_base.specs.Number.{number}
use Rattle.net_base.specs.declared.world.Version.{Version}
use Rattle.net_base.specs.World.{IsDatabase, IsWorld}
use Rattle.net_base.specs.Written.{peer, read_texts, written_texts}
use Rattle.net_model.specs.Rounds.{run_of}
use Rattle.world_text.specs.WorkedIl.{lossy_world, lossy_history, calling, called, refused_world, refused_history}
use Rattle.world_text.specs.Worked.{small_bundle}
use Rattle.net_model.proofs.Walk.{Follow, InTime, is_legal, is_timed}

lossy_follows : Follow lossy_world [] (opening_net lossy_world) lossy_history
unfolding number digits state_after
lossy_follows = (
  record { answers = refl; at_moment = refl; cites = refl; is_asked = refl; is_ready = refl; is_known = (refl, omega arith); has_room = omega arith },
  (
    record { answers = refl; at_moment = refl; cites = refl; is_asked = refl; is_ready = refl; is_known = (refl, omega arith); has_room = omega arith },
    (
      record { answers = refl; at_moment = refl; cites = refl; is_asked = refl; is_ready = refl; is_known = (refl, omega arith); has_room = omega arith },
      (
        record { answers = refl; at_moment = refl; cites = refl; is_asked = refl; is_ready = refl; is_known = (refl, omega arith); has_room = omega arith },
        (
          record { answers = refl; at_moment = refl; cites = refl; is_asked = refl; is_ready = refl; is_known = (refl, omega arith); has_room = omega arith },
          (
            record { answers = refl; at_moment = refl; cites = refl; is_asked = tt; is_ready = refl; is_known = (refl, omega arith); has_room = omega arith },
            (
              record { answers = refl; at_moment = refl; cites = refl; is_asked = refl; is_ready = refl; is_known = (refl, omega arith); has_room = omega arith },
              (
                record { answers = refl; at_moment = refl; cites = refl; is_asked = refl; is_ready = refl; is_known = (refl, omega arith); has_room = omega arith },
                (
                  record { answers = refl; at_moment = refl; cites = refl; is_asked = refl; is_ready = refl; is_known = (refl, omega arith); has_room = omega arith },
                  (
                    record { answers = refl; at_moment = refl; cites = refl; is_asked = refl; is_ready = refl; is_known = (refl, omega arith); has_room = omega arith },
                    (
                      record { answers = refl; at_moment = refl; cites = refl; is_asked = refl; is_ready = refl; is_known = (refl, omega arith); has_room = omega arith },
                      (
                        record { answers = refl; at_moment = refl; cites = refl; is_asked = refl; is_ready = refl; is_known = (refl, omega arith); has_room = omega arith },
                        (
                          record { answers = refl; at_moment = refl; cites = refl; is_asked = refl; is_ready = refl; is_known = (refl, omega arith); has_room = omega arith },
                          (
                            record { answers = refl; at_moment = refl; cites = refl; is_asked = refl; is_ready = refl; is_known = (refl, omega arith); has_room = omega arith },
                            (
                              record { answers = refl; at_moment = refl; cites = refl; is_asked = refl; is_ready = refl; is_known = (refl, omega arith); has_room = omega arith },
                              (
                                record { answers = refl; at_moment = refl; cites = refl; is_asked = refl; is_ready = refl; is_known = (refl, omega arith); has_room = omega arith },
                                (
                                  record { answers = refl; at_moment = refl; cites = refl; is_asked = refl; is_ready = refl; is_known = (refl, omega arith); has_room = omega arith },
                                  (
                                    record { answers = refl; at_moment = refl; cites = refl; is_asked = refl; is_ready = refl; is_known = (refl, omega arith); has_room = omega arith },
                                    (
                                      record { answers = refl; at_moment = refl; cites = refl; is_asked = refl; is_ready = refl; is_known = (refl, omega arith); has_room = omega arith },
                                      (
                                        record { answers = refl; at_moment = refl; cites = refl; is_asked = refl; is_ready = refl; is_known = (refl, omega arith); has_room = omega arith },
                                        (
                                          record { answers = refl; at_moment = refl; cites = refl; is_asked = refl; is_ready = refl; is_known = (refl, omega arith); has_room = omega arith },
                                          (
                                            record { answers = refl; at_moment = refl; cites = refl; is_asked = refl; is_ready = refl; is_known = (refl, omega arith); has_room = omega arith },
                                            (
                                              record { answers = refl; at_moment = refl; cites = refl; is_asked = refl; is_ready = refl; is_known = (refl, omega arith); has_room = omega arith },
                                              (
                                                record { answers = refl; at_moment = refl; cites = refl; is_asked = refl; is_ready = refl; is_known = (refl, omega arith); has_room = omega arith },
                                                (
                                                  record { answers = refl; at_moment = refl; cites = refl; is_asked = refl; is_ready = refl; is_known = (refl, omega arith); has_room = omega arith },
                                                  (
                                                    record { answers = refl; at_moment = refl; cites = refl; is_asked = refl; is_ready = refl; is_known = (refl, omega arith); has_room = omega arith },
                                                    (
                                                      record { answers = refl; at_moment = refl; cites = refl; is_asked = refl; is_ready = refl; is_known = (refl, omega arith); has_room = omega arith },
                                                      (
                                                        record { answers = refl; at_moment = refl; cites = refl; is_asked = refl; is_ready = refl; is_known = (refl, omega arith); has_room = omega arith },
                                                        (
                                                          record { answers = refl; at_moment = refl; cites = refl; is_asked = refl; is_ready = refl; is_known = (refl, omega arith); has_room = omega arith },
                                                          (
                                                            record { answers = refl; at_moment = refl; cites = refl; is_asked = refl; is_ready = refl; is_known = (refl, omega arith); has_room = omega arith },
                                                            (
                                                              record { answers = refl; at_moment = refl; cites = refl; is_asked = refl; is_ready = refl; is_known = (refl, omega arith); has_room = omega arith },
                                                              (
                                                                record { answers = refl; at_moment = refl; cites = refl; is_asked = refl; is_ready = refl; is_known = (refl, omega arith); has_room = omega arith },
                                                                (
                                                                  record { answers = refl; at_moment = refl; cites = refl; is_asked = tt; is_ready = refl; is_known = (refl, omega arith); has_room = omega arith },
                                                                  (
                                                                    record { answers = refl; at_moment = refl; cites = refl; is_asked = refl; is_ready = refl; is_known = (refl, omega arith); has_room = omega arith },
                                                                    (
                                                                      record { answers = refl; at_moment = refl; cites = refl; is_asked = refl; is_ready = refl; is_known = (refl, omega arith); has_room = omega arith },
                                                                      (
                                                                        record { answers = refl; at_moment = refl; cites = refl; is_asked = refl; is_ready = refl; is_known = (refl, omega arith); has_room = omega arith },
                                                                        (
                                                                          record { answers = refl; at_moment = refl; cites = refl; is_asked = refl; is_ready = refl; is_known = (refl, omega arith); has_room = omega arith },
                                                                          (
                                                                            record { answers = refl; at_moment = refl; cites = refl; is_asked = refl; is_ready = refl; is_known = (refl, omega arith); has_room = omega arith },
                                                                            (
                                                                              record { answers = refl; at_moment = refl; cites = refl; is_asked = refl; is_ready = refl; is_known = (refl, omega arith); has_room = omega arith },
                                                                              (
                                                                                record { answers = refl; at_moment = refl; cites = refl; is_asked = refl; is_ready = refl; is_known = (refl, omega arith); has_room = omega arith },
                                                                                (
                                                                                  record { answers = refl; at_moment = refl; cites = refl; is_asked = refl; is_ready = refl; is_known = (refl, omega arith); has_room = omega arith },
                                                                                  (
                                                                                    record { answers = refl; at_moment = refl; cites = refl; is_asked = refl; is_ready = refl; is_known = (refl, omega arith); has_room = omega arith },
                                                                                    (
                                                                                      record { answers = refl; at_moment = refl; cites = refl; is_asked = refl; is_ready = refl; is_known = (refl, omega arith); has_room = omega arith },
                                                                                      (
                                                                                        record { answers = refl; at_moment = refl; cites = refl; is_asked = refl; is_ready = refl; is_known = (refl, omega arith); has_room = omega arith },
                                                                                        (
                                                                                          record { answers = refl; at_moment = refl; cites = refl; is_asked = refl; is_ready = refl; is_known = (refl, omega arith); has_room = omega arith },
                                                                                          (
                                                                                            record { answers = refl; at_moment = refl; cites = refl; is_asked = refl; is_ready = refl; is_known = (refl, omega arith); has_room = omega arith },
                                                                                            (
                                                                                              record { answers = refl; at_moment = refl; cites = refl; is_asked = refl; is_ready = refl; is_known = (refl, omega arith); has_room = omega arith },
                                                                                              (
                                                                                                record { answers = refl; at_moment = refl; cites = refl; is_asked = refl; is_ready = refl; is_known = (refl, omega arith); has_room = omega arith },
                                                                                                (
                                                                                                  record { answers = refl; at_moment = refl; cites = refl; is_asked = refl; is_ready = refl; is_known = (refl, omega arith); has_room = omega arith },
                                                                                                  (
                                                                                                    record { answers = refl; at_moment = refl; cites = refl; is_asked = refl; is_ready = refl; is_known = (refl, omega arith); has_room = omega arith },
                                                                                                    (record { answers = refl; at_moment = refl; cites = refl; is_asked = refl; is_ready = refl; is_known = (refl, omega arith); has_room = omega arith }, tt),
                                                                                                  ),
                                                                                                ),
                                                                                              ),
                                                                                            ),
                                                                                          ),
                                                                                        ),
                                                                                      ),
                                                                                    ),
                                                                                  ),
                                                                                ),
                                                                              ),
                                                                            ),
                                                                          ),
                                                                        ),
                                                                      ),
                                                                    ),
                                                                  ),
                                                                ),
                                                              ),
                                                            ),
                                                          ),
                                                        ),
                                                      ),
                                                    ),
                                                  ),
                                                ),
                                              ),
                                            ),
                                          ),
                                        ),
                                      ),
                                    ),
                                  ),
                                ),
                              ),
                            ),
                          ),
                        ),
                      ),
                    ),
                  ),
                ),
              ),
            ),
          ),
        ),
      ),
    ),
  ),
)

lossy_in_time : InTime lossy_world (opening_net lossy_world) lossy_history
unfolding number digits state_after
lossy_in_time = (tt, (tt, (tt, (tt, (tt, ((refl, refl), (tt, (tt, (tt, (tt, (tt, (tt, (tt, (tt, (tt, (tt, (tt, (tt, (tt, (tt, (tt, (tt, (tt, (tt, (tt, (tt, (tt, (tt, (tt, (tt, (tt, (tt, ((refl, refl), (tt, (tt, (tt, (tt, (tt, (tt, (tt, (tt, (tt, (tt, (tt, (tt, (tt, (tt, (tt, (tt, (tt, (tt, tt)))))))))))))))))))))))))))))))))))))))))))))))))))

pub lossy_is_legal : IsLegal lossy_world lossy_history
lossy_is_legal = is_legal lossy_world lossy_history lossy_follows

pub lossy_is_timed : IsTimed lossy_world lossy_history
lossy_is_timed = is_timed lossy_world lossy_history lossy_in_time

pub lossy_is_done : done lossy_world (after lossy_world lossy_history) ≡ true
unfolding number digits state_after
lossy_is_done = refl

pub lossy_is_the_run : run_of 60 lossy_world ≡ lossy_history
unfolding number digits state_after
lossy_is_the_run = refl

pub lossy_is_a_world : IsWorld lossy_world
lossy_is_a_world = record {
  end = refl;
  seed = refl;
  some_media = refl;
  media = refl;
  media_named = refl;
  some_hosts = refl;
  hosts = refl;
  hosts_named = refl;
  hosts_addressed = refl;
  few_scripts = refl;
  scripts = refl;
  versions_timed = refl;
  versions = All-from_recursion (λ (v : Version). IsDatabase v.db) lossy_world.dbs ((small_bundle, refl, refl), tt);
}

pub called_is_met : peer lossy_world lossy_history called ≡ Some calling
unfolding number digits state_after
called_is_met = refl

pub calling_is_met : peer lossy_world lossy_history calling ≡ Some called
unfolding number digits state_after
calling_is_met = refl

pub called_reads : read_texts lossy_history called ≡ codes "hello" ∷ []
called_reads = refl

pub calling_writes : written_texts lossy_history calling ≡ codes "hello" ∷ []
calling_writes = refl

refused_follows : Follow refused_world [] (opening_net refused_world) refused_history
unfolding number digits state_after
refused_follows = (
  record { answers = refl; at_moment = refl; cites = refl; is_asked = tt; is_ready = refl; is_known = (refl, omega arith); has_room = omega arith },
  (
    record { answers = refl; at_moment = refl; cites = refl; is_asked = refl; is_ready = refl; is_known = (refl, omega arith); has_room = omega arith },
    (
      record { answers = refl; at_moment = refl; cites = refl; is_asked = refl; is_ready = refl; is_known = (refl, omega arith); has_room = omega arith },
      (
        record { answers = refl; at_moment = refl; cites = refl; is_asked = refl; is_ready = refl; is_known = (refl, omega arith); has_room = omega arith },
        (
          record { answers = refl; at_moment = refl; cites = refl; is_asked = refl; is_ready = refl; is_known = (refl, omega arith); has_room = omega arith },
          (
            record { answers = refl; at_moment = refl; cites = refl; is_asked = refl; is_ready = refl; is_known = (refl, omega arith); has_room = omega arith },
            (
              record { answers = refl; at_moment = refl; cites = refl; is_asked = refl; is_ready = refl; is_known = (refl, omega arith); has_room = omega arith },
              (
                record { answers = refl; at_moment = refl; cites = refl; is_asked = refl; is_ready = refl; is_known = (refl, omega arith); has_room = omega arith },
                (
                  record { answers = refl; at_moment = refl; cites = refl; is_asked = refl; is_ready = refl; is_known = (refl, omega arith); has_room = omega arith },
                  (
                    record { answers = refl; at_moment = refl; cites = refl; is_asked = refl; is_ready = refl; is_known = (refl, omega arith); has_room = omega arith },
                    (
                      record { answers = refl; at_moment = refl; cites = refl; is_asked = refl; is_ready = refl; is_known = (refl, omega arith); has_room = omega arith },
                      (
                        record { answers = refl; at_moment = refl; cites = refl; is_asked = refl; is_ready = refl; is_known = (refl, omega arith); has_room = omega arith },
                        (
                          record { answers = refl; at_moment = refl; cites = refl; is_asked = refl; is_ready = refl; is_known = (refl, omega arith); has_room = omega arith },
                          (
                            record { answers = refl; at_moment = refl; cites = refl; is_asked = refl; is_ready = refl; is_known = (refl, omega arith); has_room = omega arith },
                            (
                              record { answers = refl; at_moment = refl; cites = refl; is_asked = refl; is_ready = refl; is_known = (refl, omega arith); has_room = omega arith },
                              (
                                record { answers = refl; at_moment = refl; cites = refl; is_asked = refl; is_ready = refl; is_known = (refl, omega arith); has_room = omega arith },
                                (record { answers = refl; at_moment = refl; cites = refl; is_asked = refl; is_ready = refl; is_known = (refl, omega arith); has_room = omega arith }, tt),
                              ),
                            ),
                          ),
                        ),
                      ),
                    ),
                  ),
                ),
              ),
            ),
          ),
        ),
      ),
    ),
  ),
)

refused_in_time : InTime refused_world (opening_net refused_world) refused_history
unfolding number digits state_after
refused_in_time = ((refl, refl), (tt, (tt, (tt, (tt, (tt, (tt, (tt, (tt, (tt, (tt, (tt, (tt, (tt, (tt, (tt, (tt, tt)))))))))))))))))

pub refused_is_legal : IsLegal refused_world refused_history
refused_is_legal = is_legal refused_world refused_history refused_follows

pub refused_is_timed : IsTimed refused_world refused_history
refused_is_timed = is_timed refused_world refused_history refused_in_time

pub refused_is_done : done refused_world (after refused_world refused_history) ≡ true
unfolding number digits state_after
refused_is_done = refl

pub refused_is_the_run : run_of 60 refused_world ≡ refused_history
unfolding number digits state_after
refused_is_the_run = refl
