-- What is seen of the runs of worked worlds.
use Rattle.std.proofs.Common.{◌≡◌, true, [], ◌∷◌, codes, refl}
use Rattle.std.specs.Fmt.{digits}
use Rattle.rand_pcg.specs.Lcg.{state_after}
use Rattle.net_base.specs.declared.il.IlKind.TheVariants.{Sync, Data, DataQuery, Ack, State, Close}
use Rattle.net_base.specs.Calm.{done, stopped}
use Rattle.net_base.specs.Net.{opening_net}
use Rattle.net_base.specs.Number.{number}
use Rattle.net_model.specs.Rounds.{rounds, run_of}
use Rattle.world_text.specs.WorkedRuns.{moves, texts_read, kinds, data_ids, hello_world, early_close_world, repeated_world, wrapping_world, cut_world, nobody_world, lost_world, dropped_world, two_calls_world}

pub hello_texts_read : texts_read (run_of 100 hello_world) ≡ codes "hello" ∷ [] ∷ []
unfolding number digits state_after
hello_texts_read = refl

pub hello_moves : moves (run_of 100 hello_world) ≡ 10 ∷ []
unfolding number digits state_after
hello_moves = refl

pub early_close_texts_read : texts_read (run_of 100 early_close_world) ≡ codes "hello" ∷ [] ∷ []
unfolding number digits state_after
early_close_texts_read = refl

pub early_close_moves : moves (run_of 100 early_close_world) ≡ 10 ∷ []
unfolding number digits state_after
early_close_moves = refl

pub early_close_kinds : kinds (run_of 100 early_close_world) ≡ Sync ∷ Sync ∷ Ack ∷ Data ∷ Close ∷ State ∷ DataQuery ∷ State ∷ Close ∷ Close ∷ []
unfolding number digits state_after
early_close_kinds = refl

pub repeated_texts_read : texts_read (run_of 100 repeated_world) ≡ codes "a" ∷ codes "b" ∷ codes "c" ∷ [] ∷ []
unfolding number digits state_after
repeated_texts_read = refl

pub wrapping_texts_read : texts_read (run_of 100 wrapping_world) ≡ codes "a" ∷ codes "b" ∷ codes "c" ∷ [] ∷ []
unfolding number digits state_after
wrapping_texts_read = refl

pub wrapping_data_ids : data_ids (run_of 100 wrapping_world) ≡ 4294967295 ∷ 0 ∷ 1 ∷ []
unfolding number digits state_after
wrapping_data_ids = refl

pub cut_texts_read : texts_read (run_of 100 cut_world) ≡ codes "he" ∷ codes "llo" ∷ []
unfolding number digits state_after
cut_texts_read = refl

pub nobody_moves : moves (run_of 100 nobody_world) ≡ 10 ∷ 510 ∷ 1510 ∷ 3510 ∷ 7510 ∷ 15510 ∷ 23510 ∷ 30010 ∷ []
unfolding number digits state_after
nobody_moves = refl

pub nobody_kinds : kinds (run_of 100 nobody_world) ≡ Sync ∷ Sync ∷ Sync ∷ Sync ∷ Sync ∷ Sync ∷ Sync ∷ []
unfolding number digits state_after
nobody_kinds = refl

pub hello_is_done : done hello_world (rounds 100 hello_world (opening_net hello_world)) ≡ true
unfolding number digits state_after
hello_is_done = refl

pub early_close_is_done : done early_close_world (rounds 100 early_close_world (opening_net early_close_world)) ≡ true
unfolding number digits state_after
early_close_is_done = refl

pub repeated_is_done : done repeated_world (rounds 100 repeated_world (opening_net repeated_world)) ≡ true
unfolding number digits state_after
repeated_is_done = refl

pub wrapping_is_done : done wrapping_world (rounds 100 wrapping_world (opening_net wrapping_world)) ≡ true
unfolding number digits state_after
wrapping_is_done = refl

pub cut_is_done : done cut_world (rounds 100 cut_world (opening_net cut_world)) ≡ true
unfolding number digits state_after
cut_is_done = refl

pub nobody_is_done : done nobody_world (rounds 100 nobody_world (opening_net nobody_world)) ≡ true
unfolding number digits state_after
nobody_is_done = refl

pub lost_moves : moves (run_of 200 lost_world) ≡ 10 ∷ 510 ∷ 1510 ∷ 3510 ∷ 7510 ∷ 15510 ∷ 20000 ∷ []
unfolding number digits state_after
lost_moves = refl

pub lost_is_stopped : stopped lost_world (rounds 200 lost_world (opening_net lost_world)) ≡ true
unfolding number digits state_after
lost_is_stopped = refl

pub dropped_texts_read : texts_read (run_of 100 dropped_world) ≡ codes "he" ∷ []
unfolding number digits state_after
dropped_texts_read = refl

pub dropped_is_stopped : stopped dropped_world (rounds 100 dropped_world (opening_net dropped_world)) ≡ true
unfolding number digits state_after
dropped_is_stopped = refl

pub two_calls_texts_read : texts_read (run_of 100 two_calls_world) ≡ codes "one" ∷ codes "two" ∷ codes "eno" ∷ codes "owt" ∷ []
unfolding number digits state_after
two_calls_texts_read = refl

pub two_calls_is_done : done two_calls_world (rounds 100 two_calls_world (opening_net two_calls_world)) ≡ true
unfolding number digits state_after
two_calls_is_done = refl
