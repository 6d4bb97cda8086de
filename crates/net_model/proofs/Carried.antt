-- The worked call: it is legal, both scripts are all that reads and writes there, and these are its messages.
use Rattle.std.proofs.Common.{◌≡◌, List, [], ◌∷◌, ◌++◌, Some, codes, drop, take, refl, arith, unwrap_or, slice_get}
use Rattle.std.specs.Fmt.{digits}
use Rattle.rand_pcg.specs.Lcg.{state_after}
use Rattle.std.proofs.lemmas.List.Elements.{All-from_recursion}
use Rattle.net_base.specs.declared.history.Entry.{Entry}
use Rattle.net_base.specs.declared.names.Mode.TheVariants.{Both}
use Rattle.net_base.specs.declared.world.Step.{Step}
use Rattle.net_base.specs.declared.world.Step.TheVariants as step
use Rattle.net_base.specs.declared.world.Version.{Version}
use Rattle.net_base.specs.Exports.{exported, most_requests, unheard}
use Rattle.net_base.specs.Legal.{IsLegal}
use Rattle.net_base.specs.Net.{after, opening_net}
use Rattle.net_base.specs.Next.{zone_of}
use Rattle.net_base.specs.NinepMessages.{r_bytes, t_bytes}
use Rattle.net_base.specs.NinepReading.{counted_at, list_at, many_at, qid_at, r_at, r_attach, r_version, t_at, t_attach, t_version}
use Rattle.net_base.specs.Number.{number}
use Rattle.net_base.specs.Scripts.{Kept, at_first}
use Rattle.net_base.specs.World.{IsDatabase, IsWorld}
use Rattle.net_base.specs.Written.{peer}
use Rattle.prefix_law.specs.ImportLaw.{calls, of_steps, got_back}
use Rattle.prefix_law.specs.Phases.{Reads, on_own}
use Rattle.prefix_law.specs.Scripted.{is_importing, scripted}
use Rattle.prefix_law.specs.Spans.{Span, entries_numbered, own_stamped, spans}
use Rattle.prefix_law.specs.WorldImports.{AllExported, AllImported}
use Rattle.net_model.proofs.Walk.{Follow, is_legal, legal_along}
use Rattle.world_text.specs.Worked.{small_bundle}
use Rattle.net_model.specs.WorkedImport.{answers_attach, answers_version, asks_attach, asks_version, helix_side, anna_side, carried_history, carried_world, exporter, importer}
use Rattle.net_model.proofs.Asked.{stands}
use Rattle.net_model.proofs.Deeds.{all_deeds, deeds}

-- in three parts
abbrev one : List Entry
one = take 30 carried_history

abbrev two : List Entry
two = take 20 (drop 30 carried_history)

abbrev three : List Entry
three = drop 50 carried_history

first_follow : Follow carried_world [] (opening_net carried_world) one
unfolding number digits state_after most_requests t_bytes r_bytes counted_at qid_at list_at many_at t_version t_attach t_at r_version r_attach r_at
first_follow = (stands (record { answers = refl; at_moment = refl; cites = refl; asked = refl; is_ready = refl; is_known = (refl, omega arith); has_room = omega arith }), (stands (record { answers = refl; at_moment = refl; cites = refl; asked = refl; is_ready = refl; is_known = (refl, omega arith); has_room = omega arith }), (stands (record { answers = refl; at_moment = refl; cites = refl; asked = refl; is_ready = refl; is_known = (refl, omega arith); has_room = omega arith }), (stands (record { answers = refl; at_moment = refl; cites = refl; asked = refl; is_ready = refl; is_known = (refl, omega arith); has_room = omega arith }), (stands (record { answers = refl; at_moment = refl; cites = refl; asked = refl; is_ready = refl; is_known = (refl, omega arith); has_room = omega arith }), (record { answers = refl; at_moment = refl; cites = refl; is_asked = tt; is_ready = refl; is_known = (refl, omega arith); has_room = omega arith }, (stands (record { answers = refl; at_moment = refl; cites = refl; asked = refl; is_ready = refl; is_known = (refl, omega arith); has_room = omega arith }), (stands (record { answers = refl; at_moment = refl; cites = refl; asked = refl; is_ready = refl; is_known = (refl, omega arith); has_room = omega arith }), (stands (record { answers = refl; at_moment = refl; cites = refl; asked = refl; is_ready = refl; is_known = (refl, omega arith); has_room = omega arith }), (stands (record { answers = refl; at_moment = refl; cites = refl; asked = refl; is_ready = refl; is_known = (refl, omega arith); has_room = omega arith }), (stands (record { answers = refl; at_moment = refl; cites = refl; asked = refl; is_ready = refl; is_known = (refl, omega arith); has_room = omega arith }), (stands (record { answers = refl; at_moment = refl; cites = refl; asked = refl; is_ready = refl; is_known = (refl, omega arith); has_room = omega arith }), (stands (record { answers = refl; at_moment = refl; cites = refl; asked = refl; is_ready = refl; is_known = (refl, omega arith); has_room = omega arith }), (stands (record { answers = refl; at_moment = refl; cites = refl; asked = refl; is_ready = refl; is_known = (refl, omega arith); has_room = omega arith }), (stands (record { answers = refl; at_moment = refl; cites = refl; asked = refl; is_ready = refl; is_known = (refl, omega arith); has_room = omega arith }), (stands (record { answers = refl; at_moment = refl; cites = refl; asked = refl; is_ready = refl; is_known = (refl, omega arith); has_room = omega arith }), (stands (record { answers = refl; at_moment = refl; cites = refl; asked = refl; is_ready = refl; is_known = (refl, omega arith); has_room = omega arith }), (stands (record { answers = refl; at_moment = refl; cites = refl; asked = refl; is_ready = refl; is_known = (refl, omega arith); has_room = omega arith }), (stands (record { answers = refl; at_moment = refl; cites = refl; asked = refl; is_ready = refl; is_known = (refl, omega arith); has_room = omega arith }), (stands (record { answers = refl; at_moment = refl; cites = refl; asked = refl; is_ready = refl; is_known = (refl, omega arith); has_room = omega arith }), (stands (record { answers = refl; at_moment = refl; cites = refl; asked = refl; is_ready = refl; is_known = (refl, omega arith); has_room = omega arith }), (stands (record { answers = refl; at_moment = refl; cites = refl; asked = refl; is_ready = refl; is_known = (refl, omega arith); has_room = omega arith }), (stands (record { answers = refl; at_moment = refl; cites = refl; asked = refl; is_ready = refl; is_known = (refl, omega arith); has_room = omega arith }), (stands (record { answers = refl; at_moment = refl; cites = refl; asked = refl; is_ready = refl; is_known = (refl, omega arith); has_room = omega arith }), (stands (record { answers = refl; at_moment = refl; cites = refl; asked = refl; is_ready = refl; is_known = (refl, omega arith); has_room = omega arith }), (stands (record { answers = refl; at_moment = refl; cites = refl; asked = refl; is_ready = refl; is_known = (refl, omega arith); has_room = omega arith }), (stands (record { answers = refl; at_moment = refl; cites = refl; asked = refl; is_ready = refl; is_known = (refl, omega arith); has_room = omega arith }), (stands (record { answers = refl; at_moment = refl; cites = refl; asked = refl; is_ready = refl; is_known = (refl, omega arith); has_room = omega arith }), (stands (record { answers = refl; at_moment = refl; cites = refl; asked = refl; is_ready = refl; is_known = (refl, omega arith); has_room = omega arith }), (stands (record { answers = refl; at_moment = refl; cites = refl; asked = refl; is_ready = refl; is_known = (refl, omega arith); has_room = omega arith }), tt))))))))))))))))))))))))))))))

second_follow : Follow carried_world one (after carried_world one) two
unfolding number digits state_after most_requests t_bytes r_bytes counted_at qid_at list_at many_at t_version t_attach t_at r_version r_attach r_at
second_follow = (stands (record { answers = refl; at_moment = refl; cites = refl; asked = refl; is_ready = refl; is_known = (refl, omega arith); has_room = omega arith }), (stands (record { answers = refl; at_moment = refl; cites = refl; asked = refl; is_ready = refl; is_known = (refl, omega arith); has_room = omega arith }), (stands (record { answers = refl; at_moment = refl; cites = refl; asked = refl; is_ready = refl; is_known = (refl, omega arith); has_room = omega arith }), (stands (record { answers = refl; at_moment = refl; cites = refl; asked = refl; is_ready = refl; is_known = (refl, omega arith); has_room = omega arith }), (stands (record { answers = refl; at_moment = refl; cites = refl; asked = refl; is_ready = refl; is_known = (refl, omega arith); has_room = omega arith }), (stands (record { answers = refl; at_moment = refl; cites = refl; asked = refl; is_ready = refl; is_known = (refl, omega arith); has_room = omega arith }), (stands (record { answers = refl; at_moment = refl; cites = refl; asked = refl; is_ready = refl; is_known = (refl, omega arith); has_room = omega arith }), (stands (record { answers = refl; at_moment = refl; cites = refl; asked = refl; is_ready = refl; is_known = (refl, omega arith); has_room = omega arith }), (stands (record { answers = refl; at_moment = refl; cites = refl; asked = refl; is_ready = refl; is_known = (refl, omega arith); has_room = omega arith }), (stands (record { answers = refl; at_moment = refl; cites = refl; asked = refl; is_ready = refl; is_known = (refl, omega arith); has_room = omega arith }), (stands (record { answers = refl; at_moment = refl; cites = refl; asked = refl; is_ready = refl; is_known = (refl, omega arith); has_room = omega arith }), (stands (record { answers = refl; at_moment = refl; cites = refl; asked = refl; is_ready = refl; is_known = (refl, omega arith); has_room = omega arith }), (stands (record { answers = refl; at_moment = refl; cites = refl; asked = refl; is_ready = refl; is_known = (refl, omega arith); has_room = omega arith }), (stands (record { answers = refl; at_moment = refl; cites = refl; asked = refl; is_ready = refl; is_known = (refl, omega arith); has_room = omega arith }), (stands (record { answers = refl; at_moment = refl; cites = refl; asked = refl; is_ready = refl; is_known = (refl, omega arith); has_room = omega arith }), (stands (record { answers = refl; at_moment = refl; cites = refl; asked = refl; is_ready = refl; is_known = (refl, omega arith); has_room = omega arith }), (stands (record { answers = refl; at_moment = refl; cites = refl; asked = refl; is_ready = refl; is_known = (refl, omega arith); has_room = omega arith }), (stands (record { answers = refl; at_moment = refl; cites = refl; asked = refl; is_ready = refl; is_known = (refl, omega arith); has_room = omega arith }), (stands (record { answers = refl; at_moment = refl; cites = refl; asked = refl; is_ready = refl; is_known = (refl, omega arith); has_room = omega arith }), (stands (record { answers = refl; at_moment = refl; cites = refl; asked = refl; is_ready = refl; is_known = (refl, omega arith); has_room = omega arith }), tt))))))))))))))))))))

third_follow : Follow carried_world (one ++ two) (after carried_world (one ++ two)) three
unfolding number digits state_after most_requests t_bytes r_bytes counted_at qid_at list_at many_at t_version t_attach t_at r_version r_attach r_at
third_follow = (stands (record { answers = refl; at_moment = refl; cites = refl; asked = refl; is_ready = refl; is_known = (refl, omega arith); has_room = omega arith }), (stands (record { answers = refl; at_moment = refl; cites = refl; asked = refl; is_ready = refl; is_known = (refl, omega arith); has_room = omega arith }), (stands (record { answers = refl; at_moment = refl; cites = refl; asked = refl; is_ready = refl; is_known = (refl, omega arith); has_room = omega arith }), (stands (record { answers = refl; at_moment = refl; cites = refl; asked = refl; is_ready = refl; is_known = (refl, omega arith); has_room = omega arith }), (stands (record { answers = refl; at_moment = refl; cites = refl; asked = refl; is_ready = refl; is_known = (refl, omega arith); has_room = omega arith }), (stands (record { answers = refl; at_moment = refl; cites = refl; asked = refl; is_ready = refl; is_known = (refl, omega arith); has_room = omega arith }), (stands (record { answers = refl; at_moment = refl; cites = refl; asked = refl; is_ready = refl; is_known = (refl, omega arith); has_room = omega arith }), (stands (record { answers = refl; at_moment = refl; cites = refl; asked = refl; is_ready = refl; is_known = (refl, omega arith); has_room = omega arith }), (stands (record { answers = refl; at_moment = refl; cites = refl; asked = refl; is_ready = refl; is_known = (refl, omega arith); has_room = omega arith }), (stands (record { answers = refl; at_moment = refl; cites = refl; asked = refl; is_ready = refl; is_known = (refl, omega arith); has_room = omega arith }), (stands (record { answers = refl; at_moment = refl; cites = refl; asked = refl; is_ready = refl; is_known = (refl, omega arith); has_room = omega arith }), (stands (record { answers = refl; at_moment = refl; cites = refl; asked = refl; is_ready = refl; is_known = (refl, omega arith); has_room = omega arith }), (stands (record { answers = refl; at_moment = refl; cites = refl; asked = refl; is_ready = refl; is_known = (refl, omega arith); has_room = omega arith }), (stands (record { answers = refl; at_moment = refl; cites = refl; asked = refl; is_ready = refl; is_known = (refl, omega arith); has_room = omega arith }), (stands (record { answers = refl; at_moment = refl; cites = refl; asked = refl; is_ready = refl; is_known = (refl, omega arith); has_room = omega arith }), (stands (record { answers = refl; at_moment = refl; cites = refl; asked = refl; is_ready = refl; is_known = (refl, omega arith); has_room = omega arith }), (stands (record { answers = refl; at_moment = refl; cites = refl; asked = refl; is_ready = refl; is_known = (refl, omega arith); has_room = omega arith }), (stands (record { answers = refl; at_moment = refl; cites = refl; asked = refl; is_ready = refl; is_known = (refl, omega arith); has_room = omega arith }), (stands (record { answers = refl; at_moment = refl; cites = refl; asked = refl; is_ready = refl; is_known = (refl, omega arith); has_room = omega arith }), (stands (record { answers = refl; at_moment = refl; cites = refl; asked = refl; is_ready = refl; is_known = (refl, omega arith); has_room = omega arith }), tt))))))))))))))))))))

two_parts : IsLegal carried_world (one ++ two)
two_parts = legal_along carried_world one (after carried_world one) two refl (is_legal carried_world one first_follow) second_follow

pub carried_is_legal : IsLegal carried_world carried_history
carried_is_legal = legal_along carried_world (one ++ two) (after carried_world (one ++ two)) three refl two_parts third_follow

pub carried_is_a_world : IsWorld carried_world
carried_is_a_world = record {
  end = refl;
  seed = refl;
  some_media = refl;
  media = refl;
  media_named = refl;
  some_hosts = refl;
  hosts = refl;
  hosts_named = refl;
  hosts_addressed = refl;
  few_scripts = refl;
  scripts = refl;
  versions_timed = refl;
  versions = All-from_recursion (λ (v : Version). IsDatabase v.db) carried_world.dbs ((small_bundle, refl, refl), tt);
}

pub calling_is_met : peer carried_world carried_history anna_side ≡ Some helix_side
unfolding number digits state_after
calling_is_met = refl

-- anna's deeds

near_deeds : deeds anna_side (entries_numbered 0 carried_history) ≡ deeds anna_side (of_steps is_importing (spans (scripted (zone_of carried_world) importer) (own_stamped carried_history 0)))
unfolding number digits state_after most_requests t_bytes r_bytes counted_at qid_at list_at many_at t_version t_attach t_at r_version r_attach r_at
near_deeds = refl

pub all_imported : AllImported carried_world carried_history 0 importer anna_side
all_imported = all_deeds carried_history anna_side (of_steps is_importing (spans (scripted (zone_of carried_world) importer) (own_stamped carried_history 0))) near_deeds

pub calls_are : calls carried_history 0 anna_side (scripted (zone_of carried_world) importer) is_importing ≡ asks_version ∷ asks_attach ∷ []
unfolding number digits state_after most_requests t_bytes r_bytes counted_at qid_at list_at many_at t_version t_attach t_at r_version r_attach r_at
calls_are = refl

pub replies_are : got_back carried_history 0 anna_side (scripted (zone_of carried_world) importer) is_importing ≡ answers_version ∷ answers_attach ∷ []
unfolding number digits state_after most_requests t_bytes r_bytes counted_at qid_at list_at many_at t_version t_attach t_at r_version r_attach r_at
replies_are = refl

-- helix's

abbrev exporting : Span Kept Step
exporting = unwrap_or (slice_get (spans (scripted (zone_of carried_world) exporter) (own_stamped carried_history 1)) 3) (record { step = step.Refresh; kept = at_first []; entries = [] })

far_deeds : deeds helix_side (entries_numbered 0 carried_history) ≡ deeds helix_side (on_own (exported 1) (Reads (unheard exporting.kept.names)) exporting.entries)
unfolding number digits state_after most_requests t_bytes r_bytes counted_at qid_at list_at many_at t_version t_attach t_at r_version r_attach r_at
far_deeds = refl

pub all_exported : AllExported carried_world carried_history 1 exporter helix_side
unfolding number digits state_after most_requests t_bytes r_bytes counted_at qid_at list_at many_at t_version t_attach t_at r_version r_attach r_at
all_exported = record {
  number = 3;
  span = exporting;
  stands = refl;
  called = codes "e";
  exports = refl;
  mode = Both;
  bound = refl;
  here = refl;
  all = all_deeds carried_history helix_side (on_own (exported 1) (Reads (unheard exporting.kept.names)) exporting.entries) far_deeds;
}
