-- Worked steps of directories, conversations, media, desks, and of the ways between two hosts.
use Rattle.std.proofs.Common.{◌≡◌, ℕ, ◌+◌, Bool, true, false, List, [], ◌∷◌, ◌++◌, map, replicate, Option, Some, None, option_map, codes, refl}
use Rattle.std.specs.Fmt.{digits}
use Rattle.rand_pcg.specs.Lcg.{state_after}
use Rattle.net_base.specs.declared.timer.Timers.TheVariants.{Fixed}
use Rattle.net_base.specs.declared.world.Version.{Version}
use Rattle.net_base.specs.declared.address.Addr.{Addr}
use Rattle.net_base.specs.declared.address.Proto.TheVariants as proto
use Rattle.net_base.specs.declared.event.Event.{Event}
use Rattle.net_base.specs.declared.event.Event.TheVariants as event
use Rattle.net_base.specs.declared.history.With.{With}
use Rattle.net_base.specs.declared.history.With.TheVariants as given
use Rattle.net_base.specs.declared.il.IlKind.TheVariants.{Sync, Close}
use Rattle.net_base.specs.declared.il.StateName.TheVariants as name
use Rattle.net_base.specs.declared.names.FileName.TheVariants as file
use Rattle.net_base.specs.declared.names.Mode.TheVariants as mode
use Rattle.net_base.specs.declared.packet.Body.TheVariants as body
use Rattle.net_base.specs.declared.packet.Packet.{Packet}
use Rattle.net_base.specs.declared.reply.Reply.{Reply}
use Rattle.net_base.specs.declared.reply.Reply.TheVariants as reply
use Rattle.net_base.specs.declared.world.Fate.TheVariants.{Lose, Twice, Later}
use Rattle.net_base.specs.declared.world.MediumSpec.{MediumSpec}
use Rattle.net_base.specs.ActorStep.{Step}
use Rattle.net_base.specs.IlEnd.{fresh_end, message}
use Rattle.net_base.specs.UdpEnd.{fresh_udp}
use Rattle.net_base.specs.Number.{number}
use Rattle.net_base.specs.Conversation.{Conv, Core, Il, Udp, Unused, nowhere, conv_step}
use Rattle.net_base.specs.Desk.{opening_desk, desk_reply}
use Rattle.net_base.specs.Directory.{Dir, free_slot, dir_step}
use Rattle.net_base.specs.Draws.{drawn_word}
use Rattle.net_base.specs.Medium.{Medium, quiet_medium, medium_step}
use Rattle.net_base.specs.Routes.{Route, way, longest_match}
use Rattle.net_model.proofs.Worlds.{il_world, small_database, anna, anna_ip, helix_ip, ether0}

-- Directories.

-- works done one after the other, as far as each is answered
abbrev pub Works : Type 0
Works = List (Event × With)

abbrev dir_with : Works → Dir → Dir
dir_with [] d = d
dir_with (x ∷ xs) d = dir_with xs (stepped (dir_step il_world 0 proto.Il x.0 x.1 d) d)
  where
    stepped : Option (Step Dir) → Dir → Dir
    stepped None d = d
    stepped (Some s) d = s.state

abbrev dir_answer : Works → Event → With → Option Reply
dir_answer works e w = option_map (λ (s : Step Dir). s.outcome.reply) (dir_step il_world 0 proto.Il e w (dir_with works (record { slots = replicate 32 free_slot; pairs = []; ports = []; starts = 0 })))

abbrev helix_9fs : Addr
helix_9fs = record { ip = helix_ip; port = 17008 }

abbrev anna_5000 : Addr
anna_5000 = record { ip = anna_ip; port = 5000 }

abbrev reserve : Event × With
reserve = (event.Reserve, given.Nothing)

abbrev plainly : Event → Event × With
plainly e = (e, given.Nothing)

pub the_lowest_slot : dir_answer (reserve ∷ reserve ∷ []) event.Reserve given.Nothing ≡ Some (reply.Slot 2 1)
unfolding number digits state_after
the_lowest_slot = refl

pub no_slot : dir_answer (replicate 32 reserve) event.Reserve given.Nothing ≡ Some reply.NoSlot
unfolding number digits state_after
no_slot = refl

-- the first word of the stream of host 0 under seed 7 is its first start
pub it_is_granted : dir_answer (reserve ∷ []) (event.Grant 0 1 helix_9fs (Some 5000)) given.Nothing
    ≡ Some (reply.Granted (record { local = anna_5000; remote = helix_9fs }) (drawn_word 7 0 1) 1462)
unfolding number digits state_after
it_is_granted = refl

pub a_port_is_drawn : dir_answer (reserve ∷ plainly (event.Bind 0 1 5000) ∷ reserve ∷ []) (event.Grant 1 1 helix_9fs None) given.Nothing
    ≡ Some (reply.Granted (record { local = record { ip = anna_ip; port = 5001 }; remote = helix_9fs }) (drawn_word 7 0 1) 1462)
unfolding number digits state_after
a_port_is_drawn = refl

pub a_pair_is_used_once :
    dir_answer (reserve ∷ plainly (event.Grant 0 1 helix_9fs (Some 5000)) ∷ plainly (event.Release 0 1) ∷ reserve ∷ []) (event.Grant 0 2 helix_9fs (Some 5000)) given.Nothing
    ≡ Some (reply.PairUsed 1)
unfolding number digits state_after
a_pair_is_used_once = refl

pub no_pair_with_itself : dir_answer (reserve ∷ []) (event.Grant 0 1 anna_5000 (Some 5000)) given.Nothing ≡ Some reply.SelfPair
unfolding number digits state_after
no_pair_with_itself = refl

pub no_route : dir_answer (reserve ∷ []) (event.Grant 0 1 (record { ip = 167772161; port = 7 }) None) given.Nothing ≡ Some reply.NoRoute
unfolding number digits state_after
no_route = refl

pub an_old_generation : dir_answer (reserve ∷ plainly (event.Release 0 1) ∷ reserve ∷ []) (event.Grant 0 1 helix_9fs None) given.Nothing ≡ Some reply.Stale
unfolding number digits state_after
an_old_generation = refl

pub no_slot_above_31 : dir_answer [] (event.Release 32 0) given.Nothing ≡ None
unfolding number digits state_after
no_slot_above_31 = refl

-- slot 3 announces `*!17008`
abbrev announced : Works
announced = replicate 5 reserve ++ plainly (event.Announce 3 1 None (Some 17008)) ∷ []

pub it_is_taken : dir_answer announced (event.Announce 4 1 None (Some 17008)) given.Nothing ≡ Some (reply.PortTaken 3)
unfolding number digits state_after
it_is_taken = refl

-- a sync from helix's port
abbrev sync_from : ℕ → Packet
sync_from port =
    record { src = record { ip = helix_ip; port = port }; dst = record { ip = anna_ip; port = 17008 }; ttl = 255; tos = 0; body = body.Il (message Sync 9 0 []) }

abbrev sync_comes : ℕ → Event × With
sync_comes port = (event.Arrive, given.Packet (sync_from port))

pub it_is_born : dir_answer announced event.Arrive (given.Packet (sync_from 5000)) ≡ Some (reply.Born 5 1 (drawn_word 7 0 1) 1462)
unfolding number digits state_after
it_is_born = refl

pub it_has_a_slot : dir_answer (announced ++ sync_comes 5000 ∷ []) event.Arrive (given.Packet (sync_from 5000)) ≡ Some (reply.To 5 1)
unfolding number digits state_after
it_has_a_slot = refl

abbrev ten_calls : Works
ten_calls = announced ++ map sync_comes (1 ∷ 2 ∷ 3 ∷ 4 ∷ 5 ∷ 6 ∷ 7 ∷ 8 ∷ 9 ∷ 10 ∷ [])

pub the_eleventh_is_refused : dir_answer ten_calls event.Arrive (given.Packet (sync_from 11)) ≡ Some reply.Refused
unfolding number digits state_after
the_eleventh_is_refused = refl

pub the_oldest_call : dir_answer ten_calls (event.Listen 3) given.Nothing ≡ Some (reply.Call 5 1)
unfolding number digits state_after
the_oldest_call = refl

pub no_call_yet : dir_answer announced (event.Listen 3) given.Nothing ≡ None
unfolding number digits state_after
no_call_yet = refl

pub a_free_slot_has_no_calls : dir_answer announced (event.Listen 6) given.Nothing ≡ Some reply.NoFile
unfolding number digits state_after
a_free_slot_has_no_calls = refl

-- a refused sync emits a close with spec 1, its ack as id and its id as ack
pub nobody_listens :
    option_map (λ (s : Step Dir). s.outcome.emit) (dir_step il_world 0 proto.Il event.Arrive (given.Packet (sync_from 5000)) (dir_with [] (record { slots = replicate 32 free_slot; pairs = []; ports = []; starts = 0 })))
    ≡ Some (Some (record { src = record { ip = anna_ip; port = 17008 }; dst = record { ip = helix_ip; port = 5000 }; ttl = 255; tos = 0; body = body.Il (record { kind = Close; spec = 1; id = 0; ack = 9; text = [] }) }))
unfolding number digits state_after
nobody_listens = refl

pub the_taken_are_listed : dir_answer (reserve ∷ reserve ∷ []) event.Ls given.Nothing ≡ Some (reply.Names (codes "clone" ∷ codes "0" ∷ codes "1" ∷ []))
unfolding number digits state_after
the_taken_are_listed = refl

-- Conversations.

abbrev opening_conv : Core → Conv
opening_conv core = record { generation = 0; opens = 0; pair = record { local = nowhere; remote = nowhere }; limit = 0; ttl = 255; tos = 0; stage = Unused; core = core }

-- all at the moment 600
abbrev conv_with : Works → Conv → Conv
conv_with [] c = c
conv_with (x ∷ xs) c = conv_with xs (stepped (conv_step 3 x.0 x.1 600 c) c)
  where
    stepped : Option (Step Conv) → Conv → Conv
    stepped None c = c
    stepped (Some s) c = s.state

abbrev conv_answer : Core → Works → Event → With → Option Reply
conv_answer core works e w = option_map (λ (s : Step Conv). s.outcome.reply) (conv_step 3 e w 600 (conv_with works (opening_conv core)))

abbrev conv_ended : Core → Works → Event → Option Bool
conv_ended core works e = option_map (λ (s : Step Conv). s.outcome.ended) (conv_step 3 e given.Nothing 600 (conv_with works (opening_conv core)))

-- so many bytes
abbrev text_of : ℕ → List ℕ
text_of n = replicate n 120

abbrev granted_to : ℕ → Works
granted_to limit = plainly (event.Begin 1) ∷ (event.Connect 1, given.Grant (record { local = anna_5000; remote = helix_9fs }) 1 limit) ∷ []

abbrev packet_to : ℕ → Packet
packet_to kind = record { src = helix_9fs; dst = anna_5000; ttl = 255; tos = 0; body = body.Il (message Sync 100 1 []) }

-- an IL conversation in Established
abbrev established : ℕ → Works
established limit = granted_to limit ++ (event.ArriveAt 1, given.Packet (packet_to 0)) ∷ []

pub the_longest_message : conv_answer (Il (fresh_end Fixed)) (established 538) (event.Write 1 (text_of 538)) given.Nothing ≡ Some (reply.Count 538)
unfolding number digits state_after
the_longest_message = refl

pub too_long : conv_answer (Il (fresh_end Fixed)) (established 538) (event.Write 1 (text_of 539)) given.Nothing ≡ Some (reply.TooLong 539 538)
unfolding number digits state_after
too_long = refl

pub a_zero_write : conv_answer (Il (fresh_end Fixed)) (established 538) (event.Write 1 []) given.Nothing ≡ Some reply.ZeroWrite
unfolding number digits state_after
a_zero_write = refl

pub too_soon : conv_answer (Il (fresh_end Fixed)) (plainly (event.Begin 1) ∷ []) (event.Write 1 (text_of 1)) given.Nothing ≡ Some (reply.WrongState name.Closed)
unfolding number digits state_after
too_soon = refl

pub not_yet : conv_answer (Il (fresh_end Fixed)) (granted_to 538) (event.Write 1 (text_of 1)) given.Nothing ≡ None
unfolding number digits state_after
not_yet = refl

pub it_still_connects : conv_answer (Il (fresh_end Fixed)) (granted_to 538) (event.Await 1) given.Nothing ≡ None
unfolding number digits state_after
it_still_connects = refl

pub it_is_connected : conv_answer (Il (fresh_end Fixed)) (established 538) (event.Await 1) given.Nothing ≡ Some reply.Ok
unfolding number digits state_after
it_is_connected = refl

pub the_generation_is_kept : conv_answer (Il (fresh_end Fixed)) (established 538) (event.Begin 1) given.Nothing ≡ None
unfolding number digits state_after
the_generation_is_kept = refl

pub an_older_one_is_stale : conv_answer (Il (fresh_end Fixed)) (established 538) (event.Begin 0) given.Nothing ≡ Some reply.Stale
unfolding number digits state_after
an_older_one_is_stale = refl

pub a_newer_one_waits : conv_answer (Il (fresh_end Fixed)) (established 538) (event.Close 2) given.Nothing ≡ None
unfolding number digits state_after
a_newer_one_waits = refl

pub no_bytes_are_never_read : conv_answer (Il (fresh_end Fixed)) (established 538) (event.Read 0 0) given.Nothing ≡ None
unfolding number digits state_after
no_bytes_are_never_read = refl

pub a_start_isnt_zero : conv_answer (Il (fresh_end Fixed)) (plainly (event.Begin 1) ∷ []) (event.Connect 1) (given.Grant (record { local = anna_5000; remote = helix_9fs }) 0 538) ≡ None
unfolding number digits state_after
a_start_isnt_zero = refl

pub local_is_said : conv_answer (Il (fresh_end Fixed)) (established 538) (event.File 1 file.Local 100) given.Nothing ≡ Some (reply.Bytes (codes "135.104.9.6!5000\n"))
unfolding number digits state_after
local_is_said = refl

pub the_slot_is_said : conv_answer (Il (fresh_end Fixed)) (established 538) (event.File 1 file.Ctl 100) given.Nothing ≡ Some (reply.Bytes (codes "3"))
unfolding number digits state_after
the_slot_is_said = refl

pub the_state_is_said : conv_answer (Il (fresh_end Fixed)) (established 538) (event.File 1 file.Status 4) given.Nothing ≡ Some (reply.Bytes (codes "Esta"))
unfolding number digits state_after
the_state_is_said = refl

pub the_port_is_said : conv_answer (Il (fresh_end Fixed)) (plainly (event.Begin 1) ∷ (event.Bound 1, given.Key 0 564) ∷ []) (event.File 1 file.Local 100) given.Nothing ≡ Some (reply.Bytes (codes "0.0.0.0!564\n"))
unfolding number digits state_after
the_port_is_said = refl

pub a_bad_word : conv_answer (Il (fresh_end Fixed)) (established 538) (event.Ctl 1 (codes "conect 1")) given.Nothing ≡ Some (reply.BadCtl 1)
unfolding number digits state_after
a_bad_word = refl

pub a_good_word_isnt_answered : conv_answer (Il (fresh_end Fixed)) (established 538) (event.Ctl 1 (codes "hangup")) given.Nothing ≡ None
unfolding number digits state_after
a_good_word_isnt_answered = refl

-- the last close hangs up: in Established the end is then Closing, and it hasn't ended
pub it_is_left_closing : conv_ended (Il (fresh_end Fixed)) (established 538) (event.Close 1) ≡ Some false
unfolding number digits state_after
it_is_left_closing = refl

pub it_ends : conv_ended (Il (fresh_end Fixed)) (plainly (event.Begin 1) ∷ []) (event.Close 1) ≡ Some true
unfolding number digits state_after
it_ends = refl

pub it_ends_once : conv_ended (Il (fresh_end Fixed)) (plainly (event.Begin 1) ∷ plainly (event.Close 1) ∷ []) (event.Close 1) ≡ Some false
unfolding number digits state_after
it_ends_once = refl

pub a_listener_is_left : conv_answer (Il (fresh_end Fixed)) (plainly (event.Begin 1) ∷ (event.Announced 1, given.Key 0 17008) ∷ []) (event.Hangup 1) given.Nothing ≡ Some reply.Left
unfolding number digits state_after
a_listener_is_left = refl

pub its_cause : conv_answer (Il (fresh_end Fixed)) (plainly (event.Begin 1) ∷ (event.Announced 1, given.Key 0 17008) ∷ plainly (event.Hangup 1) ∷ []) (event.File 1 file.Err 100) given.Nothing ≡ Some (reply.Bytes (codes "hungup\n"))
unfolding number digits state_after
its_cause = refl

abbrev datagram : Packet
datagram = record { src = helix_9fs; dst = anna_5000; ttl = 255; tos = 0; body = body.Udp (codes "hello") }

-- what isn't read of a datagram is lost
pub a_piece_of_a_datagram : conv_answer (Udp fresh_udp) (granted_to 538 ++ (event.ArriveAt 1, given.Packet datagram) ∷ []) (event.Read 1 2) given.Nothing ≡ Some (reply.Bytes (codes "he"))
unfolding number digits state_after
a_piece_of_a_datagram = refl

pub the_rest_is_lost : conv_answer (Udp fresh_udp) (granted_to 538 ++ (event.ArriveAt 1, given.Packet datagram) ∷ plainly (event.Read 1 2) ∷ []) (event.Read 1 8192) given.Nothing ≡ None
unfolding number digits state_after
the_rest_is_lost = refl

pub sixty_four_are_full : conv_answer (Udp fresh_udp) (granted_to 538 ++ replicate 64 (event.ArriveAt 1, given.Packet datagram)) (event.ArriveAt 1) (given.Packet datagram) ≡ Some reply.Full
unfolding number digits state_after
sixty_four_are_full = refl

pub it_comes_before_the_grant : conv_answer (Udp fresh_udp) (plainly (event.Begin 1) ∷ []) (event.ArriveAt 1) (given.Packet datagram) ≡ Some reply.Took
unfolding number digits state_after
it_comes_before_the_grant = refl

pub another_protocol : conv_answer (Udp fresh_udp) (plainly (event.Begin 1) ∷ []) (event.ArriveAt 1) (given.Packet (packet_to 0)) ≡ None
unfolding number digits state_after
another_protocol = refl

-- Media.

abbrev fated : MediumSpec
fated = record ether0 { fates = record { first = 1; last = 1; fate = Later } ∷ record { first = 2; last = 3; fate = Twice } ∷ record { first = 4; last = 4; fate = Lose } ∷ [] }

abbrev put_it : Event × With
put_it = (event.Put (Some 1), given.Packet datagram)

abbrev medium_with : Works → Medium → Medium
medium_with [] m = m
medium_with (x ∷ xs) m = medium_with xs (stepped (medium_step fated 7 x.0 x.1 m) m)
  where
    stepped : Option (Step Medium) → Medium → Medium
    stepped None m = m
    stepped (Some s) m = s.state

abbrev medium_answer : Works → Event → With → Option Reply
medium_answer works e w = option_map (λ (s : Step Medium). s.outcome.reply) (medium_step fated 7 e w (medium_with works quiet_medium))

pub a_held_copy : medium_answer (put_it ∷ []) event.Take given.Nothing ≡ Some (reply.Copy 1)
unfolding number digits state_after
a_held_copy = refl

pub the_next_frame_comes_first : medium_answer (put_it ∷ put_it ∷ []) event.Take given.Nothing ≡ Some (reply.Copy 2)
unfolding number digits state_after
the_next_frame_comes_first = refl

pub then_the_held_one : medium_answer (put_it ∷ put_it ∷ plainly event.Take ∷ plainly event.Take ∷ []) event.Take given.Nothing ≡ Some (reply.Copy 1)
unfolding number digits state_after
then_the_held_one = refl

pub nothing_is_pending : medium_answer (put_it ∷ plainly event.Take ∷ []) event.Take given.Nothing ≡ None
unfolding number digits state_after
nothing_is_pending = refl

pub the_fourth_is_lost : medium_answer (put_it ∷ put_it ∷ put_it ∷ put_it ∷ plainly event.Take ∷ plainly event.Take ∷ plainly event.Take ∷ plainly event.Take ∷ plainly event.Take ∷ []) event.Take given.Nothing ≡ None
unfolding number digits state_after
the_fourth_is_lost = refl

pub no_station : medium_answer [] (event.Put None) (given.Packet datagram) ≡ Some reply.NoStation
unfolding number digits state_after
no_station = refl

pub as_long_as_the_mtu : medium_answer [] (event.Put (Some 1)) (given.Packet (record datagram { body = body.Udp (text_of 1472) })) ≡ Some (reply.Laid 1)
unfolding number digits state_after
as_long_as_the_mtu = refl

pub longer_than_the_mtu : medium_answer [] (event.Put (Some 1)) (given.Packet (record datagram { body = body.Udp (text_of 1473) })) ≡ Some reply.TooBig
unfolding number digits state_after
longer_than_the_mtu = refl

-- the words of the generator are those of its reference
pub the_first_word : drawn_word 42 54 1 ≡ 2707161783
unfolding number digits state_after
the_first_word = refl

pub the_third_word : drawn_word 42 54 3 ≡ 3122475824
unfolding number digits state_after
the_third_word = refl

-- Ways.

pub to_the_other_host : way il_world 0 helix_ip ≡ Some (record { medium = 0; station = Some 1; source = anna_ip; mtu = 1500 })
unfolding number digits state_after
to_the_other_host = refl

pub to_nobody : way il_world 0 (helix_ip + 1) ≡ Some (record { medium = 0; station = None; source = anna_ip; mtu = 1500 })
unfolding number digits state_after
to_nobody = refl

pub to_itself : way il_world 0 anna_ip ≡ Some (record { medium = 0; station = Some 0; source = anna_ip; mtu = 1500 })
unfolding number digits state_after
to_itself = refl

pub to_nowhere : way il_world 0 167772161 ≡ None
unfolding number digits state_after
to_nowhere = refl

abbrev routes : List Route
routes = record { net = 0; mask = 0; iface = 0; next = Some 2271742209 } ∷ record { net = 2271742208; mask = 4294967040; iface = 0; next = None } ∷ []

pub the_longest_mask : option_map (λ (r : Route). r.next) (longest_match helix_ip routes) ≡ Some None
unfolding number digits state_after
the_longest_mask = refl

pub the_gateway : option_map (λ (r : Route). r.next) (longest_match 167772161 routes) ≡ Some (Some 2271742209)
unfolding number digits state_after
the_gateway = refl

-- The desk.

-- the small database alone
abbrev small_versions : List Version
small_versions = record { moment = 0; db = small_database } ∷ []

pub the_names_in_net : desk_reply small_versions anna (event.LsPath (codes "/net")) 0 opening_desk ≡ Some (reply.Names (codes "cs" ∷ codes "il" ∷ codes "udp" ∷ []))
unfolding number digits state_after
the_names_in_net = refl

pub no_such_file : desk_reply small_versions anna (event.OpenPath (codes "/net/tcp") mode.Read) 0 opening_desk ≡ Some reply.NoFile
unfolding number digits state_after
no_such_file = refl

pub a_bad_mode : desk_reply small_versions anna (event.OpenPath (codes "/net/il/3/err") mode.Both) 0 opening_desk ≡ Some reply.BadMode
unfolding number digits state_after
a_bad_mode = refl

pub it_may_be_opened : desk_reply small_versions anna (event.OpenPath (codes "/net/il/3/err") mode.Read) 0 opening_desk ≡ None
unfolding number digits state_after
it_may_be_opened = refl

pub not_until_then : desk_reply small_versions anna (event.Until 10) 9 opening_desk ≡ None
unfolding number digits state_after
not_until_then = refl

pub until_then : desk_reply small_versions anna (event.Until 10) 10 opening_desk ≡ Some reply.Ok
unfolding number digits state_after
until_then = refl

pub both_nets : desk_reply small_versions anna (event.Cs (codes "net!135.104.50.9!564")) 0 opening_desk
    ≡ Some (reply.Lines (codes "/net/il/clone 135.104.50.9!564" ∷ codes "/net/udp/clone 135.104.50.9!564" ∷ []))
unfolding number digits state_after
both_nets = refl
