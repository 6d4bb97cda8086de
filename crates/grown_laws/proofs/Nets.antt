-- The net does not depend on the scripts.
use Rattle.std.proofs.Common.{◌≡◌, ℕ, ◌==◌, Bool, List, [], ◌∷◌, Option, Some, None, slice_get, length, refl, ap, ◌∙◌}
use Rattle.std.specs.Prelude.{find, if◌then◌else◌}
use Rattle.std.specs.Option.{option_and_then}
use Rattle.net_base.specs.declared.actor.ActorName.{ActorName}
use Rattle.net_base.specs.declared.actor.ActorName.TheVariants as name
use Rattle.net_base.specs.declared.address.Addr.{Addr}
use Rattle.net_base.specs.declared.address.Pair.{Pair}
use Rattle.net_base.specs.declared.address.Proto.{Proto}
use Rattle.net_base.specs.declared.address.Proto.TheVariants as proto
use Rattle.net_base.specs.declared.event.Event.{Event}
use Rattle.net_base.specs.declared.event.Event.TheVariants as event
use Rattle.net_base.specs.declared.history.Entry.{Entry}
use Rattle.net_base.specs.declared.history.Taken.{Taken}
use Rattle.net_base.specs.declared.history.With.{With}
use Rattle.net_base.specs.declared.history.With.TheVariants as given
use Rattle.net_base.specs.declared.history.Work.{Work}
use Rattle.net_base.specs.declared.packet.Packet.{Packet}
use Rattle.net_base.specs.declared.reply.Reply.TheVariants as reply
use Rattle.net_base.specs.Same.{same_addr}
use Rattle.net_base.specs.declared.world.HostSpec.{HostSpec}
use Rattle.net_base.specs.declared.world.Iface.{Iface}
use Rattle.net_base.specs.declared.world.Script.{Script}
use Rattle.net_base.specs.declared.world.World.{World}
use Rattle.net_base.specs.ActorStep.{Step, when}
use Rattle.net_base.specs.Actors.{Actor, IsDir, actor_step, has_actor, step_as, table_step}
use Rattle.net_base.specs.Directory.{Dir, Slot, Taker, arrives_at, dir_answers, port_for, born_or_not, dir_step, first_slot, grants, grants_by, grants_pair, home_at, in_slot, is_live_with, is_of, is_reserved, packet_pair, pair_place, start_of, taker_of}
use Rattle.net_base.specs.Duties.{courier_duty, duties, emitted_put, owed_ticks}
use Rattle.net_base.specs.Net.{Net, after, net_after, net_of, next_net, opening_net, step_of, work_of}
use Rattle.net_base.specs.Routes.{Way, way, way_from}

module _ (w : World) (ss : List Script) where
  abbrev other : World
  other = record w { scripts = ss }

  -- Routing results.

  same_way : (n ip : ℕ) → way other n ip ≡ way w n ip
  same_way n ip = by_host (slice_get w.hosts n)
    where
      by_iface : (h : HostSpec) (o : Option Iface) → way_from o other n h ip ≡ way_from o w n h ip
      by_iface h (Some i) = refl
      by_iface h None = refl

      by_host : (o : Option HostSpec)
          → option_and_then (λ (h : HostSpec). way_from (find (λ (i : Iface). i.ip == ip) h.ifaces) other n h ip) o
          ≡ option_and_then (λ (h : HostSpec). way_from (find (λ (i : Iface). i.ip == ip) h.ifaces) w n h ip) o
      by_host None = refl
      by_host (Some h) = by_iface h (find (λ (i : Iface). i.ip == ip) h.ifaces)

  -- Directories.

  same_start : (h : ℕ) (p : Proto) (d : Dir) → start_of (home_at other h p) d ≡ start_of (home_at w h p) d
  same_start h proto.Il d = refl
  same_start h proto.Udp d = refl

  same_grants_pair : (o : Option ℕ) (h : ℕ) (p : Proto) (n : ℕ) (s : Slot) (pair : Pair) (mtu : ℕ) (d : Dir)
      → grants_pair o (home_at other h p) n s pair mtu d ≡ grants_pair o (home_at w h p) n s pair mtu d
  same_grants_pair (Some k) h p n s pair mtu d = refl
  same_grants_pair None h p n s pair mtu d = rw (same_start h p d) refl

  same_grants_by : (o : Option Way) (port : Option ℕ) (h : ℕ) (p : Proto) (n : ℕ) (s : Slot) (remote : Addr) (d : Dir)
      → grants_by o port (home_at other h p) n s remote d ≡ grants_by o port (home_at w h p) n s remote d
  same_grants_by None port h p n s remote d = refl
  same_grants_by (Some out) None h p n s remote d = refl
  same_grants_by (Some out) (Some port) h p n s remote d =
      let pair : Pair = record { local = record { ip = out.source; port = port }; remote = remote } in
      ap (λ (t : Step Dir). if same_addr pair.local remote then dir_answers reply.SelfPair d else t) (same_grants_pair (pair_place pair 1 d.pairs) h p n s pair out.mtu d)

  same_grants : (h : ℕ) (p : Proto) (n : ℕ) (remote : Addr) (port : Option ℕ) (d : Dir) (s : Slot)
      → grants (home_at other h p) n remote port d s ≡ grants (home_at w h p) n remote port d s
  same_grants h p n remote port d s =
      ap (λ (t : Step Dir). if is_reserved s.kind then t else dir_answers (reply.WrongState s.kind) d)
      (ap (λ (o : Option Way). grants_by o (port_for port s.bound d) (home_at other h p) n s remote d) (same_way h remote.ip)
      ∙ same_grants_by (way w h remote.ip) (port_for port s.bound d) h p n s remote d)

  same_arrival : (o : Option (ℕ × Slot)) (h : ℕ) (p : Proto) (pair : Pair) (packet : Packet) (d : Dir)
      → arrives_at o (home_at other h p) pair packet d ≡ arrives_at o (home_at w h p) pair packet d
  same_arrival (Some found) h p pair packet d = refl
  same_arrival None h p pair packet d = by_taker (taker_of pair packet d)
    where
      by_taker : (t : Option Taker) → born_or_not t (home_at other h p) pair packet d ≡ born_or_not t (home_at w h p) pair packet d
      by_taker None = refl
      by_taker (Some t) = rw (same_start h p d, same_way h pair.remote.ip) refl

  same_dir : (h : ℕ) (p : Proto) (e : Event) (g : With) (d : Dir) → dir_step other h p e g d ≡ dir_step w h p e g d
  same_dir h p (event.Grant n generation remote port) g d = ap (in_slot n generation d) (λ i s. same_grants h p n remote port d s i)
  same_dir h p event.Arrive (given.Packet packet) d =
      ap (λ (t : Step Dir). when (is_of p packet.body) (Some t)) (same_arrival (first_slot (is_live_with (packet_pair packet)) 0 d.slots) h p (packet_pair packet) packet d)
  same_dir h p e g d = refl

  -- Steps.

  same_table : (a : ActorName) (s : Actor) (now : ℕ) (work : Work) → table_step other a s now work ≡ table_step w a s now work
  same_table (name.Dir h p) (IsDir d) now work = ap (step_as (λ (t : Dir). IsDir t)) (same_dir h p work.event work.with d)
  same_table a s now work = refl

  pub same_known : (a : ActorName) → has_actor other a ≡ has_actor w a
  same_known (name.Desk h) = refl
  same_known (name.Dir h p) = refl
  same_known (name.Conv h p n) = refl
  same_known (name.Medium m) = refl
  same_known name.Clock = refl

  pub same_step : (a : ActorName) (s : Actor) (now : ℕ) (work : Work) → actor_step other a s now work ≡ actor_step w a s now work
  same_step a s now work =
      ap (λ (b : Bool). when b (table_step other a s now work)) (same_known a) ∙ ap (when (has_actor w a)) (same_table a s now work)

  -- Follow-up events.

  same_put : (a : ActorName) (n : ℕ) (o : Option Packet) → emitted_put other a n o ≡ emitted_put w a n o
  same_put (name.Dir h p) n (Some packet) = rw (same_way h packet.dst.ip) refl
  same_put (name.Conv h p k) n (Some packet) = rw (same_way h packet.dst.ip) refl
  same_put a n o = refl

  same_courier : (a : ActorName) (n : ℕ) (o : Option Taken) → courier_duty other a n o ≡ courier_duty w a n o
  same_courier (name.Medium m) n (Some t) = rw (same_way t.to t.packet.dst.ip) refl
  same_courier a n o = refl

  same_ticks : (actors : ActorName → Actor) (a : ActorName) (n : ℕ) (e : Event) → owed_ticks other actors a n e ≡ owed_ticks w actors a n e
  same_ticks actors name.Clock n (event.Move m) = refl
  same_ticks actors a n e = refl

  same_duties : (actors : ActorName → Actor) (a : ActorName) (n : ℕ) (work : Work) (s : Step Actor) → duties other actors a n work s ≡ duties w actors a n work s
  same_duties actors a n work s =
      rw (same_put a n s.outcome.emit, same_courier a n s.outcome.taken, same_ticks actors a n work.event) refl

  -- Nets.

  same_next_net : (net : Net) (x : Entry) → next_net other net x ≡ next_net w net x
  same_next_net net x = ap (net_after other net x) (same_step x.actor (net.actors x.actor) net.moment (work_of net x)) ∙ by_step (step_of w net x)
    where
      by_step : (o : Option (Step Actor)) → net_after other net x o ≡ net_after w net x o
      by_step None = refl
      by_step (Some s) = rw (same_duties net.actors x.actor (length net.past) (work_of net x) s) refl

  same_net_of : (net : Net) (h : List Entry) → net_of other net h ≡ net_of w net h
  same_net_of net [] = refl
  same_net_of net (x ∷ xs) = ap (λ (n : Net). net_of other n xs) (same_next_net net x) ∙ same_net_of (next_net w net x) xs

  pub same_after : (h : List Entry) → after other h ≡ after w h
  same_after h = same_net_of (opening_net w) h
