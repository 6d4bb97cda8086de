-- Each step of an actor is that of a row.
use Rattle.std.proofs.Common.{◌≡◌, ℕ, nat_lt, nat_le, List, [], ◌∷◌, Option, Some, None, bytes_eq, codes, slice_get, refl, sym, subst}
use Rattle.std.specs.Prelude.{IfSome, IsSome}
use Rattle.std.specs.Option.{option_map, option_and_then}
use Rattle.std.proofs.lemmas.Bool.{cond_both, false≢true}
use Rattle.net_base.specs.declared.actor.ActorName.{ActorName}
use Rattle.net_base.specs.declared.actor.ActorName.TheVariants as name
use Rattle.net_base.specs.declared.event.Event.{Event}
use Rattle.net_base.specs.declared.event.Event.TheVariants as event
use Rattle.net_base.specs.declared.history.Entry.{Entry}
use Rattle.net_base.specs.declared.history.Taken.{Taken}
use Rattle.net_base.specs.declared.history.With.{With}
use Rattle.net_base.specs.declared.history.With.TheVariants as given
use Rattle.net_base.specs.declared.history.Work.{Work}
use Rattle.net_base.specs.declared.names.Mode.{Mode}
use Rattle.net_base.specs.declared.names.Node.{Node}
use Rattle.net_base.specs.declared.packet.Packet.{Packet}
use Rattle.net_base.specs.declared.reply.Reply.{Reply}
use Rattle.net_base.specs.declared.reply.Reply.TheVariants as reply
use Rattle.net_base.specs.declared.world.HostSpec.{HostSpec}
use Rattle.net_base.specs.declared.world.MediumSpec.{MediumSpec}
use Rattle.net_base.specs.declared.world.Version.{Version}
use Rattle.net_base.specs.declared.world.World.{World}
use Rattle.net_base.specs.ActorStep.{Step}
use Rattle.net_base.specs.Actors.{Actor, IsConv, IsDesk, IsDir, IsMedium, IsPlain, actor_step, has_actor, plain_step, step_as, table_step}
use Rattle.net_base.specs.Conversation.{conv_step}
use Rattle.net_base.specs.Cs.{CsAnswer, Lines, Refused, cs_list}
use Rattle.net_base.specs.Desk.{Desk, clock_reply, cs_reply, desk_replies, desk_reply, desk_step, ls_reply, open_refusal}
use Rattle.net_base.specs.Directory.{dir_step}
use Rattle.net_base.specs.Legal.{Shown, Shows}
use Rattle.net_base.specs.Medium.{Medium, datagram_length, medium_step, puts, takes}
use Rattle.net_base.specs.Net.{Net, outcome_in, step_of, work_of}
use Rattle.net_base.specs.Paths.{may_open, walk}
use Rattle.net_base.specs.Versions.{database_of}
use Rattle.history_laws.specs.ActorRows.{ActorRow, DeskRow, MediumRow, seen_as}
use Rattle.history_laws.specs.ActorRows as row
use Rattle.history_laws.proofs.ConvTable.{conv_rows, map_some}
use Rattle.history_laws.proofs.DirTable.{dir_rows}

-- what is so of a value that there is, and what is so then of what it is mapped to
pub mapped : {A B : Type 0} (f : A → B) (o : Option A) (P : A → Type 0) (Q : B → Type 0) → IfSome o P → ((x : A) → P x → Q (f x)) → IfSome (option_map f o) Q
mapped f None P Q is then = tt
mapped f (Some x) P Q is then = then x is

-- Desks.

module _ (dbs : List Version) (h : HostSpec) (now : ℕ) (d : Desk) where
  abbrev Replies : Event → Option Reply → Type 0
  Replies e o = IfSome o (λ (r : Reply). DeskRow dbs h now d e r)

  told : (query : List ℕ) (a : CsAnswer) → cs_list (database_of dbs d.version) h.name h.nets query ≡ a → DeskRow dbs h now d (event.Cs query) (cs_reply a)
  told query (Lines lines) is = row.Tells is
  told query (Refused n) is = row.Refuses is

  listed : (path : List ℕ) → DeskRow dbs h now d (event.LsPath path) (ls_reply path)
  listed path = cond_both (bytes_eq path (codes "/net")) _ _ (λ (r : Reply). DeskRow dbs h now d (event.LsPath path) r) (λ is. row.Lists) (λ other. row.ListsNone)

  refused : (path : List ℕ) (mode : Mode) (o : Option Node) → Replies (event.OpenPath path mode) (open_refusal o mode)
  refused path mode None = row.OpensNone
  refused path mode (Some n) = cond_both (may_open n mode) _ _ (λ (o : Option Reply). Replies (event.OpenPath path mode) o) (λ may. tt) (λ not. row.OpensNot)

  pub desk_rows : (e : Event) → Replies e (desk_reply dbs h e now d)
  desk_rows (event.Cs query) = told query (cs_list (database_of dbs d.version) h.name h.nets query) refl
  desk_rows (event.LsPath path) = listed path
  desk_rows (event.OpenPath path mode) = refused path mode (walk path)
  desk_rows (event.Use called) = row.Uses
  desk_rows (event.Misuse called) = row.Misuses
  desk_rows (event.Until moment) = cond_both (nat_le moment now) _ _ (λ (o : Option Reply). Replies (event.Until moment) o) (λ past. row.Waits past) (λ future. tt)
  desk_rows event.Refresh = row.Refreshes
  desk_rows _ = tt

-- Media.

module _ (spec : MediumSpec) (seed : ℕ) (m : Medium) where
  put : (to : Option ℕ) (p : Packet) → MediumRow spec seed m (event.Put to) (given.Packet p) (puts spec seed to p m)
  put None p = row.NoStation
  put (Some to) p =
      cond_both (nat_lt spec.mtu (datagram_length p.body)) _ _ (λ (s : Step Medium). MediumRow spec seed m (event.Put (Some to)) (given.Packet p) s)
      (λ long. row.TooBig long) (λ fits. row.Lays fits)

  taken : (gift : With) (queue held : List Taken) → m.queue ≡ queue → m.held ≡ held
      → IfSome (takes queue held m) (λ (s : Step Medium). MediumRow spec seed m event.Take gift s)
  taken gift (t ∷ rest) held queued are = row.Takes queued
  taken gift [] (t ∷ rest) queued are = row.TakesHeld queued are
  taken gift [] [] queued are = tt

  medium_rows : (e : Event) (gift : With) → IfSome (medium_step spec seed e gift m) (λ (s : Step Medium). MediumRow spec seed m e gift s)
  medium_rows (event.Put to) (given.Packet p) = put to p
  medium_rows event.Take gift = taken gift m.queue m.held refl refl
  medium_rows _ _ = tt

-- Any actor.

module _ (w : World) (now : ℕ) where
  abbrev Are : ActorName → Actor → Event → With → Option (Step Actor) → Type 0
  Are a s e gift step = IfSome step (λ (t : Step Actor). ActorRow w now a s e gift t)

  at_desk : (h : ℕ) (d : Desk) (e : Event) (gift : With) (o : Option HostSpec) → slice_get w.hosts h ≡ o
      → Are (name.Desk h) (IsDesk d) e gift (option_and_then (λ (host : HostSpec). step_as IsDesk (desk_step w.dbs host e now d)) o)
  at_desk h d e gift None is = tt
  at_desk h d e gift (Some host) is =
      mapped (seen_as IsDesk) (desk_step w.dbs host e now d) (λ (s : Step Desk). ActorRow w now (name.Desk h) (IsDesk d) e gift (seen_as IsDesk s)) _
      (mapped (desk_replies d) (desk_reply w.dbs host e now d) _ _ (desk_rows w.dbs host now d e) (λ r there. row.AtDesk is there))
      (λ s there. there)

  at_medium : (k : ℕ) (m : Medium) (e : Event) (gift : With) (o : Option MediumSpec) → slice_get w.media k ≡ o
      → Are (name.Medium k) (IsMedium m) e gift (option_and_then (λ (spec : MediumSpec). step_as IsMedium (medium_step spec w.seed e gift m)) o)
  at_medium k m e gift None is = tt
  at_medium k m e gift (Some spec) is =
      mapped (seen_as IsMedium) (medium_step spec w.seed e gift m) _ _ (medium_rows spec w.seed m e gift) (λ s there. row.AtMedium is there)

  at_clock : (e : Event) (gift : With) → Are name.Clock IsPlain e gift (option_map plain_step (clock_reply e))
  at_clock (event.Move moment) gift = row.AtClock
  at_clock _ gift = tt

  pub table_rows : (a : ActorName) (s : Actor) (work : Work) → Are a s work.event work.with (table_step w a s now work)
  table_rows (name.Desk h) (IsDesk d) work = at_desk h d work.event work.with (slice_get w.hosts h) refl
  table_rows (name.Dir h p) (IsDir d) work =
      mapped (seen_as IsDir) (dir_step w h p work.event work.with d) _ _ (dir_rows w h p d work.event work.with) (λ s there. row.AtDir there)
  table_rows (name.Conv h p n) (IsConv c) work =
      mapped (seen_as IsConv) (conv_step n work.event work.with now c) _ _ (conv_rows n now c work.event work.with) (λ s there. row.AtConv there)
  table_rows (name.Medium k) (IsMedium m) work = at_medium k m work.event work.with (slice_get w.media k) refl
  table_rows name.Clock IsPlain work = at_clock work.event work.with
  table_rows _ _ work = tt

  pub actor_rows : (a : ActorName) (s : Actor) (work : Work) → Are a s work.event work.with (actor_step w a s now work)
  actor_rows a s work =
      cond_both (has_actor w a) (table_step w a s now work) None (λ (o : Option (Step Actor)). Are a s work.event work.with o) (λ has. table_rows a s work) (λ not. tt)

-- what is so of the replies of the rows is so of the reply of an entry that may follow
pub shown_reply : (w : World) (net : Net) (x : Entry) (P : Reply → Type 0) → IsSome (outcome_in w net x) → Shows (outcome_in w net x) x
    → ((t : Step Actor) → ActorRow w net.moment x.actor (net.actors x.actor) x.event (work_of net x).with t → P t.outcome.reply) → P x.reply
shown_reply w net x P ready shows each =
    by (step_of w net x) (map_some (step_of w net x) _ (λ (t : Step Actor). P t.outcome.reply) (actor_rows w net.moment x.actor (net.actors x.actor) (work_of net x)) each)
    ready shows
  where
    by : (o : Option (Step Actor)) → IfSome o (λ (t : Step Actor). P t.outcome.reply) → IsSome (option_map (λ (t : Step Actor). t.outcome) o)
        → Shows (option_map (λ (t : Step Actor). t.outcome) o) x → P x.reply
    by None is ready shows = absurd (false≢true ready)
    by (Some t) is ready shows = subst (λ (y : Shown). P y.reply) (sym shows) is
