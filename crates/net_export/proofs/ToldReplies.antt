-- The replies to the events of a session: each grants its event or is brief.
use Rattle.std.proofs.Common.{◌≡◌, ℕ, true, List, refl}
use Rattle.std.specs.Prelude.{IsSome}
use Rattle.net_base.specs.declared.actor.ActorName.{ActorName}
use Rattle.net_base.specs.declared.actor.ActorName.TheVariants as name
use Rattle.net_base.specs.declared.address.Proto.{Proto}
use Rattle.net_base.specs.declared.event.Event.{Event}
use Rattle.net_base.specs.declared.history.Entry.{Entry}
use Rattle.net_base.specs.declared.history.With.{With}
use Rattle.net_base.specs.declared.reply.Reply.{Reply}
use Rattle.net_base.specs.declared.world.HostSpec.{HostSpec}
use Rattle.net_base.specs.declared.world.Version.{Version}
use Rattle.net_base.specs.declared.world.World.{World}
use Rattle.net_base.specs.ActorStep.{Step}
use Rattle.net_base.specs.Actors.{Actor}
use Rattle.net_base.specs.Conversation.{Conv}
use Rattle.net_base.specs.Desk.{Desk}
use Rattle.net_base.specs.Directory.{Dir}
use Rattle.net_base.specs.Legal.{Shows}
use Rattle.net_base.specs.Net.{Net, outcome_in, work_of}
use Rattle.session_answers.specs.Told.{is_reply_told}
use Rattle.history_laws.specs.ActorRows.{ActorRow, AtDesk, AtDir, AtConv, AtMedium, AtClock, DeskRow}
use Rattle.history_laws.specs.ActorRows as desk_row
use Rattle.history_laws.specs.ConvRows.{ConvRow}
use Rattle.history_laws.specs.ConvRows as conv_row
use Rattle.history_laws.specs.DirRows.{DirRow}
use Rattle.history_laws.specs.DirRows as dir_row
use Rattle.history_laws.proofs.Shared.{shown_reply}
use Rattle.net_export.proofs.SessionEvents.{IsSessionEvent}

-- the step's reply is told
abbrev pub IsTold : {S : Type 0} → Step S → Type 0
IsTold s = is_reply_told s.outcome.reply ≡ true

desk_told : (dbs : List Version) (host : HostSpec) (h now : ℕ) (d : Desk) (e : Event) (r : Reply) → IsSessionEvent (name.Desk h) e → DeskRow dbs host now d e r → is_reply_told r ≡ true
desk_told dbs host h now d e r is desk_row.Lists = absurd is
desk_told dbs host h now d e r is desk_row.Refreshes = absurd is
desk_told dbs host h now d e r is _ = refl

dir_told : (w : World) (h : ℕ) (p : Proto) (d : Dir) (e : Event) (gift : With) (s : Step Dir) → IsSessionEvent (name.Dir h p) e → DirRow w h p d e gift s → IsTold s
dir_told w h p d e gift s is (dir_row.Withdraws at) = absurd is
dir_told w h p d e gift s is (dir_row.Frees at) = absurd is
dir_told w h p d e gift s is (dir_row.To of found) = absurd is
dir_told w h p d e gift s is (dir_row.Bears of takes) = absurd is
dir_told w h p d e gift s is (dir_row.Refuses said sync) = absurd is
dir_told w h p d e gift s is dir_row.Drops = absurd is
dir_told w h p d e gift s is dir_row.Lists = absurd is
dir_told w h p d e gift s is _ = refl

conv_told : (h : ℕ) (p : Proto) (n now : ℕ) (c : Conv) (e : Event) (gift : With) (s : Step Conv) → IsSessionEvent (name.Conv h p n) e → ConvRow n now c e gift s → IsTold s
conv_told h p n now c e gift s is (conv_row.ArrivesIl k said) = absurd is
conv_told h p n now c e gift s is (conv_row.ArrivesUdp k said takes) = absurd is
conv_told h p n now c e gift s is (conv_row.ArrivesNot k said takes) = absurd is
conv_told h p n now c e gift s is (conv_row.TicksIl k) = absurd is
conv_told h p n now c e gift s is (conv_row.TicksEarly k) = absurd is
conv_told h p n now c e gift s is (conv_row.TicksUdp k) = absurd is
conv_told h p n now c e gift s is conv_row.Lists = absurd is
conv_told h p n now c e gift s is _ = refl

row_told : (w : World) (now : ℕ) (a : ActorName) (s : Actor) (e : Event) (gift : With) (t : Step Actor) → IsSessionEvent a e → ActorRow w now a s e gift t → IsTold t
row_told w now a s e gift t is (AtDesk {h = h} {host = host} {d = d} {r = r} there row) = desk_told w.dbs host h now d e r is row
row_told w now a s e gift t is (AtDir {h = h} {p = p} {d = d} {s = x} row) = dir_told w h p d e gift x is row
row_told w now a s e gift t is (AtConv {h = h} {p = p} {n = n} {c = c} {s = x} row) = conv_told h p n now c e gift x is row
row_told w now a s e gift t is (AtMedium there row) = absurd is
row_told w now a s e gift t is AtClock = absurd is

-- the reply of an entry with an event of a session, where it may follow
pub entry_told : (w : World) (net : Net) (x : Entry) → IsSessionEvent x.actor x.event → IsSome (outcome_in w net x) → Shows (outcome_in w net x) x → is_reply_told x.reply ≡ true
entry_told w net x is ready shows =
    shown_reply w net x (λ (r : Reply). is_reply_told r ≡ true) ready shows
    (λ t row. row_told w net.moment x.actor (net.actors x.actor) x.event (work_of net x).with t is row)
