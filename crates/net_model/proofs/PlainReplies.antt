-- What an entry of a legal history replies lists texts.
use Rattle.std.proofs.Common.{ℕ, List, [], subst}
use Rattle.std.specs.Prelude.{IsSome}
use Rattle.net_base.specs.declared.actor.ActorName.{ActorName}
use Rattle.net_base.specs.declared.address.Proto.{Proto}
use Rattle.net_base.specs.declared.address.Proto.TheVariants as proto
use Rattle.net_base.specs.declared.event.Event.{Event}
use Rattle.net_base.specs.declared.history.Entry.{Entry}
use Rattle.net_base.specs.declared.history.With.{With}
use Rattle.net_base.specs.declared.names.Node.TheVariants as node
use Rattle.net_base.specs.declared.reply.Reply.{Reply}
use Rattle.net_base.specs.declared.world.HostSpec.{HostSpec}
use Rattle.net_base.specs.declared.world.MediumSpec.{MediumSpec}
use Rattle.net_base.specs.declared.world.Version.{Version}
use Rattle.net_base.specs.declared.world.World.{World}
use Rattle.net_base.specs.ActorStep.{Step}
use Rattle.net_base.specs.Actors.{Actor}
use Rattle.net_base.specs.Conversation.{Conv}
use Rattle.net_base.specs.Cs.{CsAnswer, read_query}
use Rattle.net_base.specs.Desk.{Desk, cs_reply}
use Rattle.net_base.specs.Directory.{Dir, taken_from}
use Rattle.net_base.specs.Legal.{Shows}
use Rattle.net_base.specs.Medium.{Medium}
use Rattle.net_base.specs.Net.{Net, outcome_in, work_of}
use Rattle.net_base.specs.Versions.{database_of}
use Rattle.history_laws.specs.ActorRows.{ActorRow, AtDesk, AtDir, AtConv, AtMedium, AtClock, DeskRow, MediumRow, NoStation, Tells}
use Rattle.history_laws.specs.ActorRows as desk_row
use Rattle.history_laws.specs.ConvRows.{ConvRow}
use Rattle.history_laws.specs.ConvRows as conv_row
use Rattle.history_laws.specs.DirRows.{DirRow}
use Rattle.history_laws.specs.DirRows as dir_row
use Rattle.history_laws.proofs.Shared.{shown_reply}
use Rattle.net_model.proofs.PlainTexts.{ListsTexts, cs_texts, names_text}

desk_texts : (dbs : List Version) (host : HostSpec) (now : ℕ) (d : Desk) (e : Event) (r : Reply) → DeskRow dbs host now d e r → ListsTexts r
desk_texts dbs host now d e r (Tells {query = query} is) =
    subst (λ (a : CsAnswer). ListsTexts (cs_reply a)) is (cs_texts (database_of dbs d.version) host.name host.nets (read_query query))
desk_texts dbs host now d e r desk_row.Lists = names_text node.Root []
desk_texts dbs host now d e r _ = tt

dir_texts : (w : World) (h : ℕ) (p : Proto) (d : Dir) (e : Event) (gift : With) (s : Step Dir) → DirRow w h p d e gift s → ListsTexts s.outcome.reply
dir_texts w h p d e gift s dir_row.Lists = names_text (node.Proto p) (taken_from 0 d.slots)
dir_texts w h p d e gift s _ = tt

conv_texts : (slot now : ℕ) (c : Conv) (e : Event) (gift : With) (s : Step Conv) → ConvRow slot now c e gift s → ListsTexts s.outcome.reply
conv_texts slot now c e gift s conv_row.Lists = names_text (node.Dir proto.Il 0) []
conv_texts slot now c e gift s _ = tt

medium_texts : (spec : MediumSpec) (seed : ℕ) (m : Medium) (e : Event) (gift : With) (s : Step Medium) → MediumRow spec seed m e gift s → ListsTexts s.outcome.reply
medium_texts spec seed m e gift s NoStation = tt
medium_texts spec seed m e gift s _ = tt

row_texts : (w : World) (now : ℕ) (a : ActorName) (s : Actor) (e : Event) (gift : With) (t : Step Actor) → ActorRow w now a s e gift t → ListsTexts t.outcome.reply
row_texts w now a s e gift t (AtDesk {host = host} {d = d} {r = r} there row) = desk_texts w.dbs host now d e r row
row_texts w now a s e gift t (AtDir {h = h} {p = p} {d = d} {s = x} row) = dir_texts w h p d e gift x row
row_texts w now a s e gift t (AtConv {n = n} {c = c} {s = x} row) = conv_texts n now c e gift x row
row_texts w now a s e gift t (AtMedium {spec = spec} {m = m} {s = x} there row) = medium_texts spec w.seed m e gift x row
row_texts w now a s e gift t AtClock = tt

-- what an entry that may follow replies
pub entry_replies : (w : World) (net : Net) (x : Entry) → IsSome (outcome_in w net x) → Shows (outcome_in w net x) x → ListsTexts x.reply
entry_replies w net x ready shows =
    shown_reply w net x ListsTexts ready shows (λ t row. row_texts w net.moment x.actor (net.actors x.actor) x.event (work_of net x).with t row)
