-- What an entry shows.
use Rattle.std.specs.Prelude.{ℕ, Option}
use Rattle.std.specs.Option.{option_map}
use Rattle.duties.specs.declared.shown.Shown.{Shown}
use Rattle.net_base.specs.declared.actor.ActorName.{ActorName}
use Rattle.net_base.specs.declared.event.Event.{Event}
use Rattle.net_base.specs.declared.history.Entry.{Entry}
use Rattle.net_base.specs.declared.history.Outcome.{Outcome}
use Rattle.net_base.specs.Headers.{header}

-- an event, with what its entry shows of the outcome
abbrev pub shows : Event → Outcome → Shown
shows e o = record { event = e; reply = o.reply; emits = option_map header o.emit; ended = o.ended }

abbrev pub shown_entry : ActorName → ℕ → ℕ → Option ℕ → Shown → Entry
shown_entry a c moment cites s =
    record {
      actor = a;
      caller = c;
      moment = moment;
      event = s.event;
      cites = cites;
      reply = s.reply;
      emits = s.emits;
      ended = s.ended;
    }
