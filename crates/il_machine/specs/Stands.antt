-- What an IL end stands for, and what its calls do to that.
use Rattle.std.specs.Prelude.{◌≡◌, ◌↔◌, ℕ, ◌<◌, ◌^◌, ◌==◌, Bool, true, false, not, ◌||◌, IsTrue, length, Option, Some, None, is_some, nat_le, if◌then◌else◌}
use Rattle.net_base.specs.declared.il.Cause.{Cause}
use Rattle.net_base.specs.declared.il.IlKind.{IlKind}
use Rattle.net_base.specs.declared.il.IlKind.TheVariants.{Data, DataQuery, State}
use Rattle.net_base.specs.declared.il.IlMsg.{IlMsg}
use Rattle.net_base.specs.declared.il.IlState.{IlState}
use Rattle.net_base.specs.declared.il.IlState.TheVariants.{Established, Syncee, Closing}
use Rattle.net_base.specs.Number.{number}
use Rattle.net_base.specs.IlEnd.{End, Turn, backlog, cause_of, early_at, establishes, has_unacked, hears, hears_ack, rstart_of}
use Rattle.net_base.specs.IlTable.{at_established, has_unread, reads, may_write, may_read, may_go_on}
use Rattle.il_machine.specs.Windows.{Windows, windows_of}
use Rattle.il_machine.specs.declared.ask.Ask.{Ask}
use Rattle.il_machine.specs.declared.ask.Ask.TheVariants as ask
use Rattle.il_machine.specs.declared.fault.HungupError.{HungupError}
use Rattle.il_machine.specs.declared.fault.HungupError.TheVariants.{Hungup, Memory}

-- what an IL end keeps stands for an end of the definitions: its numbers and windows are that end's
unfoldable pub StandsFor : Windows → End → Type 0
StandsFor kept e = kept ≡ windows_of e

-- it stands for an end of which this is so
abbrev pub StandsForSomeEnd : Windows → (End → Type 0) → Type 0
StandsForSomeEnd kept P = (e : End) × (StandsFor kept e × P e)

-- so few messages that their numbers tell their ids apart
pub record IsEndShort (e : End) : Type 0 where
  pub few_sent : length e.sent < 2 ^ 31
  pub few_got : length e.got < 2 ^ 31

-- what is kept says so
pub record IsFew (kept : Windows) : Type 0 where
  pub few_sent : kept.sent < 2 ^ 31
  pub few_got : kept.got < 2 ^ 31

-- the end becomes what this turn of it leaves, and what it emits is emitted
abbrev pub TurnsEnd : Windows → Windows → Option IlMsg → (End → Turn) → Type 0
TurnsEnd old new emits turn = (e : End) → StandsFor old e → StandsFor new (turn e).end × (emits ≡ (turn e).emits)

-- the end becomes this
abbrev pub Becomes : Windows → Windows → (End → End) → Type 0
Becomes old new after = (e : End) → StandsFor old e → StandsFor new (after e)

-- the test tells of each end that it stands for whether this is so
abbrev pub DecidesEnd : Windows → Bool → (End → Type 0) → Type 0
DecidesEnd kept told P = (e : End) → StandsFor kept e → IsTrue told ↔ P e

-- this is what the end says
abbrev pub SaysEnd : {A : Type 0} → Windows → A → (End → A) → Type 0
SaysEnd kept told said = (e : End) → StandsFor kept e → told ≡ said e

-- what is asked for has an answer
abbrev pub is_asked_ready : Ask → End → Bool
is_asked_ready ask.Write e = may_write e.state e
is_asked_ready ask.Read e = may_read e
is_asked_ready ask.Wait e = may_go_on e.state

-- The handshake.

-- the end becomes Established, and handles the message as Established
abbrev pub handshake_completed : ℕ → IlMsg → End → Turn
handshake_completed now m e = at_established m.kind now m (establishes (hears now e))

-- Writing and reading.

-- why nothing more is written
abbrev pub write_refusal : End → Option Cause
write_refusal e = refusal_in e.state e
  where
    refusal_in : IlState → End → Option Cause
    refusal_in Established e = None
    refusal_in _ e = Some (cause_of e)

-- why nothing more is read
abbrev pub read_refusal : End → Option Cause
read_refusal e = if has_unread e || e.closed_by_peer then None else Some (cause_of e)

-- the end after a read of so many bytes
abbrev pub end_after_read : ℕ → End → End
end_after_read count e = if has_unread e then reads count e else e

-- an error tells the end's refusal, or that there was no memory for what this says memory is taken for
abbrev pub TellsRefusal : Windows → HungupError → (End → Option Cause) → (End → Bool) → Type 0
TellsRefusal old (Hungup why) refusal takes = SaysEnd old (Some why) refusal
TellsRefusal old Memory refusal takes = SaysEnd old true takes

-- Memory.

-- a write takes memory where it isn't refused
abbrev pub write_takes : End → Bool
write_takes e = not (is_some (write_refusal e))

-- a message with this number becomes early
abbrev pub is_new : Option ℕ → End → Bool
is_new None e = false
is_new (Some k) e = not (is_some (early_at k e.early) || nat_le 64 (backlog e))

-- the message is kept
abbrev pub is_kept : IlMsg → End → Bool
is_kept m e = is_new (number (rstart_of e) m.id (length e.got)) e

-- a message isn't acknowledged, once the ack of this one is taken
abbrev pub leaves_unacked : ℕ → IlMsg → End → Bool
leaves_unacked now m e = has_unacked (record e { acked = (hears_ack now m e).acked })

-- Established takes memory for data that it keeps and for a retransmission
abbrev pub established_takes : IlKind → ℕ → IlMsg → End → Bool
established_takes Data now m e = is_kept m e
established_takes DataQuery now m e = is_kept m e
established_takes State now m e = leaves_unacked now m e
established_takes _ now m e = false

-- Closing takes memory for a retransmission
abbrev pub closing_takes : IlKind → ℕ → IlMsg → End → Bool
closing_takes State now m e = leaves_unacked now m e
closing_takes _ now m e = false

-- memory is taken for a message that comes in this state
abbrev pub takes_in : IlState → ℕ → IlMsg → End → Bool
takes_in Established now m e = established_takes m.kind now m e
takes_in Syncee now m e = if m.ack == e.start then established_takes m.kind now m e else false
takes_in Closing now m e = closing_takes m.kind now m e
takes_in _ now m e = false

-- messages of these kinds are answered without memory
abbrev pub takes_no_memory : IlKind → Bool
takes_no_memory Data = false
takes_no_memory DataQuery = false
takes_no_memory State = false
takes_no_memory _ = true

-- memory is taken for a message that comes
abbrev pub arrival_takes : ℕ → IlMsg → End → Bool
arrival_takes now m e = takes_in e.state now m e
