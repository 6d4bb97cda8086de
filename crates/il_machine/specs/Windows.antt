-- What an IL end keeps of the end of the definitions: windows of its messages, and how many there were.
use Rattle.std.specs.Prelude.{◌≡◌, ℕ, ◌+◌, ◌<◌, ◌≤◌, Bool, List, [], ◌∷◌, length, drop, Option, None, unwrap_or}
use Rattle.net_base.specs.declared.il.Cause.{Cause}
use Rattle.net_base.specs.declared.il.IlKind.{IlKind}
use Rattle.net_base.specs.declared.il.IlKind.TheVariants.{Sync}
use Rattle.net_base.specs.declared.il.IlMsg.{IlMsg}
use Rattle.net_base.specs.declared.il.IlState.{IlState}
use Rattle.net_base.specs.Number.{id_of}
use Rattle.net_base.specs.Timer.{Timer}
use Rattle.net_base.specs.IlEnd.{End, Early, early_at, message}
use Rattle.il_queues.specs.Reading.{Waiting, IsCut, cut_first}

pub record Windows : Type 0 where
  pub state : IlState
  pub fresh : Bool
  pub start : ℕ
  pub rstart : Option ℕ
  -- how many messages were written, how many of them were acknowledged, and those that weren't
  pub sent : ℕ
  pub acked : ℕ
  pub unacked : List (List ℕ)
  -- how many messages were accepted in sequence, and those accepted before their turn
  pub got : ℕ
  pub early : List Early
  -- how many messages of got were read whole, how many bytes of the next one were read, and what is unread
  pub read_count : ℕ
  pub read_offset : ℕ
  pub unread : List (List ℕ)
  pub closed_by_peer : Bool
  pub cause : Option Cause
  pub timer : Timer

-- the messages that the other end didn't acknowledge
abbrev pub unacked_of : End → List (List ℕ)
unacked_of e = drop e.acked e.sent

-- the messages that weren't read whole, the first without what was read of it
abbrev pub window_unread : End → List (List ℕ)
window_unread e = cut_first e.read_offset (drop e.read_count e.got)

-- what is kept of an end
abbrev pub windows_of : End → Windows
windows_of e =
    record {
      state = e.state;
      fresh = e.fresh;
      start = e.start;
      rstart = e.rstart;
      sent = length e.sent;
      acked = e.acked;
      unacked = unacked_of e;
      got = length e.got;
      early = e.early;
      read_count = e.read_count;
      read_offset = e.read_offset;
      unread = window_unread e;
      closed_by_peer = e.closed_by_peer;
      cause = e.cause;
      timer = e.timer;
    }

-- the other end's start, or 0 where no sync has told it
abbrev pub rstart_kept : Windows → ℕ
rstart_kept w = unwrap_or w.rstart 0

-- a message of this kind without a text, with the end's own numbers
abbrev pub own_message : IlKind → Windows → IlMsg
own_message kind w = message kind (id_of w.start w.sent) (id_of (rstart_kept w) w.got) []

-- the end's sync
abbrev pub own_sync : Windows → IlMsg
own_sync w = message Sync w.start (rstart_kept w) []

-- What is kept true.

-- each number is above the one and not above the other, and stands once
abbrev pub AreWithin : ℕ → ℕ → List Early → Type 0
AreWithin low high [] = Unit {0}
AreWithin low high (x ∷ xs) = (low < x.number) × (x.number ≤ high) × (early_at x.number xs ≡ None) × AreWithin low high xs

-- the windows lie within the messages, and what is early lies beyond the next one
pub record IsWindowKept (sent : ℕ) (unacked : List (List ℕ)) (got : ℕ) (unread : Waiting) (early : List Early) : Type 0 where
  pub unacked_were_sent : length unacked ≤ sent
  pub unread_were_got : length unread.texts ≤ got
  pub first_is_cut : IsCut unread.offset unread.texts
  pub few_wait : length unread.texts + length early ≤ 64
  pub early_are_near : AreWithin (got + 1) (got + 20) early
