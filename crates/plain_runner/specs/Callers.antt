-- What a run keeps of a caller.
--     Stands, IsCaller      after a history
--     Turns, IsTurning      while its turn is recorded
use Rattle.std.specs.Prelude.{◌≡◌, ℕ, ◌+◌, ◌-◌, List, [], ◌∷◌, ◌++◌, drop, length, take, true, Option, Some, None, IsSome, slice_get}
use Rattle.net_base.specs.declared.history.Entry.{Entry}
use Rattle.net_base.specs.declared.reply.Reply.{Reply}
use Rattle.net_base.specs.declared.world.Script.{Script}
use Rattle.net_base.specs.declared.world.World.{World}
use Rattle.net_base.specs.Callers.{IsCourier, IsClock, caller_of}
use Rattle.net_base.specs.Legal.{IsNext}
use Rattle.net_base.specs.Net.{owed}
use Rattle.net_base.specs.Next.{by, finished_by, next_recorded, own_replies, zone_of}
use Rattle.script_player.specs.Players.{IsAt, Playing}
use Rattle.script_task.specs.Fitting.{fits}
use Rattle.plain_runner.specs.Turns.{AreOwn, IsTurn, asks_of, may_turn}
use Rattle.plain_runner.specs.declared.caller.Caller.{Caller}
use Rattle.plain_runner.specs.declared.caller.Role.{Role}
use Rattle.plain_runner.specs.declared.caller.Role.TheVariants as role
use Rattle.plain_runner.specs.declared.turn.Turn.{Turn}

-- a script as far as it was played, with how many steps were finished before its last own event
pub record IsScriptAt (w : World) (h : List Entry) (c : ℕ) (script : Script) (p : Playing) (before : ℕ) : Type 0 where
  pub is : slice_get w.scripts c ≡ Some script
  pub at : IsAt (zone_of w) script (own_replies h c) p
  pub before_is : before ≡ finished_by (zone_of w) (take (length (own_replies h c) - 1) (own_replies h c)) script

-- who a caller is
abbrev pub HasRole : World → List Entry → ℕ → Role → ℕ → Type 0
HasRole w h c (role.Script script p) before = IsScriptAt w h c script.now p before
HasRole w h c (role.Courier m) before = caller_of w c ≡ IsCourier m
HasRole w h c role.Clock before = caller_of w c ≡ IsClock

-- who a caller is, and what it records next
pub record Stands (w : World) (h : List Entry) (c : ℕ) (k : Caller) : Type 0 where
  pub role_is : HasRole w h c k.role k.before
  pub next_is : asks_of k.next ≡ next_recorded w h c
  pub own : AreOwn k.next

-- a caller while its turn, which cites this, is recorded: what it records next was taken where it owed nothing
pub record Turns (w : World) (h : List Entry) (c : ℕ) (cites : Option ℕ) (k : Caller) : Type 0 where
  pub role_is : HasRole w h c k.role k.before
  pub next_is : IsSome cites → asks_of k.next ≡ next_recorded w h c
  pub own : IsSome cites → AreOwn k.next

-- what is kept of a caller after a history
pub record IsCallerKept (w : World) (h : List Entry) (c : ℕ) (k : Caller) : Type 0 where
  pub stands : Stands w h c k
  pub owes : k.owed.list ≡ owed w h c
  pub entries_is : k.entries ≡ length (by h c)

-- what is kept of a caller while its turn is recorded
pub record IsTurning (w : World) (h : List Entry) (c : ℕ) (cites : Option ℕ) (k : Caller) : Type 0 where
  pub turns : Turns w h c cites k
  pub owes : k.owed.list ≡ drop 1 (owed w h c)
  pub entries_is : k.entries ≡ length (by h c)

-- a caller's turn was taken from it
abbrev pub Takes : Caller → Caller → Option Turn → Type 0
Takes old new None = Unit {0}
Takes old new (Some t) =
    (w : World) (h : List Entry) (c : ℕ) → IsCallerKept w h c old → IsTurn w h c t × IsTurning w h c t.cites new

-- where it may record, there is a turn
abbrev pub TakesIf : Caller → Option Turn → Type 0
TakesIf old t = (w : World) (h : List Entry) (c : ℕ) → IsCallerKept w h c old → may_turn w h c ≡ true → IsSome t

-- the entry is the caller's, cites this and has this reply, which fits its event; where it cites nothing, it came next
pub record IsEntryOf (w : World) (h : List Entry) (c : ℕ) (cites : Option ℕ) (reply : Reply) (x : Entry) : Type 0 where
  pub caller_is : x.caller ≡ c
  pub cites_is : x.cites ≡ cites
  pub reply_is : x.reply ≡ reply
  pub fitting : fits x.event reply ≡ true
  pub came_next : cites ≡ None → IsNext (caller_of w c) (next_recorded w h c) x

-- the caller went on after an entry of its turn
pub record WentOn (old new : Caller) (cites : Option ℕ) (reply : Reply) : Type 0 where
  pub owed_stays : new.owed ≡ old.owed
  pub entries_is : new.entries ≡ old.entries + 1
  pub goes :
      (w : World) (h : List Entry) (c : ℕ) (x : Entry)
      → Turns w h c cites old → IsEntryOf w h c cites reply x → Stands w (h ++ x ∷ []) c new
