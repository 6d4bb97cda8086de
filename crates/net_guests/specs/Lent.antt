-- A guest whose number is with the clock's guest.
use Rattle.std.specs.Prelude.{◌≡◌, ℕ}
use Rattle.net_base.specs.declared.world.Script.{Script}
use Rattle.net_base.specs.declared.world.World.{World}
use Rattle.net_base.specs.Callers.{IsScript, caller_of}
use Rattle.journal.specs.declared.tokens.Sight.{Sight}
use Rattle.duties.specs.Marks.{Covers}
use Rattle.net_locks.specs.Knowing.{IsKnown}
use Rattle.net_locks.specs.Turns.{own_seen}
use Rattle.net_guests.specs.Visits.{Carried, Visit}

abbrev pub with_sight : Visit → Sight → Visit
with_sight v p = record v { sight = p }

-- its number was given away: the rest is what it was at this visit, and what was known then is known
pub record IsAway (w : World) (v : Visit) (b : Carried) : Type 0 where
  pub visit_is : b.visit ≡ with_sight v b.visit.sight
  pub home : (s : Script) → caller_of w v.caller ≡ IsScript s → s.host ≡ b.host
  pub covers : Covers (own_seen v.caller v.sight) b.touched
  pub known : IsKnown w v.sight.seen b.calendar

-- it has its number again, at this moment: the same but for what it has seen
pub record IsBack (old : Visit) (now : ℕ) (new : Visit) : Type 0 where
  pub caller : new.caller ≡ old.caller
  pub now_is : new.now ≡ now
  pub owed : new.owed ≡ old.owed
  pub names : new.names ≡ old.names
