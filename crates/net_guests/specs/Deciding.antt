-- What becomes of the clock's guest.
use Rattle.std.specs.Prelude.{◌≡◌, ℕ, ◌==◌, true, false, []}
use Rattle.net_base.specs.declared.world.World.{World}
use Rattle.net_base.specs.Calm.{limited_by, movable_by, target_by}
use Rattle.net_base.specs.Net.{Net}
use Rattle.net_base.specs.Tasks.{Tasks}
use Rattle.journal.specs.declared.law.Roster.{Roster}
use Rattle.net_locks.specs.Own.{AreNext, AreTimely}
use Rattle.net_locks.specs.Works.{noted_net}
use Rattle.net_locks.specs.declared.clock.Advance.{Advance}
use Rattle.net_locks.specs.declared.clock.Advance.TheVariants as advance
use Rattle.net_locks.specs.Moving.{KeepsMoving, MovesTo}
use Rattle.net_guests.specs.Visits.{IsWith, Visit}

-- the net after all that was seen
abbrev pub visit_net : World → Visit → Net
visit_net w v = noted_net w v.sight.seen

-- it may move, has room, and moved to the target
pub record Moves (ts : Tasks) (w : World) (old : Visit) (m : ℕ) (new : Visit) : Type 0 where
  pub may : movable_by ts w (visit_net w old) ≡ true
  pub has_room : limited_by ts w (visit_net w old) ≡ false
  pub target_is : m ≡ target_by ts w (visit_net w old)
  pub free : old.owed ≡ []
  pub entry : MovesTo ts w old.caller old.now m old.sight old.owed new.sight new.owed
  pub now_is : new.now ≡ m

-- by the answer. Where it didn't move it is as it was
abbrev pub Decided : Tasks → World → Visit → Advance → Visit → Type 0
Decided ts w old (advance.Moved m) new = Moves ts w old m new
Decided ts w old advance.Memory new = new ≡ old
Decided ts w old answer new = KeepsMoving ts w (visit_net w old) answer × (new ≡ old)

-- and what it leaves of the clock's guest, and of the others by its pass
pub record LeavesGuest (ts : Tasks) (w : World) (r : Roster) (old : Visit) (answer : Advance) (new : Visit) : Type 0 where
  pub caller : new.caller ≡ old.caller
  pub names : new.names ≡ old.names
  pub others : (v : Visit) → IsWith w r v old.sight → (v.caller == old.caller) ≡ false → IsWith w r v new.sight
  pub nexts : AreNext ts w old.caller old.sight.seen → AreNext ts w old.caller new.sight.seen
  pub timely : AreTimely ts w old.caller old.sight.seen → AreTimely ts w old.caller new.sight.seen
  pub decided : Decided ts w old answer new
