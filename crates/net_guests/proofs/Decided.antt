-- What was decided of the clock's guest.
use Rattle.std.proofs.Common.{◌≡◌, ℕ, ◌==◌, false, List, [], Option, Some, None, refl, ap, sym, subst, ◌∙◌}
use Rattle.net_base.specs.declared.actor.ActorName.TheVariants as name
use Rattle.net_base.specs.declared.event.Event.TheVariants as event
use Rattle.net_base.specs.declared.history.Entry.{Entry}
use Rattle.net_base.specs.declared.world.World.{World}
use Rattle.net_base.specs.Callers.{Caller, IsClock, caller_of}
use Rattle.net_base.specs.Calm.{target_by}
use Rattle.net_base.specs.Duties.{Duty}
use Rattle.net_base.specs.Legal.{IsAsked}
use Rattle.net_base.specs.Stamped.{at}
use Rattle.net_base.specs.Steps.{Ask, Names}
use Rattle.net_base.specs.Tasks.{Tasks}
use Rattle.journal.specs.declared.law.Roster.{Roster}
use Rattle.journal.specs.declared.tokens.Sight.{Sight}
use Rattle.duties.specs.Marks.{Marks}
use Rattle.net_locks.specs.Guests.{IsGuest}
use Rattle.net_locks.specs.Own.{AreNext, AreTimely}
use Rattle.net_locks.specs.Works.{noted_net}
use Rattle.net_locks.specs.declared.clock.Advance.{Advance}
use Rattle.net_locks.specs.declared.clock.Advance.TheVariants as advance
use Rattle.net_locks.specs.declared.calendar.Calendar.{Calendar}
use Rattle.net_guests.specs.Deciding.{Decided, LeavesGuest, Moves, visit_net}
use Rattle.net_locks.specs.declared.visitor.Bearer.{Bearer}
use Rattle.net_locks.specs.Moving.{KeepsMoving, LeavesMoved, MayGo, MayMove}
use Rattle.net_locks.specs.Turns.{StaysOwn}
use Rattle.net_guests.specs.Visits.{IsHosted, IsWith, Visit}
use Rattle.net_guests.proofs.Operating.{visit}
use Rattle.net_guests.proofs.Passes.{stays_on}

pub keeps_decided : (ts : Tasks) (w : World) (old new : Visit) (answer : Advance) → KeepsMoving ts w (visit_net w old) answer → new ≡ old → Decided ts w old answer new
keeps_decided ts w old new (advance.Moved m) keeps same = absurd keeps
keeps_decided ts w old new advance.Done keeps same = (keeps, same)
keeps_decided ts w old new advance.Stopped keeps same = (keeps, same)
keeps_decided ts w old new (advance.NotCalm c) keeps same = (keeps, same)
keeps_decided ts w old new advance.Limit keeps same = (keeps, same)
keeps_decided ts w old new advance.Memory keeps same = absurd keeps

asked_move : (ds : List Duty) (k : Caller) (ask : Option Ask) (x : Entry) (m : ℕ) → ds ≡ [] → k ≡ IsClock → x.actor ≡ name.Clock
    → x.event ≡ event.Move m → IsAsked ds k ask x
asked_move ds k ask x m none clock at moves = rw (none, clock, at, moves) tt

module _ (ts : Tasks) (w : World) (old new : Visit) (clock : caller_of w old.caller ≡ IsClock) where
  nexts_same : new ≡ old → AreNext ts w old.caller old.sight.seen → AreNext ts w old.caller new.sight.seen
  nexts_same same nexts = subst (λ (v : Visit). AreNext ts w old.caller v.sight.seen) (sym same) nexts

  timely_same : new ≡ old → AreTimely ts w old.caller old.sight.seen → AreTimely ts w old.caller new.sight.seen
  timely_same same timely = subst (λ (v : Visit). AreTimely ts w old.caller v.sight.seen) (sym same) timely

  -- its entries are as they should be still
  pub nexts_on : (answer : Advance) → Decided ts w old answer new → AreNext ts w old.caller old.sight.seen → AreNext ts w old.caller new.sight.seen
  nexts_on (advance.Moved m) d nexts = d.entry.turn.nexts (asked_move old.owed (caller_of w old.caller) _ _ m d.free clock refl refl) nexts
  nexts_on advance.Done d nexts = nexts_same d.1 nexts
  nexts_on advance.Stopped d nexts = nexts_same d.1 nexts
  nexts_on (advance.NotCalm c) d nexts = nexts_same d.1 nexts
  nexts_on advance.Limit d nexts = nexts_same d.1 nexts
  nexts_on advance.Memory d nexts = nexts_same d nexts

  pub timely_on : (answer : Advance) → Decided ts w old answer new → AreTimely ts w old.caller old.sight.seen → AreTimely ts w old.caller new.sight.seen
  timely_on (advance.Moved m) d timely = d.entry.turn.timely timely
  timely_on advance.Done d timely = timely_same d.1 timely
  timely_on advance.Stopped d timely = timely_same d.1 timely
  timely_on (advance.NotCalm c) d timely = timely_same d.1 timely
  timely_on advance.Limit d timely = timely_same d.1 timely
  timely_on advance.Memory d timely = timely_same d timely

  -- it stays as it was
  pub leaves_same : (r : Roster) (answer : Advance) → Decided ts w old answer new → new ≡ old → LeavesGuest ts w r old answer new
  leaves_same r answer d same =
      record {
        caller = ap (λ (v : Visit). v.caller) same;
        names = ap (λ (v : Visit). v.names) same;
        others = λ v is other. subst (λ (u : Visit). IsWith w r v u.sight) (sym same) is;
        nexts = nexts_on answer d;
        timely = timely_on answer d;
        decided = d;
      }

  -- or it moved
  pub leaves_moving : (r : Roster) (m : ℕ) → new.caller ≡ old.caller → new.names ≡ old.names
      → ((v : Visit) → IsWith w r v old.sight → (v.caller == old.caller) ≡ false → IsWith w r v new.sight) → Moves ts w old m new
      → LeavesGuest ts w r old (advance.Moved m) new
  leaves_moving r m caller names others moves =
      record {
        caller = caller;
        names = names;
        others = others;
        nexts = nexts_on (advance.Moved m) moves;
        timely = timely_on (advance.Moved m) moves;
        decided = moves;
      }

-- another guest is with the pass still
still_with : (w : World) (r : Roster) (v : Visit) (p p' : Sight) → IsWith w r v p → IsGuest w r v.caller p' v.owed × StaysOwn w v.caller p p' → IsWith w r v p'
still_with w r v p p' is on = record { guest = on.0; stays = stays_on w r v.caller v.sight p p' is.stays on.1 }

-- By its parts.

module _ (ts : Tasks) (w : World) (r : Roster) (c now : ℕ) (p q : Sight) (ds : List Duty) (names : Names) (clock : caller_of w c ≡ IsClock) (seen : q ≡ p) where
  abbrev old : Visit
  old = visit c now p ds names

  same_visit : (p' : Sight) (ds' : List Duty) → p' ≡ p → ds' ≡ ds → visit c now p' ds' names ≡ visit c now p ds names
  same_visit p' ds' sight owed =
      ap (λ (s : Sight). visit c now s ds' names) sight ∙ ap (λ (l : List Duty). visit c now p l names) owed

  -- what keeps the clock
  pub leaves_kept : (p' : Sight) → p' ≡ q → (answer : Advance) → KeepsMoving ts w (noted_net w q.seen) answer → LeavesGuest ts w r old answer (visit c now p' ds names)
  leaves_kept p' same answer keeps =
      let still = same_visit p' ds (same ∙ seen) refl in
      leaves_same ts w old (visit c now p' ds names) clock r answer
      (keeps_decided ts w old (visit c now p' ds names) answer (subst (λ (s : Sight). KeepsMoving ts w (noted_net w s.seen) answer) seen keeps) still) still

  -- no memory
  pub leaves_none : (p' : Sight) (ds' : List Duty) → p' ≡ q → ds' ≡ ds → LeavesGuest ts w r old advance.Memory (visit c now p' ds' names)
  leaves_none p' ds' same owed =
      let still = same_visit p' ds' (same ∙ seen) owed in
      leaves_same ts w old (visit c now p' ds' names) clock r advance.Memory still still

  -- its move
  pub leaves_gone : (p' : Sight) (ds' : List Duty) (m : ℕ) → MayMove ts w c q → LeavesMoved ts w r c now m q ds p' ds' → m ≡ target_by ts w (noted_net w q.seen)
      → LeavesGuest ts w r old (advance.Moved m) (visit c m p' ds' names)
  leaves_gone p' ds' m may moved at = at_sight q seen may moved at
    where
      at_sight : (s : Sight) → s ≡ p → MayMove ts w c s → LeavesMoved ts w r c now m s ds p' ds' → m ≡ target_by ts w (noted_net w s.seen)
          → LeavesGuest ts w r old (advance.Moved m) (visit c m p' ds' names)
      at_sight s same may_s moved_s at_s =
          let may_p = subst (λ (u : Sight). MayMove ts w c u) same may_s in
          let moved_p = subst (λ (u : Sight). LeavesMoved ts w r c now m u ds p' ds') same moved_s in
          leaves_moving ts w old (visit c m p' ds' names) clock r m refl refl
          (λ v is other. still_with w r v p p' is (moved_p.others v.caller v.owed is.guest other))
          (record {
            may = may_p.may;
            has_room = may_p.unlimited;
            target_is = subst (λ (u : Sight). m ≡ target_by ts w (noted_net w u.seen)) same at_s;
            free = moved_p.free;
            entry = moved_p.entry;
            now_is = refl;
          })

-- By its bearer, which was looked at first.
module _ {J : Type 0} (ts : Tasks) (w : World) (r : Roster) (b h : Bearer J) (ds : List Duty) (names : Names) (clock : caller_of w b.caller ≡ IsClock) (same : h ≡ b) where
  pub halted : (answer : Advance) → KeepsMoving ts w (noted_net w b.pass.seen) answer
      → LeavesGuest ts w r (visit b.caller b.now b.pass ds names) answer (visit h.caller h.now h.pass ds names)
  halted answer keeps =
      subst (λ (x : Bearer J). LeavesGuest ts w r (visit b.caller b.now b.pass ds names) answer (visit x.caller x.now x.pass ds names)) (sym same)
      (leaves_kept ts w r b.caller b.now b.pass b.pass ds names clock refl b.pass refl answer keeps)

  pub held : (host : ℕ) (t : Marks) (k : Calendar) → IsHosted w r b.caller b.now b.pass ds host t k → IsHosted w r h.caller h.now h.pass ds host t k
  held host t k is = subst (λ (x : Bearer J). IsHosted w r x.caller x.now x.pass ds host t k) (sym same) is

  pub held_may : MayMove ts w b.caller b.pass → MayMove ts w h.caller h.pass
  held_may may = subst (λ (x : Bearer J). MayMove ts w x.caller x.pass) (sym same) may

  module _ (b' : Bearer J) (ds' : List Duty) (caller : b'.caller ≡ h.caller) where
    by_caller : (answer : Advance) (n : ℕ) → b'.now ≡ n → LeavesGuest ts w r (visit b.caller b.now b.pass ds names) answer (visit b.caller n b'.pass ds' names)
        → LeavesGuest ts w r (visit b.caller b.now b.pass ds names) answer (visit b'.caller b'.now b'.pass ds' names)
    by_caller answer n at leaves =
        subst (λ (c : ℕ). LeavesGuest ts w r (visit b.caller b.now b.pass ds names) answer (visit c b'.now b'.pass ds' names))
        (sym (caller ∙ ap (λ (x : Bearer J). x.caller) same))
        (subst (λ (m : ℕ). LeavesGuest ts w r (visit b.caller b.now b.pass ds names) answer (visit b.caller m b'.pass ds' names)) (sym at) leaves)

    pub unmoved : b'.now ≡ h.now → MayGo ts w r h ds None b' ds'
        → LeavesGuest ts w r (visit b.caller b.now b.pass ds names) advance.Memory (visit b'.caller b'.now b'.pass ds' names)
    unmoved now go =
        let still = subst (λ (x : Bearer J). MayGo ts w r x ds None b' ds') same go in
        by_caller advance.Memory b.now (now ∙ ap (λ (x : Bearer J). x.now) same)
        (leaves_none ts w r b.caller b.now b.pass b.pass ds names clock refl b'.pass ds' still.0 still.1)

    pub gone : (m : ℕ) → b'.now ≡ m → MayMove ts w b.caller b.pass → MayGo ts w r h ds (Some m) b' ds'
        → LeavesGuest ts w r (visit b.caller b.now b.pass ds names) (advance.Moved m) (visit b'.caller b'.now b'.pass ds' names)
    gone m now may go =
        let moved = subst (λ (x : Bearer J). MayGo ts w r x ds (Some m) b' ds') same go in
        by_caller (advance.Moved m) m now (leaves_gone ts w r b.caller b.now b.pass b.pass ds names clock refl b'.pass ds' m may moved.0 moved.1)
