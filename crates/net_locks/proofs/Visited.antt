-- Visitors after their turns, and after a move of the clock.
use Rattle.std.proofs.Common.{◌≡◌, ℕ, ◌<◌, ◌≤◌, ◌^◌, nat_le, arith, true, false, List, ◌∷◌, ◌++◌, [], drop, Option, refl, sym, subst}
use Rattle.std.proofs.lemmas.Bool.{and_parts, leb-true}
use mathlib.Core.List.{IsPrefix}
use Rattle.net_base.specs.declared.actor.ActorName.{ActorName}
use Rattle.net_base.specs.declared.actor.ActorName.TheVariants as name
use Rattle.net_base.specs.declared.history.Outcome.{Outcome}
use Rattle.net_base.specs.declared.history.Work.{Work}
use Rattle.net_base.specs.declared.noted.Noted.{Noted}
use Rattle.net_base.specs.declared.world.World.{World}
use Rattle.net_base.specs.Duties as spec
use Rattle.net_base.specs.Duties.{Duty}
use Rattle.net_base.specs.Stamped.{moment_noted, same_actor}
use Rattle.net_base.specs.World.{is_moment}
use Rattle.net_base.specs.Tasks.{Tasks}
use Rattle.journal.specs.declared.law.Roster.{Roster}
use Rattle.ip_route.specs.Kept.{HostWays}
use Rattle.duties.specs.Marks.{Covers, Marks}
use Rattle.duties.specs.Owing.{Owes}
use Rattle.duties.specs.Queue.{Queue}
use Rattle.duties.specs.WaysOf.{AreWaysOfWorld}
use Rattle.net_locks.specs.Guests.{IsGuest, deed_at}
use Rattle.net_locks.specs.Works.{noted_net}
use Rattle.net_locks.specs.declared.calendar.Calendar.{Calendar}
use Rattle.net_locks.specs.declared.turn.Turn.{Turn}
use Rattle.net_locks.specs.declared.turn.Turn.TheVariants as turn
use Rattle.net_locks.specs.declared.visitor.Bearer.{Bearer}
use Rattle.net_locks.specs.declared.visitor.Visitor.{Visitor}
use Rattle.net_locks.specs.Knowing.{IsKnown}
use Rattle.net_locks.specs.Turns.{HasRoom, Turned, own_seen}
use Rattle.net_locks.specs.Visitors.{Does, IsSameBearer, IsVisitor, Misses, Visited}
use Rattle.net_locks.proofs.Covered.{covers_noted, recorded_grows, turned_grows}
use Rattle.net_locks.proofs.Turning.{adds, recorded}

-- what is known of due moments is known after more entries
abbrev pub StaysKnown : World → Type 0
StaysKnown w = (log log' : List Noted) (k : Calendar) → IsPrefix log log' → IsKnown w log k → IsKnown w log' k

abbrev pub visitor : {J : Type 0} → Bearer J → Queue → Marks → Calendar → Visitor J
visitor b q t k = record { bearer = b; duties = q; touched = t; calendar = k }

module _ {J : Type 0} (w : World) (r : Roster) (b b' : Bearer J) (same : IsSameBearer b b') where
  -- what is known of the caller is known of the bearer
  pub is_visitor : (q : Queue) (t : Marks) (k : Calendar) → IsGuest w r b.caller b'.pass q.list → b'.now ≡ moment_noted b'.pass.seen → b.now < 2 ^ 63
      → Covers (own_seen b.caller b'.pass) t → IsKnown w b'.pass.seen k → IsVisitor w r (visitor b' q t k)
  is_visitor q t k guest here early covers known =
      record {
        guest = subst (λ (n : ℕ). IsGuest w r n b'.pass q.list) (sym same.caller) guest;
        here = here;
        early = subst (λ (n : ℕ). n < 2 ^ 63) (sym same.now) early;
        covers = subst (λ (n : ℕ). Covers (own_seen n b'.pass) t) (sym same.caller) covers;
        known = known;
      }

module _ {J : Type 0} (ts : Tasks) (w : World) (r : Roster) (a : ActorName) (work : Work) (cites : Option ℕ) (v : Visitor J) (is : IsVisitor w r v) (b' : Bearer J)
    (same : IsSameBearer v.bearer b') (here : b'.now ≡ moment_noted b'.pass.seen) where
  -- an entry was recorded, and what it owes is owed after the others
  module _ (stamp : ℕ) (o : Outcome) (d : Does ts w r a work cites v.bearer v.duties.list stamp o b') (room : HasRoom v.bearer.caller v.bearer.pass)
      (other : same_actor a name.Clock ≡ false) (ks : List HostWays) (ways : AreWaysOfWorld w ks) (q q' : Queue) (owes : Owes ks a stamp work o q q')
      (rest : q.list ≡ drop 1 v.duties.list) where
    owed : q'.list ≡ drop 1 v.duties.list ++ spec.duties w (noted_net w d.records.past).actors a stamp work d.recorded.step
    owed =
        adds ts w r v.bearer.caller v.bearer.now a work cites v.bearer.pass b'.pass v.duties.list is.guest stamp o d.records d.recorded ks ways other q q' owes rest

    pub done_turn : (t : Marks) → Visited ts w a work cites v (turn.Recorded stamp o.reply) (visitor b' q' t v.calendar)
    done_turn t =
        recorded ts w r v.bearer.caller v.bearer.now a work cites v.bearer.pass b'.pass v.duties.list is.guest stamp o d.records d.recorded room d.in_time q'.list owed
        o.reply refl

    pub done_visitor : StaysKnown w → (t t' : Marks) → Covers (own_seen v.bearer.caller v.bearer.pass) t
        → ((es : List (ℕ × Noted)) (x : Noted) → Covers es t → x.entry.actor ≡ a → Covers (es ++ (stamp, x) ∷ []) t')
        → IsVisitor w r (visitor b' q' t' v.calendar)
    done_visitor stays t t' covers notes =
        is_visitor w r v.bearer b' same q' t' v.calendar (subst (λ (l : List Duty). IsGuest w r v.bearer.caller b'.pass l) (sym owed) d.recorded.guest) here is.early
        (covers_noted w r v.bearer.caller v.bearer.now a work cites v.bearer.pass b'.pass v.duties.list is.guest stamp o d.records a refl t t' notes covers)
        (stays v.bearer.pass.seen b'.pass.seen v.calendar
        (recorded_grows ts w v.bearer.caller v.bearer.now a work cites v.bearer.pass b'.pass v.duties.list q'.list stamp o.reply (done_turn t')) is.known)

  -- nothing was recorded
  module _ (t : Turn) (m : Misses ts w r a work cites v.bearer v.duties.list t b') (q : Queue) (list : q.list ≡ v.duties.list) where
    pub missed_turn : (k : Marks) → Visited ts w a work cites v t (visitor b' q k v.calendar)
    missed_turn k =
        subst (λ (l : List Duty). Turned ts w (deed_at a v.bearer.caller v.bearer.now work cites) v.bearer.pass v.duties.list t b'.pass l) (sym list) m.turned

    pub missed_visitor : StaysKnown w → (k : Marks) → Covers (own_seen v.bearer.caller v.bearer.pass) k → IsVisitor w r (visitor b' q k v.calendar)
    missed_visitor stays k covers =
        is_visitor w r v.bearer b' same q k v.calendar (subst (λ (l : List Duty). IsGuest w r v.bearer.caller b'.pass l) (sym list) m.guest) here is.early
        (subst (λ (es : List (ℕ × Noted)). Covers es k) (sym m.alone) covers)
        (stays v.bearer.pass.seen b'.pass.seen v.calendar
        (turned_grows ts w v.bearer.caller v.bearer.now a work cites v.bearer.pass b'.pass v.duties.list v.duties.list t m.turned) is.known)

-- the moment of a world's end is early
pub early_end : (m end : ℕ) → is_moment end ≡ true → m ≤ end → m < 2 ^ 63
early_end m end is le = omega (arith, le, leb-true end 1000000000 (and_parts (nat_le 1 end) (nat_le end 1000000000) is).1)
