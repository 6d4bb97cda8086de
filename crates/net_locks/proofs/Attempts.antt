-- What a call at an actor's lock is to its caller, by the answer.
use Rattle.std.proofs.Common.{◌≡◌, ℕ, ◌≤◌, false, true, List, length, Option, Some, is_some, refl, ap, sym, subst, ◌∙◌}
use Rattle.net_base.specs.declared.actor.ActorName.{ActorName}
use Rattle.net_base.specs.declared.actor.ActorName.TheVariants as name
use Rattle.net_base.specs.declared.actor.Call.{Call}
use Rattle.net_base.specs.declared.history.Outcome.{Outcome}
use Rattle.net_base.specs.declared.history.Work.{Work}
use Rattle.net_base.specs.declared.noted.Noted.{Noted}
use Rattle.net_base.specs.declared.reply.Reply.TheVariants as reply
use Rattle.net_base.specs.declared.world.World.{World}
use Rattle.net_base.specs.ActorStep.{Step}
use Rattle.net_base.specs.Actors.{Actor, actor_step}
use Rattle.net_base.specs.Duties.{Duty}
use Rattle.net_base.specs.Legal.{IsInTimeBy}
use Rattle.net_base.specs.Net.{Net}
use Rattle.net_base.specs.Stamped.{moment_noted, same_actor}
use Rattle.net_base.specs.Tasks.{Tasks}
use Rattle.journal.specs.declared.law.Roster.{Roster}
use Rattle.journal.specs.declared.tokens.Sight.{Sight}
use Rattle.journal.specs.Rule.{has_caller}
use Rattle.journal.specs.Tokens.{Looked}
use Rattle.locked.specs.declared.guarded.Answer.{Answer}
use Rattle.locked.specs.declared.guarded.Answer.TheVariants as answered
use Rattle.locked.specs.Acts.{Acted, state_at}
use Rattle.net_locks.specs.Guests.{HasRecorded, IsGuest, IsGuestTurn, GuestRecords, StaysGuest, deed_at}
use Rattle.net_locks.specs.Named.{answer_in, named_opening}
use Rattle.net_locks.specs.Works.{noted_net}
use Rattle.net_locks.specs.declared.visitor.Bearer.{Bearer}
use Rattle.net_locks.specs.Turns.{HasRoom, own_seen}
use Rattle.net_locks.specs.Visitors.{Attempted}
use Rattle.net_locks.proofs.Turning.{owed_few, unready}

module _ (w : World) (r : Roster) (a : ActorName) (now : ℕ) (work : Work) (cites : Option ℕ) (p p' : Sight) where
  -- elsewhere than at the clock no call moves on
  pub keeps_moment : (c : ℕ) → same_actor a name.Clock ≡ false → has_caller p.held ≡ true → (answer : Answer)
      → Acted (named_opening w) (answer_in w) r a c now work cites p answer p' → moment_noted p'.seen ≡ moment_noted p.seen
  keeps_moment c other number (answered.Done stamp o) d = d.moment_kept other
  keeps_moment c other number (answered.NotReady front) n = n.look.moment_is number
  keeps_moment c other number answered.Memory is = ap (λ (q : Sight). moment_noted q.seen) is

module _ {J : Type 0} (ts : Tasks) (w : World) (r : Roster) (a : ActorName) (work : Work) (cites : Option ℕ) (b b' : Bearer J) (room : HasRoom b.caller b.pass)
    (records : (ds : List Duty) (stamp : ℕ) (o : Outcome) → IsGuest w r b.caller b.pass ds → IsGuestTurn w b.caller b.pass ds a work cites
    → (d : GuestRecords w r (deed_at a b.caller b.now work cites) b.pass stamp o b'.pass) → HasRecorded w r (deed_at a b.caller b.now work cites) d.past b.pass ds stamp o b'.pass)
    (looks : (ds : List Duty) (front : ℕ) → IsGuest w r b.caller b.pass ds → Looked r b.pass front b'.pass → StaysGuest w r b.caller b.pass ds b'.pass)
    (ready : is_some (answer_in w (state_at (named_opening w) (answer_in w) a b'.pass.seen) b.now work)
    ≡ is_some (actor_step w a ((noted_net w b'.pass.seen).actors a) b.now work))
    (comes : (net : Net) (s : Actor) (t : Step Actor) → actor_step w a s b.now work ≡ Some t → IsInTimeBy ts net w work.event)
    (few : (log : List Noted) (t : Step Actor) (calls : List Call) → actor_step w a ((noted_net w log).actors a) b.now work ≡ Some t
    → t.outcome.reply ≡ reply.Calls calls → length calls ≤ 10) where
  -- what the actor's lock says of its call is what its caller is told
  pub attempted : (answer : Answer) → Acted (named_opening w) (answer_in w) r a b.caller b.now work cites b.pass answer b'.pass
      → Attempted ts w r a work cites b answer b'
  attempted (answered.Done stamp o) d =
      λ ds guest turn.
      let rec = records ds stamp o guest turn d in
      record {
        records = d;
        recorded = rec;
        in_time = comes (noted_net w d.past) ((noted_net w d.past).actors a) rec.step rec.stepped;
        few = owed_few ts w r b.caller b.now a work cites b.pass b'.pass ds guest stamp o d rec (λ calls is. few d.past rec.step calls rec.stepped is);
      }
  attempted (answered.NotReady front) n =
      λ ds guest.
      let stays = looks ds front guest n.look in
      record {
        guest = stays.guest;
        turned = (unready w r b.caller b.pass ds guest b.now a work b'.pass front room n stays ready, refl);
        alone = n.look.lists _ guest.list guest.held ∙ sym guest.all;
      }
  attempted answered.Memory is =
      λ ds guest.
      record {
        guest = subst (λ (q : Sight). IsGuest w r b.caller q ds) (sym is) guest;
        turned = (room, is, refl);
        alone = ap (own_seen b.caller) is;
      }
