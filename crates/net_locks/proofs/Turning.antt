-- What a turn leaves of its caller.
use Rattle.std.proofs.Common.{◌≡◌, ℕ, ◌+◌, ◌<◌, ◌≤◌, Bool, true, false, List, [], ◌∷◌, ◌++◌, length, drop, Option, Some, None, is_some, if◌then◌else◌, refl, ap, sym, subst, ◌∙◌, arith}
use Rattle.std.specs.Prelude.{Result, Ok, Err, OnOk, is_err}
use Rattle.std.proofs.lemmas.Bool.{true≢false}
use Rattle.net_base.specs.declared.actor.ActorName.{ActorName}
use Rattle.net_base.specs.declared.actor.ActorName.TheVariants as name
use Rattle.net_base.specs.declared.actor.Call.{Call}
use Rattle.net_base.specs.declared.event.Event.{Event}
use Rattle.net_base.specs.declared.history.Outcome.{Outcome}
use Rattle.net_base.specs.declared.history.Work.{Work}
use Rattle.net_base.specs.declared.noted.Number.TheVariants as number
use Rattle.net_base.specs.declared.reply.Reply.{Reply}
use Rattle.net_base.specs.declared.reply.Reply.TheVariants as reply
use Rattle.net_base.specs.declared.world.World.{World}
use Rattle.std.proofs.lemmas.List.{append-nil}
use Rattle.net_base.specs.ActorStep.{when}
use Rattle.net_base.specs.Actors.{Actor, actor_step, has_actor, table_step}
use Rattle.net_base.specs.Callers.{caller_of}
use Rattle.net_base.specs.Duties as spec
use Rattle.net_base.specs.Duties.{Duty}
use Rattle.net_base.specs.Legal.{IsAsked, IsInTimeBy, IsMove}
use Rattle.net_base.specs.Next.{next_by}
use Rattle.net_base.specs.Stamped.{same_actor}
use Rattle.net_base.specs.Tasks.{Tasks}
use Rattle.journal.specs.declared.law.Roster.{Roster}
use Rattle.journal.specs.declared.tokens.Sight.{Sight}
use Rattle.journal.specs.Rule.{has_caller}
use Rattle.locked.specs.Acts.{IsNotReady, made, act_without_copy, state_at}
use Rattle.ip_route.specs.Kept.{HostWays}
use Rattle.duties.specs.Owing.{Owes, if_any, most_following, most_owed}
use Rattle.duties.specs.Queue.{Queue}
use Rattle.duties.specs.WaysOf.{AreWaysOfWorld}
use Rattle.net_locks.specs.Guests.{HasRecorded, IsGuest, GuestRecords, StaysGuest, deed_at}
use Rattle.net_locks.specs.Named.{answer_in, named_opening}
use Rattle.net_locks.specs.Works.{entries, noted_net}
use Rattle.net_locks.specs.Turns.{HasRoom, IsFull, RecordedTurn, StaysOwn, Unready}
use Rattle.journal.proofs.Shared.{in_has_caller}

-- Room.

module _ (w : World) (r : Roster) (c : ℕ) (p : Sight) (ds : List Duty) where
  pub has_room : (g : IsGuest w r c p ds) (n : ℕ) → n + length g.list ≡ 131072 → 0 < n → HasRoom c p
  has_room g n is some = omega (arith, ap length g.all, is, some)

  pub is_full : (g : IsGuest w r c p ds) (n : ℕ) → n + length g.list ≡ 131072 → n ≡ 0 → IsFull c p
  is_full g n is none = omega (arith, ap length g.all, is, none)

any_one : {A : Type 0} (x : Option A) → if_any x ≤ 1
any_one None = omega arith
any_one (Some x) = omega arith

ended_one : (b : Bool) → (if b then 1 else 0) ≤ 1
ended_one true = omega arith
ended_one false = omega arith

following_few : (r : Reply) → ((calls : List Call) → r ≡ reply.Calls calls → length calls ≤ 10) → most_following r ≤ 10
following_few (reply.Calls calls) few = few calls refl
following_few _ few = omega arith

-- what owes no more than ten closes owes at most thirteen duties
pub few_owed : (o : Outcome) → ((calls : List Call) → o.reply ≡ reply.Calls calls → length calls ≤ 10) → most_owed o ≤ 13
few_owed o few = omega (arith, any_one o.emit, following_few o.reply few, any_one o.taken, ended_one o.ended)

-- Entries.

no_move : (a : ActorName) (e : Event) → same_actor a name.Clock ≡ false → IsMove a e → ⊥
no_move name.Clock e other is = true≢false other
no_move (name.Desk h) e other is = is
no_move (name.Dir h p) e other is = is
no_move (name.Conv h p n) e other is = is
no_move (name.Medium m) e other is = is

module _ (ts : Tasks) (w : World) (r : Roster) (c now : ℕ) (a : ActorName) (work : Work) (cites : Option ℕ) (p p' : Sight) (ds : List Duty)
    (g : IsGuest w r c p ds) (stamp : ℕ) (o : Outcome) (d : GuestRecords w r (deed_at a c now work cites) p stamp o p')
    (rec : HasRecorded w r (deed_at a c now work cites) d.past p ds stamp o p') where
  pub new_duties : List Duty
  new_duties = spec.duties w (noted_net w d.past).actors a stamp work rec.step

  -- an outcome of ten calls at most
  pub owed_few : ((calls : List Call) → rec.step.outcome.reply ≡ reply.Calls calls → length calls ≤ 10) → most_owed o ≤ 13
  owed_few few = few_owed o (λ calls is. few calls (sym (ap (λ (q : Outcome). q.reply) rec.outcome) ∙ is))

  pub adds : (ks : List HostWays) → AreWaysOfWorld w ks → same_actor a name.Clock ≡ false → (old new : Queue) → Owes ks a stamp work o old new → old.list ≡ drop 1 ds
      → new.list ≡ drop 1 ds ++ spec.duties w (noted_net w d.past).actors a stamp work rec.step
  adds ks ways other old new owes is =
      owes w ways (noted_net w d.past).actors rec.step
      (record { before = (noted_net w d.past).actors a; now = now; gives = rec.stepped; outcome = sym (ap act_without_copy rec.outcome) }) (no_move a work.event other)
      ∙ ap (λ (l : List Duty). l ++ spec.duties w (noted_net w d.past).actors a stamp work rec.step) is

  pub recorded : HasRoom c p → IsInTimeBy ts (noted_net w d.past) w work.event → (ds' : List Duty)
      → ds' ≡ drop 1 ds ++ spec.duties w (noted_net w d.past).actors a stamp work rec.step → (answer : Reply) → answer ≡ o.reply
      → RecordedTurn ts w (deed_at a c now work cites) p ds stamp answer p' ds'
  recorded room intime ds' owed answer is =
      record {
        room = room;
        past = d.past;
        stamp_is = d.stamp_is;
        before = d.before;
        alone = d.lists (number.Caller c) g.list g.held ∙ sym g.all;
        step = rec.step;
        stepped = rec.stepped;
        reply = is ∙ ap (λ (q : Outcome). q.reply) rec.outcome;
        seen = subst (λ (q : Outcome). p'.seen ≡ d.past ++ made a c now work cites q ∷ []) rec.outcome d.seen;
        owed = owed;
        nexts = λ asked.
            rec.nexts ts (subst (λ (q : Outcome). IsAsked ds (caller_of w c) (next_by ts w (entries p.seen) c) (made a c now work cites q).entry) (sym rec.outcome) asked);
        timely = rec.timely ts intime;
      }

-- Looks.

none_of : {A : Type 0} (t : Option A) → is_some t ≡ false → t ≡ None
none_of None is = refl
none_of (Some x) is = absurd (true≢false is)

module _ (w : World) (r : Roster) (c : ℕ) (p : Sight) (ds : List Duty) (g : IsGuest w r c p ds) where
  -- the pass of a guest has a caller's number
  pub has_number : has_caller p.held ≡ true
  has_number = in_has_caller p.held c g.list g.held

  pub unready : (now : ℕ) (a : ActorName) (work : Work) (p' : Sight) (front : ℕ) → HasRoom c p → IsNotReady (named_opening w) (answer_in w) r a now work p front p'
      → StaysGuest w r c p ds p'
      → is_some (answer_in w (state_at (named_opening w) (answer_in w) a p'.seen) now work) ≡ is_some (actor_step w a ((noted_net w p'.seen).actors a) now work)
      → Unready w c now a work p p'
  unready now a work p' front room n stays same =
      record {
        room = room;
        stays = record { before = n.look.before; alone = n.look.lists (number.Caller c) g.list g.held ∙ sym g.all; stands = stays.stands };
        unready = none_of (actor_step w a ((noted_net w p'.seen).actors a) now work) (sym same ∙ ap is_some n.unready);
      }

-- where it didn't fail, it holds what it says
pub on_ok : {A E : Type 0} (P : Type 0) (x : Result A E) → is_err x ≡ false → OnOk x P → P
on_ok P (Ok y) is says = says
on_ok P (Err e) is says = absurd (true≢false is)

-- An actor that isn't there.

-- nothing more was seen
stays_there : (w : World) (c : ℕ) (p : Sight) → StaysOwn w c p p
stays_there w c p =
    record {
      before = ([], append-nil p.seen);
      alone = refl;
      stands = record { owes = refl; comes_next = λ ts. refl; turns = λ t. t; nexts = λ ts t. t; timely = λ ts t. t };
    }

-- an actor that the world hasn't is never ready
absent_unready : (w : World) (a : ActorName) (s : Actor) (now : ℕ) (work : Work) → has_actor w a ≡ false → actor_step w a s now work ≡ None
absent_unready w a s now work none = ap (λ (b : Bool). when b (table_step w a s now work)) none

pub unready_there : (w : World) (c now : ℕ) (a : ActorName) (work : Work) (p : Sight) → HasRoom c p → has_actor w a ≡ false → Unready w c now a work p p
unready_there w c now a work p room none =
    record { room = room; stays = stays_there w c p; unready = absent_unready w a ((noted_net w p.seen).actors a) now work none }
