-- What the clock's entry of a move leaves.
use Rattle.std.proofs.Common.{◌≡◌, ℕ, ◌+◌, ◌==◌, Bool, true, false, List, [], ◌∷◌, ◌++◌, drop, Option, Some, None, if◌then◌else◌, refl, ap, sym, subst, ◌∙◌}
use Rattle.std.proofs.lemmas.Bool.{false≢true, true≢false}
use Rattle.net_base.specs.declared.actor.ActorName.{ActorName}
use Rattle.net_base.specs.declared.actor.ActorName.TheVariants as name
use Rattle.net_base.specs.declared.event.Event.TheVariants as event
use Rattle.net_base.specs.declared.history.Outcome.{Outcome}
use Rattle.net_base.specs.declared.history.With.TheVariants as given
use Rattle.net_base.specs.declared.noted.Noted.{Noted}
use Rattle.net_base.specs.declared.noted.Number.{Number}
use Rattle.net_base.specs.declared.noted.Number.TheVariants as number
use Rattle.net_base.specs.declared.world.World.{World}
use Rattle.net_base.specs.ActorStep.{Step}
use Rattle.net_base.specs.Actors.{Actor}
use Rattle.net_base.specs.Callers.{caller_of}
use Rattle.net_base.specs.Duties.{Duty, duties}
use Rattle.net_base.specs.Legal.{IsAsked, IsInTimeBy}
use Rattle.net_base.specs.Net.{Net}
use Rattle.net_base.specs.Next.{next_by}
use Rattle.net_base.specs.Stamped.{at, at_from, matches, moment_noted}
use Rattle.net_base.specs.Tasks.{Tasks}
use Rattle.journal.specs.declared.law.Roster.{Roster}
use Rattle.journal.specs.declared.tokens.Sight.{Sight}
use Rattle.journal.specs.Tokens.{HoldsAll}
use Rattle.locked.specs.Acts.{made}
use Rattle.duties.specs.declared.due.Due.{Due}
use Rattle.duties.specs.Ticking.{MoveOwes, dues_of, ticks_of}
use Rattle.net_locks.specs.Guests.{HasRecorded, IsGuest, GuestRecords, StaysGuest, deed_at}
use Rattle.net_locks.specs.Works.{entries, next_noted, noted_after, noted_net, step_by}
use Rattle.net_locks.specs.declared.visitor.Bearer.{Bearer}
use Rattle.net_locks.specs.Moving.{LeavesMoved, MayLeave, MovesTo}
use Rattle.net_locks.specs.Turns.{HasRoom, StaysOwn, bare}
use Rattle.net_locks.proofs.Covered.{covers_move}
use Rattle.net_base.proofs.Shared.{apart_turned}

-- moves owe their ticks
abbrev pub MovesOwe : Type 0
MovesOwe = (w : World) (actors : ActorName → Actor) (stamp now : ℕ) → MoveOwes w actors stamp now

-- an entry of another number
at_other : (k : Number) (x : Noted) → matches k x ≡ false → (n : ℕ) (log : List Noted) → at_from k n (log ++ x ∷ []) ≡ at_from k n log
at_other k x other n [] = ap (λ (b : Bool). if b then (n, x) ∷ [] else []) other
at_other k x other n (y ∷ log) = ap (λ (l : List (ℕ × Noted)). if matches k y then (n, y) ∷ l else l) (at_other k x other (n + 1) log)

module _ (ts : Tasks) (w : World) (r : Roster) (c now m : ℕ) (p p' : Sight) (ds : List Duty) (g : IsGuest w r c p ds) (stamp : ℕ) (o : Outcome)
    (d : GuestRecords w r (deed_at name.Clock c now (bare (event.Move m)) None) p stamp o p')
    (rec : HasRecorded w r (deed_at name.Clock c now (bare (event.Move m)) None) d.past p ds stamp o p') (numbers : HoldsAll r p) (free : ds ≡ []) where
  whole : d.past ≡ p.seen
  whole = d.whole numbers

  -- it owes its ticks
  pub owed_so : MovesOwe → (dues : List Due) → dues ≡ dues_of w (noted_net w p.seen).actors → (ds' : List Duty) → ds' ≡ ds ++ ticks_of stamp m dues
      → ds' ≡ drop 1 ds ++ duties w (noted_net w d.past).actors name.Clock stamp (bare (event.Move m)) rec.step
  owed_so law dues are ds' added =
      added
      ∙ (ap (λ (l : List Duty). l ++ ticks_of stamp m dues) (free ∙ sym (ap (λ (l : List Duty). drop 1 l) free))
      ∙ ap (λ (l : List Duty). drop 1 ds ++ l)
      (ap (ticks_of stamp m) (are ∙ ap (λ (log : List Noted). dues_of w (noted_net w log).actors) (sym whole))
      ∙ sym (law w (noted_net w d.past).actors stamp m given.Nothing ((noted_net w d.past).actors name.Clock) now rec.step rec.stepped)))

  pub guest_on : (ds' : List Duty) → ds' ≡ drop 1 ds ++ duties w (noted_net w d.past).actors name.Clock stamp (bare (event.Move m)) rec.step → IsGuest w r c p' ds'
  guest_on ds' owed = subst (λ (l : List Duty). IsGuest w r c p' l) (sym owed) rec.guest

  turn_on : HasRoom c p → IsInTimeBy ts (noted_net w d.past) w (event.Move m) → (ds' : List Duty)
      → ds' ≡ drop 1 ds ++ duties w (noted_net w d.past).actors name.Clock stamp (bare (event.Move m)) rec.step → MovesTo ts w c now m p ds p' ds'
  turn_on room in_time ds' owed =
      record {
        stamp = stamp;
        reply = o.reply;
        turn = record {
          room = room;
          past = d.past;
          stamp_is = d.stamp_is;
          before = d.before;
          alone = d.lists (number.Caller c) g.list g.held ∙ sym g.all;
          step = rec.step;
          stepped = rec.stepped;
          reply = ap (λ (q : Outcome). q.reply) rec.outcome;
          seen = subst (λ (q : Outcome). p'.seen ≡ d.past ++ made name.Clock c now (bare (event.Move m)) None q ∷ []) rec.outcome d.seen;
          owed = owed;
          nexts = λ asked.
              rec.nexts ts (subst (λ (q : Outcome). IsAsked ds (caller_of w c) (next_by ts w (entries p.seen) c) (made name.Clock c now (bare (event.Move m)) None q).entry) (sym rec.outcome) asked);
          timely = rec.timely ts in_time;
        };
        whole = whole;
      }

  pub moves_to : HasRoom c p → IsInTimeBy ts (noted_net w p.seen) w (event.Move m) → (ds' : List Duty)
      → ds' ≡ drop 1 ds ++ duties w (noted_net w d.past).actors name.Clock stamp (bare (event.Move m)) rec.step → MovesTo ts w c now m p ds p' ds'
  moves_to room in_time ds' owed = turn_on room (subst (λ (log : List Noted). IsInTimeBy ts (noted_net w log) w (event.Move m)) (sym whole) in_time) ds' owed

  abbrev entry : Noted
  entry = made name.Clock c now (bare (event.Move m)) None o

  moment_next : (net : Net) (t : Option (Step Actor)) → (noted_after w net entry t).moment ≡ m
  moment_next net None = refl
  moment_next net (Some t) = refl

  -- its moment is the new one
  pub moment_on : ((log : List Noted) (x : Noted) → noted_net w (log ++ x ∷ []) ≡ next_noted w (noted_net w log) x)
      → ((log : List Noted) → (noted_net w log).moment ≡ moment_noted log) → m ≡ moment_noted p'.seen
  moment_on grows here =
      sym (moment_next (noted_net w d.past) (step_by w (noted_net w d.past) entry))
      ∙ (ap (λ (n : Net). n.moment) (sym (grows d.past entry))
      ∙ (here (d.past ++ entry ∷ []) ∙ ap moment_noted (sym d.seen)))

  -- another caller is with the pass still
  others_on : (k : ℕ) (es : List Duty) → (k == c) ≡ false → StaysGuest w r k p es p' → IsGuest w r k p' es × StaysOwn w k p p'
  others_on k es other stays =
      let seen : p'.seen ≡ p.seen ++ entry ∷ [] = d.seen ∙ ap (λ (log : List Noted). log ++ entry ∷ []) whole in (
        stays.guest,
        record {
          before = (entry ∷ [], sym seen);
          alone = ap (at (number.Caller k)) seen ∙ at_other (number.Caller k) entry (apart_turned k c other) 0 p.seen;
          stands = stays.stands;
        },
      )

  pub leaves_moved : MovesOwe
      → ((log : List Noted) (x : Noted) → noted_net w (log ++ x ∷ []) ≡ next_noted w (noted_net w log) x)
      → ((log : List Noted) → (noted_net w log).moment ≡ moment_noted log)
      → ((k : ℕ) (es : List Duty) → (c == k) ≡ false → IsGuest w r k p es → StaysGuest w r k p es p')
      → HasRoom c p → IsInTimeBy ts (noted_net w p.seen) w (event.Move m)
      → (dues : List Due) → dues ≡ dues_of w (noted_net w p.seen).actors → (ds' : List Duty) → ds' ≡ ds ++ ticks_of stamp m dues
      → LeavesMoved ts w r c now m p ds p' ds'
  leaves_moved owe grows here stay room in_time dues are ds' added =
      let owed = owed_so owe dues are ds' added in
      let moves = moves_to room in_time ds' owed in
      record {
        guest = guest_on ds' owed;
        entry = moves;
        free = free;
        here = moment_on grows here;
        covers = λ t covers. covers_move ts w c now (bare (event.Move m)) None p p' ds ds' moves.stamp moves.reply t moves.turn covers;
        others = λ k es guest other. others_on k es other (stay k es (apart_turned k c other) guest);
      }

-- After what came before it, which left the pass and the duties as they were.
module _ {J : Type 0} (ts : Tasks) (w : World) (r : Roster) (m : ℕ) (old new : Bearer J) (q : Sight) (ds es ds' : List Duty) (same : q ≡ old.pass) (still : es ≡ ds) where
  pub unmoved_so : (b : Bool) → MayLeave ts w r m (record old { pass = q }) es b new ds' → b ≡ false → (new.pass ≡ old.pass) × (ds' ≡ ds)
  unmoved_so true left is = absurd (true≢false is)
  unmoved_so false left is = (left.0 ∙ same, left.1 ∙ still)

  pub moved_so : (b : Bool) → MayLeave ts w r m (record old { pass = q }) es b new ds' → b ≡ true
      → LeavesMoved ts w r old.caller old.now m old.pass ds new.pass ds'
  moved_so true left is =
      subst (λ (l : List Duty). LeavesMoved ts w r old.caller old.now m old.pass l new.pass ds') still
      (subst (λ (s : Sight). LeavesMoved ts w r old.caller old.now m s es new.pass ds') same left)
  moved_so false left is = absurd (false≢true is)
