-- What became of the clock, said of the histories of all callers.
use Rattle.std.proofs.Common.{◌≡◌, ℕ, ◌+◌, ◌<◌, ◌==◌, ◌⊎◌, inl, inr, Bool, true, false, List, [], ◌∷◌, ◌++◌, drop, length, Option, Some, None}
use Rattle.std.proofs.Common.{if◌then◌else◌, ap, sym, subst, ◌∙◌, arith}
use Rattle.std.proofs.lemmas.List.{append-nil, length-map}
use Rattle.net_base.specs.declared.actor.ActorName.{ActorName}
use Rattle.net_base.specs.declared.actor.ActorName.TheVariants as name
use Rattle.net_base.specs.declared.event.Event.TheVariants as event
use Rattle.net_base.specs.declared.history.Entry.{Entry}
use Rattle.net_base.specs.declared.noted.Noted.{Noted}
use Rattle.net_base.specs.declared.noted.Number.TheVariants as number
use Rattle.net_base.specs.declared.reply.Reply.{Reply}
use Rattle.net_base.specs.declared.world.Script.{Script}
use Rattle.net_base.specs.declared.world.World.{World}
use Rattle.net_base.specs.Callers.{IsClock, caller_of}
use Rattle.net_base.specs.ActorStep.{Step}
use Rattle.net_base.specs.Actors.{Actor, actor_step}
use Rattle.net_base.specs.Calm.{done_by, limited_by, movable_by, stopped_by, target_by}
use Rattle.net_base.specs.Duties.{Duty, duties, owed_ticks}
use Rattle.net_base.specs.Net.{Net, after}
use Rattle.net_base.specs.Next.{own_replies, zone_of}
use Rattle.net_base.specs.Stamped.{In, at, at_from}
use Rattle.net_base.specs.Steps.{Names}
use Rattle.net_base.specs.Tasks.{Asking, Tasks}
use Rattle.net_base.specs.Versions.{Tuples}
use Rattle.journal.specs.declared.law.Roster.{Roster}
use Rattle.net_locks.specs.Own.{AreNext, AreTimely, IsLegalButScripts}
use Rattle.net_locks.specs.Works.{entries, noted_net}
use Rattle.net_locks.specs.declared.clock.Advance.{Advance}
use Rattle.net_locks.specs.declared.clock.Advance.TheVariants as advance
use Rattle.host_net.specs.declared.player.Role.{Role}
use Rattle.host_net.proofs.Standings.{no_script}
use Rattle.host_net.proofs.Taking.{all_lent, in_visits, visit_in}
use Rattle.host_net.proofs.Histories.{AreOne, after_all, one_history}
use Rattle.host_net.specs.Advancing.{Advanced, Advances, AfterAll, ClockRecords, GroupsAreBack, HasMoved, HasRested, IsHistoryOf}
use Rattle.host_net.specs.Advancing.{StayAtOnce, moved, other_players}
use Rattle.net_guests.specs.Deciding.{Decided, Moves}
use Rattle.net_locks.specs.Moving.{IsLeast}
use Rattle.host_net.specs.Groups.{Grouped, all_members, visits}
use Rattle.host_net.specs.Playing.{GoesOn, VisitHasRole, IsVisitPlayed, IsPlayer, Playing}
use Rattle.net_guests.specs.Visits.{HasGuest, IsWith, Visit}
use Rattle.net_locks.specs.Turns.{StaysOwn, bare, own_seen}
use Rattle.locked.specs.Acts.{made, act_without_copy}
use Rattle.net_base.proofs.Shared.{number_itself}
use Rattle.host_net.proofs.Continuing.{own_stays}

-- A player stays one where its caller recorded nothing.

module _ {T : Type 0} (Goes : Option Asking → Tuples → Script → List Reply → Names → T → Type 0) (ts : Tasks) (w : World) where
  pub player_stays : (old new : Visit) (who : Role) (t : T) (lost : Bool) → IsPlayer Goes ts w old who t lost → new.caller ≡ old.caller
      → new.names ≡ old.names → StaysOwn w old.caller old.sight new.sight → IsPlayer Goes ts w new who t lost
  player_stays old new who t lost is caller names stays =
      record {
        role_is = subst (λ (c : ℕ). VisitHasRole w c who) (sym caller) is.role_is;
        plays = record {
          nexts = subst (λ (c : ℕ). AreNext ts w c new.sight.seen) (sym caller) (stays.stands.nexts ts is.plays.nexts);
          timely = subst (λ (c : ℕ). AreTimely ts w c new.sight.seen) (sym caller) (stays.stands.timely ts is.plays.timely);
        };
        goes_on = λ s script told. goes_on s (is.goes_on s (ap (caller_of w) (sym caller) ∙ script) told);
      }
    where
      goes_on : (s : Script) → GoesOn Goes (ts old.caller) (zone_of w) s old t → GoesOn Goes (ts new.caller) (zone_of w) s new t
      goes_on s on =
          subst (λ (c : ℕ). Goes (ts c) (zone_of w) s (own_replies (entries new.sight.seen) c) new.names t) (sym caller)
          (subst (λ (rs : List Reply). Goes (ts old.caller) (zone_of w) s rs new.names t)
          (sym (own_stays old.caller old.sight.seen new.sight.seen stays.alone))
          (subst (λ (l : Names). Goes (ts old.caller) (zone_of w) s (own_replies (entries old.sight.seen) old.caller) l t) (sym names) on))

  -- the clock's player has no task
  pub clock_player : (old new : Visit) (who : Role) (t : T) (lost : Bool) → IsPlayer Goes ts w old who t lost → new.caller ≡ old.caller
      → caller_of w old.caller ≡ IsClock → IsVisitPlayed ts w new → IsPlayer Goes ts w new who t lost
  clock_player old new who t lost is caller clock plays =
      record {
        role_is = subst (λ (c : ℕ). VisitHasRole w c who) (sym caller) is.role_is;
        plays = plays;
        goes_on = λ s script told. absurd (no_script w old.caller s clock (ap (caller_of w) (sym caller) ∙ script));
      }

-- what the clock recorded came next, and in time
pub clock_played : (ts : Tasks) (w : World) (r : Roster) (vs : List Visit) (old : Visit) (answer : Advance) (new : Visit) → Advances ts w r vs old answer new
    → IsWith w r old old.sight → IsVisitPlayed ts w old → IsVisitPlayed ts w new
clock_played ts w r vs old answer new a mine is =
    let stands = (a.gathers.kept old mine).stays.stands in
    record {
      nexts = subst (λ (c : ℕ). AreNext ts w c new.sight.seen) (sym a.caller_is) (a.nexts (stands.nexts ts is.nexts));
      timely = subst (λ (c : ℕ). AreTimely ts w c new.sight.seen) (sym a.caller_is) (a.timely (stands.timely ts is.timely));
    }

-- What the clock recorded.

-- an entry of a caller more stands behind all
push_from : (c n : ℕ) (log : List Noted) (x : Noted) → (x.entry.caller == c) ≡ true
    → at_from (number.Caller c) n (log ++ x ∷ []) ≡ at_from (number.Caller c) n log ++ (n + length log, x) ∷ []
push_from c n [] x is =
    let last : n ≡ n + 0 = omega arith in
    ap (λ (b : Bool). if b then (n, x) ∷ [] else []) is ∙ ap (λ (k : ℕ). (k, x) ∷ []) last
push_from c n (y ∷ log) x is =
    let last : n + 1 + length log ≡ n + length (y ∷ log) = omega arith in
    by_first (y.entry.caller == c)
    (push_from c (n + 1) log x is ∙ ap (λ (k : ℕ). at_from (number.Caller c) (n + 1) log ++ (k, x) ∷ []) last)
  where
    by_first : (b : Bool)
        → at_from (number.Caller c) (n + 1) (log ++ x ∷ [])
        ≡ at_from (number.Caller c) (n + 1) log ++ (n + length (y ∷ log), x) ∷ []
        → (if b then (n, y) ∷ at_from (number.Caller c) (n + 1) (log ++ x ∷ [])
        else at_from (number.Caller c) (n + 1) (log ++ x ∷ []))
        ≡ (if b then (n, y) ∷ at_from (number.Caller c) (n + 1) log else at_from (number.Caller c) (n + 1) log)
        ++ (n + length (y ∷ log), x) ∷ []
    by_first true rest = ap (λ (l : List (ℕ × Noted)). (n, y) ∷ l) rest
    by_first false rest = rest

pushed : (c stamp : ℕ) (log : List Noted) (x : Noted) → x.entry.caller ≡ c → length log ≡ stamp
    → at (number.Caller c) (log ++ x ∷ []) ≡ at (number.Caller c) log ++ (stamp, x) ∷ []
pushed c stamp log x is long =
    let last : 0 + length log ≡ stamp = omega (arith, long) in
    push_from c 0 log x (ap (λ (d : ℕ). d == c) is ∙ number_itself c)
    ∙ ap (λ (k : ℕ). at (number.Caller c) log ++ (k, x) ∷ []) last

-- a move owes its ticks alone
move_owes : (w : World) (actors : ActorName → Actor) (stamp m : ℕ) (step : Step Actor)
    → duties w actors name.Clock stamp (bare (event.Move m)) step ≡ owed_ticks w actors name.Clock stamp (event.Move m)
move_owes w actors stamp m step = append-nil (owed_ticks w actors name.Clock stamp (event.Move m))

-- a move of the same caller at the same moment is one
same_move : (u v : Visit) (m : ℕ) (step : Step Actor) → u.caller ≡ v.caller → u.now ≡ v.now → moved u m step ≡ moved v m step
same_move u v m step caller now =
    ap (λ (c : ℕ). made name.Clock c u.now (bare (event.Move m)) None (act_without_copy step.outcome)) caller
    ∙ ap (λ (n : ℕ). made name.Clock v.caller n (bare (event.Move m)) None (act_without_copy step.outcome)) now

module _ {T : Type 0} (ts : Tasks) (w : World) (r : Roster) (gs lent : List (Grouped T)) (p q : Playing T) (answer : Advance)
    (a : Advances ts w r (visits (other_players lent)) p.visit answer q.visit)
    (placed : (x : Playing T) → In x (all_members gs) → In x (other_players lent) ⊎ (x ≡ p)) (mine : IsWith w r p.visit p.visit.sight)
    (all : (c : ℕ) → c < r.callers → HasGuest c (visits (all_members gs)))
    (one : AreOne) (but : IsLegalButScripts w (entries a.at.sight.seen)) (net : noted_net w a.at.sight.seen ≡ after w (entries a.at.sight.seen)) where
  alone : (v : Visit) → In v (visits (all_members gs)) → own_seen v.caller a.at.sight ≡ own_seen v.caller v.sight
  alone v there =
      let found = in_visits v (all_members gs) there in
      subst (λ (u : Visit). own_seen u.caller a.at.sight ≡ own_seen u.caller u.sight) (sym found.2) (at_place found.0 (placed found.0 found.1))
    where
      at_place : (x : Playing T) → In x (other_players lent) ⊎ (x ≡ p) → own_seen x.visit.caller a.at.sight ≡ own_seen x.visit.caller x.visit.sight
      at_place x (inl i) = (a.gathers.taken x.visit (visit_in x (other_players lent) i)).stays.alone
      at_place x (inr e) =
          subst (λ (y : Playing T). own_seen y.visit.caller a.at.sight ≡ own_seen y.visit.caller y.visit.sight) (sym e) (a.gathers.kept p.visit mine).stays.alone

  pub clock_told : (K : Net → Type 0) → K (noted_net w a.at.sight.seen) → AfterAll ts w (visits (all_members gs)) K
  clock_told K holds = after_all ts w r a.at.sight a.guests one but net (visits (all_members gs)) all alone K holds

  -- the one history is that which the clock's guest has seen
  history_is : (h : List Entry) → IsHistoryOf ts w (visits (all_members gs)) h → h ≡ entries a.at.sight.seen
  history_is h is = one_history ts w r a.at.sight a.guests one but net (visits (all_members gs)) all alone h is

  same_entries : own_seen q.visit.caller q.visit.sight ≡ own_seen p.visit.caller a.to.sight
  same_entries =
      ap (λ (c : ℕ). own_seen c q.visit.sight) a.caller_is ∙ ap (at (number.Caller p.visit.caller)) a.seen_is

  stays : own_seen p.visit.caller a.at.sight ≡ own_seen p.visit.caller p.visit.sight
  stays = (a.gathers.kept p.visit mine).stays.alone

  rested : a.to ≡ a.at → HasRested p.visit q.visit
  rested same =
      record {
        own_is = same_entries ∙ (ap (λ (v : Visit). own_seen p.visit.caller v.sight) same ∙ stays);
        owed_is = a.owed_is ∙ (ap (λ (v : Visit). v.owed) same ∙ a.owed_at);
        now_is = a.now_is ∙ (ap (λ (v : Visit). v.now) same ∙ a.now_at);
      }

  module _ (m : ℕ) (d : Moves ts w a.at m a.to) where
    past_is : d.entry.turn.past ≡ a.at.sight.seen
    past_is = d.entry.whole

    gains : own_seen q.visit.caller q.visit.sight
        ≡ own_seen p.visit.caller p.visit.sight ++ (d.entry.stamp, moved p.visit m d.entry.turn.step) ∷ []
    gains =
        let t = d.entry.turn in
        let c = p.visit.caller in
        same_entries
        ∙ (ap (at (number.Caller c)) t.seen
        ∙ (pushed c d.entry.stamp t.past (moved a.at m t.step) a.caller_at t.stamp_is
        ∙ (ap (λ (l : List (ℕ × Noted)). l ++ (d.entry.stamp, moved a.at m t.step) ∷ [])
        (ap (at (number.Caller c)) past_is ∙ stays)
        ∙ ap (λ (y : Noted). own_seen c p.visit.sight ++ (d.entry.stamp, y) ∷ []) (same_move a.at p.visit m t.step a.caller_at a.now_at))))

    stamp_is : (h : List Entry) → IsHistoryOf ts w (visits (all_members gs)) h → d.entry.stamp ≡ length h
    stamp_is h is =
        sym d.entry.turn.stamp_is
        ∙ (ap length past_is
        ∙ (sym (length-map a.at.sight.seen (λ (x : Noted). x.entry)) ∙ ap length (sym (history_is h is))))

    stepped : AfterAll ts w (visits (all_members gs)) (λ (net_ : Net).
        actor_step w name.Clock (net_.actors name.Clock) p.visit.now (bare (event.Move m)) ≡ Some d.entry.turn.step)
    stepped =
        let t = d.entry.turn in
        clock_told
        (λ (net_ : Net). actor_step w name.Clock (net_.actors name.Clock) p.visit.now (bare (event.Move m)) ≡ Some t.step)
        (subst (λ (l : List Noted).
        actor_step w name.Clock ((noted_net w l).actors name.Clock) p.visit.now (bare (event.Move m)) ≡ Some t.step)
        past_is
        (subst (λ (now : ℕ).
        actor_step w name.Clock ((noted_net w t.past).actors name.Clock) now (bare (event.Move m)) ≡ Some t.step)
        a.now_at t.stepped))

    owed_after : (l : List Noted) → l ≡ a.at.sight.seen → drop 1 a.at.owed ++ duties w (noted_net w l).actors
        name.Clock d.entry.stamp (bare (event.Move m)) d.entry.turn.step
        ≡ owed_ticks w (noted_net w a.at.sight.seen).actors name.Clock d.entry.stamp (event.Move m)
    owed_after l is =
        let t = d.entry.turn in
        let s = d.entry.stamp in
        ap (λ (ds : List Duty). drop 1 ds ++ duties w (noted_net w l).actors name.Clock s (bare (event.Move m)) t.step) d.free
        ∙ (move_owes w (noted_net w l).actors s m t.step
        ∙ ap (λ (k : List Noted). owed_ticks w (noted_net w k).actors name.Clock s (event.Move m)) is)

    owes : AfterAll ts w (visits (all_members gs)) (λ (net_ : Net).
        q.visit.owed ≡ owed_ticks w net_.actors name.Clock d.entry.stamp (event.Move m))
    owes =
        clock_told (λ (net_ : Net). q.visit.owed ≡ owed_ticks w net_.actors name.Clock d.entry.stamp (event.Move m))
        (a.owed_is ∙ (d.entry.turn.owed ∙ owed_after d.entry.turn.past past_is))

    has_moved : HasMoved ts w (visits (all_members gs)) m p.visit q.visit
    has_moved =
        record {
          stamp = d.entry.stamp;
          step = d.entry.turn.step;
          gains = gains;
          free = sym a.owed_at ∙ d.free;
          stamp_is = stamp_is;
          stepped = stepped;
          owes = owes;
        }

  records_by : (x : Advance) → Decided ts w a.at x a.to → ClockRecords ts w (visits (all_members gs)) p.visit x q.visit
  records_by (advance.Moved m) d = has_moved m d
  records_by advance.Done d = rested d.1
  records_by advance.Stopped d = rested d.1
  records_by (advance.NotCalm c) d = rested d.1
  records_by advance.Limit d = rested d.1
  records_by advance.Memory d = rested d

  -- by the answer
  pub clock_records : ClockRecords ts w (visits (all_members gs)) p.visit answer q.visit
  clock_records = records_by answer a.decided

-- Its moment, where it recorded nothing.

stay_by : (ts : Tasks) (w : World) (all : List Visit) (old new : Visit) (answer : Advance) → ClockRecords ts w all old answer new → (vs us : List Visit) → In old vs
    → ((v : Visit) → In v us → v.now ≡ new.now) → StayAtOnce answer vs us
stay_by ts w all old new (advance.Moved m) does vs us there now = tt
stay_by ts w all old new advance.Done does vs us there now = λ m are v i. now v i ∙ (does.now_is ∙ are old there)
stay_by ts w all old new advance.Stopped does vs us there now = λ m are v i. now v i ∙ (does.now_is ∙ are old there)
stay_by ts w all old new (advance.NotCalm c) does vs us there now = λ m are v i. now v i ∙ (does.now_is ∙ are old there)
stay_by ts w all old new advance.Limit does vs us there now = λ m are v i. now v i ∙ (does.now_is ∙ are old there)
stay_by ts w all old new advance.Memory does vs us there now = λ m are v i. now v i ∙ (does.now_is ∙ are old there)

-- The answer.

module _ {T : Type 0} (ts : Tasks) (w : World) (r : Roster) (gs lent ks new : List (Grouped T)) (p q : Playing T) (answer : Advance)
    (a : Advances ts w r (visits (other_players lent)) p.visit answer q.visit) (back : GroupsAreBack w q.visit.now lent ks)
    (placed : (x : Playing T) → In x (all_members gs) → In x (other_players lent) ⊎ (x ≡ p))
    (replaced : (x : Playing T) → In x (all_members new) → In x (other_players ks) ⊎ (x ≡ q)) (mine : IsWith w r p.visit p.visit.sight)
    (all : (c : ℕ) → c < r.callers → HasGuest c (visits (all_members gs))) (all_new : (c : ℕ) → c < r.callers → HasGuest c (visits (all_members new)))
    (one : AreOne) (but : IsLegalButScripts w (entries a.at.sight.seen)) (net : noted_net w a.at.sight.seen ≡ after w (entries a.at.sight.seen)) where
  -- where the clock didn't move, the callers know the same entries as before
  alone_new : a.to ≡ a.at → (v : Visit) → In v (visits (all_members new)) → own_seen v.caller a.at.sight ≡ own_seen v.caller v.sight
  alone_new rests v there =
      let found = in_visits v (all_members new) there in
      subst (λ (u : Visit). own_seen u.caller a.at.sight ≡ own_seen u.caller u.sight) (sym found.2) (at_place found.0 (replaced found.0 found.1))
    where
      at_place : (x : Playing T) → In x (other_players ks) ⊎ (x ≡ q) → own_seen x.visit.caller a.at.sight ≡ own_seen x.visit.caller x.visit.sight
      at_place x (inl i) =
          let was = all_lent w q.visit.now lent ks back x i in
          subst (λ (c : ℕ). own_seen c a.at.sight ≡ own_seen c x.visit.sight) (sym was.2.caller_is)
          ((a.gathers.taken was.0.visit (visit_in was.0 (other_players lent) was.1)).stays.alone ∙ sym was.2.stays.alone)
      at_place x (inr e) =
          subst (λ (y : Playing T). own_seen y.visit.caller a.at.sight ≡ own_seen y.visit.caller y.visit.sight) (sym e)
          (ap (at (number.Caller q.visit.caller)) (sym (a.seen_is ∙ ap (λ (v : Visit). v.sight.seen) rests)))

  told : (K : Net → Type 0) → K (noted_net w a.at.sight.seen) → AfterAll ts w (visits (all_members gs)) K
  told K holds = clock_told ts w r gs lent p q answer a placed mine all one but net K holds

  told_new : a.to ≡ a.at → (K : Net → Type 0) → K (noted_net w a.at.sight.seen) → AfterAll ts w (visits (all_members new)) K
  told_new rests K holds = after_all ts w r a.at.sight a.guests one but net (visits (all_members new)) all_new (alone_new rests) K holds

  all_now : (v : Visit) → In v (visits (all_members new)) → v.now ≡ q.visit.now
  all_now v there =
      let found = in_visits v (all_members new) there in
      ap (λ (u : Visit). u.now) found.2 ∙ at_place found.0 (replaced found.0 found.1)
    where
      at_place : (x : Playing T) → In x (other_players ks) ⊎ (x ≡ q) → x.visit.now ≡ q.visit.now
      at_place x (inl i) = (all_lent w q.visit.now lent ks back x i).3
      at_place x (inr e) = ap (λ (y : Playing T). y.visit.now) e

  advanced_by : (x : Advance) → Decided ts w a.at x a.to → Advanced ts w (visits (all_members gs)) x (visits (all_members new))
  advanced_by (advance.Moved m) d =
      record {
        may = told (λ (net_ : Net). movable_by ts w net_ ≡ true) d.may;
        has_room = told (λ (net_ : Net). limited_by ts w net_ ≡ false) d.has_room;
        target_is = told (λ (net_ : Net). m ≡ target_by ts w net_) d.target_is;
        now_is = λ v there. all_now v there ∙ (a.now_is ∙ d.now_is);
      }
  advanced_by advance.Done d = told_new d.1 (λ (net_ : Net). done_by ts w net_ ≡ true) d.0
  advanced_by advance.Stopped d = told_new d.1 (λ (net_ : Net). stopped_by ts w net_ ≡ true) d.0
  advanced_by (advance.NotCalm c) d = told_new d.1 (λ (net_ : Net). IsLeast ts w net_ c × (limited_by ts w net_ ≡ false)) d.0
  advanced_by advance.Limit d = told_new d.1 (λ (net_ : Net). limited_by ts w net_ ≡ true) d.0
  advanced_by advance.Memory d = tt

  pub advanced : Advanced ts w (visits (all_members gs)) answer (visits (all_members new))
  advanced = advanced_by answer a.decided

  -- the moment
  pub stay_at_once : In p (all_members gs) → StayAtOnce answer (visits (all_members gs)) (visits (all_members new))
  stay_at_once there =
      stay_by ts w (visits (all_members gs)) p.visit q.visit answer (clock_records ts w r gs lent p q answer a placed mine all one but net)
      (visits (all_members gs)) (visits (all_members new)) (visit_in p (all_members gs) there) all_now
