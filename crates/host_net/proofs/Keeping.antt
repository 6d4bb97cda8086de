-- What a turn leaves of a player.
use Rattle.std.proofs.Common.{◌≡◌, ℕ, inl, inr, Bool, true, false, List, [], ◌∷◌, ◌++◌, Option, Some, None, refl, ap, sym, subst, ◌∙◌}
use Rattle.std.proofs.lemmas.Bool.{true≢false}
use Rattle.std.proofs.lemmas.Option.{same_Some}
use Rattle.net_base.specs.declared.actor.ActorName.{ActorName}
use Rattle.net_base.specs.declared.actor.ActorName.TheVariants as name
use Rattle.net_base.specs.declared.event.Event.TheVariants as event
use Rattle.net_base.specs.declared.history.Outcome.{Outcome}
use Rattle.net_base.specs.declared.history.Work.{Work}
use Rattle.net_base.specs.declared.noted.Noted.{Noted}
use Rattle.net_base.specs.declared.noted.Number.TheVariants as number
use Rattle.net_base.specs.declared.reply.Reply.{Reply}
use Rattle.net_base.specs.declared.world.Script.{Script}
use Rattle.net_base.specs.declared.world.World.{World}
use Rattle.net_base.specs.Actors.{actor_step}
use Rattle.net_base.specs.Callers.{Caller, IsCourier, IsScript, caller_of}
use Rattle.net_base.specs.Duties.{Duty}
use Rattle.net_base.specs.Legal.{IsAsked}
use Rattle.net_base.specs.Next.{next_by, next_of_by, own_replies, zone_of}
use Rattle.net_base.specs.Stamped.{at}
use Rattle.net_base.specs.Steps.{Ask, Names}
use Rattle.net_base.specs.Tasks.{Asking, Tasks}
use Rattle.net_base.specs.Versions.{Tuples}
use Rattle.duties.specs.Queue.{work_of_duty}
use Rattle.journal.specs.declared.tokens.Sight.{Sight}
use Rattle.locked.specs.Acts.{made, act_without_copy}
use Rattle.net_locks.specs.Own.{AreNext, AreTimely, OwnStandsStill}
use Rattle.net_locks.specs.Works.{entries, noted_net}
use Rattle.host_net.specs.declared.player.Role.{Role}
use Rattle.net_locks.specs.Guests.{deed_at}
use Rattle.net_locks.specs.declared.turn.Turn.{Turn}
use Rattle.net_locks.specs.declared.turn.Turn.TheVariants as turn
use Rattle.host_net.specs.Playing.{GoesOn, HasMore, VisitHasRole, IsVisitPlayed, IsPlayer, IsUnmoved, IsUnready, Playing, PlaysOn, played_by}
use Rattle.net_guests.specs.Visits.{IsSameVisit, TakesPasses, Visit}
use Rattle.net_locks.specs.Turns.{IsFull, RecordedTurn, StaysOwn, Unready, bare, own_seen}
use Rattle.host_net.proofs.Continuing.{duty_replies, own_push, own_stays}

abbrev pub playing : {T : Type 0} → Visit → Role → T → Bool → Bool → Playing T
playing v who t lost counts = record { visit = v; role = who; task = t; lost = lost; counts = counts }

-- One turn, whatever is done.

module _ (ts : Tasks) (w : World) (a : ActorName) (work : Work) (cites : Option ℕ) (old new : Visit) (same : IsSameVisit old new) where
  abbrev AskedFor : Type 0
  AskedFor = (o : Outcome) → IsAsked old.owed (caller_of w old.caller) (next_by ts w (entries old.sight.seen) old.caller)
      (made a old.caller old.now work cites o).entry

  abbrev RecordsIt : ℕ → Reply → Type 0
  RecordsIt stamp r = RecordedTurn ts w (deed_at a old.caller old.now work cites) old.sight old.owed stamp r new.sight new.owed

  by_stands : OwnStandsStill w old.caller old.sight.seen new.sight.seen → IsVisitPlayed ts w old → IsVisitPlayed ts w new
  by_stands stands is =
      record {
        nexts = subst (λ (c : ℕ). AreNext ts w c new.sight.seen) (sym same.caller) (stands.nexts ts is.nexts);
        timely = subst (λ (c : ℕ). AreTimely ts w c new.sight.seen) (sym same.caller) (stands.timely ts is.timely);
      }

  by_sight : new.sight ≡ old.sight → IsVisitPlayed ts w old → IsVisitPlayed ts w new
  by_sight sight is =
      record {
        nexts = subst (λ (c : ℕ). AreNext ts w c new.sight.seen) (sym same.caller) (subst (λ (p : Sight). AreNext ts w old.caller p.seen) (sym sight) is.nexts);
        timely = subst (λ (c : ℕ). AreTimely ts w c new.sight.seen) (sym same.caller) (subst (λ (p : Sight). AreTimely ts w old.caller p.seen) (sym sight) is.timely);
      }

  pub by_record : (stamp : ℕ) (r : Reply) → RecordsIt stamp r → AskedFor → IsVisitPlayed ts w old → IsVisitPlayed ts w new
  by_record stamp r rec asked is =
      record {
        nexts = subst (λ (c : ℕ). AreNext ts w c new.sight.seen) (sym same.caller) (rec.nexts (asked (act_without_copy rec.step.outcome)) is.nexts);
        timely = subst (λ (c : ℕ). AreTimely ts w c new.sight.seen) (sym same.caller) (rec.timely is.timely);
      }

  -- its own entries are still its turns
  pub turn_played : (answer : Turn) → TakesPasses ts w a work cites old answer new → AskedFor → IsVisitPlayed ts w old → IsVisitPlayed ts w new
  turn_played (turn.Recorded stamp r) takes asked is = by_record stamp r takes asked is
  turn_played turn.NotReady takes asked is = by_stands takes.0.stays.stands is
  turn_played turn.Owes takes asked is = absurd takes
  turn_played turn.Limit takes asked is = by_sight takes.1 is
  turn_played turn.Memory takes asked is = by_sight takes.1 is

  -- one of them more
  pub more : (stamp : ℕ) (r : Reply) → RecordsIt stamp r → HasMore old new
  more stamp r rec =
      let x = made a old.caller old.now work cites (act_without_copy rec.step.outcome) in
      let push = own_push old.caller rec.past x refl in (
        (push.0, x),
        ap (λ (c : ℕ). own_seen c new.sight) same.caller ∙ (ap (at (number.Caller old.caller)) rec.seen
            ∙ (push.1 ∙ ap (λ (l : List (ℕ × Noted)). l ++ (push.0, x) ∷ []) rec.alone)),
      )

  pub own_sight : new.sight ≡ old.sight → own_seen new.caller new.sight ≡ own_seen old.caller old.sight
  own_sight sight = ap (λ (c : ℕ). own_seen c new.sight) same.caller ∙ ap (own_seen old.caller) sight

  own_stands : Unready w old.caller old.now a work old.sight new.sight → own_seen new.caller new.sight ≡ own_seen old.caller old.sight
  own_stands is = ap (λ (c : ℕ). own_seen c new.sight) same.caller ∙ is.stays.alone

  pub full : IsFull old.caller old.sight → new.sight ≡ old.sight → IsFull new.caller new.sight
  full is sight = subst (λ (c : ℕ). IsFull c new.sight) (sym same.caller) (subst (λ (p : Sight). IsFull old.caller p) (sym sight) is)

  abbrev UnreadyNow : Type 0
  UnreadyNow = actor_step w a ((noted_net w new.sight.seen).actors a) new.now work ≡ None

  unready_now : Unready w old.caller old.now a work old.sight new.sight → UnreadyNow
  unready_now is = ap (λ (m : ℕ). actor_step w a ((noted_net w new.sight.seen).actors a) m work) same.now ∙ is.unready

  module _ {T : Type 0} (who : Role) (t : T) (lost counts : Bool) (names : new.names ≡ old.names) where
    unmoved : own_seen new.caller new.sight ≡ own_seen old.caller old.sight → new.owed ≡ old.owed
        → IsUnmoved (playing old who t lost counts) (playing new who t lost counts)
    unmoved own_is owed = record { own_is = own_is; owed = owed; names = names; task = refl; lost = refl }

    -- what its turn came to
    pub turn_plays : (answer : Turn) → TakesPasses ts w a work cites old answer new
        → (UnreadyNow → StaysOwn w old.caller old.sight new.sight → new.owed ≡ old.owed → IsUnready ts w new new.owed)
        → PlaysOn ts w (playing old who t lost counts) (played_by answer) (playing new who t lost counts)
    turn_plays (turn.Recorded stamp r) takes unready = (more stamp r takes, refl)
    turn_plays turn.NotReady takes unready = (unmoved (own_stands takes.0) takes.1, inr (unready (unready_now takes.0) takes.0.stays takes.1))
    turn_plays turn.Owes takes unready = absurd takes
    turn_plays turn.Limit takes unready = (unmoved (own_sight takes.1) takes.2, inl (full takes.0 takes.1))
    turn_plays turn.Memory takes unready = inl (unmoved (own_sight takes.1) takes.2)

-- what comes next isn't ready
pub unready_next : (ts : Tasks) (w : World) (old new : Visit) → IsSameVisit old new → (ask : Ask)
    → actor_step w ask.actor ((noted_net w new.sight.seen).actors ask.actor) new.now (bare ask.event) ≡ None
    → StaysOwn w old.caller old.sight new.sight → next_by ts w (entries old.sight.seen) old.caller ≡ Some ask → IsUnready ts w new []
unready_next ts w old new same ask unready stays is = λ other comes.
    let found : ask ≡ other = same_Some ask other (sym is ∙ (sym (stays.stands.comes_next ts) ∙ (ap (next_by ts w (entries new.sight.seen)) (sym same.caller) ∙ comes))) in
    subst (λ (x : Ask). actor_step w x.actor ((noted_net w new.sight.seen).actors x.actor) new.now (bare x.event) ≡ None) found unready

abbrev pub is_script : Caller → Bool
is_script (IsScript s) = true
is_script _ = false

-- A player after a turn.

module _ {T : Type 0} (Goes : Option Asking → Tuples → Script → List Reply → Names → T → Type 0) (ts : Tasks) (w : World) (old new : Visit)
    (same : IsSameVisit old new) where
  pub goes_stay : (s : Script) (t : T) → new.names ≡ old.names → own_replies (entries new.sight.seen) old.caller
      ≡ own_replies (entries old.sight.seen) old.caller
      → GoesOn Goes (ts old.caller) (zone_of w) s old t → GoesOn Goes (ts new.caller) (zone_of w) s new t
  goes_stay s t names replies goes =
      subst (λ (c : ℕ). Goes (ts c) (zone_of w) s (own_replies (entries new.sight.seen) c) new.names t) (sym same.caller)
      (subst (λ (rs : List Reply). Goes (ts old.caller) (zone_of w) s rs new.names t) (sym replies)
      (subst (λ (l : Names). Goes (ts old.caller) (zone_of w) s (own_replies (entries old.sight.seen) old.caller) l t) (sym names) goes))

  pub still_player : (who : Role) (t : T) (lost : Bool) → IsPlayer Goes ts w old who t lost → IsVisitPlayed ts w new
      → ((s : Script) → GoesOn Goes (ts old.caller) (zone_of w) s old t → GoesOn Goes (ts new.caller) (zone_of w) s new t) → IsPlayer Goes ts w new who t lost
  still_player who t lost is plays goes =
      record {
        role_is = subst (λ (c : ℕ). VisitHasRole w c who) (sym same.caller) is.role_is;
        plays = plays;
        goes_on = λ s script told. goes s (is.goes_on s (ap (caller_of w) (sym same.caller) ∙ script) told);
      }

-- The first duty.

module _ (ts : Tasks) (w : World) (d : Duty) (old new : Visit) (same : IsSameVisit old new) (names : new.names ≡ old.names) where
  pub duty_stays : (a : ActorName) (work : Work) (answer : Turn) → TakesPasses ts w a work (Some d.cites) old answer new
      → own_replies (entries new.sight.seen) old.caller ≡ own_replies (entries old.sight.seen) old.caller
  duty_stays a work (turn.Recorded stamp r) takes =
      let x = made a old.caller old.now work (Some d.cites) (act_without_copy takes.step.outcome) in
      ap (λ (l : List Noted). own_replies (entries l) old.caller) takes.seen ∙ (duty_replies old.caller d.cites takes.past x refl refl
      ∙ own_stays old.caller old.sight.seen takes.past takes.alone)
  duty_stays a work turn.NotReady takes = own_stays old.caller old.sight.seen new.sight.seen takes.0.stays.alone
  duty_stays a work turn.Owes takes = absurd takes
  duty_stays a work turn.Limit takes = ap (λ (p : Sight). own_replies (entries p.seen) old.caller) takes.1
  duty_stays a work turn.Memory takes = ap (λ (p : Sight). own_replies (entries p.seen) old.caller) takes.1

  -- what a first duty asks for
  duty_asked : (rest : List Duty) → old.owed ≡ d ∷ rest → (o : Outcome)
      → IsAsked old.owed (caller_of w old.caller) (next_by ts w (entries old.sight.seen) old.caller)
      (made d.actor old.caller old.now (work_of_duty d) (Some d.cites) o).entry
  duty_asked rest is o =
      subst (λ (ds : List Duty). IsAsked ds (caller_of w old.caller) (next_by ts w (entries old.sight.seen) old.caller)
      (made d.actor old.caller old.now (work_of_duty d) (Some d.cites) o).entry)
      (sym is) refl

  module _ (rest : List Duty) (is : old.owed ≡ d ∷ rest) (answer : Turn) (takes : TakesPasses ts w d.actor (work_of_duty d) (Some d.cites) old answer new) where
    pub duty_keeps : {T : Type 0} (Goes : Option Asking → Tuples → Script → List Reply → Names → T → Type 0) (who : Role) (t : T) (lost : Bool)
        → IsPlayer Goes ts w old who t lost → IsPlayer Goes ts w new who t lost
    duty_keeps Goes who t lost player =
        still_player Goes ts w old new same who t lost player
        (turn_played ts w d.actor (work_of_duty d) (Some d.cites) old new same answer takes (duty_asked rest is) player.plays)
        (λ (s : Script) goes. goes_stay Goes ts w old new same s t names (duty_stays d.actor (work_of_duty d) answer takes) goes)

    pub duty_plays : {T : Type 0} (who : Role) (t : T) (lost counts : Bool)
        → PlaysOn ts w (playing old who t lost counts) (played_by answer) (playing new who t lost counts)
    duty_plays who t lost counts =
        turn_plays ts w d.actor (work_of_duty d) (Some d.cites) old new same who t lost counts names answer takes
        (λ unready stays owed. subst (λ (ds : List Duty). IsUnready ts w new ds) (sym (owed ∙ is)) unready)

-- The copy that a courier takes.

module _ (ts : Tasks) (w : World) (m : ℕ) (old new : Visit) (same : IsSameVisit old new) (names : new.names ≡ old.names)
    (courier : caller_of w old.caller ≡ IsCourier m) (free : old.owed ≡ [])
    (answer : Turn) (takes : TakesPasses ts w (name.Medium m) (bare event.Take) None old answer new) where
  take_next : next_by ts w (entries old.sight.seen) old.caller ≡ Some (record { actor = name.Medium m; event = event.Take })
  take_next = ap (λ (k : Caller). next_of_by ts w k (entries old.sight.seen) old.caller) courier

  take_asked : (o : Outcome)
      → IsAsked old.owed (caller_of w old.caller) (next_by ts w (entries old.sight.seen) old.caller)
      (made (name.Medium m) old.caller old.now (bare event.Take) None o).entry
  take_asked o =
      subst (λ (ds : List Duty). IsAsked ds (caller_of w old.caller) (next_by ts w (entries old.sight.seen) old.caller)
      (made (name.Medium m) old.caller old.now (bare event.Take) None o).entry)
      (sym free)
      (subst (λ (k : Caller). IsAsked [] k (next_by ts w (entries old.sight.seen) old.caller)
      (made (name.Medium m) old.caller old.now (bare event.Take) None o).entry) (sym courier) take_next)

  no_script : (s : Script) → caller_of w old.caller ≡ IsScript s → ⊥
  no_script s is = true≢false (ap is_script (sym is ∙ courier))

  pub take_keeps : {T : Type 0} (Goes : Option Asking → Tuples → Script → List Reply → Names → T → Type 0) (who : Role) (t : T) (lost : Bool)
      → IsPlayer Goes ts w old who t lost → IsPlayer Goes ts w new who t lost
  take_keeps Goes who t lost player =
      record {
        role_is = subst (λ (c : ℕ). VisitHasRole w c who) (sym same.caller) player.role_is;
        plays = turn_played ts w (name.Medium m) (bare event.Take) None old new same answer takes take_asked player.plays;
        goes_on = λ s script told. absurd (no_script s (ap (caller_of w) (sym same.caller) ∙ script));
      }

  pub take_plays : {T : Type 0} (who : Role) (t : T) (lost counts : Bool)
      → PlaysOn ts w (playing old who t lost counts) (played_by answer) (playing new who t lost counts)
  take_plays who t lost counts =
      turn_plays ts w (name.Medium m) (bare event.Take) None old new same who t lost counts names answer takes
      (λ unready stays owed. subst (λ (ds : List Duty). IsUnready ts w new ds) (sym (owed ∙ free))
      (unready_next ts w old new same (record { actor = name.Medium m; event = event.Take }) unready stays take_next))

-- The clock waits for the calm.
