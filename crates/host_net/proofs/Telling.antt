-- What a script's request leaves of a player.
use Rattle.std.proofs.Common.{◌≡◌, ℕ, inl, inr, Bool, true, false, List, [], ◌∷◌, ◌++◌, Option, Some, None, refl, ap, sym, subst, ◌∙◌}
use Rattle.std.proofs.lemmas.Bool.{true≢false}
use Rattle.std.proofs.lemmas.Option.{none-some}
use Rattle.net_base.specs.declared.history.Outcome.{Outcome}
use Rattle.net_base.specs.declared.reply.Reply.{Reply}
use Rattle.net_base.specs.declared.world.Script.{Script}
use Rattle.net_base.specs.declared.world.World.{World}
use Rattle.net_base.specs.Callers.{Caller, IsScript, caller_of}
use Rattle.net_base.specs.Duties.{Duty}
use Rattle.net_base.specs.Legal.{IsAsked}
use Rattle.net_base.specs.Next.{next_by, own_replies, place_next, zone_of}
use Rattle.net_base.specs.Steps.{Ask, Names}
use Rattle.net_base.specs.Tasks.{Asking, Tasks}
use Rattle.net_base.specs.Versions.{Tuples}
use Rattle.locked.specs.Acts.{made}
use Rattle.net_base.specs.declared.request.Request.{Request}
use Rattle.net_base.specs.Requests.{planned, settled}
use Rattle.script_task.specs.Fitting.{fits}
use Rattle.played_task.specs.Wholes.{AsksThere, Comes, GoesThere}
use Rattle.net_locks.specs.Works.{entries}
use Rattle.host_net.specs.declared.player.Played.{Played}
use Rattle.host_net.specs.declared.player.Played.TheVariants as played
use Rattle.host_net.specs.declared.player.Role.{Role}
use Rattle.host_net.specs.declared.player.Role.TheVariants as role
use Rattle.net_locks.specs.declared.turn.Turn.{Turn}
use Rattle.net_locks.specs.declared.turn.Turn.TheVariants as turn
use Rattle.host_net.specs.Playing.{GoesOn, HasMore, VisitHasRole, Heard, IsVisitPlayed, IsPlayer, IsUnmoved, IsUnready, IsWaiting, PlaysOn, ToldReply, replies_of}
use Rattle.net_guests.specs.Visits.{Asked, IsSameVisit, Operated, Visit}
use Rattle.net_locks.specs.Turns.{bare}
use Rattle.host_net.proofs.Continuing.{FitWorks, KeepsActors, own_stays, script_next}
use Rattle.host_net.proofs.Counting.{one_reply_more, reply_fits}
use Rattle.host_net.proofs.Keeping.{goes_stay, more, playing, still_player, turn_played, turn_plays, unready_next}

-- the entry of a script that owes nothing is its next event
next_asked : (ts : Tasks) (w : World) (old : Visit) (s : Script) (ask : Ask) → caller_of w old.caller ≡ IsScript s → old.owed ≡ []
    → next_by ts w (entries old.sight.seen) old.caller ≡ Some ask
    → (o : Outcome) → IsAsked old.owed (caller_of w old.caller) (next_by ts w (entries old.sight.seen) old.caller)
    (made ask.actor old.caller old.now (bare ask.event) None o).entry
next_asked ts w old s ask script free is o =
    subst (λ (ds : List Duty). IsAsked ds (caller_of w old.caller) (next_by ts w (entries old.sight.seen) old.caller)
    (made ask.actor old.caller old.now (bare ask.event) None o).entry) (sym free)
    (subst (λ (k : Caller). IsAsked [] k (next_by ts w (entries old.sight.seen) old.caller)
    (made ask.actor old.caller old.now (bare ask.event) None o).entry) (sym script) is)

module _ {T : Type 0} (asks : T → Names → Option Request) (after : T → Reply → T)
    (Goes : Option Asking → Tuples → Script → List Reply → Names → T → Type 0)
    (asks_there : AsksThere T asks Goes) (goes_there : GoesThere T asks after Goes) (ts : Tasks) (w : World) where
  -- what comes next in the place of a script
  abbrev Next : Visit → Script → Option Ask
  Next v s = place_next (ts v.caller) (zone_of w) s (own_replies (entries v.sight.seen) v.caller)

  -- what the task asks comes next
  comes : (v : Visit) (s : Script) (t : T) → GoesOn Goes (ts v.caller) (zone_of w) s v t → (o : Option Request) → asks t v.names ≡ o → Comes s.host v.names o (Next v s)
  comes v s t goes o is =
      subst (λ (x : Option Request). Comes s.host v.names x (Next v s)) is
      (asks_there (ts v.caller) (zone_of w) s (own_replies (entries v.sight.seen) v.caller) v.names t goes)

  -- a script whose task is through has nothing that comes next
  pub through_waits : (v : Visit) (s : Script) (t : T) → caller_of w v.caller ≡ IsScript s → v.owed ≡ [] → GoesOn Goes (ts v.caller) (zone_of w) s v t → asks t v.names ≡ None
      → IsWaiting ts w v
  through_waits v s t script free goes none =
      let nothing : next_by ts w (entries v.sight.seen) v.caller ≡ None = script_next ts w v.caller v.sight.seen s script ∙ comes v s t goes None none in
      inr (subst (λ (ds : List Duty). IsUnready ts w v ds) (sym free) (λ ask comes. absurd (none-some ask (sym nothing ∙ comes))))

  module _ (old new : Visit) (same : IsSameVisit old new) (s : Script) (script : caller_of w old.caller ≡ IsScript s) (t : T) (goes : GoesOn Goes (ts old.caller) (zone_of w) s old t)
      (q : Request) (asks_it : asks t old.names ≡ Some q) where
    asked_next : (ask : Ask) → planned s.host old.names q ≡ Some ask → next_by ts w (entries old.sight.seen) old.caller ≡ Some ask
    asked_next ask is =
        script_next ts w old.caller old.sight.seen s script ∙ (comes old s t goes (Some q) asks_it ∙ is)

    pub recorded_goes : KeepsActors → FitWorks → (stamp : ℕ) (r : Reply) → Asked ts w s.host q old (turn.Recorded stamp r) new
        → GoesOn Goes (ts new.caller) (zone_of w) s new (after t r)
    recorded_goes keeps fit stamp r is =
        let fit_it : fits is.ask.event r ≡ true = reply_fits ts w old new same s.host q stamp r is keeps fit in
        let on : Goes (ts old.caller) (zone_of w) s (replies_of old ++ r ∷ []) (settled old.names q r) (after t r) =
        goes_there (ts old.caller) (zone_of w) s (replies_of old) old.names t q is.ask r goes asks_it is.asks fit_it in
        subst (λ (c : ℕ). Goes (ts c) (zone_of w) s (replies_of new) new.names (after t r)) (sym same.caller)
        (subst (λ (rs : List Reply). Goes (ts old.caller) (zone_of w) s rs new.names (after t r)) (sym (one_reply_more ts w old new same s.host q stamp r is))
        (subst (λ (l : Names). Goes (ts old.caller) (zone_of w) s (replies_of old ++ r ∷ []) l (after t r)) (sym is.names) on))

    -- the entry, and what isn't ready
    pub asked_played : (answer : Turn) → Asked ts w s.host q old answer new → IsVisitPlayed ts w old → IsVisitPlayed ts w new
    asked_played answer is plays =
        turn_played ts w is.ask.actor (bare is.ask.event) None old new same answer is.takes
        (next_asked ts w old s is.ask script is.free (asked_next is.ask is.asks)) plays

    pub asked_plays : (who : Role) (lost counts : Bool) → Asked ts w s.host q old turn.NotReady new
        → PlaysOn ts w (playing old who t lost counts) played.Waits (playing new who t lost counts)
    asked_plays who lost counts is =
        turn_plays ts w is.ask.actor (bare is.ask.event) None old new same who t lost counts is.names turn.NotReady is.takes
        (λ unready stays owed. subst (λ (ds : List Duty). IsUnready ts w new ds) (sym (owed ∙ is.free))
        (unready_next ts w old new same is.ask unready stays (asked_next is.ask is.asks)))

    pub asked_stays : Asked ts w s.host q old turn.NotReady new → GoesOn Goes (ts new.caller) (zone_of w) s new t
    asked_stays is = goes_stay Goes ts w old new same s t is.names (own_stays old.caller old.sight.seen new.sight.seen is.takes.0.stays.alone) goes

    pub asked_more : (stamp : ℕ) (r : Reply) → Asked ts w s.host q old (turn.Recorded stamp r) new → HasMore old new
    asked_more stamp r is = more ts w is.ask.actor (bare is.ask.event) None old new same stamp r is.takes

  -- The turn of a script.

  module _ (old new : Visit) (same : IsSameVisit old new) (who : Role) (t : T) (lost : Bool) (keeps_told : lost ≡ false) (player : IsPlayer Goes ts w old who t lost)
      (free : old.owed ≡ []) (q : Request) (asks_it : asks t old.names ≡ Some q) (keeps : KeepsActors) (fit : FitWorks) where
    abbrev Operates : Turn → Type 0
    Operates answer = (s : Script) → caller_of w old.caller ≡ IsScript s → Operated ts w s.host q old answer new

    goes_from : (s : Script) → caller_of w old.caller ≡ IsScript s → GoesOn Goes (ts old.caller) (zone_of w) s old t
    goes_from s script = player.goes_on s script keeps_told

    kept_role : VisitHasRole w new.caller who
    kept_role = subst (λ (c : ℕ). VisitHasRole w c who) (sym same.caller) player.role_is

    tells : (s : Script) → caller_of w old.caller ≡ IsScript s → (stamp : ℕ) (r : Reply) → Operates (turn.Recorded stamp r)
        → (result : Played) (t' : T) (lost' : Bool)
        → ToldReply after t lost r result t' lost' → IsPlayer Goes ts w new who t' lost'
    tells s script stamp r does played.Recorded t' lost' told =
        record {
          role_is = kept_role;
          plays = asked_played old new same s script t (goes_from s script) q asks_it (turn.Recorded stamp r) (does s script) player.plays;
          goes_on = λ u is again.
              let was : caller_of w old.caller ≡ IsScript u = ap (caller_of w) (sym same.caller) ∙ is in
              subst (λ (x : T). GoesOn Goes (ts new.caller) (zone_of w) u new x) (sym told.0)
              (recorded_goes old new same u was t (goes_from u was) q asks_it keeps fit stamp r (does u was));
        }
    tells s script stamp r does played.Waits t' lost' told = absurd told
    tells s script stamp r does played.Memory t' lost' told =
        record {
          role_is = kept_role;
          plays = asked_played old new same s script t (goes_from s script) q asks_it (turn.Recorded stamp r) (does s script) player.plays;
          goes_on = λ u is again. absurd (true≢false (sym told.1 ∙ again));
        }

    alike : (t' : T) (lost' : Bool) → t' ≡ t → lost' ≡ lost → IsPlayer Goes ts w new who t lost → IsPlayer Goes ts w new who t' lost'
    alike t' lost' task told is =
        subst (λ (x : T). IsPlayer Goes ts w new who x lost') (sym task) (subst (λ (b : Bool). IsPlayer Goes ts w new who t b) (sym told) is)

    -- it is a player still
    pub script_keeps : (s : Script) → caller_of w old.caller ≡ IsScript s → (answer : Turn) → Operates answer → (result : Played) (t' : T) (lost' : Bool)
        → Heard after t lost answer result t' lost' → IsPlayer Goes ts w new who t' lost'
    script_keeps s script (turn.Recorded stamp r) does result t' lost' heard = tells s script stamp r does result t' lost' heard
    script_keeps s script turn.NotReady does result t' lost' heard =
        alike t' lost' heard.1 heard.2
        (still_player Goes ts w old new same who t lost player
        (asked_played old new same s script t (goes_from s script) q asks_it turn.NotReady (does s script) player.plays)
        (λ (u : Script) goes. stays_on u goes))
      where
        stays_on : (u : Script) → GoesOn Goes (ts old.caller) (zone_of w) u old t → GoesOn Goes (ts new.caller) (zone_of w) u new t
        stays_on u goes =
            let is = does s script in
            goes_stay Goes ts w old new same u t is.names (own_stays old.caller old.sight.seen new.sight.seen is.takes.0.stays.alone) goes
    script_keeps s script turn.Owes does result t' lost' heard = absurd ((does s script).0 free)
    script_keeps s script turn.Limit does result t' lost' heard =
        alike t' lost' heard.1 heard.2 (subst (λ (v : Visit). IsPlayer Goes ts w v who t lost) (sym (does s script).2) player)
    script_keeps s script turn.Memory does result t' lost' heard =
        alike t' lost' heard.1 heard.2 (subst (λ (v : Visit). IsPlayer Goes ts w v who t lost) (sym (does s script).2) player)

    told_plays : (counts : Bool) (result : Played) (r : Reply) (t' : T) (lost' : Bool) → ToldReply after t lost r result t' lost' → HasMore old new
        → PlaysOn ts w (playing old who t lost counts) result (playing new who t' lost' counts)
    told_plays counts played.Recorded r t' lost' told more_it = (more_it, told.1)
    told_plays counts played.Waits r t' lost' told more_it = absurd told
    told_plays counts played.Memory r t' lost' told more_it = inr (more_it, told.0, told.1)

    -- nothing is recorded
    unmoved_by : (counts : Bool) (result is : Played) (t' : T) (lost' : Bool) → result ≡ is → t' ≡ t → lost' ≡ lost
        → PlaysOn ts w (playing old who t lost counts) is (playing new who t lost counts)
        → PlaysOn ts w (playing old who t lost counts) result (playing new who t' lost' counts)
    unmoved_by counts result is t' lost' came task told plays =
        subst (λ (r : Played). PlaysOn ts w (playing old who t lost counts) r (playing new who t' lost' counts)) (sym came)
        (subst (λ (x : T). PlaysOn ts w (playing old who t lost counts) is (playing new who x lost' counts)) (sym task)
        (subst (λ (b : Bool). PlaysOn ts w (playing old who t lost counts) is (playing new who t b counts)) (sym told) plays))

    still : (counts : Bool) → IsUnmoved (playing old who t lost counts) (playing old who t lost counts)
    still counts = record { own_is = refl; owed = refl; names = refl; task = refl; lost = refl }

    -- and this is what its turn came to
    pub script_plays : (counts : Bool) (s : Script) → caller_of w old.caller ≡ IsScript s → (answer : Turn) → Operates answer
        → (result : Played) (t' : T) (lost' : Bool)
        → Heard after t lost answer result t' lost' → PlaysOn ts w (playing old who t lost counts) result (playing new who t' lost' counts)
    script_plays counts s script (turn.Recorded stamp r) does result t' lost' heard =
        told_plays counts result r t' lost' heard (asked_more old new same s script t (goes_from s script) q asks_it stamp r (does s script))
    script_plays counts s script turn.NotReady does result t' lost' heard =
        unmoved_by counts result played.Waits t' lost' heard.0 heard.1 heard.2
        (asked_plays old new same s script t (goes_from s script) q asks_it who lost counts (does s script))
    script_plays counts s script turn.Owes does result t' lost' heard = absurd ((does s script).0 free)
    script_plays counts s script turn.Limit does result t' lost' heard =
        unmoved_by counts result played.Waits t' lost' heard.0 heard.1 heard.2
        (subst (λ (v : Visit). PlaysOn ts w (playing old who t lost counts) played.Waits (playing v who t lost counts)) (sym (does s script).2)
        (still counts, inl (does s script).1))
    script_plays counts s script turn.Memory does result t' lost' heard =
        unmoved_by counts result played.Memory t' lost' heard.0 heard.1 heard.2
        (subst (λ (v : Visit). PlaysOn ts w (playing old who t lost counts) played.Memory (playing v who t lost counts)) (sym (does s script).2)
        (inl (still counts)))

  -- a script whose task is through, at its turn
  pub through_plays : (v : Visit) (who : Role) (t : T) (lost counts : Bool) → who ≡ role.Script → lost ≡ false → IsPlayer Goes ts w v who t lost
      → v.owed ≡ [] → asks t v.names ≡ None
      → PlaysOn ts w (playing v who t lost counts) played.Waits (playing v who t lost counts)
  through_plays v who t lost counts script told player free none =
      let s = subst (λ (r : Role). VisitHasRole w v.caller r) script player.role_is in
      (record { own_is = refl; owed = refl; names = refl; task = refl; lost = refl }, through_waits v s.0 t s.1 free (player.goes_on s.0 s.1 told) none)

  -- a script's turn
  module _ (old new : Visit) (same : IsSameVisit old new) (who : Role) (t : T) (lost : Bool) (script : who ≡ role.Script) (told : lost ≡ false)
      (player : IsPlayer Goes ts w old who t lost)
      (free : old.owed ≡ []) (q : Request) (asks_it : Some q ≡ asks t old.names) (keeps : KeepsActors) (fit : FitWorks) (answer : Turn)
      (does : (s : Script) → caller_of w old.caller ≡ IsScript s → Operated ts w s.host q old answer new) (result : Played) (t' : T) (lost' : Bool)
      (heard : Heard after t lost answer result t' lost') where
    scripted : (s : Script) × (caller_of w old.caller ≡ IsScript s)
    scripted = subst (λ (r : Role). VisitHasRole w old.caller r) script player.role_is

    pub heard_keeps : IsPlayer Goes ts w new who t' lost'
    heard_keeps = script_keeps old new same who t lost told player free q (sym asks_it) keeps fit scripted.0 scripted.1 answer does result t' lost' heard

    pub heard_plays : (counts : Bool) → PlaysOn ts w (playing old who t lost counts) result (playing new who t' lost' counts)
    heard_plays counts = script_plays old new same who t lost told player free q (sym asks_it) keeps fit counts scripted.0 scripted.1 answer does
        result t' lost' heard
