-- How many steps of its script a player has finished.
use Rattle.std.proofs.Common.{◌≡◌, ℕ, ◌-◌, Bool, true, false, List, [], ◌∷◌, ◌++◌, length, length-append, Option, Some, None, refl}
use Rattle.std.proofs.Common.{ap, sym, subst, ◌∙◌, arith}
use Rattle.std.proofs.lemmas.Bool.{false≢true, true≢false}
use Rattle.std.proofs.lemmas.List.{take_at}
use Rattle.net_base.specs.declared.noted.Noted.{Noted}
use Rattle.net_base.specs.declared.reply.Reply.{Reply}
use Rattle.net_base.specs.declared.world.Script.{Script}
use Rattle.net_base.specs.declared.world.World.{World}
use Rattle.net_base.specs.Callers.{IsCourier, IsScript, caller_of}
use Rattle.net_base.specs.Next.{finished_by, own_replies, zone_of}
use Rattle.net_base.specs.Tasks.{Asking, Tasks}
use Rattle.net_base.specs.Versions.{Tuples}
use Rattle.net_base.specs.Steps.{Names, no_names}
use Rattle.locked.specs.Acts.{made, act_without_copy}
use Rattle.net_base.specs.declared.request.Request.{Request}
use Rattle.script_task.specs.Fitting.{fits}
use Rattle.net_base.specs.Requests.{settled}
use Rattle.played_task.specs.Wholes as whole
use Rattle.net_locks.specs.Works.{entries}
use Rattle.host_net.specs.declared.player.Played.{Played}
use Rattle.host_net.specs.declared.player.Played.TheVariants as played
use Rattle.host_net.specs.declared.player.Role.{Role}
use Rattle.host_net.specs.declared.player.Role.TheVariants as role
use Rattle.net_locks.specs.declared.turn.Turn.{Turn}
use Rattle.net_locks.specs.declared.turn.Turn.TheVariants as turn
use Rattle.host_net.specs.Playing.{CountsTurn, GoesOn, VisitHasRole, Heard, IsCounted, ToldReply, before_last, replies_of}
use Rattle.net_guests.specs.Visits.{Asked, IsFresh, IsSameVisit, Operated, Visit}
use Rattle.net_locks.specs.Turns.{bare}
use Rattle.host_net.proofs.Continuing.{FitWorks, KeepsActors, fits_there, own_reply, own_stays}
use Rattle.host_net.proofs.Keeping.{is_script}

all_but_last : (rs : List Reply) (r : Reply) → before_last (rs ++ r ∷ []) ≡ rs
all_but_last rs r = take_at rs (r ∷ []) (length (rs ++ r ∷ []) - 1) (omega (arith, length-append rs (r ∷ [])))

-- One entry of a script that owed nothing.

module _ (ts : Tasks) (w : World) (old new : Visit) (same : IsSameVisit old new) (h : ℕ) (q : Request) (stamp : ℕ) (r : Reply)
    (is : Asked ts w h q old (turn.Recorded stamp r) new) where
  -- its reply is one more
  pub one_reply_more : replies_of new ≡ replies_of old ++ r ∷ []
  one_reply_more =
      let rec = is.takes in
      let x = made is.ask.actor old.caller old.now (bare is.ask.event) None (act_without_copy rec.step.outcome) in
      ap (own_replies (entries new.sight.seen)) same.caller
      ∙ (ap (λ (l : List Noted). own_replies (entries l) old.caller) rec.seen
      ∙ (own_reply old.caller rec.past x refl refl
      ∙ (ap (λ (l : List Reply). l ++ rec.step.outcome.reply ∷ []) (own_stays old.caller old.sight.seen rec.past rec.alone)
      ∙ ap (λ (y : Reply). own_replies (entries old.sight.seen) old.caller ++ y ∷ []) (sym rec.reply))))

  -- and one that its event can have
  pub reply_fits : KeepsActors → FitWorks → fits is.ask.event r ≡ true
  reply_fits keeps fit =
      let rec = is.takes in
      ap (fits is.ask.event) rec.reply ∙ fits_there w is.ask.actor keeps fit rec.past old.now (bare is.ask.event) rec.step rec.stepped

module _ {T : Type 0} (Plays : Tuples → Script → List Reply → Names → T → Type 0) (w : World) where
  -- where the own replies and the names stay
  pub counts_stay : (old new : Visit) (t : T) (lost : Bool) (before : ℕ) → IsCounted Plays w old t lost before → new.caller ≡ old.caller → new.names ≡ old.names
      → own_replies (entries new.sight.seen) old.caller ≡ own_replies (entries old.sight.seen) old.caller → IsCounted Plays w new t lost before
  counts_stay old new t lost before is caller names replies =
      let same : replies_of new ≡ replies_of old = ap (own_replies (entries new.sight.seen)) caller ∙ replies in
      record {
        plays = λ s script told.
            subst (λ (rs : List Reply). Plays (zone_of w) s rs new.names t) (sym same)
            (subst (λ (l : Names). Plays (zone_of w) s (replies_of old) l t) (sym names) (is.plays s (ap (caller_of w) (sym caller) ∙ script) told));
        before_is = λ s script. is.before_is s (ap (caller_of w) (sym caller) ∙ script) ∙ ap (λ (rs : List Reply). finished_by (zone_of w) (before_last rs) s) (sym same);
      }

  -- a player that doesn't count
  pub counts_nothing : (v : Visit) (t : T) (lost : Bool) (before : ℕ) → false ≡ true → IsCounted Plays w v t lost before
  counts_nothing v t lost before is = absurd (false≢true is)

  -- of a caller that is no script nothing is counted
  pub counts_none : (v : Visit) (t : T) (lost : Bool) (before : ℕ) → ((s : Script) → caller_of w v.caller ≡ IsScript s → ⊥) → IsCounted Plays w v t lost before
  counts_none v t lost before none = record { plays = λ s script told. absurd (none s script); before_is = λ s script. absurd (none s script) }

  pub counts_courier : (m : ℕ) (v : Visit) (t : T) (lost : Bool) (before : ℕ) → caller_of w v.caller ≡ IsCourier m → IsCounted Plays w v t lost before
  counts_courier m v t lost before courier = counts_none v t lost before (λ s script. true≢false (ap is_script (sym script ∙ courier)))

  -- nothing is recorded yet
  counts_first : (v : Visit) (t : T) (before : ℕ) → v.sight.seen ≡ [] → v.names ≡ no_names (zone_of w) → ((s : Script) → caller_of w v.caller ≡ IsScript s → Plays (zone_of w) s [] (no_names (zone_of w)) t)
      → ((zone : Tuples) (s : Script) (rs : List Reply) (names : Names) → Plays zone s rs names t → before ≡ finished_by zone rs s) → IsCounted Plays w v t false before
  counts_first v t before seen names plays counts =
      let none : replies_of v ≡ [] = ap (λ (l : List Noted). own_replies (entries l) v.caller) seen in
      record {
        plays = λ s script told.
            subst (λ (rs : List Reply). Plays (zone_of w) s rs v.names t) (sym none) (subst (λ (l : Names). Plays (zone_of w) s [] l t) (sym names) (plays s script));
        before_is = λ s script. counts (zone_of w) s [] (no_names (zone_of w)) (plays s script) ∙ ap (λ (rs : List Reply). finished_by (zone_of w) (before_last rs) s) (sym none);
      }

  pub counts_fresh : (guest v : Visit) (task t : T) (lost : Bool) (before : ℕ) → v ≡ guest → t ≡ task → lost ≡ false → IsFresh (zone_of w) guest.caller guest
      → ((s : Script) → caller_of w guest.caller ≡ IsScript s → Plays (zone_of w) s [] (no_names (zone_of w)) task)
      → ((zone : Tuples) (s : Script) (rs : List Reply) (names : Names) → Plays zone s rs names task → before ≡ finished_by zone rs s) → IsCounted Plays w v t lost before
  counts_fresh guest v task t lost before visit same told fresh plays counts =
      subst (λ (b : Bool). IsCounted Plays w v t b before) (sym told)
      (subst (λ (x : T). IsCounted Plays w v x false before) (sym same)
      (subst (λ (u : Visit). IsCounted Plays w u task false before) (sym visit)
      (counts_first guest task before fresh.seen fresh.names plays counts)))

  -- The turn of a script.

  module _ (ts : Tasks) (asks : T → Names → Option Request) (after : T → Reply → T) (plays_on : whole.PlaysOn T asks after Plays) (old new : Visit)
      (same : IsSameVisit old new)
      (who : Role) (script : who ≡ role.Script) (has : VisitHasRole w old.caller who) (t : T) (lost : Bool) (keeps_told : lost ≡ false) (before : ℕ)
      (is : IsCounted Plays w old t lost before) (free : old.owed ≡ []) (q : Request) (asks_it : Some q ≡ asks t old.names) (keeps : KeepsActors)
      (fit : FitWorks) where
    abbrev Operates : Turn → Type 0
    Operates answer = (s : Script) → caller_of w old.caller ≡ IsScript s → Operated ts w s.host q old answer new

    its_script : (s : Script) × (caller_of w old.caller ≡ IsScript s)
    its_script = subst (λ (r : Role). VisitHasRole w old.caller r) script has

    was : (s : Script) → caller_of w new.caller ≡ IsScript s → caller_of w old.caller ≡ IsScript s
    was s now = ap (caller_of w) (sym same.caller) ∙ now

    tells : (stamp : ℕ) (r : Reply) → Operates (turn.Recorded stamp r) → (result : Played) (t' : T) (lost' : Bool) (before' : ℕ)
        → ToldReply after t lost r result t' lost' → CountsTurn Plays t before (turn.Recorded stamp r) before' → IsCounted Plays w new t' lost' before'
    tells stamp r does result t' lost' before' told counts =
        record {
          plays = λ s now again. plays_then result told s now again;
          before_is = λ s now.
              counts (zone_of w) s (replies_of old) old.names (is.plays s (was s now) keeps_told)
              ∙ ap (λ (rs : List Reply). finished_by (zone_of w) rs s)
              (sym (ap before_last (one_reply_more ts w old new same s.host q stamp r (does s (was s now))) ∙ all_but_last (replies_of old) r));
        }
      where
        plays_then : (p : Played) → ToldReply after t lost r p t' lost' → (s : Script) → caller_of w new.caller ≡ IsScript s → lost' ≡ false
            → Plays (zone_of w) s (replies_of new) new.names t'
        plays_then played.Recorded came s now again =
            let asked = does s (was s now) in
            subst (λ (x : T). Plays (zone_of w) s (replies_of new) new.names x) (sym came.0)
            (subst (λ (l : Names). Plays (zone_of w) s (replies_of new) l (after t r)) (sym asked.names)
            (subst (λ (rs : List Reply). Plays (zone_of w) s rs (settled old.names q r) (after t r)) (sym (one_reply_more ts w old new same s.host q stamp r asked))
            (plays_on (zone_of w) s (replies_of old) old.names t q asked.ask r (is.plays s (was s now) keeps_told) (sym asks_it) asked.asks
            (reply_fits ts w old new same s.host q stamp r asked keeps fit))))
        plays_then played.Waits came s now again = absurd came
        plays_then played.Memory came s now again = absurd (true≢false (sym came.1 ∙ again))

    alike : (t' : T) (lost' : Bool) (before' : ℕ) → t' ≡ t → lost' ≡ lost → before' ≡ before → IsCounted Plays w new t lost before
        → IsCounted Plays w new t' lost' before'
    alike t' lost' before' task told count counted =
        subst (λ (x : T). IsCounted Plays w new x lost' before') (sym task)
        (subst (λ (b : Bool). IsCounted Plays w new t b before') (sym told)
        (subst (λ (n : ℕ). IsCounted Plays w new t lost n) (sym count) counted))

    -- it is counted still
    pub heard_counts : (answer : Turn) → Operates answer → (result : Played) (t' : T) (lost' : Bool) (before' : ℕ)
        → Heard after t lost answer result t' lost' → CountsTurn Plays t before answer before' → IsCounted Plays w new t' lost' before'
    heard_counts (turn.Recorded stamp r) does result t' lost' before' heard counts = tells stamp r does result t' lost' before' heard counts
    heard_counts turn.NotReady does result t' lost' before' heard counts =
        let asked = does its_script.0 its_script.1 in
        alike t' lost' before' heard.1 heard.2 counts
        (counts_stay old new t lost before is same.caller asked.names (own_stays old.caller old.sight.seen new.sight.seen asked.takes.0.stays.alone))
    heard_counts turn.Owes does result t' lost' before' heard counts = absurd ((does its_script.0 its_script.1).0 free)
    heard_counts turn.Limit does result t' lost' before' heard counts =
        alike t' lost' before' heard.1 heard.2 counts (subst (λ (v : Visit). IsCounted Plays w v t lost before) (sym (does its_script.0 its_script.1).2) is)
    heard_counts turn.Memory does result t' lost' before' heard counts =
        alike t' lost' before' heard.1 heard.2 counts (subst (λ (v : Visit). IsCounted Plays w v t lost before) (sym (does its_script.0 its_script.1).2) is)

-- A task that is played from its beginning.

pub goes_fresh : {T : Type 0} (Goes : Option Asking → Tuples → Script → List Reply → Names → T → Type 0) (ts : Tasks) (w : World) (v : Visit) (t : T)
    → IsFresh (zone_of w) v.caller v → ((s : Script) → caller_of w v.caller ≡ IsScript s → Goes (ts v.caller) (zone_of w) s [] (no_names (zone_of w)) t)
    → (s : Script) → caller_of w v.caller ≡ IsScript s → GoesOn Goes (ts v.caller) (zone_of w) s v t
goes_fresh Goes ts w v t fresh goes s script =
    subst (λ (rs : List Reply). Goes (ts v.caller) (zone_of w) s rs v.names t) (sym (ap (λ (l : List Noted). own_replies (entries l) v.caller) fresh.seen))
    (subst (λ (l : Names). Goes (ts v.caller) (zone_of w) s [] l t) (sym fresh.names) (goes s script))
