-- A guest after its turn, and what a request did.
use Rattle.std.proofs.Common.{◌≡◌, ℕ, List, [], Some, None, refl, ap, sym, ◌∙◌}
use Rattle.net_base.specs.declared.world.Script.{Script}
use Rattle.net_base.specs.declared.world.World.{World}
use Rattle.net_base.specs.Callers.{IsScript, caller_of}
use Rattle.net_base.specs.Duties.{Duty}
use Rattle.net_base.specs.Steps.{Ask, Names}
use Rattle.journal.specs.declared.tokens.Sight.{Sight}
use Rattle.net_base.specs.declared.request.Request.{Request}
use Rattle.net_base.specs.declared.reply.Reply.{Reply}
use Rattle.script_task.specs.Holdings.{Holdings}
use Rattle.script_task.specs.Effects.{effect_of, opened_file, settles_effect}
use Rattle.net_base.specs.Requests.{planned, settled}
use Rattle.net_locks.specs.Guests.{deed_at}
use Rattle.net_locks.specs.declared.turn.Turn.{Turn}
use Rattle.net_locks.specs.declared.turn.Turn.TheVariants as turn
use mathlib.Core.List.{IsPrefix}
use Rattle.net_base.specs.declared.noted.Noted.{Noted}
use Rattle.net_base.specs.Tasks.{Tasks}
use Rattle.journal.specs.declared.law.Roster.{Roster}
use Rattle.net_locks.specs.declared.calendar.Calendar.{Calendar}
use Rattle.net_locks.specs.Knowing.{IsKnown}
use Rattle.net_locks.specs.Turns.{Turned, bare}
use Rattle.net_locks.specs.declared.visitor.Visitor.{Visitor}
use Rattle.net_locks.specs.Visitors.{IsVisitor}
use Rattle.net_guests.specs.Visits.{IsHosted, Operated, Visit, names_after, settled_by}

abbrev pub visit : ℕ → ℕ → Sight → List Duty → Names → Visit
visit c now p ds names = record { caller = c; now = now; sight = p; owed = ds; names = names }

same_visit : (c now : ℕ) (p p' : Sight) (ds ds' : List Duty) (names names' : Names) → p' ≡ p → ds' ≡ ds → names' ≡ names
    → visit c now p' ds' names' ≡ visit c now p ds names
same_visit c now p p' ds ds' names names' sight owed called =
    ap (λ (q : Sight). visit c now q ds' names') sight
    ∙ (ap (λ (l : List Duty). visit c now p l names') owed ∙ ap (λ (l : Names). visit c now p ds l) called)

-- what is known of due moments is known after more entries
abbrev pub StaysKnown : World → Type 0
StaysKnown w = (log log' : List Noted) (k : Calendar) → IsPrefix log log' → IsKnown w log k → IsKnown w log' k

-- a guest whose caller is the same keeps its host
pub hosted_on : {J : Type 0} (w : World) (r : Roster) (v v' : Visitor J) (host : ℕ) → v'.bearer.caller ≡ v.bearer.caller
    → ((s : Script) → caller_of w v.bearer.caller ≡ IsScript s → s.host ≡ host) → IsVisitor w r v'
    → IsHosted w r v'.bearer.caller v'.bearer.now v'.bearer.pass v'.duties.list host v'.touched v'.calendar
hosted_on w r v v' host caller home is = record { visit = is; home = λ s at. home s (ap (caller_of w) (sym caller) ∙ at) }

-- the turn of a request that was planned
pub operated : (ts : Tasks) (w : World) (h : ℕ) (q : Request) (c now : ℕ) (p p' : Sight) (ds ds' : List Duty) (names names' : Names) (ask : Ask) (t : Turn) → ds ≡ []
    → planned h names q ≡ Some ask → Turned ts w (deed_at ask.actor c now (bare ask.event) None) p ds t p' ds' → names' ≡ names_after names q t
    → Operated ts w h q (visit c now p ds names) t (visit c now p' ds' names')
operated ts w h q c now p p' ds ds' names names' ask (turn.Recorded stamp answer) free asks takes called =
    record { free = free; ask = ask; asks = asks; takes = takes; names = called }
operated ts w h q c now p p' ds ds' names names' ask turn.NotReady free asks takes called =
    record { free = free; ask = ask; asks = asks; takes = takes; names = called }
operated ts w h q c now p p' ds ds' names names' ask turn.Owes free asks takes called = absurd takes
operated ts w h q c now p p' ds ds' names names' ask turn.Limit free asks takes called =
    (free, takes.0, same_visit c now p p' ds ds' names names' takes.1 takes.2 called)
operated ts w h q c now p p' ds ds' names names' ask turn.Memory free asks takes called =
    (free, takes.0, same_visit c now p p' ds ds' names names' takes.1 takes.2 called)

-- the effect of a request settles the names of a turn as its reply does
pub settles_names : ((b : Holdings) (q : Request) (r : Reply) → (settles_effect (effect_of b.names q) (opened_file (effect_of b.names q) r) b).names ≡ settled b.names q r)
    → (b : Holdings) (q : Request) (t : Turn) → (settled_by (effect_of b.names q) t b).names ≡ names_after b.names q t
settles_names law b q (turn.Recorded stamp answer) = law b q answer
settles_names law b q turn.NotReady = refl
settles_names law b q turn.Owes = refl
settles_names law b q turn.Limit = refl
settles_names law b q turn.Memory = refl
