-- The task of `import` asks and moves as its play does.
use Rattle.std.proofs.Common.{◌≡◌, ℕ, Bool, true, false, List, [], ◌∷◌, Some, if◌then◌else◌, refl, sym, subst, ap, ◌∙◌}
use Rattle.std.proofs.lemmas.Option.{none-some}
use Rattle.net_base.specs.declared.reply.Reply.{Reply}
use Rattle.net_base.specs.declared.world.Step.TheVariants as step
use Rattle.net_base.specs.Exports.{by_text, own_of}
use Rattle.net_base.specs.Imports.{attach_message, is_version, sends_once, version_message}
use Rattle.net_base.specs.NinepMessages.{t_bytes}
use Rattle.net_base.specs.Steps.{Names, bytes_in, Play, Ends}
use Rattle.net_import.specs.declared.import.Import.{Import}
use Rattle.net_import.specs.declared.talk.Talk.{Talk}
use Rattle.net_import.specs.declared.talk.TalkPhase.{TalkPhase}
use Rattle.net_import.specs.declared.talk.TalkPhase.TheVariants as phase
use Rattle.net_import.specs.Importing as spec
use Rattle.net_import.specs.Importing.{follows_message}
use Rattle.net_import.specs.Standings.{TalksBy}
use Rattle.net_import.specs.TalkLaws.{follows_read, heads, moves_write, names_stay}
use Rattle.net_import.specs.Talks as talk
use Rattle.net_base.specs.declared.request.Request.{Request}
use Rattle.script_task.specs.Task.{AsksSo, MovesSo, follow}

pub fresh : (t : Import) (called : List ℕ) → t ≡ spec.begun called → spec.Begins t (step.Import called)
fresh t called is h k = subst (λ (u : Import). spec.Begins u (step.Import called)) (sym is) (λ h k. refl) h k

abbrev import_of : Talk → Import
import_of t = record { talk = t; attaches = false }

-- a message of a call that has the name
pub made : (t : Talk) (call message called : List ℕ) → t ≡ talk.begun call message → call ≡ called → message ≡ t_bytes version_message
    → import_of t ≡ spec.begun called
made t call message called is same bytes = ap (λ (u : Talk). import_of u) is ∙ ap (λ (c : List ℕ). import_of (talk.begun c message)) same ∙ ap (λ (m : List ℕ). import_of (talk.begun called m)) bytes

pub asks_so : AsksSo Import spec.asks spec.StandsFor
asks_so h names t p stands = heads h names t.talk.call t.talk.message (follows_message (own_of h t.talk.call names) names t.attaches) t.talk.phase p stands

-- what a text is followed by
by_reply : (h : ℕ) (names : Names) (call message text : List ℕ)
    → spec.StandsFor h names (if is_version text then spec.attaching call else spec.over call message false) (by_text text (Ends names) (follows_message (own_of h call names) names false))
by_reply h names call message [] = refl
by_reply h names call message (b ∷ bs) = by (is_version (b ∷ bs))
  where
    by : (v : Bool) → spec.StandsFor h names (if v then spec.attaching call else spec.over call message false)
        (if v then sends_once (own_of h call names) attach_message (Ends names) else Ends names)
    by true = refl
    by false = refl

last_reply : (h : ℕ) (names : Names) (call message text : List ℕ) → spec.StandsFor h names (spec.over call message true) (by_text text (Ends names) (follows_message (own_of h call names) names true))
last_reply h names call message [] = refl
last_reply h names call message (b ∷ bs) = refl

abbrev at : List ℕ → List ℕ → Bool → TalkPhase → Import
at call message attaches ph = record { talk = record { call = call; message = message; phase = ph }; attaches = attaches }

moves : (h : ℕ) (names : Names) (call message : List ℕ) (attaches : Bool) (ph : TalkPhase) (p : Play) (q : Request) (r : Reply)
    → TalksBy (own_of h call names) message (Ends names) (follows_message (own_of h call names) names attaches) ph p → talk.asks_by ph call message ≡ Some q
    → spec.StandsFor h names (spec.after (at call message attaches ph) r) (follow p r)
moves h names call message true phase.Write p q r is asked = moves_write (own_of h call names) message (Ends names) p (follows_message (own_of h call names) names true) r is
moves h names call message false phase.Write p q r is asked = moves_write (own_of h call names) message (Ends names) p (follows_message (own_of h call names) names false) r is
moves h names call message true phase.Read p q r is asked =
    subst (λ (x : Play). spec.StandsFor h names (spec.over call message true) x)
    (sym (follows_read (own_of h call names) message (Ends names) p (follows_message (own_of h call names) names true) r is)) (last_reply h names call message (bytes_in r))
moves h names call message false phase.Read p q r is asked =
    subst (λ (x : Play). spec.StandsFor h names (spec.after (at call message false phase.Read) r) x)
    (sym (follows_read (own_of h call names) message (Ends names) p (follows_message (own_of h call names) names false) r is)) (by_reply h names call message (bytes_in r))
moves h names call message attaches phase.Over p q r is asked = absurd (none-some q asked)

pub moves_so : MovesSo Import spec.asks spec.after spec.StandsFor
moves_so h names t p q r stands asked fit =
    subst (λ (ns : Names). spec.StandsFor h ns (spec.after t r) (follow p r)) (sym (names_stay t.talk.phase t.talk.call t.talk.message names q r asked))
    (moves h names t.talk.call t.talk.message t.attaches t.talk.phase p q r stands asked)
