-- A message asks and moves as its play does.
use Rattle.std.proofs.Common.{◌≡◌, ℕ, Bool, true, false, List, Some, if◌then◌else◌, refl, sym, subst, ap}
use Rattle.std.proofs.lemmas.Option.{none-some, same_Some}
use Rattle.net_base.specs.declared.reply.Reply.{Reply}
use Rattle.net_base.specs.Exports.{Own, by_text, own_of}
use Rattle.net_base.specs.Steps.{Names, bytes_in, Play, Ends, is_accepted}
use Rattle.net_import.specs.declared.talk.TalkPhase.{TalkPhase}
use Rattle.net_import.specs.declared.talk.TalkPhase.TheVariants as phase
use Rattle.net_import.specs.Standings.{TalksBy, reply_reading}
use Rattle.net_import.specs.Talks as talk
use Rattle.script_task.proofs.Shared.{read_is, write_is}
use Rattle.net_base.specs.declared.request.Request.{Request}
use Rattle.net_base.specs.declared.request.Request.TheVariants as request
use Rattle.net_base.specs.Requests.{settled}
use Rattle.script_task.specs.Task.{Heads, follow}

-- its requests
pub heads : (h : ℕ) (names : Names) (call message : List ℕ) (next : List ℕ → Play) (ph : TalkPhase) (p : Play)
    → TalksBy (own_of h call names) message (Ends names) next ph p → Heads h names (talk.asks_by ph call message) p
heads h names call message next phase.Write p is =
    subst (λ (x : Play). Heads h names (Some (request.Write call message)) x) (sym is) ((own_of h call names).writes message, refl, write_is h names call message)
heads h names call message next phase.Read p is =
    subst (λ (x : Play). Heads h names (Some (request.Read call 8192)) x) (sym is) ((own_of h call names).reads, refl, read_is h names call 8192)
heads h names call message next phase.Over p is = is

-- its requests bind no name
pub names_stay : (ph : TalkPhase) (call message : List ℕ) (names : Names) (q : Request) (r : Reply) → talk.asks_by ph call message ≡ Some q → settled names q r ≡ names
names_stay phase.Write call message names q r is = subst (λ (x : Request). settled names x r ≡ names) (same_Some (request.Write call message) q is) refl
names_stay phase.Read call message names q r is = subst (λ (x : Request). settled names x r ≡ names) (same_Some (request.Read call 8192) q is) refl
names_stay phase.Over call message names q r is = absurd (none-some q is)

-- after the message went out, or was refused
pub moves_write : (own : Own) (message : List ℕ) (refused p : Play) (next : List ℕ → Play) (r : Reply) → TalksBy own message refused next phase.Write p
    → TalksBy own message refused next (talk.phase_after phase.Write r) (follow p r)
moves_write own message refused p next r is =
    subst (λ (x : Play). TalksBy own message refused next (talk.phase_after phase.Write r) (follow x r)) (sym is) (by (is_accepted r))
  where
    by : (b : Bool) → TalksBy own message refused next (if b then phase.Read else phase.Over) (if b then reply_reading own refused next else refused)
    by true = refl
    by false = refl

-- after its reply was read
pub follows_read : (own : Own) (message : List ℕ) (refused p : Play) (next : List ℕ → Play) (r : Reply) → TalksBy own message refused next phase.Read p
    → follow p r ≡ by_text (bytes_in r) refused next
follows_read own message refused p next r is = ap (λ (x : Play). follow x r) is
