-- The tasks of one message about a remote file ask and move as their plays do.
use Rattle.std.proofs.Common.{◌≡◌, ◌≤◌, ℕ, true, false, List, [], ◌∷◌, Option, Some, None, refl, sym, subst, ap, ◌∙◌, arith}
use Rattle.std.specs.Prelude.{length, nat_le}
use Rattle.std.proofs.lemmas.Bool.Decides.{nat_tests}
use Rattle.std.proofs.lemmas.Option.{none-some, same_Some}
use Rattle.net_base.specs.declared.left.Left.{Left}
use Rattle.net_base.specs.declared.left.Remote.{Remote}
use Rattle.net_base.specs.declared.ninep.Tmsg.{Tmsg}
use Rattle.net_base.specs.declared.reply.Reply.{Reply}
use Rattle.net_base.specs.declared.world.Step.TheVariants as step
use Rattle.net_base.specs.Exports.{by_text, own_of}
use Rattle.net_base.specs.Imports.{clunk_message, longest_text, read_message, rwrite_play, sends_by, write_message}
use Rattle.net_base.specs.Remotes.{remote_of}
use Rattle.net_base.specs.Steps.{Names, bytes_in, Play, Ends}
use Rattle.net_import.specs.declared.errand.Errand.{Errand}
use Rattle.net_import.specs.declared.errand.Errand.TheVariants as errand
use Rattle.net_import.specs.declared.errand.Rclose.{Rclose}
use Rattle.net_import.specs.declared.talk.TalkPhase.{TalkPhase}
use Rattle.net_import.specs.declared.talk.TalkPhase.TheVariants as phase
use Rattle.net_import.specs.Errands as spec
use Rattle.net_import.specs.Standings.{TalksBy}
use Rattle.net_import.specs.TalkLaws.{follows_read, heads, moves_write, names_stay}
use Rattle.net_import.specs.Talks as talk
use Rattle.net_base.specs.declared.request.Request.{Request}
use Rattle.net_base.specs.declared.request.Request.TheVariants as request
use Rattle.net_base.specs.Requests.{settled}
use Rattle.script_task.specs.Task.{AsksSo, Heads, MovesSo, follow}

-- The beginning.

begins : (h : ℕ) (names : Names) (called : List ℕ) (o : Option Remote) (message : ℕ → Tmsg) → spec.StandsFor h names (spec.send_errand_by called o message) (sends_by h called names o message)
begins h names called None message = refl
begins h names called (Some r) message = refl

pub rread_begins : (h : ℕ) (names : Names) (called : List ℕ) (count : ℕ) (left : Left)
    → spec.StandsFor h names (spec.read_errand called count left) (sends_by h called names (remote_of called left) (λ (fid : ℕ). read_message fid count))
rread_begins h names called count left = begins h names called (remote_of called left) (λ (fid : ℕ). read_message fid count)

pub rwrite_begins : (h : ℕ) (names : Names) (called text : List ℕ) (left : Left) → nat_le (length text) longest_text ≡ true
    → spec.StandsFor h names (spec.write_errand called text left) (rwrite_play h left called text names)
rwrite_begins h names called text left short = rw short (begins h names called (remote_of called left) (λ (fid : ℕ). write_message fid text))

pub rclose_begins : (h : ℕ) (names : Names) (called : List ℕ) (left : Left)
    → spec.StandsFor h names (spec.close_errand called left) (sends_by h called names (remote_of called left) clunk_message)
rclose_begins h names called left = begins h names called (remote_of called left) clunk_message

pub rread_fresh : (t : Errand) (called : List ℕ) (count : ℕ) (left : Left) → t ≡ spec.read_errand called count left → spec.Begins t left (step.Rread called count)
rread_fresh t called count left is h names = rw is (rread_begins h names called count left)

pub rwrite_fresh : (t : Errand) (called text : List ℕ) (left : Left) → length text ≤ 488 → t ≡ spec.write_errand called text left → spec.Begins t left (step.Rwrite called text)
rwrite_fresh t called text left short is h names = rw is (rwrite_begins h names called text left (grind (arith, nat_tests, short)))

pub rclose_fresh : (t : Errand) (called : List ℕ) (left : Left) → t ≡ spec.close_errand called left → spec.Begins t left (step.Rclose called)
rclose_fresh t called left is h names = rw is (rclose_begins h names called left)

-- Requests and replies.

pub asks_so : AsksSo Errand spec.asks spec.StandsFor
asks_so h names (errand.Unbound called false) p is = subst (λ (x : Play). Heads h names (Some (request.Unbound called)) x) (sym is) (_, refl, refl)
asks_so h names (errand.Unbound called true) p is = is
asks_so h names (errand.Talks t) p is = heads h names t.call t.message (λ (text : List ℕ). Ends names) t.phase p is

by_reply : (names : Names) (text : List ℕ) → by_text text (Ends names) (λ (u : List ℕ). Ends names) ≡ Ends names
by_reply names [] = refl
by_reply names (b ∷ bs) = refl

talk_moves : (h : ℕ) (names : Names) (call message : List ℕ) (ph : TalkPhase) (p : Play) (q : Request) (r : Reply)
    → TalksBy (own_of h call names) message (Ends names) (λ (text : List ℕ). Ends names) ph p → talk.asks_by ph call message ≡ Some q
    → TalksBy (own_of h call names) message (Ends names) (λ (text : List ℕ). Ends names) (talk.phase_after ph r) (follow p r)
talk_moves h names call message phase.Write p q r is asked = moves_write (own_of h call names) message (Ends names) p (λ (text : List ℕ). Ends names) r is
talk_moves h names call message phase.Read p q r is asked = follows_read (own_of h call names) message (Ends names) p (λ (text : List ℕ). Ends names) r is ∙ by_reply names (bytes_in r)
talk_moves h names call message phase.Over p q r is asked = absurd (none-some q asked)

pub moves_so : MovesSo Errand spec.asks spec.after spec.StandsFor
moves_so h names (errand.Unbound called false) p q r is asked fit =
    subst (λ (x : Request). spec.StandsFor h (settled names x r) (errand.Unbound called true) (follow p r)) (same_Some (request.Unbound called) q asked) (ap (λ (x : Play). follow x r) is)
moves_so h names (errand.Unbound called true) p q r is asked fit = absurd (none-some q asked)
moves_so h names (errand.Talks t) p q r is asked fit =
    subst (λ (ns : Names). spec.StandsFor h ns (errand.Talks (talk.after t r)) (follow p r)) (sym (names_stay t.phase t.call t.message names q r asked))
    (talk_moves h names t.call t.message t.phase p q r is asked)
