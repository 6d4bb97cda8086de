-- The tasks of one message about a remote file: their requests, their replies, and the plays that they stand for.
use Rattle.std.specs.Prelude.{◌≡◌, ℕ, true, false, List, Option, Some, None}
use Rattle.net_base.specs.declared.left.Left.{Left}
use Rattle.net_base.specs.declared.left.Remote.{Remote}
use Rattle.net_base.specs.declared.ninep.Tmsg.{Tmsg}
use Rattle.net_base.specs.declared.reply.Reply.{Reply}
use Rattle.net_base.specs.declared.world.Step.{Step}
use Rattle.net_base.specs.Imports.{clunk_message, read_message, write_message}
use Rattle.net_base.specs.NinepMessages.{t_bytes}
use Rattle.net_base.specs.Remotes.{remote_of, without_remote}
use Rattle.net_base.specs.Scripts.{step_play}
use Rattle.net_base.specs.Steps.{Names, Play, Ends, uses}
use Rattle.net_import.specs.declared.errand.Errand.{Errand}
use Rattle.net_import.specs.declared.errand.Errand.TheVariants as errand
use Rattle.net_import.specs.declared.errand.Rclose.{Rclose}
use Rattle.net_import.specs.Standings.{TalksFor}
use Rattle.net_import.specs.Talks as talk
use Rattle.net_base.specs.declared.request.Request.{Request}
use Rattle.net_base.specs.declared.request.Request.TheVariants as request

-- ---- the beginning

abbrev pub unbound : List ℕ → Errand
unbound called = errand.Unbound called false

abbrev pub send_errand : Remote → List ℕ → Errand
send_errand r message = errand.Talks (talk.begun r.call message)

abbrev pub send_errand_by : List ℕ → Option Remote → (ℕ → Tmsg) → Errand
send_errand_by called None message = unbound called
send_errand_by called (Some r) message = send_errand r (t_bytes (message r.fid))

abbrev pub read_errand : List ℕ → ℕ → Left → Errand
read_errand called count left = send_errand_by called (remote_of called left) (λ (fid : ℕ). read_message fid count)

abbrev pub write_errand : List ℕ → List ℕ → Left → Errand
write_errand called text left = send_errand_by called (remote_of called left) (λ (fid : ℕ). write_message fid text)

abbrev pub close_errand : List ℕ → Left → Errand
close_errand called left = send_errand_by called (remote_of called left) clunk_message

-- ---- requests and replies

abbrev pub asks : Errand → Names → Option Request
asks (errand.Unbound called false) names = Some (request.Unbound called)
asks (errand.Unbound called true) names = None
asks (errand.Talks t) names = talk.asks t

abbrev pub after : Errand → Reply → Errand
after (errand.Unbound called through) r = errand.Unbound called true
after (errand.Talks t) r = errand.Talks (talk.after t r)

-- what is left after the last reply to a close
abbrev pub leaves : Rclose → Left → Left
leaves t left = without_remote t.name left

-- ---- the play that it stands for

abbrev pub StandsFor : ℕ → Names → Errand → Play → Type 0
StandsFor h names (errand.Unbound called false) p = p ≡ uses h called names
StandsFor h names (errand.Unbound called true) p = p ≡ Ends names
StandsFor h names (errand.Talks t) p = TalksFor h names t (Ends names) (λ (text : List ℕ). Ends names) p

-- on every host, where this is left, it stands for the step's play
abbrev pub Begins : Errand → Left → Step → Type 0
Begins t left s = (h : ℕ) (names : Names) → StandsFor h names t (step_play h (record { names = names; left = left }) s)
