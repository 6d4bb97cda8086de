-- The task of `ropen`: its requests, its replies, what it leaves, and the plays that it stands for.
use Rattle.std.specs.Prelude.{◌≡◌, ℕ, ◌&&◌, ◌||◌, Bool, true, false, List, Option, Some, None, if◌then◌else◌}
use Rattle.net_base.specs.declared.left.Left.{Left}
use Rattle.net_base.specs.declared.names.Mode.{Mode}
use Rattle.net_base.specs.declared.reply.Reply.{Reply}
use Rattle.net_base.specs.declared.world.Step.{Step}
use Rattle.net_base.specs.Exports.{Own, by_text, own_of}
use Rattle.net_base.specs.Imports.{clunk_message, is_open, is_whole, open_message, sends_for, sends_once, walk_message}
use Rattle.net_base.specs.NinepMessages.{t_bytes}
use Rattle.net_base.specs.Remotes.{free_fid, is_remote, with_remote}
use Rattle.net_base.specs.Scripts.{step_play}
use Rattle.net_base.specs.Steps.{Names, bytes_in, Play, Ends, is_bound, uses}
use Rattle.net_import.specs.declared.ropen.Ropen.{Ropen}
use Rattle.net_import.specs.declared.ropen.RopenStage.{RopenStage}
use Rattle.net_import.specs.declared.ropen.RopenStage.TheVariants as stage
use Rattle.net_import.specs.declared.talk.Talk.{Talk}
use Rattle.net_import.specs.Standings.{TalksFor}
use Rattle.net_import.specs.Talks as talk
use Rattle.net_base.specs.declared.request.Request.{Request}
use Rattle.net_base.specs.declared.request.Request.TheVariants as request

abbrev pub begun : List ℕ → List ℕ → List ℕ → Mode → Left → Ropen
begun called call path m left = record {
  name = called;
  path = path;
  mode = m;
  fid = free_fid left call;
  is_taken = is_remote left called;
  stage = stage.Walk;
  talk = talk.begun call (t_bytes (walk_message (free_fid left call) path));
}

-- ---- requests

abbrev pub is_walk : RopenStage → Bool
is_walk stage.Walk = true
is_walk _ = false

-- nothing is recorded yet
abbrev pub is_beginning : Ropen → Bool
is_beginning t = is_walk t.stage && talk.is_writing t.talk.phase

-- the name is bound, be it to a remote file; a call that isn't bound is asked for before
abbrev pub is_name_taken : Ropen → Names → Bool
is_name_taken t names = t.is_taken || (is_bound names t.talk.call && is_bound names t.name)

abbrev pub asks_by : Option Request → Bool → List ℕ → Option Request
asks_by None taken called = None
asks_by (Some q) taken called = if taken then Some (request.Unbound called) else Some q

abbrev pub asks : Ropen → Names → Option Request
asks t names = asks_by (talk.asks t.talk) (is_beginning t && is_name_taken t names) t.name

-- ---- replies

-- by a text that came in
abbrev pub stage_by : RopenStage → List ℕ → List ℕ → RopenStage
stage_by stage.Walk path text = if is_whole path text then stage.Open else stage.Walk
stage_by stage.Open path text = if is_open text then stage.Opened else stage.Clunk
stage_by s path text = s

abbrev pub stage_after : Ropen → Reply → RopenStage
stage_after t r =
    if talk.is_reading t.talk.phase then by_text (bytes_in r) t.stage (λ (text : List ℕ). stage_by t.stage t.path text) else t.stage

-- the message with which another stage begins, if it has one
abbrev pub message_by : ℕ → Mode → RopenStage → RopenStage → Option (List ℕ)
message_by fid m stage.Walk stage.Open = Some (t_bytes (open_message fid m))
message_by fid m stage.Open stage.Clunk = Some (t_bytes (clunk_message fid))
message_by fid m _ _ = None

abbrev pub talks_on : Ropen → RopenStage → RopenStage → Reply → Talk
talks_on t before s r = talk.moves_talk t.talk (message_by t.fid t.mode before s) r

abbrev pub after : Ropen → Reply → Ropen
after t r = record t { stage = stage_after t r; talk = talks_on t t.stage (stage_after t r) r }

-- what is left after its last reply
abbrev pub leaves_by : RopenStage → Ropen → Left → Left
leaves_by stage.Opened t left = with_remote (record { name = t.name; call = t.talk.call; fid = t.fid }) left
leaves_by _ t left = left

abbrev pub leaves : Ropen → Left → Left
leaves t left = leaves_by t.stage t left

-- ---- the play that it stands for

-- what follows the message of a stage
abbrev pub follows_stage : Own → Names → ℕ → Mode → List ℕ → RopenStage → List ℕ → Play
follows_stage own names fid m path stage.Walk text =
    if is_whole path text then sends_for own (open_message fid m) is_open (Ends names) (sends_once own (clunk_message fid) (Ends names)) (Ends names) else Ends names
follows_stage own names fid m path stage.Open text = if is_open text then Ends names else sends_once own (clunk_message fid) (Ends names)
follows_stage own names fid m path _ text = Ends names

-- at first the name is free, or is asked for
abbrev pub StandsBy : ℕ → Names → Ropen → Bool → Play → Type 0
StandsBy h names t true p = p ≡ uses h t.name names
StandsBy h names t false p = TalksFor h names t.talk (Ends names) (follows_stage (own_of h t.talk.call names) names t.fid t.mode t.path t.stage) p

abbrev pub StandsFor : ℕ → Names → Ropen → Play → Type 0
StandsFor h names t p = StandsBy h names t (is_beginning t && is_name_taken t names) p

-- on every host, where this is left, it stands for the step's play
abbrev pub Begins : Ropen → Left → Step → Type 0
Begins t left s = (h : ℕ) (names : Names) → StandsFor h names t (step_play h (record { names = names; left = left }) s)
