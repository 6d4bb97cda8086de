-- The task of `ropen` asks and moves as its play does.
use Rattle.std.proofs.Common.{◌≡◌, ℕ, Bool, true, false, ◌&&◌, not, List, [], ◌∷◌, Option, Some, None, if◌then◌else◌, refl, sym, subst, ap, ◌∙◌}
use Rattle.std.specs.Prelude.{find}
use Rattle.std.proofs.lemmas.Bool.{false≢true, true≢false}
use Rattle.std.proofs.lemmas.Option.{none-some, same_Some}
use Rattle.net_base.specs.declared.left.Left.{Left}
use Rattle.net_base.specs.declared.names.Mode.{Mode}
use Rattle.net_base.specs.declared.reply.Reply.{Reply}
use Rattle.net_base.specs.declared.reply.Reply.TheVariants as reply
use Rattle.net_base.specs.declared.world.Step.TheVariants as step
use Rattle.net_base.specs.Exports.{Own, by_text, own_of}
use Rattle.net_base.specs.Imports.{clunk_message, is_open, is_whole, open_message, opens_remote, ropen_play, sends_for, sends_once}
use Rattle.net_base.specs.Remotes.{free_fid, is_remote, is_remote_path}
use Rattle.net_base.specs.Scripts.{play_by}
use Rattle.net_base.specs.Steps.{Names, bytes_in, Play, Ends, is_accepted, is_bound, uses}
use Rattle.net_import.specs.declared.ropen.Ropen.{Ropen}
use Rattle.net_import.specs.declared.ropen.RopenStage.{RopenStage}
use Rattle.net_import.specs.declared.ropen.RopenStage.TheVariants as stage
use Rattle.net_import.specs.declared.talk.TalkPhase.{TalkPhase}
use Rattle.net_import.specs.declared.talk.TalkPhase.TheVariants as phase
use Rattle.net_import.specs.Ropening as spec
use Rattle.net_import.specs.Ropening.{follows_stage}
use Rattle.net_import.specs.Standings.{TalksBy, reply_reading}
use Rattle.net_import.specs.TalkLaws.{follows_read, heads, names_stay}
use Rattle.net_import.specs.Talks as talk
use Rattle.net_base.specs.declared.request.Request.{Request}
use Rattle.net_base.specs.declared.request.Request.TheVariants as request
use Rattle.script_task.specs.Fitting.{is_unopened}
use Rattle.net_base.specs.Requests.{settled}
use Rattle.script_task.specs.Task.{AsksSo, Heads, MovesSo, follow, fits_play}

-- a reply to what isn't open is a refusal
unopened_no : (r : Reply) → is_unopened r ≡ true → is_accepted r ≡ false
unopened_no reply.BadFid is = refl
unopened_no reply.BadMode is = refl
unopened_no r is = absurd (false≢true is)

-- ---- the beginning

pub begins : (h : ℕ) (names : Names) (called call path : List ℕ) (m : Mode) (left : Left) → is_remote_path path ≡ true → is_remote left called ≡ false
    → spec.StandsFor h names (spec.begun called call path m left) (ropen_play h left called call path m names)
begins h names called call path m left is free = rw (is, free) (by (is_bound names call && is_bound names called))
  where
    by : (b : Bool) → spec.StandsBy h names (record (spec.begun called call path m left) { is_taken = false }) b
        (if not b then opens_remote (own_of h call names) (free_fid left call) path m (Ends names) else uses h called names)
    by true = refl
    by false = refl

pub fresh : (t : Ropen) (called call path : List ℕ) (m : Mode) (left : Left) → is_remote_path path ≡ true → t ≡ spec.begun called call path m left
    → spec.Begins t left (step.Ropen called call path m)
fresh t called call path m left is same h names = rw same (by (is_remote left called) refl)
  where
    by : (b : Bool) → is_remote left called ≡ b
        → spec.StandsFor h names (spec.begun called call path m left) (play_by h (record { names = names; left = left }) (step.Ropen called call path m) (if b then Some called else None))
    by true taken = rw taken refl
    by false free = begins h names called call path m left is free

-- ---- requests

module _ (h : ℕ) (names : Names) (name path : List ℕ) (m : Mode) (fid : ℕ) (is_taken : Bool) (call : List ℕ) where
  abbrev own : Own
  own = own_of h call names

  -- the task with these parts
  abbrev at : RopenStage → List ℕ → TalkPhase → Ropen
  at st message ph = record { name = name; path = path; mode = m; fid = fid; is_taken = is_taken; stage = st; talk = record { call = call; message = message; phase = ph } }

  abbrev Talking : List ℕ → RopenStage → TalkPhase → Play → Type 0
  Talking message st ph p = TalksBy own message (Ends names) (follows_stage own names fid m path st) ph p

  talk_heads : (message : List ℕ) (st : RopenStage) (ph : TalkPhase) (p : Play) → Talking message st ph p → Heads h names (spec.asks_by (talk.asks_by ph call message) false name) p
  talk_heads message st phase.Write p is = heads h names call message (follows_stage own names fid m path st) phase.Write p is
  talk_heads message st phase.Read p is = heads h names call message (follows_stage own names fid m path st) phase.Read p is
  talk_heads message st phase.Over p is = is

  first_heads : (message : List ℕ) (b : Bool) (p : Play) → spec.StandsBy h names (at stage.Walk message phase.Write) b p → Heads h names (spec.asks_by (Some (request.Write call message)) b name) p
  first_heads message true p is = subst (λ (x : Play). Heads h names (Some (request.Unbound name)) x) (sym is) (_, refl, refl)
  first_heads message false p is = heads h names call message (follows_stage own names fid m path stage.Walk) phase.Write p is

  at_heads : (message : List ℕ) (st : RopenStage) (ph : TalkPhase) (p : Play) → spec.StandsFor h names (at st message ph) p → Heads h names (spec.asks (at st message ph) names) p
  at_heads message stage.Walk phase.Write p is = first_heads message (spec.is_name_taken (at stage.Walk message phase.Write) names) p is
  at_heads message stage.Walk phase.Read p is = talk_heads message stage.Walk phase.Read p is
  at_heads message stage.Walk phase.Over p is = is
  at_heads message stage.Open ph p is = talk_heads message stage.Open ph p is
  at_heads message stage.Clunk ph p is = talk_heads message stage.Clunk ph p is
  at_heads message stage.Opened ph p is = talk_heads message stage.Opened ph p is

  -- ---- replies

  -- after a message went out, or was refused, at a stage
  abbrev written : RopenStage → List ℕ → Reply → Ropen
  written st message r = at st message (talk.phase_after phase.Write r)

  write_moves : (message : List ℕ) (st : RopenStage) (p : Play) (r : Reply) → Talking message st phase.Write p → spec.StandsFor h names (written st message r) (follow p r)
  write_moves message st p r is = subst (λ (x : Play). spec.StandsFor h names (written st message r) (follow x r)) (sym is) (by st (is_accepted r))
    where
      by : (s : RopenStage) (b : Bool)
          → spec.StandsFor h names (at s message (if b then phase.Read else phase.Over)) (if b then reply_reading own (Ends names) (follows_stage own names fid m path s) else Ends names)
      by stage.Walk true = refl
      by stage.Walk false = refl
      by stage.Open true = refl
      by stage.Open false = refl
      by stage.Clunk true = refl
      by stage.Clunk false = refl
      by stage.Opened true = refl
      by stage.Opened false = refl

  -- after a text was read, or none
  abbrev heard : RopenStage → List ℕ → List ℕ → Reply → Ropen
  heard st message text r =
      record (at st message phase.Read) {
        stage = by_text text st (λ (u : List ℕ). spec.stage_by st path u);
        talk = spec.talks_on (at st message phase.Read) st (by_text text st (λ (u : List ℕ). spec.stage_by st path u)) r;
      }

  read_moves : (message : List ℕ) (st : RopenStage) (text : List ℕ) (r : Reply) → spec.StandsFor h names (heard st message text r) (by_text text (Ends names) (follows_stage own names fid m path st))
  read_moves message stage.Walk [] r = refl
  read_moves message stage.Open [] r = refl
  read_moves message stage.Clunk [] r = refl
  read_moves message stage.Opened [] r = refl
  read_moves message stage.Walk (b ∷ bs) r = by (is_whole path (b ∷ bs))
    where
      by : (v : Bool)
          → spec.StandsFor h names (record (at stage.Walk message phase.Read) { stage = if v then stage.Open else stage.Walk; talk = spec.talks_on (at stage.Walk message phase.Read) stage.Walk (if v then stage.Open else stage.Walk) r })
          (if v then sends_for own (open_message fid m) is_open (Ends names) (sends_once own (clunk_message fid) (Ends names)) (Ends names) else Ends names)
      by true = refl
      by false = refl
  read_moves message stage.Open (b ∷ bs) r = by (is_open (b ∷ bs))
    where
      by : (v : Bool)
          → spec.StandsFor h names (record (at stage.Open message phase.Read) { stage = if v then stage.Opened else stage.Clunk; talk = spec.talks_on (at stage.Open message phase.Read) stage.Open (if v then stage.Opened else stage.Clunk) r })
          (if v then Ends names else sends_once own (clunk_message fid) (Ends names))
      by true = refl
      by false = refl
  read_moves message stage.Clunk (b ∷ bs) r = refl
  read_moves message stage.Opened (b ∷ bs) r = refl

  -- the new name was asked for
  refused_moves : (message : List ℕ) (p : Play) (r : Reply) → p ≡ uses h name names → fits_play p r ≡ true → spec.StandsFor h names (written stage.Walk message r) (follow p r)
  refused_moves message p r is fit =
      subst (λ (x : Play). spec.StandsFor h names (written stage.Walk message r) (follow x r)) (sym is) (by (is_accepted r) (unopened_no r (subst (λ (x : Play). fits_play x r ≡ true) is fit)))
    where
      by : (b : Bool) → b ≡ false → spec.StandsFor h names (at stage.Walk message (if b then phase.Read else phase.Over)) (Ends names)
      by true refused = absurd (true≢false refused)
      by false refused = refl

  first_moves : (message : List ℕ) (b : Bool) (p : Play) (r : Reply) → spec.StandsBy h names (at stage.Walk message phase.Write) b p → fits_play p r ≡ true
      → spec.StandsFor h names (written stage.Walk message r) (follow p r)
  first_moves message true p r is fit = refused_moves message p r is fit
  first_moves message false p r is fit = write_moves message stage.Walk p r is

  text_moves : (message : List ℕ) (st : RopenStage) (p : Play) (r : Reply) → Talking message st phase.Read p → spec.StandsFor h names (heard st message (bytes_in r) r) (follow p r)
  text_moves message st p r is =
      subst (λ (x : Play). spec.StandsFor h names (heard st message (bytes_in r) r) x) (sym (follows_read own message (Ends names) p (follows_stage own names fid m path st) r is)) (read_moves message st (bytes_in r) r)

  at_moves : (message : List ℕ) (st : RopenStage) (ph : TalkPhase) (p : Play) (q : Request) (r : Reply) → spec.StandsFor h names (at st message ph) p
      → spec.asks (at st message ph) names ≡ Some q → fits_play p r ≡ true → spec.StandsFor h names (spec.after (at st message ph) r) (follow p r)
  at_moves message stage.Walk phase.Write p q r is asked fit = first_moves message (spec.is_name_taken (at stage.Walk message phase.Write) names) p r is fit
  at_moves message stage.Open phase.Write p q r is asked fit = write_moves message stage.Open p r is
  at_moves message stage.Clunk phase.Write p q r is asked fit = write_moves message stage.Clunk p r is
  at_moves message stage.Opened phase.Write p q r is asked fit = write_moves message stage.Opened p r is
  at_moves message stage.Walk phase.Read p q r is asked fit = text_moves message stage.Walk p r is
  at_moves message stage.Open phase.Read p q r is asked fit = text_moves message stage.Open p r is
  at_moves message stage.Clunk phase.Read p q r is asked fit = text_moves message stage.Clunk p r is
  at_moves message stage.Opened phase.Read p q r is asked fit = text_moves message stage.Opened p r is
  at_moves message stage.Walk phase.Over p q r is asked fit = absurd (none-some q asked)
  at_moves message stage.Open phase.Over p q r is asked fit = absurd (none-some q asked)
  at_moves message stage.Clunk phase.Over p q r is asked fit = absurd (none-some q asked)
  at_moves message stage.Opened phase.Over p q r is asked fit = absurd (none-some q asked)

  -- its requests bind no name
  at_stay : (o : Option Request) (taken : Bool) (q : Request) (r : Reply) → ((x : Request) → o ≡ Some x → settled names x r ≡ names) → spec.asks_by o taken name ≡ Some q → settled names q r ≡ names
  at_stay None taken q r stay asked = absurd (none-some q asked)
  at_stay (Some x) true q r stay asked = subst (λ (y : Request). settled names y r ≡ names) (same_Some (request.Unbound name) q asked) refl
  at_stay (Some x) false q r stay asked = stay q asked

pub asks_so : AsksSo Ropen spec.asks spec.StandsFor
asks_so h names t p stands = at_heads h names t.name t.path t.mode t.fid t.is_taken t.talk.call t.talk.message t.stage t.talk.phase p stands

pub moves_so : MovesSo Ropen spec.asks spec.after spec.StandsFor
moves_so h names t p q r stands asked fit =
    subst (λ (ns : Names). spec.StandsFor h ns (spec.after t r) (follow p r))
    (sym (at_stay h names t.name t.path t.mode t.fid t.is_taken t.talk.call (talk.asks t.talk) (spec.is_beginning t && spec.is_name_taken t names) q r
    (λ x is. names_stay t.talk.phase t.talk.call t.talk.message names x r is) asked))
    (at_moves h names t.name t.path t.mode t.fid t.is_taken t.talk.call t.talk.message t.stage t.talk.phase p q r stands asked fit)

-- ---- what it leaves

-- the step's own task, whose name no remote file has
pub free_in : (left : Left) (called : List ℕ) → find (is_remote left) (called ∷ []) ≡ None → is_remote left called ≡ false
free_in left called none = by (is_remote left called) refl
  where
    by : (b : Bool) → is_remote left called ≡ b → is_remote left called ≡ false
    by true is = absurd (none-some called (sym none ∙ ap (λ (v : Bool). if v then Some called else None) is))
    by false is = is
