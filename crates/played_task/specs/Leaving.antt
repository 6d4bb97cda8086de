-- What a task leaves once it is through is what the replies leave that it was told.
use Rattle.std.proofs.Common.{◌≡◌, ℕ, Bool, true, false, ◌&&◌, List, [], ◌∷◌, ◌++◌, Option, Some, None, if◌then◌else◌, refl, sym, ap, subst, ◌∙◌}
use Rattle.std.specs.Prelude.{find, is_none, length, nat_le, not}
use Rattle.std.proofs.lemmas.Bool.{true≢false}
use Rattle.net_base.specs.declared.left.Left.{Left}
use Rattle.net_base.specs.declared.names.Mode.{Mode}
use Rattle.net_base.specs.declared.reply.Reply.{Reply}
use Rattle.net_base.specs.declared.world.Step.{Step}
use Rattle.net_base.specs.declared.world.Step.TheVariants as step
use Rattle.net_base.specs.Exports.{by_text, is_dotted}
use Rattle.net_base.specs.Imports.{clunk_message, is_open, is_whole, left_open, longest_text, open_message}
use Rattle.net_base.specs.NinepMessages.{t_bytes}
use Rattle.net_base.specs.Remotes.{free_fid, is_remote, is_remote_path, with_remote, without_remote}
use Rattle.net_base.specs.Scripts.{left_after, new_names}
use Rattle.net_base.specs.Steps.{Names, bytes_in, is_accepted, no_names}
use Rattle.net_import.specs.declared.errand.Rclose.{Rclose}
use Rattle.net_import.specs.declared.ropen.Ropen.{Ropen}
use Rattle.net_import.specs.declared.ropen.RopenStage.{RopenStage}
use Rattle.net_import.specs.declared.ropen.RopenStage.TheVariants as stage
use Rattle.net_import.specs.declared.talk.TalkPhase.{TalkPhase}
use Rattle.net_import.specs.declared.talk.TalkPhase.TheVariants as phase
use Rattle.net_export.specs.Exporting as export
use Rattle.net_import.specs.Errands as errand
use Rattle.net_import.specs.Ropening as ropen
use Rattle.net_import.specs.Talks as talk
use Rattle.net_base.specs.declared.request.Request.{Request}
use Rattle.net_base.specs.declared.request.Request.TheVariants as request
use Rattle.played_task.specs.declared.step.StepTask.{StepTask}
use Rattle.played_task.specs.declared.step.StepTask.TheVariants as task
use Rattle.played_task.specs.StepTasks as spec

-- ---- tasks that leave nothing

abbrev leaves_something : StepTask → Bool
leaves_something (task.Ropen t) = true
leaves_something (task.Rclose t) = true
leaves_something _ = false

kind_after : (t : StepTask) (r : Reply) → leaves_something (spec.after t r) ≡ leaves_something t
kind_after (task.OneRequest t) r = refl
kind_after (task.WriteText t) r = refl
kind_after (task.Dial t) r = refl
kind_after (task.Announce t) r = refl
kind_after (task.Beside t) r = refl
kind_after (task.Reject t) r = refl
kind_after (task.Hread t) r = refl
kind_after (task.Hwrite t) r = refl
kind_after (task.Dns t) r = refl
kind_after (task.Export t) r = refl
kind_after (task.Import t) r = refl
kind_after (task.Ropen t) r = refl
kind_after (task.Rread t) r = refl
kind_after (task.Rwrite t) r = refl
kind_after (task.Rclose t) r = refl

kind_all : (t : StepTask) (rs : List Reply) → leaves_something (spec.after_all t rs) ≡ leaves_something t
kind_all t [] = refl
kind_all t (r ∷ rs) = kind_all (spec.after t r) rs ∙ kind_after t r

leaves_none : (t : StepTask) (left : Left) → leaves_something t ≡ false → spec.leaves t left ≡ left
leaves_none (task.OneRequest t) left is = refl
leaves_none (task.WriteText t) left is = refl
leaves_none (task.Dial t) left is = refl
leaves_none (task.Announce t) left is = refl
leaves_none (task.Beside t) left is = refl
leaves_none (task.Reject t) left is = refl
leaves_none (task.Hread t) left is = refl
leaves_none (task.Hwrite t) left is = refl
leaves_none (task.Dns t) left is = refl
leaves_none (task.Export t) left is = refl
leaves_none (task.Import t) left is = refl
leaves_none (task.Ropen t) left is = absurd (true≢false is)
leaves_none (task.Rread t) left is = refl
leaves_none (task.Rwrite t) left is = refl
leaves_none (task.Rclose t) left is = absurd (true≢false is)

told_none : (b : StepTask) (left : Left) (rs : List Reply) → leaves_something b ≡ false → spec.leaves (spec.after_all b rs) left ≡ left
told_none b left rs is = leaves_none (spec.after_all b rs) left (kind_all b rs ∙ is)

-- one reply more
pub after_one : (t : StepTask) (said : List Reply) (r : Reply) → spec.after (spec.after_all t said) r ≡ spec.after_all t (said ++ r ∷ [])
after_one t [] r = refl
after_one t (x ∷ xs) r = after_one (spec.after t x) xs r

-- ---- steps of one request

once_over : (q : Request) (rs : List Reply) (names : Names) → is_none (spec.asks (spec.after_all (task.OneRequest (record { request = q; is_through = true })) rs) names) ≡ true
once_over q [] names = refl
once_over q (r ∷ rs) names = once_over q rs names

-- such a step is through after one reply
once_first : (q : Request) (said : List Reply) → is_none (spec.asks (spec.after_all (spec.asks_once q) said) (no_names [])) ≡ false → said ≡ []
once_first q [] on = refl
once_first q (r ∷ rs) on = absurd (true≢false (sym (once_over q rs (no_names [])) ∙ on))

-- ---- opening

module _ (called call path : List ℕ) (m : Mode) (left : Left) where
  -- the task at a stage of its messages
  abbrev at : RopenStage → List ℕ → TalkPhase → StepTask
  at st message ph =
      task.Ropen (record {
        name = called;
        path = path;
        mode = m;
        fid = free_fid left call;
        is_taken = is_remote left called;
        stage = st;
        talk = record { call = call; message = message; phase = ph };
      })

  -- the task after a text was read
  abbrev heard : RopenStage → List ℕ → List ℕ → Reply → StepTask
  heard st message text r =
      task.Ropen (record {
        name = called;
        path = path;
        mode = m;
        fid = free_fid left call;
        is_taken = is_remote left called;
        stage = by_text text st (λ (u : List ℕ). ropen.stage_by st path u);
        talk = ropen.talks_on (record {
          name = called;
          path = path;
          mode = m;
          fid = free_fid left call;
          is_taken = is_remote left called;
          stage = st;
          talk = record { call = call; message = message; phase = phase.Read };
        }) st (by_text text st (λ (u : List ℕ). ropen.stage_by st path u)) r;
      })

  abbrev leaves_all : StepTask → List Reply → Left
  leaves_all t rs = spec.leaves (spec.after_all t rs) left

  -- what is left where the file was opened
  abbrev opened : Left
  opened = with_remote (record { name = called; call = call; fid = free_fid left call }) left

  -- nothing more is sent

  over_walk : (message : List ℕ) (rs : List Reply) → leaves_all (at stage.Walk message phase.Over) rs ≡ left
  over_walk message [] = refl
  over_walk message (r ∷ rs) = over_walk message rs

  over_open : (message : List ℕ) (rs : List Reply) → leaves_all (at stage.Open message phase.Over) rs ≡ left
  over_open message [] = refl
  over_open message (r ∷ rs) = over_open message rs

  over_opened : (message : List ℕ) (rs : List Reply) → leaves_all (at stage.Opened message phase.Over) rs ≡ opened
  over_opened message [] = refl
  over_opened message (r ∷ rs) = over_opened message rs

  -- its fid is given back

  clunk_heard : (message text : List ℕ) (r : Reply) (rs : List Reply) → leaves_all (at stage.Clunk message phase.Over) rs ≡ left
      → leaves_all (heard stage.Clunk message text r) rs ≡ left
  clunk_heard message [] r rs over = over
  clunk_heard message (b ∷ bs) r rs over = over

  clunk_written : (message : List ℕ) (b : Bool) (rs : List Reply) → ((ph : TalkPhase) → leaves_all (at stage.Clunk message ph) rs ≡ left)
      → leaves_all (at stage.Clunk message (if b then phase.Read else phase.Over)) rs ≡ left
  clunk_written message true rs each = each phase.Read
  clunk_written message false rs each = each phase.Over

  clunking : (message : List ℕ) (rs : List Reply) (ph : TalkPhase) → leaves_all (at stage.Clunk message ph) rs ≡ left
  clunking message [] ph = refl
  clunking message (r ∷ rs) phase.Write = clunk_written message (is_accepted r) rs (clunking message rs)
  clunking message (r ∷ rs) phase.Read = clunk_heard message (bytes_in r) r rs (clunking message rs phase.Over)
  clunking message (r ∷ rs) phase.Over = clunking message rs phase.Over

  -- the file is opened

  no_open : is_open [] ≡ false
  no_open = refl

  abbrev open_heard : List Reply → Left
  open_heard [] = left
  open_heard (d ∷ rs) = if is_open (bytes_in d) then opened else left

  open_by : (message text : List ℕ) (d : Reply) (rs : List Reply) → leaves_all (heard stage.Open message text d) rs ≡ (if is_open text then opened else left)
  open_by message [] d rs = over_open message rs ∙ sym (ap (λ (v : Bool). if v then opened else left) no_open)
  open_by message (b ∷ bs) d rs = by (is_open (b ∷ bs))
    where
      by : (v : Bool)
          → leaves_all (task.Ropen (record {
            name = called;
            path = path;
            mode = m;
            fid = free_fid left call;
            is_taken = is_remote left called;
            stage = if v then stage.Opened else stage.Clunk;
            talk = ropen.talks_on (record {
              name = called;
              path = path;
              mode = m;
              fid = free_fid left call;
              is_taken = is_remote left called;
              stage = stage.Open;
              talk = record { call = call; message = message; phase = phase.Read };
            }) stage.Open (if v then stage.Opened else stage.Clunk) d;
          })) rs ≡ (if v then opened else left)
      by true = over_opened message rs
      by false = clunking (t_bytes (clunk_message (free_fid left call))) rs phase.Write

  open_read : (message : List ℕ) (rs : List Reply) → leaves_all (at stage.Open message phase.Read) rs ≡ open_heard rs
  open_read message [] = refl
  open_read message (d ∷ rs) = open_by message (bytes_in d) d rs

  abbrev open_written : List Reply → Left
  open_written [] = left
  open_written (c ∷ rs) = if is_accepted c then open_heard rs else left

  open_write : (message : List ℕ) (rs : List Reply) → leaves_all (at stage.Open message phase.Write) rs ≡ open_written rs
  open_write message [] = refl
  open_write message (c ∷ rs) = by (is_accepted c)
    where
      by : (v : Bool) → leaves_all (at stage.Open message (if v then phase.Read else phase.Over)) rs ≡ (if v then open_heard rs else left)
      by true = open_read message rs
      by false = over_open message rs

  -- it is walked to

  no_walk : is_whole path [] ≡ false
  no_walk = refl

  abbrev walk_heard : List Reply → Left
  walk_heard [] = left
  walk_heard (b ∷ rs) = if is_whole path (bytes_in b) then open_written rs else left

  walk_by : (message text : List ℕ) (r : Reply) (rs : List Reply) → leaves_all (heard stage.Walk message text r) rs ≡ (if is_whole path text then open_written rs else left)
  walk_by message [] r rs = over_walk message rs ∙ sym (ap (λ (v : Bool). if v then open_written rs else left) no_walk)
  walk_by message (b ∷ bs) r rs = by (is_whole path (b ∷ bs))
    where
      by : (v : Bool)
          → leaves_all (task.Ropen (record {
            name = called;
            path = path;
            mode = m;
            fid = free_fid left call;
            is_taken = is_remote left called;
            stage = if v then stage.Open else stage.Walk;
            talk = ropen.talks_on (record {
              name = called;
              path = path;
              mode = m;
              fid = free_fid left call;
              is_taken = is_remote left called;
              stage = stage.Walk;
              talk = record { call = call; message = message; phase = phase.Read };
            }) stage.Walk (if v then stage.Open else stage.Walk) r;
          })) rs ≡ (if v then open_written rs else left)
      by true = open_write (t_bytes (open_message (free_fid left call) m)) rs
      by false = over_walk message rs

  walk_read : (message : List ℕ) (rs : List Reply) → leaves_all (at stage.Walk message phase.Read) rs ≡ walk_heard rs
  walk_read message [] = refl
  walk_read message (b ∷ rs) = walk_by message (bytes_in b) b rs

  abbrev walk_written : List Reply → Left
  walk_written [] = left
  walk_written (a ∷ rs) = if is_accepted a then walk_heard rs else left

  walk_write : (message : List ℕ) (rs : List Reply) → leaves_all (at stage.Walk message phase.Write) rs ≡ walk_written rs
  walk_write message [] = refl
  walk_write message (a ∷ rs) = by (is_accepted a)
    where
      by : (v : Bool) → leaves_all (at stage.Walk message (if v then phase.Read else phase.Over)) rs ≡ (if v then walk_heard rs else left)
      by true = walk_read message rs
      by false = over_walk message rs

  -- two messages went out, and their replies passed

  not_yet : (v : Bool) → (if v then left else left) ≡ left
  not_yet true = refl
  not_yet false = refl

  not_both : (v w : Bool) → (if v then (if w then left else left) else left) ≡ left
  not_both true w = not_yet w
  not_both false w = refl

  not_all : (v w x : Bool) → (if v then (if w then (if x then left else left) else left) else left) ≡ left
  not_all true w x = not_both w x
  not_all false w x = refl

  all_passed : (v w x y : Bool) → (if v then (if w then (if x then (if y then opened else left) else left) else left) else left) ≡ (if (v && w) && (x && y) then opened else left)
  all_passed true true true y = refl
  all_passed true true false y = refl
  all_passed true false x y = refl
  all_passed false w x y = refl

  left_written : (rs : List Reply) → walk_written rs ≡ left_open left called call path rs
  left_written [] = refl
  left_written (a ∷ []) = not_yet (is_accepted a)
  left_written (a ∷ b ∷ []) = not_both (is_accepted a) (is_whole path (bytes_in b))
  left_written (a ∷ b ∷ c ∷ []) = not_all (is_accepted a) (is_whole path (bytes_in b)) (is_accepted c)
  left_written (a ∷ b ∷ c ∷ d ∷ rs) = all_passed (is_accepted a) (is_whole path (bytes_in b)) (is_accepted c) (is_open (bytes_in d))

  -- the step asks once, and nothing is left
  once_leaves : (q : Request) (said : List Reply) (r : Reply) (t : StepTask) → t ≡ spec.after_all (spec.asks_once q) said → is_none (spec.asks t (no_names [])) ≡ false
      → spec.leaves (spec.after t r) left ≡ left_open left called call path (said ++ r ∷ [])
  once_leaves q said r t told on =
      let first : said ≡ [] = once_first q said (subst (λ (u : StepTask). is_none (spec.asks u (no_names [])) ≡ false) told on) in
      ap (λ (u : StepTask). spec.leaves (spec.after u r) left) (told ∙ ap (λ (rs : List Reply). spec.after_all (spec.asks_once q) rs) first)
      ∙ sym (ap (λ (rs : List Reply). left_open left called call path (rs ++ r ∷ [])) first)

  ropen_by : (b : Bool) (said : List Reply) (r : Reply) (t : StepTask)
      → t ≡ spec.after_all (spec.or_unbound called b (task.Ropen (ropen.begun called call path m left))) said → is_none (spec.asks t (no_names [])) ≡ false
      → spec.leaves (spec.after t r) left ≡ left_open left called call path (said ++ r ∷ [])
  ropen_by false said r t told on = once_leaves (request.Unbound called) said r t told on
  ropen_by true said r t told on =
      ap (λ (u : StepTask). spec.leaves (spec.after u r) left) told
      ∙ (ap (λ (u : StepTask). spec.leaves u left) (after_one (task.Ropen (ropen.begun called call path m left)) said r)
      ∙ (walk_write (ropen.begun called call path m left).talk.message (said ++ r ∷ []) ∙ left_written (said ++ r ∷ [])))

  ropen_leaves : (o : Option (List ℕ)) (said : List Reply) (r : Reply) (t : StepTask) → t ≡ spec.after_all (spec.begun_by left (step.Ropen called call path m) o) said
      → is_none (spec.asks t (no_names [])) ≡ false → spec.leaves (spec.after t r) left ≡ left_open left called call path (said ++ r ∷ [])
  ropen_leaves (Some taken) said r t told on = once_leaves (request.Unbound taken) said r t told on
  ropen_leaves None said r t told on = ropen_by (is_remote_path path) said r t told on

-- ---- closing

rclose_all : (t : Rclose) (left : Left) (rs : List Reply) → spec.leaves (spec.after_all (task.Rclose t) rs) left ≡ without_remote t.name left
rclose_all t left [] = refl
rclose_all t left (r ∷ rs) = rclose_all (record t { errand = errand.after t.errand r }) left rs

-- ---- steps

abbrev pub is_leaving : Step → Bool
is_leaving (step.Ropen called call path m) = true
is_leaving (step.Rclose called) = true
is_leaving _ = false

unbound_none : (called : List ℕ) (b : Bool) (t : StepTask) → leaves_something t ≡ false → leaves_something (spec.or_unbound called b t) ≡ false
unbound_none called true t is = is
unbound_none called false t is = refl

own_none : (left : Left) (s : Step) → is_leaving s ≡ false → leaves_something (spec.begun_own left s) ≡ false
own_none left (step.Open called path m) is = refl
own_none left (step.Read called count) is = refl
own_none left (step.Write called text) is = refl
own_none left (step.Writex called text) is = refl
own_none left (step.Close called) is = refl
own_none left (step.Ls path) is = refl
own_none left (step.Cs query) is = refl
own_none left (step.Until moment) is = refl
own_none left step.Refresh is = refl
own_none left (step.Dial called address) is = refl
own_none left (step.Announce called address) is = refl
own_none left (step.Listen called from) is = refl
own_none left (step.Accept called from) is = refl
own_none left (step.Reject called) is = refl
own_none left (step.Hangup called) is = refl
own_none left (step.Hread called count) is = refl
own_none left (step.Hwrite called bytes) is = refl
own_none left (step.Dns called times) is = refl
own_none left (step.Export called) is = unbound_none called (not (is_dotted called)) (task.Export (export.begun called)) refl
own_none left (step.Import call) is = refl
own_none left (step.Ropen called call path m) is = absurd (true≢false is)
own_none left (step.Rread called count) is = refl
own_none left (step.Rwrite called text) is = unbound_none called (nat_le (length text) longest_text) (task.Rwrite (errand.write_errand called text left)) refl
own_none left (step.Rclose called) is = absurd (true≢false is)

begun_none : (left : Left) (s : Step) (o : Option (List ℕ)) → is_leaving s ≡ false → leaves_something (spec.begun_by left s o) ≡ false
begun_none left s None is = own_none left s is
begun_none left s (Some called) is = refl

other_leaves : (left : Left) (s : Step) (said : List Reply) (r : Reply) (t : StepTask) → is_leaving s ≡ false → t ≡ spec.after_all (spec.begun left s) said
    → spec.leaves (spec.after t r) left ≡ left
other_leaves left s said r t is told =
    ap (λ (u : StepTask). spec.leaves (spec.after u r) left) told
    ∙ (ap (λ (u : StepTask). spec.leaves u left) (after_one (spec.begun left s) said r)
    ∙ told_none (spec.begun left s) left (said ++ r ∷ []) (begun_none left s (find (is_remote left) (new_names s)) is))

-- a step that leaves nothing leaves what was left, after one reply too
pub ends_keep : (left : Left) (s : Step) (r : Reply) → is_leaving s ≡ false → spec.leaves (spec.after (spec.begun left s) r) left ≡ left
ends_keep left s r is = told_none (spec.begun left s) left (r ∷ []) (begun_none left s (find (is_remote left) (new_names s)) is)

-- a step that goes on leaves, after one reply more, what its replies leave
pub leaves_so : (left : Left) (s : Step) (said : List Reply) (r : Reply) (t : StepTask) → t ≡ spec.after_all (spec.begun left s) said → is_none (spec.asks t (no_names [])) ≡ false
    → spec.leaves (spec.after t r) left ≡ left_after left s (said ++ r ∷ [])
leaves_so left (step.Ropen called call path m) said r t told on = ropen_leaves called call path m left (find (is_remote left) (called ∷ [])) said r t told on
leaves_so left (step.Rclose called) said r t told on =
    ap (λ (u : StepTask). spec.leaves (spec.after u r) left) told
    ∙ (ap (λ (u : StepTask). spec.leaves u left) (after_one (spec.begun left (step.Rclose called)) said r)
    ∙ rclose_all (record { name = called; errand = errand.close_errand called left }) left (said ++ r ∷ []))
leaves_so left (step.Open called path m) said r t told on = other_leaves left (step.Open called path m) said r t refl told
leaves_so left (step.Read called count) said r t told on = other_leaves left (step.Read called count) said r t refl told
leaves_so left (step.Write called text) said r t told on = other_leaves left (step.Write called text) said r t refl told
leaves_so left (step.Writex called text) said r t told on = other_leaves left (step.Writex called text) said r t refl told
leaves_so left (step.Close called) said r t told on = other_leaves left (step.Close called) said r t refl told
leaves_so left (step.Ls path) said r t told on = other_leaves left (step.Ls path) said r t refl told
leaves_so left (step.Cs query) said r t told on = other_leaves left (step.Cs query) said r t refl told
leaves_so left (step.Until moment) said r t told on = other_leaves left (step.Until moment) said r t refl told
leaves_so left step.Refresh said r t told on = other_leaves left step.Refresh said r t refl told
leaves_so left (step.Dial called address) said r t told on = other_leaves left (step.Dial called address) said r t refl told
leaves_so left (step.Announce called address) said r t told on = other_leaves left (step.Announce called address) said r t refl told
leaves_so left (step.Listen called from) said r t told on = other_leaves left (step.Listen called from) said r t refl told
leaves_so left (step.Accept called from) said r t told on = other_leaves left (step.Accept called from) said r t refl told
leaves_so left (step.Reject called) said r t told on = other_leaves left (step.Reject called) said r t refl told
leaves_so left (step.Hangup called) said r t told on = other_leaves left (step.Hangup called) said r t refl told
leaves_so left (step.Hread called count) said r t told on = other_leaves left (step.Hread called count) said r t refl told
leaves_so left (step.Hwrite called bytes) said r t told on = other_leaves left (step.Hwrite called bytes) said r t refl told
leaves_so left (step.Dns called times) said r t told on = other_leaves left (step.Dns called times) said r t refl told
leaves_so left (step.Export called) said r t told on = other_leaves left (step.Export called) said r t refl told
leaves_so left (step.Import call) said r t told on = other_leaves left (step.Import call) said r t refl told
leaves_so left (step.Rread called count) said r t told on = other_leaves left (step.Rread called count) said r t refl told
leaves_so left (step.Rwrite called text) said r t told on = other_leaves left (step.Rwrite called text) said r t refl told
