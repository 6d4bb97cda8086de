-- The steps that open another file of a conversation ask and move as their plays do.
use Rattle.std.proofs.Common.{◌≡◌, ℕ, ◌<◌, Bool, true, false, List, Option, Some, None, if◌then◌else◌, refl, sym, subst, rules}
use Rattle.net_base.specs.declared.names.FileName.{FileName}
use Rattle.net_base.specs.declared.names.FileName.TheVariants as file
use Rattle.net_base.specs.declared.names.Mode.TheVariants as mode
use Rattle.net_base.specs.declared.names.Node.TheVariants as node
use Rattle.net_base.specs.declared.reply.Reply.{Reply}
use Rattle.net_base.specs.declared.world.Step.TheVariants as step
use Rattle.net_base.specs.Paths.{walk, path_of, is_read_alone}
use Rattle.net_base.specs.Steps.{Names, Fid, Play, Ends, fid_of, is_bound, bind, uses, on_fid, opens_beside, opened_fid, openable, play_of}
use Rattle.dial_lib.specs.declared.beside.Beside.{Beside}
use Rattle.dial_lib.specs.Beside as spec
use Rattle.dial_lib.specs.Beside.{Stands, IsFresh, IsThrough, asks_file, opens_both_ways}
use Rattle.dial_lib.specs.FilePaths.{file_walked}
use Rattle.dial_lib.specs.Moves.{MovesBy, moves_from}
use Rattle.dial_lib.specs.Names.{bound_slot}
use Rattle.dial_lib.specs.Slots.{HaveSlots}
use Rattle.net_base.specs.declared.request.Request.TheVariants as request
use Rattle.net_base.specs.Requests.{settled, settles, bound_after}
use Rattle.script_task.specs.Task.{Heads, AsksSo, MovesSo, follow}

-- The file's path names the file.

pub opened_path : (f : Fid) (to : FileName) → f.slot < 32 → is_read_alone to ≡ false → openable (walk (path_of (node.File f.proto f.slot to))) mode.Both ≡ Some (node.File f.proto f.slot to)
opened_path f to low both = rw (file_walked f.proto f.slot to low, both) refl

-- the request is the event of opening the file
pub opens_head : (h : ℕ) (names : Names) (called : List ℕ) (f : Fid) (to : FileName) (refused : Play) (next : Fid → Play) → is_bound names called ≡ false → f.slot < 32 → is_read_alone to ≡ false
    → Heads h names (Some (opens_both_ways called f to)) (opens_beside h f to refused next)
opens_head h names called f file.Ctl refused next free low both = (_, refl, rw (free, file_walked f.proto f.slot file.Ctl low) refl)
opens_head h names called f file.Data refused next free low both = (_, refl, rw (free, file_walked f.proto f.slot file.Data low) refl)
opens_head h names called f file.Listen refused next free low both = (_, refl, rw (free, file_walked f.proto f.slot file.Listen low) refl)
opens_head h names called f file.Err refused next free low both = absurd (search (rules, both))
opens_head h names called f file.Local refused next free low both = absurd (search (rules, both))
opens_head h names called f file.Remote refused next free low both = absurd (search (rules, both))
opens_head h names called f file.Status refused next free low both = absurd (search (rules, both))

-- and its reply binds what the play binds
pub opens_settle : (names : Names) (called : List ℕ) (f : Fid) (to : FileName) (r : Reply) → is_bound names called ≡ false → f.slot < 32 → is_read_alone to ≡ false
    → settled names (opens_both_ways called f to) r ≡ bound_after called names (opened_fid mode.Both (Some (node.File f.proto f.slot to)) r)
opens_settle names called f to r free low both = rw (free, opened_path f to low both) refl

-- Requests.

heads_new : (to : FileName) (h : ℕ) (names : Names) (called from : List ℕ) (f : Fid) (b : Bool) → is_bound names called ≡ b → f.slot < 32 → is_read_alone to ≡ false
    → Heads h names (Some (if b then request.Unbound called else opens_both_ways called f to)) (if b then uses h called names else opens_beside h f to (Ends names) (λ (made : Fid). Ends (bind called made names)))
heads_new to h names called from f true is low both = (_, refl, refl)
heads_new to h names called from f false is low both = opens_head h names called f to (Ends names) (λ (made : Fid). Ends (bind called made names)) is low both

heads_file : (to : FileName) (h : ℕ) (names : Names) (called from : List ℕ) (o : Option Fid) → fid_of from names ≡ o → HaveSlots names → is_read_alone to ≡ false
    → Heads h names (Some (asks_file to called from names o))
    (on_fid o (uses h from names) (λ (f : Fid). if is_bound names called then uses h called names else opens_beside h f to (Ends names) (λ (made : Fid). Ends (bind called made names))))
heads_file to h names called from None is slots both = (_, refl, refl)
heads_file to h names called from (Some f) is slots both = heads_new to h names called from f (is_bound names called) refl (bound_slot from names f slots is) both

heads : (to : FileName) (h : ℕ) (names : Names) (called from : List ℕ) (b : Bool) (p : Play) → Stands to h names called from b p
    → Heads h names (spec.asks_by to called from b names) p
heads to h names called from _ _ (IsFresh slots both) = heads_file to h names called from (fid_of from names) refl slots both
heads to h names called from _ _ IsThrough = refl

-- Replies.

move_made : (to : FileName) (h : ℕ) (names : Names) (called from : List ℕ) (o : Option Fid)
    → Stands to h (bound_after called names o) called from true (on_fid o (Ends names) (λ (made : Fid). Ends (bind called made names)))
move_made to h names called from None = IsThrough
move_made to h names called from (Some made) = IsThrough

move_new : (to : FileName) (h : ℕ) (names : Names) (called from : List ℕ) (f : Fid) (b : Bool) (r : Reply) → is_bound names called ≡ b → f.slot < 32 → is_read_alone to ≡ false
    → Stands to h (settled names (if b then request.Unbound called else opens_both_ways called f to) r) called from true
    (follow (if b then uses h called names else opens_beside h f to (Ends names) (λ (made : Fid). Ends (bind called made names))) r)
move_new to h names called from f true r is low both = IsThrough
move_new to h names called from f false r is low both =
    rw (opens_settle names called f to r is low both) (move_made to h names called from (opened_fid mode.Both (Some (node.File f.proto f.slot to)) r))

move_file : (to : FileName) (h : ℕ) (names : Names) (called from : List ℕ) (o : Option Fid) (r : Reply) → fid_of from names ≡ o → HaveSlots names → is_read_alone to ≡ false
    → Stands to h (settled names (asks_file to called from names o) r) called from true
    (follow (on_fid o (uses h from names) (λ (f : Fid). if is_bound names called then uses h called names else opens_beside h f to (Ends names) (λ (made : Fid). Ends (bind called made names)))) r)
move_file to h names called from None r is slots both = IsThrough
move_file to h names called from (Some f) r is slots both = move_new to h names called from f (is_bound names called) r refl (bound_slot from names f slots is) both

moves : (to : FileName) (h : ℕ) (names : Names) (called from : List ℕ) (b : Bool) (p : Play) (r : Reply) → Stands to h names called from b p
    → Stands to h (settles names (spec.asks_by to called from b names) r) called from true (follow p r)
moves to h names called from _ _ r (IsFresh slots both) = move_file to h names called from (fid_of from names) r refl slots both
moves to h names called from _ _ r IsThrough = IsThrough

-- The task.

pub asks_so : AsksSo Beside spec.asks spec.StandsFor
asks_so h names t p stands = heads t.file h names t.name t.from t.is_through p stands

moves_by : MovesBy Beside spec.asks spec.after spec.StandsFor
moves_by h names t p q r stands asked fit = moves t.file h names t.name t.from t.is_through p r stands

pub moves_so : MovesSo Beside spec.asks spec.after spec.StandsFor
moves_so = moves_from Beside spec.asks spec.after spec.StandsFor moves_by

-- a fresh one stands for its step
pub listen_fresh : (t : Beside) (called from : List ℕ) → t ≡ spec.begun file.Listen called from → spec.Begins t (step.Listen called from)
listen_fresh t called from is =
    λ h names slots. subst (λ (x : Beside). spec.StandsFor h names x (play_of h names (step.Listen called from))) (sym is) (IsFresh slots refl)

pub accept_fresh : (t : Beside) (called from : List ℕ) → t ≡ spec.begun file.Data called from → spec.Begins t (step.Accept called from)
accept_fresh t called from is =
    λ h names slots. subst (λ (x : Beside). spec.StandsFor h names x (play_of h names (step.Accept called from))) (sym is) (IsFresh slots refl)
