-- A reject asks and moves as its play does.
use Rattle.std.proofs.Common.{◌≡◌, ℕ, Bool, true, false, List, Option, Some, None, codes, if◌then◌else◌, refl, sym, subst}
use Rattle.net_base.specs.declared.reply.Reply.{Reply}
use Rattle.net_base.specs.declared.world.Step.TheVariants as step
use Rattle.net_base.specs.Paths.{mode_writes}
use Rattle.net_base.specs.Steps.{Ask, Names, Fid, Play, Ends, fid_of, on_fid, puts_text, uses, misuses, is_accepted, play_of}
use Rattle.dial_lib.specs.declared.reject.Reject.{Reject}
use Rattle.dial_lib.specs.declared.reject.RejectPhase.{RejectPhase}
use Rattle.dial_lib.specs.declared.reject.RejectPhase.TheVariants as phase
use Rattle.dial_lib.specs.Moves.{MovesBy, moves_from, by_test}
use Rattle.dial_lib.specs.Openings.{unopened_no}
use Rattle.dial_lib.specs.Puts.{puts_head, put_other, hangs}
use Rattle.dial_lib.specs.Reject as spec
use Rattle.dial_lib.specs.Reject.{Stands, IsWrite, IsClose, IsThrough, closing}
use Rattle.net_base.specs.Requests.{head, settles}
use Rattle.script_task.specs.Task.{Heads, AsksSo, MovesSo, follow, fits_play}

-- Its requests.

abbrev written : ℕ → Names → List ℕ → Option Fid → (Fid → Play) → Play
written h names called o next = on_fid o (uses h called names) (λ (f : Fid). if mode_writes f.mode then puts_text h f f.file (codes "hangup") (Ends names) (next f) else misuses h called names)

head_mode : (h : ℕ) (names : Names) (called : List ℕ) (f : Fid) (next other : Fid → Play) (b : Bool)
    → (ask : Ask) × (head (if b then puts_text h f f.file (codes "hangup") (Ends names) (next f) else misuses h called names) ≡ Some ask)
    × (head (if b then puts_text h f f.file (codes "hangup") (Ends names) (other f) else misuses h called names) ≡ Some ask)
head_mode h names called f next other true = let put = puts_head h f f.file (codes "hangup") in (put.0, put.1 (Ends names) (next f), put.1 (Ends names) (other f))
head_mode h names called f next other false = (_, refl, refl)

head_written : (h : ℕ) (names : Names) (called : List ℕ) (o : Option Fid) (next other : Fid → Play)
    → (ask : Ask) × (head (written h names called o next) ≡ Some ask) × (head (written h names called o other) ≡ Some ask)
head_written h names called None next other = (_, refl, refl)
head_written h names called (Some f) next other = head_mode h names called f next other (mode_writes f.mode)

heads : (h : ℕ) (names : Names) (called : List ℕ) (ph : RejectPhase) (p : Play) → Stands h names called ph p → Heads h names (spec.asks_by ph called) p
heads h names called _ _ IsWrite = head_written h names called (fid_of called names) (λ (f : Fid). closing h names called f) (λ (f : Fid). Ends names)
heads h names called _ _ (IsClose f is) = (_, refl, rw is refl)
heads h names called _ _ IsThrough = refl

-- Its replies.

move_mode : (h : ℕ) (names : Names) (called : List ℕ) (f : Fid) (r : Reply) (b : Bool) → fid_of called names ≡ Some f
    → fits_play (if b then puts_text h f f.file (codes "hangup") (Ends names) (closing h names called f) else misuses h called names) r ≡ true
    → Stands h names called (spec.phase_after phase.Write r) (follow (if b then puts_text h f f.file (codes "hangup") (Ends names) (closing h names called f) else misuses h called names) r)
move_mode h names called f r true is fit =
    subst (λ (p : Play). Stands h names called (spec.phase_after phase.Write r) p) (sym (put_other h f f.file (codes "hangup") r (Ends names) (closing h names called f) hangs))
    (by_test (λ b p. Stands h names called (if b then phase.Close else phase.Through) p) (is_accepted r) (closing h names called f) (Ends names) (IsClose f is) IsThrough)
move_mode h names called f r false is fit = rw (unopened_no r fit) IsThrough

move_write : (h : ℕ) (names : Names) (called : List ℕ) (r : Reply) (o : Option Fid) → fid_of called names ≡ o
    → fits_play (written h names called o (λ (f : Fid). closing h names called f)) r ≡ true
    → Stands h names called (spec.phase_after phase.Write r) (follow (written h names called o (λ (f : Fid). closing h names called f)) r)
move_write h names called r None is fit = rw (unopened_no r fit) IsThrough
move_write h names called r (Some f) is fit = move_mode h names called f r (mode_writes f.mode) is fit

moves : (h : ℕ) (names : Names) (called : List ℕ) (ph : RejectPhase) (p : Play) (r : Reply) → Stands h names called ph p → fits_play p r ≡ true
    → Stands h (settles names (spec.asks_by ph called) r) called (spec.phase_after ph r) (follow p r)
moves h names called _ _ r IsWrite fit = move_write h names called r (fid_of called names) refl fit
moves h names called _ _ r (IsClose f is) fit = IsThrough
moves h names called _ _ r IsThrough fit = IsThrough

pub asks_so : AsksSo Reject spec.asks spec.StandsFor
asks_so h names t p stands = heads h names t.name t.phase p stands

moves_by : MovesBy Reject spec.asks spec.after spec.StandsFor
moves_by h names t p q r stands asked fit = moves h names t.name t.phase p r stands fit

pub moves_so : MovesSo Reject spec.asks spec.after spec.StandsFor
moves_so = moves_from Reject spec.asks spec.after spec.StandsFor moves_by

pub fresh : (h : ℕ) (names : Names) (called name : List ℕ) → name ≡ called → spec.StandsFor h names (record { name = name; phase = phase.Write }) (play_of h names (step.Reject called))
fresh h names called name is = subst (λ (n : List ℕ). Stands h names n phase.Write (play_of h names (step.Reject called))) (sym is) IsWrite
