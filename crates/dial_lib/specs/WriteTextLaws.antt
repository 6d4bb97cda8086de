-- A step that writes a text asks and moves as its play does.
use Rattle.std.proofs.Common.{◌≡◌, ℕ, Bool, true, false, List, Option, Some, None, if◌then◌else◌, refl}
use Rattle.net_base.specs.declared.reply.Reply.{Reply}
use Rattle.net_base.specs.Paths.{mode_writes}
use Rattle.net_base.specs.Steps.{Ask, Names, Fid, Play, Ends, fid_of, on_fid, puts_text, uses, misuses, is_accepted}
use Rattle.dial_lib.specs.declared.write_text.WritePhase.{WritePhase}
use Rattle.dial_lib.specs.declared.write_text.WritePhase.TheVariants as phase
use Rattle.dial_lib.specs.declared.write_text.WriteText.{WriteText}
use Rattle.dial_lib.specs.Moves.{MovesBy, moves_from}
use Rattle.dial_lib.specs.Openings.{unopened_no}
use Rattle.dial_lib.specs.Puts.{Put, Waits, Goes, put, puts_head, granted_no}
use Rattle.dial_lib.specs.WriteText as spec
use Rattle.dial_lib.specs.WriteText.{Stands, IsWrite, IsWait, IsThrough}
use Rattle.net_base.specs.declared.request.Request.TheVariants as request
use Rattle.net_base.specs.Requests.{head, request_play, settles}
use Rattle.script_task.specs.Task.{Heads, AsksSo, MovesSo, follow, fits_play}

-- what is written through a name: it isn't bound, it isn't writable, or the text goes to its file
pub data Through (h : ℕ) (names : Names) (called : List ℕ) (next : Fid → Play) : Play → Type 0 where
  IsUnbound : Through h names called next (uses h called names)
  IsMisused : Through h names called next (misuses h called names)
  IsOpen : (f : Fid) → fid_of called names ≡ Some f → Through h names called next (next f)

by_mode : (h : ℕ) (names : Names) (called : List ℕ) (next : Fid → Play) (f : Fid) (b : Bool) → fid_of called names ≡ Some f
    → Through h names called next (if b then next f else misuses h called names)
by_mode h names called next f true is = IsOpen f is
by_mode h names called next f false is = IsMisused

by_bound : (h : ℕ) (names : Names) (called : List ℕ) (next : Fid → Play) (o : Option Fid) → fid_of called names ≡ o
    → Through h names called next (on_fid o (uses h called names) (λ (f : Fid). if mode_writes f.mode then next f else misuses h called names))
by_bound h names called next None is = IsUnbound
by_bound h names called next (Some f) is = by_mode h names called next f (mode_writes f.mode) is

pub through : (h : ℕ) (names : Names) (called : List ℕ) (next : Fid → Play)
    → Through h names called next (on_fid (fid_of called names) (uses h called names) (λ (f : Fid). if mode_writes f.mode then next f else misuses h called names))
through h names called next = by_bound h names called next (fid_of called names) refl

-- Its requests.

has_ask : (h : ℕ) (names : Names) (called text : List ℕ) (p : Play) → Through h names called (λ (f : Fid). puts_text h f f.file text (Ends names) (Ends names)) p → (ask : Ask) × (head p ≡ Some ask)
has_ask h names called text _ IsUnbound = (_, refl)
has_ask h names called text _ IsMisused = (_, refl)
has_ask h names called text _ (IsOpen f is) = let put = puts_head h f f.file text in (put.0, put.1 (Ends names) (Ends names))

heads : (h : ℕ) (names : Names) (called text : List ℕ) (ph : WritePhase) (p : Play) → Stands h names called text ph p → Heads h names (spec.asks_by ph called text) p
heads h names called text _ _ IsWrite =
    let asked = has_ask h names called text (request_play h names (request.Write called text)) (through h names called (λ (f : Fid). puts_text h f f.file text (Ends names) (Ends names))) in
    (asked.0, asked.1, asked.1)
heads h names called text _ _ (IsWait f is) = (_, refl, rw is refl)
heads h names called text _ _ IsThrough = refl

-- Its replies.

ended : (h : ℕ) (names : Names) (called text : List ℕ) (b : Bool) → Stands h names called text phase.Through (if b then Ends names else Ends names)
ended h names called text true = IsThrough
ended h names called text false = IsThrough

move_put : (h : ℕ) (names : Names) (called text : List ℕ) (f : Fid) (r : Reply) (p : Play) → fid_of called names ≡ Some f → Put h f r (Ends names) (Ends names) p
    → Stands h names called text (spec.phase_after phase.Write r) p
move_put h names called text f r p bound (Waits granted is) = rw (granted, is) (IsWait f bound)
move_put h names called text f r p bound (Goes granted is) = rw (granted, is) (ended h names called text (is_accepted r))

move_write : (h : ℕ) (names : Names) (called text : List ℕ) (p : Play) (r : Reply) → Through h names called (λ (f : Fid). puts_text h f f.file text (Ends names) (Ends names)) p → fits_play p r ≡ true
    → Stands h names called text (spec.phase_after phase.Write r) (follow p r)
move_write h names called text _ r IsUnbound fit = rw (granted_no r (unopened_no r fit)) IsThrough
move_write h names called text _ r IsMisused fit = rw (granted_no r (unopened_no r fit)) IsThrough
move_write h names called text _ r (IsOpen f is) fit = move_put h names called text f r _ is (put h f f.file text r (Ends names) (Ends names) fit)

moves : (h : ℕ) (names : Names) (called text : List ℕ) (ph : WritePhase) (p : Play) (r : Reply) → Stands h names called text ph p → fits_play p r ≡ true
    → Stands h (settles names (spec.asks_by ph called text) r) called text (spec.phase_after ph r) (follow p r)
moves h names called text _ _ r IsWrite fit =
    move_write h names called text (request_play h names (request.Write called text)) r (through h names called (λ (f : Fid). puts_text h f f.file text (Ends names) (Ends names))) fit
moves h names called text _ _ r (IsWait f is) fit = ended h names called text (is_accepted r)
moves h names called text _ _ r IsThrough fit = IsThrough

pub asks_so : AsksSo WriteText spec.asks spec.StandsFor
asks_so h names t p stands = heads h names t.name t.text t.phase p stands

moves_by : MovesBy WriteText spec.asks spec.after spec.StandsFor
moves_by h names t p q r stands asked fit = moves h names t.name t.text t.phase p r stands fit

pub moves_so : MovesSo WriteText spec.asks spec.after spec.StandsFor
moves_so = moves_from WriteText spec.asks spec.after spec.StandsFor moves_by
