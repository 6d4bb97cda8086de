-- An announce asks and moves as its play does.
use Rattle.std.proofs.Common.{◌≡◌, ℕ, Bool, true, false, List, [], ◌∷◌, ◌++◌, Option, Some, codes, if◌then◌else◌, refl, sym, ap, subst, rules}
use Rattle.net_base.specs.declared.names.Mode.TheVariants as mode
use Rattle.net_base.specs.declared.reply.Reply.{Reply}
use Rattle.net_base.specs.declared.world.Step.TheVariants as step
use Rattle.net_base.specs.Paths.{walk, mode_writes}
use Rattle.net_base.specs.Steps.{Names, Fid, Play, Ends, fid_of, is_bound, bind, unbind, uses, on_fid, puts_text, closes_fid, asks_cs, netmkaddr, opened_fid, openable, announces_line, clone_path, line_address, reply_lines, is_accepted, if_accepted, play_of}
use Rattle.dial_lib.specs.declared.announce.Announce.{Announce}
use Rattle.dial_lib.specs.declared.announce.AnnouncePhase.{AnnouncePhase}
use Rattle.dial_lib.specs.declared.announce.AnnouncePhase.TheVariants as phase
use Rattle.dial_lib.specs.Announce as spec
use Rattle.dial_lib.specs.Announce.{Stands, IsFresh, IsOpen, IsOver, IsWrite, IsClose, IsThrough, writing_line}
use Rattle.dial_lib.specs.Moves.{MovesBy, moves_from, by_test, chosen_play, no_lines}
use Rattle.dial_lib.specs.Names.{unbind_free}
use Rattle.dial_lib.specs.Openings.{unopened_no, Gave, Opens, Refuses, gave_open, path_range}
use Rattle.dial_lib.specs.Puts.{puts_head, put_other, announces_other}
use Rattle.net_base.specs.declared.request.Request.{Request}
use Rattle.net_base.specs.declared.request.Request.TheVariants as request
use Rattle.script_task.specs.Fitting.{is_opening}
use Rattle.net_base.specs.Requests.{settled, settles, bound_after}
use Rattle.script_task.specs.Task.{Heads, AsksSo, MovesSo, follow, fits_play}
use Rattle.net_base.proofs.Shared.{same_text}

-- Its requests.

fresh_heads : (h : ℕ) (names : Names) (called address : List ℕ) (b : Bool)
    → Heads h names (Some (if b then request.Unbound called else request.Cs (netmkaddr address (codes "net") (codes "9fs"))))
    (if b then uses h called names else asks_cs h address (announces_line h called names))
fresh_heads h names called address true = (_, refl, refl)
fresh_heads h names called address false = (_, refl, refl)

-- the name is bound to the file that was made
pub announce_found : (called : List ℕ) (base names : Names) (made : Fid) → names ≡ bind called made base → fid_of called names ≡ Some made
announce_found called base names made is = rw (is, same_text called) refl

-- a text goes to a file that a name is bound to
pub writing_heads : (h : ℕ) (names : Names) (called text : List ℕ) (made : Fid) → fid_of called names ≡ Some made → made.mode ≡ mode.Both
    → (refused next : Play) → Heads h names (Some (request.Write called text)) (puts_text h made made.file text refused next)
writing_heads h names called text made is both refused next =
    let put = puts_head h made made.file text in
    (put.0, put.1 refused next, rw (is) (chosen_play (mode_writes made.mode) _ _ put.0 (ap mode_writes both) (put.1 (Ends names) (Ends names))))

heads : (h : ℕ) (called address : List ℕ) (names : Names) (ph : AnnouncePhase) (lines : List (List ℕ)) (p : Play)
    → Stands h called address names ph lines p → Heads h names (spec.asks_by ph called address lines names) p
heads h called address names _ _ _ (IsFresh lines) = fresh_heads h names called address (is_bound names called)
heads h called address names _ _ _ (IsOpen [] free) = refl
heads h called address names _ _ _ (IsOpen (line ∷ lines) free) = (_, refl, rw free refl)
heads h called address names _ _ _ IsOver = refl
heads h called address names _ _ _ (IsWrite base made line lines free is both) =
    writing_heads h names called (codes "announce " ++ line_address line) made (announce_found called base names made is) both (closes_fid h made (Ends base) (Ends base)) (Ends (bind called made base))
heads h called address names _ _ _ (IsClose base made lines is left) = (_, refl, rw is refl)
heads h called address names _ _ _ (IsThrough lines) = refl

-- Its replies.

move_fresh : (h : ℕ) (called address : List ℕ) (names : Names) (r : Reply) (b : Bool) → is_bound names called ≡ b
    → fits_play (if b then uses h called names else asks_cs h address (announces_line h called names)) r ≡ true
    → Stands h called address (settled names (if b then request.Unbound called else request.Cs (netmkaddr address (codes "net") (codes "9fs"))) r) phase.Open (reply_lines r)
    (follow (if b then uses h called names else asks_cs h address (announces_line h called names)) r)
move_fresh h called address names r true is fit = rw (no_lines r (unopened_no r fit)) IsOver
move_fresh h called address names r false is fit = IsOpen (reply_lines r) is

move_line : (h : ℕ) (called address : List ℕ) (names : Names) (line : List ℕ) (lines : List (List ℕ)) (o : Option Fid) (r : Reply) → is_bound names called ≡ false → Gave mode.Both o r
    → Stands h called address (bound_after called names o) (if is_opening r then phase.Write else phase.Through) (line ∷ lines) (on_fid o (Ends names) (λ (made : Fid). writing_line h called names made line))
move_line h called address names line lines o r free (Opens made is both slot opening) = rw (is, opening) (IsWrite names made line lines free refl both)
move_line h called address names line lines o r free (Refuses is opening) = rw (is, opening) (IsThrough (line ∷ lines))

pub open_settle : (names : Names) (called path : List ℕ) (r : Reply) → is_bound names called ≡ false
    → settled names (request.Open called path mode.Both) r ≡ bound_after called names (opened_fid mode.Both (openable (walk path) mode.Both) r)
open_settle names called path r free = rw (free) refl

pub front_left : (called : List ℕ) (base names : Names) (made : Fid) → is_bound base called ≡ false → names ≡ bind called made base → unbind called names ≡ base
front_left called base names made free is = rw (is, same_text called) (unbind_free called base free)

move_write : (h : ℕ) (called address : List ℕ) (base names : Names) (made : Fid) (line : List ℕ) (lines : List (List ℕ)) (r : Reply) → is_bound base called ≡ false → names ≡ bind called made base
    → Stands h called address names (spec.phase_after phase.Write r) (line ∷ lines) (if_accepted r (Ends (bind called made base)) (closes_fid h made (Ends base) (Ends base)))
move_write h called address base names made line lines r free is =
    by_test (λ b p. Stands h called address names (if b then phase.Through else phase.Close) (line ∷ lines) p) (is_accepted r) (Ends (bind called made base)) (closes_fid h made (Ends base) (Ends base))
    (subst (λ (bound : Names). Stands h called address names phase.Through (line ∷ lines) (Ends bound)) is (IsThrough (line ∷ lines)))
    (IsClose base made (line ∷ lines) (announce_found called base names made is) (front_left called base names made free is))

moves : (h : ℕ) (called address : List ℕ) (names : Names) (ph : AnnouncePhase) (lines : List (List ℕ)) (p : Play) (q : Request) (r : Reply)
    → Stands h called address names ph lines p → spec.asks_by ph called address lines names ≡ Some q → fits_play p r ≡ true
    → Stands h called address (settles names (spec.asks_by ph called address lines names) r) (spec.phase_after ph r) (spec.lines_after ph r lines) (follow p r)
moves h called address names _ _ _ q r (IsFresh lines) asked fit = move_fresh h called address names r (is_bound names called) refl fit
moves h called address names _ _ _ q r (IsOpen [] free) asked fit = absurd (search (rules, asked))
moves h called address names _ _ _ q r (IsOpen (line ∷ lines) free) asked fit =
    rw (open_settle names called (clone_path line) r free)
    (move_line h called address names line lines (opened_fid mode.Both (openable (walk (clone_path line)) mode.Both) r) r free
    (gave_open (clone_path line) mode.Both (openable (walk (clone_path line)) mode.Both) r (path_range (clone_path line) mode.Both) fit))
moves h called address names _ _ _ q r IsOver asked fit = absurd (search (rules, asked))
moves h called address names _ _ _ q r (IsWrite base made line lines free is both) asked fit =
    subst (λ (p : Play). Stands h called address names (spec.phase_after phase.Write r) (line ∷ lines) p)
    (sym (put_other h made made.file (codes "announce " ++ line_address line) r (closes_fid h made (Ends base) (Ends base)) (Ends (bind called made base)) (announces_other (line_address line))))
    (move_write h called address base names made line lines r free is)
moves h called address names _ _ _ q r (IsClose base made lines is left) asked fit =
    rw (left) (by_test (λ b p. Stands h called address base phase.Through lines p) (is_accepted r) (Ends base) (Ends base) (IsThrough lines) (IsThrough lines))
moves h called address names _ _ _ q r (IsThrough lines) asked fit = absurd (search (rules, asked))

pub asks_so : AsksSo Announce spec.asks spec.StandsFor
asks_so h names t p stands = heads h t.name t.address names t.phase t.lines p stands

moves_by : MovesBy Announce spec.asks spec.after spec.StandsFor
moves_by h names t p q r stands asked fit = moves h t.name t.address names t.phase t.lines p q r stands asked fit

pub moves_so : MovesSo Announce spec.asks spec.after spec.StandsFor
moves_so = moves_from Announce spec.asks spec.after spec.StandsFor moves_by

-- a fresh one stands for its step
pub fresh : (h : ℕ) (names : Names) (called address name other : List ℕ) (lines : List (List ℕ)) → name ≡ called → other ≡ address
    → spec.StandsFor h names (record { name = name; address = other; phase = phase.Fresh; lines = lines }) (play_of h names (step.Announce called address))
fresh h names called address name other lines is other_is =
    subst (λ (n : List ℕ). Stands h n other names phase.Fresh lines (play_of h names (step.Announce called address))) (sym is)
    (subst (λ (n : List ℕ). Stands h called n names phase.Fresh lines (play_of h names (step.Announce called address))) (sym other_is) (IsFresh lines))
