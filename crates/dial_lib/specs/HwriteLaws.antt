-- An hwrite asks and moves as its play does.
use Rattle.std.proofs.Common.{◌≡◌, ℕ, Bool, true, false, ◌&&◌, List, Option, Some, None, if◌then◌else◌, refl, sym, subst}
use Rattle.std.proofs.lemmas.Bool.{and_parts, false≢true}
use Rattle.std.proofs.lemmas.Option.{none-some, same_Some}
use Rattle.std.specs.Option.{option_and_then}
use Rattle.net_base.specs.declared.event.Event.TheVariants as event
use Rattle.net_base.specs.declared.names.FileName.{FileName}
use Rattle.net_base.specs.declared.names.FileName.TheVariants as file
use Rattle.net_base.specs.declared.names.Mode.{Mode}
use Rattle.net_base.specs.declared.names.Mode.TheVariants as mode
use Rattle.net_base.specs.declared.reply.Reply.{Reply}
use Rattle.net_base.specs.declared.world.Step.TheVariants as step
use Rattle.net_base.specs.DatagramHeaders.{text_behind}
use Rattle.net_base.specs.Steps.{Ask, Names, Fid, Play, Ends, conversation_of, ends_with, fid_of, unbind, on_fid, uses, misuses, data_name, call_name, answers, if_call, is_answer, is_both, is_data, open_call, was_on, play_of}
use Rattle.dial_lib.specs.declared.hwrite.Hwrite.{Hwrite}
use Rattle.dial_lib.specs.declared.hwrite.HwritePhase.{HwritePhase}
use Rattle.dial_lib.specs.declared.hwrite.HwritePhase.TheVariants as phase
use Rattle.dial_lib.specs.Hwrite as spec
use Rattle.dial_lib.specs.Hwrite.{Stands, IsWrite, IsLeaveData, IsLeaveCall, IsThrough}
use Rattle.dial_lib.specs.Moves.{MovesBy, moves_from}
use Rattle.dial_lib.specs.Names.{none_bound, unbind_free}
use Rattle.dial_lib.specs.Openings.{written_free}
use Rattle.net_base.specs.declared.request.Request.TheVariants as request
use Rattle.net_base.specs.Requests.{head, settled, settles}
use Rattle.script_task.specs.Task.{Heads, AsksSo, MovesSo, follow, fits_play}

-- The open call.

-- the name of a call's data file is bound to such a file
record IsCall (names : Names) (f : Fid) : Type 0 where
  found : fid_of data_name names ≡ Some f
  file_is : f.file ≡ file.Data
  both : f.mode ≡ mode.Both

data_only : (x : FileName) → is_data x ≡ true → x ≡ file.Data
data_only file.Data is = refl
data_only x is = absurd (false≢true is)

both_only : (m : Mode) → is_both m ≡ true → m ≡ mode.Both
both_only mode.Both is = refl
both_only m is = absurd (false≢true is)

call_of : (names : Names) (o : Option Fid) → fid_of data_name names ≡ o → (f : Fid) → option_and_then if_call o ≡ Some f → IsCall names f
call_of names None is f some = absurd (none-some f some)
call_of names (Some g) is f some = by (is_data g.file && is_both g.mode) refl some
  where
    by : (b : Bool) → (is_data g.file && is_both g.mode) ≡ b → (if b then Some g else None) ≡ Some f → IsCall names f
    by true so some =
        let parts = and_parts (is_data g.file) (is_both g.mode) so in
        subst (IsCall names) (same_Some g f some) (record { found = is; file_is = data_only g.file parts.0; both = both_only g.mode parts.1 })
    by false so some = absurd (none-some f some)

open_if : (names : Names) (b : Bool) (f : Fid) → (if b then option_and_then if_call (fid_of data_name names) else None) ≡ Some f → IsCall names f
open_if names true f some = call_of names (fid_of data_name names) refl f some
open_if names false f some = absurd (none-some f some)

open_is : (called : List ℕ) (names : Names) (f : Fid) → open_call called names ≡ Some f → IsCall names f
open_is called names f some = open_if names (was_on called names.heard) f some

-- Its requests.

abbrev written : ℕ → Names → List ℕ → Option Fid → Play
written h names bytes o =
    on_fid o (uses h data_name names) (λ (f : Fid). if is_answer bytes names.heard then answers h names (text_behind bytes) f else misuses h data_name names)

heads_answer : (h : ℕ) (names : Names) (bytes : List ℕ) (f : Fid) → IsCall names f → (b : Bool) → is_answer bytes names.heard ≡ b → Heads h names (Some (spec.hwrites_by bytes names (Some f))) (written h names bytes (Some f))
heads_answer h names bytes f call true is = rw is (_, refl, rw (call.found, call.both, call.file_is) refl)
heads_answer h names bytes f call false is = rw is (_, refl, refl)

heads_open : (h : ℕ) (called bytes : List ℕ) (names : Names) (o : Option Fid) → open_call called names ≡ o → Heads h names (Some (spec.hwrites_by bytes names o)) (written h names bytes o)
heads_open h called bytes names None is = (_, refl, refl)
heads_open h called bytes names (Some f) is = heads_answer h names bytes f (open_is called names f is) (is_answer bytes names.heard) refl

heads_close : (h : ℕ) (names : Names) (o : Option Fid)
    → (ask : Ask) × (head (on_fid o (uses h call_name names) (λ (f : Fid). ends_with (conversation_of h f) (event.Close f.generation) (unbind call_name names))) ≡ Some ask)
heads_close h names None = (_, refl)
heads_close h names (Some f) = (_, refl)

heads : (h : ℕ) (called bytes : List ℕ) (names : Names) (ph : HwritePhase) (p : Play) → Stands h called bytes names ph p → Heads h names (spec.asks_by ph called bytes names) p
heads h called bytes _ _ _ (IsWrite names) = heads_open h called bytes names (open_call called names) refl
heads h called bytes _ _ _ (IsLeaveData names f is) = (_, refl, rw is refl)
heads h called bytes _ _ _ (IsLeaveCall names) = let asked = heads_close h names (fid_of call_name names) in (asked.0, asked.1, asked.1)
heads h called bytes _ _ _ (IsThrough names) = refl

pub asks_so : AsksSo Hwrite spec.asks spec.StandsFor
asks_so h names t p stands = heads h t.name t.bytes names t.phase p stands

-- Its replies.

moved_answer : (h : ℕ) (called bytes : List ℕ) (names : Names) (f : Fid) (r : Reply) → fid_of data_name names ≡ Some f → (b : Bool)
    → fits_play (if b then answers h names (text_behind bytes) f else misuses h data_name names) r ≡ true
    → Stands h called bytes (settled names (if b then request.Write data_name (text_behind bytes) else request.Misuse data_name) r) (spec.phase_after phase.Write r)
    (follow (if b then answers h names (text_behind bytes) f else misuses h data_name names) r)
moved_answer h called bytes names f r is true fit = rw ((written_free r fit).1) (IsLeaveData names f is)
moved_answer h called bytes names f r is false fit = rw fit (IsThrough names)

moved_open : (h : ℕ) (called bytes : List ℕ) (names : Names) (o : Option Fid) (r : Reply) → open_call called names ≡ o → fits_play (written h names bytes o) r ≡ true
    → Stands h called bytes (settled names (spec.hwrites_by bytes names o) r) (spec.phase_after phase.Write r) (follow (written h names bytes o) r)
moved_open h called bytes names None r is fit = rw fit (IsThrough names)
moved_open h called bytes names (Some f) r is fit = moved_answer h called bytes names f r (open_is called names f is).found (is_answer bytes names.heard) fit

moved_close : (h : ℕ) (called bytes : List ℕ) (names : Names) (r : Reply) (o : Option Fid) → fid_of call_name names ≡ o
    → Stands h called bytes (unbind call_name names) phase.Through
    (follow (on_fid o (uses h call_name names) (λ (f : Fid). ends_with (conversation_of h f) (event.Close f.generation) (unbind call_name names))) r)
moved_close h called bytes names r None is =
    subst (λ (left : Names). Stands h called bytes (unbind call_name names) phase.Through (Ends left)) (unbind_free call_name names (none_bound call_name names is)) (IsThrough (unbind call_name names))
moved_close h called bytes names r (Some f) is = IsThrough (unbind call_name names)

moves : (h : ℕ) (called bytes : List ℕ) (names : Names) (ph : HwritePhase) (p : Play) (r : Reply) → Stands h called bytes names ph p → fits_play p r ≡ true
    → Stands h called bytes (settles names (spec.asks_by ph called bytes names) r) (spec.phase_after ph r) (follow p r)
moves h called bytes _ _ _ r (IsWrite names) fit = moved_open h called bytes names (open_call called names) r refl fit
moves h called bytes _ _ _ r (IsLeaveData names f is) fit = IsLeaveCall (unbind data_name names)
moves h called bytes _ _ _ r (IsLeaveCall names) fit = moved_close h called bytes names r (fid_of call_name names) refl
moves h called bytes _ _ _ r (IsThrough names) fit = IsThrough names

moves_by : MovesBy Hwrite spec.asks spec.after spec.StandsFor
moves_by h names t p q r stands asked fit = moves h t.name t.bytes names t.phase p r stands fit

pub moves_so : MovesSo Hwrite spec.asks spec.after spec.StandsFor
moves_so = moves_from Hwrite spec.asks spec.after spec.StandsFor moves_by

-- a fresh one stands for its step
pub fresh : (h : ℕ) (names : Names) (called bytes name other : List ℕ) → name ≡ called → other ≡ bytes
    → spec.StandsFor h names (record { name = name; bytes = other; phase = phase.Write }) (play_of h names (step.Hwrite called bytes))
fresh h names called bytes name other is other_is =
    subst (λ (n : List ℕ). Stands h n other names phase.Write (play_of h names (step.Hwrite called bytes))) (sym is)
    (subst (λ (n : List ℕ). Stands h called n names phase.Write (play_of h names (step.Hwrite called bytes))) (sym other_is) (IsWrite names))
