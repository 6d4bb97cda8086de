-- An hread asks and moves as its play does.
use Rattle.std.proofs.Common.{◌≡◌, ℕ, Bool, true, false, List, Some, if◌then◌else◌, refl, sym, subst}
use Rattle.net_base.specs.declared.address.Addr.{Addr}
use Rattle.net_base.specs.declared.address.Proto.{Proto}
use Rattle.net_base.specs.declared.names.FileName.TheVariants as file
use Rattle.net_base.specs.declared.reply.Reply.{Reply}
use Rattle.net_base.specs.declared.world.Step.TheVariants as step
use Rattle.net_base.specs.Steps.{Names, Play, Ends, hearing, is_accepted, taken_name, remote_name, local_name, bytes_in, address_told, play_of}
use Rattle.dial_lib.specs.declared.call.CallPhase.{CallPhase}
use Rattle.dial_lib.specs.declared.call.CallPhase.TheVariants as phase
use Rattle.dial_lib.specs.declared.hread.Hread.{Hread}
use Rattle.dial_lib.specs.Calls.{TakesCall, IsFresh, IsData, IsRemote, IsTellRemote, IsCloseRemote, IsLocal, IsTellLocal, IsCloseLocal, IsRead, IsShutRemote, IsShutLocal, IsShutData, IsShutCall, IsThrough, AreFree, asks_by, if_so, open_names, phase_after, remote_after, local_after, shuts_data}
use Rattle.dial_lib.specs.CallLaws as laws
use Rattle.dial_lib.specs.Hread as spec
use Rattle.dial_lib.specs.Moves.{MovesBy, moves_from}
use Rattle.dial_lib.specs.Slots.{HaveSlots}
use Rattle.net_base.specs.Requests.{settles}
use Rattle.script_task.specs.Task.{AsksSo, MovesSo, follow, fits_play}

-- what was told changes no name
still_free : (called : List ℕ) (remote local : Addr) (base : Names) → AreFree base → AreFree (hearing (spec.heard_so called remote local) base)
still_free called remote local base free = record {
  slots = free.slots;
  data_free = free.data_free;
  call_free = free.call_free;
  remote_free = free.remote_free;
  local_free = free.local_free;
}

pub asks_so : AsksSo Hread spec.asks spec.StandsFor
asks_so h names t p stands =
    laws.call_heads h t.name (spec.hears_next h t.name t.count) (λ (remote local : Addr). Some (spec.reads_so t.name t.count remote local)) (λ base q n g k remote local. (_, refl, refl)) names t.phase t.remote t.local p stands

read_moves : (h : ℕ) (called : List ℕ) (count : ℕ) (base : Names) (p : Proto) (n g k : ℕ) (remote local : Addr) → AreFree base → (b : Bool)
    → TakesCall h called (spec.hears_next h called count) (open_names (hearing (spec.heard_so called remote local) base) p n g k) (if_so b phase.Through phase.ShutData) remote local
    (if b then Ends (open_names (hearing (spec.heard_so called remote local) base) p n g k) else shuts_data h (hearing (spec.heard_so called remote local) base) p n g k)
read_moves h called count base p n g k remote local free true = IsThrough (open_names (hearing (spec.heard_so called remote local) base) p n g k) remote local
read_moves h called count base p n g k remote local free false = IsShutData (hearing (spec.heard_so called remote local) base) p n g k remote local (still_free called remote local base free)

moves : (h : ℕ) (called : List ℕ) (count : ℕ) (names : Names) (ph : CallPhase) (remote local : Addr) (p : Play) (r : Reply)
    → TakesCall h called (spec.hears_next h called count) names ph remote local p → fits_play p r ≡ true
    → TakesCall h called (spec.hears_next h called count) (settles names (asks_by ph called (Some (spec.reads_so called count remote local)) names) r)
    (phase_after ph phase.Through r) (remote_after ph r remote) (local_after ph r local) (follow p r)
moves h called count _ _ _ _ _ r (IsFresh names remote local slots) fit = laws.moved_fresh h called (spec.hears_next h called count) names remote local r (taken_name names) refl slots fit
moves h called count _ _ _ _ _ r (IsData base p n g remote local free low) fit = laws.moved_data h called (spec.hears_next h called count) base p n g remote local r free low fit
moves h called count _ _ _ _ _ r (IsRemote base p n g k remote local free low) fit = laws.moved_remote h called (spec.hears_next h called count) base p n g k remote local r free low fit
moves h called count _ _ _ _ _ r (IsTellRemote base p n g k j remote local free low) fit = laws.moved_tell_remote h called (spec.hears_next h called count) base p n g k j (address_told (bytes_in r)) local free low (is_accepted r)
moves h called count _ _ _ _ _ r (IsCloseRemote base p n g k j remote local free low) fit = laws.moved_close_remote h called (spec.hears_next h called count) base p n g k j remote local free low (is_accepted r)
moves h called count _ _ _ _ _ r (IsLocal base p n g k remote local free low) fit = laws.moved_local h called (spec.hears_next h called count) base p n g k remote local r free low fit
moves h called count _ _ _ _ _ r (IsTellLocal base p n g k j remote local free) fit = laws.moved_tell_local h called (spec.hears_next h called count) base p n g k j remote (address_told (bytes_in r)) free (is_accepted r)
moves h called count _ _ _ _ _ r (IsCloseLocal base p n g k j remote local free) fit = laws.moved_close_local h called (spec.hears_next h called count) base p n g k j remote local free (is_accepted r)
moves h called count _ _ _ _ _ r (IsShutRemote base p n g k j remote local free) fit = laws.moved_shut_told h called (spec.hears_next h called count) remote_name file.Remote base p n g k j remote local free free.remote_free
moves h called count _ _ _ _ _ r (IsShutLocal base p n g k j remote local free) fit = laws.moved_shut_told h called (spec.hears_next h called count) local_name file.Local base p n g k j remote local free free.local_free
moves h called count _ _ _ _ _ r (IsShutData base p n g k remote local free) fit = laws.moved_shut_data h called (spec.hears_next h called count) base p n g k remote local free
moves h called count _ _ _ _ _ r (IsShutCall base p n g remote local free) fit = laws.moved_shut_call h called (spec.hears_next h called count) base p n g remote local free
moves h called count _ _ _ _ _ r (IsThrough names remote local) fit = IsThrough names remote local
moves h called count _ _ _ _ _ r (IsRead base p n g k remote local free) fit = read_moves h called count base p n g k remote local free (is_accepted r)

moves_by : MovesBy Hread spec.asks spec.after spec.StandsFor
moves_by h names t p q r stands asked fit = moves h t.name t.count names t.phase t.remote t.local p r stands fit

pub moves_so : MovesSo Hread spec.asks spec.after spec.StandsFor
moves_so = moves_from Hread spec.asks spec.after spec.StandsFor moves_by

-- a fresh one stands for its step
pub fresh : (h : ℕ) (names : Names) (called name : List ℕ) (count : ℕ) (remote local : Addr) → name ≡ called → HaveSlots names
    → spec.StandsFor h names (record { name = name; count = count; phase = phase.Fresh; remote = remote; local = local }) (play_of h names (step.Hread called count))
fresh h names called name count remote local is slots =
    subst (λ (x : List ℕ). TakesCall h x (spec.hears_next h x count) names phase.Fresh remote local (play_of h names (step.Hread called count))) (sym is) (IsFresh names remote local slots)
