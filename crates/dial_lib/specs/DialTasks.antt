-- A dial asks and moves as its play does.
use Rattle.std.proofs.Common.{◌≡◌, ℕ, List, sym, subst}
use Rattle.net_base.specs.declared.world.Step.TheVariants as step
use Rattle.net_base.specs.Steps.{Names, play_of}
use Rattle.dial_lib.specs.declared.dial.DialPhase.TheVariants as phase
use Rattle.dial_lib.specs.DialAsks.{dial_asks}
use Rattle.dial_lib.specs.DialMoves.{dial_moves}
use Rattle.dial_lib.specs.Dials as spec
use Rattle.dial_lib.specs.Dials.{Dialling, Stands, IsFresh}
use Rattle.dial_lib.specs.Moves.{MovesBy, moves_from}
use Rattle.script_task.specs.Task.{AsksSo, MovesSo}

pub asks_so : AsksSo Dialling spec.asks spec.StandsFor
asks_so h names d p stands = dial_asks h d.called d.address names d.phase d.lines p stands

moves_by : MovesBy Dialling spec.asks spec.after spec.StandsFor
moves_by h names d p q r stands asked fit = dial_moves h d.called d.address names d.phase d.lines p q r stands asked fit

pub moves_so : MovesSo Dialling spec.asks spec.after spec.StandsFor
moves_so = moves_from Dialling spec.asks spec.after spec.StandsFor moves_by

-- a fresh one stands for its step
pub fresh : (h : ℕ) (names : Names) (called address name other : List ℕ) (lines : List (List ℕ)) → name ≡ called → other ≡ address
    → spec.StandsFor h names (record { called = name; address = other; phase = phase.Fresh; lines = lines }) (play_of h names (step.Dial called address))
fresh h names called address name other lines is other_is =
    subst (λ (n : List ℕ). Stands h n other names phase.Fresh lines (play_of h names (step.Dial called address))) (sym is)
    (subst (λ (n : List ℕ). Stands h called n names phase.Fresh lines (play_of h names (step.Dial called address))) (sym other_is) (IsFresh lines))
