-- A step of one request asks for its play's event and ends after the reply.
use Rattle.std.proofs.Common.{◌≡◌, ℕ, Bool, true, Some, refl, sym, subst}
use Rattle.net_base.specs.declared.reply.Reply.{Reply}
use Rattle.net_base.specs.Steps.{Names, Play}
use Rattle.dial_lib.specs.declared.one_request.OneRequest.{OneRequest}
use Rattle.dial_lib.specs.Moves.{MovesBy, moves_from}
use Rattle.dial_lib.specs.OneRequest as spec
use Rattle.dial_lib.specs.OneRequest.{Stands, IsFresh, IsThrough}
use Rattle.net_base.specs.declared.request.Request.{Request}
use Rattle.net_base.specs.Requests.{settled, settles}
use Rattle.script_task.specs.Task.{Heads, AsksSo, MovesSo, follow}

heads : (h : ℕ) (names : Names) (q : Request) (b : Bool) (p : Play) → Stands h names q b p → Heads h names (spec.asks_by q b) p
heads h names q _ _ (IsFresh single) = (single.0, single.1, single.1)
heads h names q _ _ IsThrough = refl

moves : (h : ℕ) (names : Names) (q : Request) (b : Bool) (p : Play) (asked : Request) (r : Reply) → Stands h names q b p → spec.asks_by q b ≡ Some asked
    → Stands h (settles names (spec.asks_by q b) r) q true (follow p r)
moves h names q _ _ asked r (IsFresh single) is = subst (λ (p : Play). Stands h (settled names q r) q true p) (sym (single.2 r)) IsThrough
moves h names q _ _ asked r IsThrough is = IsThrough

pub asks_so : AsksSo OneRequest spec.asks spec.StandsFor
asks_so h names t p stands = heads h names t.request t.is_through p stands

moves_by : MovesBy OneRequest spec.asks spec.after spec.StandsFor
moves_by h names t p q r stands asked fit = moves h names t.request t.is_through p q r stands asked

pub moves_so : MovesSo OneRequest spec.asks spec.after spec.StandsFor
moves_so = moves_from OneRequest spec.asks spec.after spec.StandsFor moves_by
