-- A dial asks for what its play records.
use Rattle.std.proofs.Common.{◌≡◌, ℕ, Bool, true, false, List, [], ◌∷◌, ◌++◌, Some, codes, if◌then◌else◌, refl}
use Rattle.net_base.specs.declared.names.FileName.TheVariants as file
use Rattle.net_base.specs.Steps.{Names, Fid, Play, fid_of, is_bound, bind, uses, asks_cs, closes_last, connected, dials, netmkaddr, dotted_name, line_address}
use Rattle.dial_lib.specs.declared.dial.DialPhase.{DialPhase}
use Rattle.dial_lib.specs.AnnounceLaws.{announce_found, writing_heads}
use Rattle.dial_lib.specs.BesideLaws.{opens_head}
use Rattle.dial_lib.specs.Dials.{Stands, IsFresh, IsOpen, IsOver, IsWrite, IsWait, IsRetry, IsData, IsClose, IsThrough, HoldsCtl, asks_by, retrying}
use Rattle.dial_lib.specs.Names.{apart}
use Rattle.net_base.specs.declared.request.Request.TheVariants as request
use Rattle.script_task.specs.Task.{Heads}

fresh : (h : ℕ) (names : Names) (called dotted address : List ℕ) (next : List (List ℕ) → Play) (b c : Bool)
    → Heads h names (Some (if b then request.Unbound called else (if c then request.Unbound dotted else request.Cs (netmkaddr address (codes "net") (codes "9fs")))))
    (if b then uses h called names else (if c then uses h dotted names else asks_cs h address next))
fresh h names called dotted address next true c = (_, refl, refl)
fresh h names called dotted address next false true = (_, refl, refl)
fresh h names called dotted address next false false = (_, refl, refl)

-- the dotted name is bound in front
pub made_found : (called : List ℕ) (base names : Names) (made : Fid) → HoldsCtl called base names made → fid_of (dotted_name called) names ≡ Some made
made_found called base names made holds = announce_found (dotted_name called) base names made holds.names_are

pub still_free : (called : List ℕ) (base names : Names) (made : Fid) → HoldsCtl called base names made → is_bound names called ≡ false
still_free called base names made holds = rw (holds.names_are, apart called) holds.free.name

pub dial_asks : (h : ℕ) (called address : List ℕ) (names : Names) (ph : DialPhase) (lines : List (List ℕ)) (p : Play)
    → Stands h called address names ph lines p → Heads h names (asks_by ph called address lines names) p
dial_asks h called address names _ _ _ (IsFresh lines) = fresh h names called (dotted_name called) address (dials h called names) (is_bound names called) (is_bound names (dotted_name called))
dial_asks h called address names _ _ _ (IsOpen [] free) = refl
dial_asks h called address names _ _ _ (IsOpen (line ∷ lines) free) = (_, refl, rw free.dotted refl)
dial_asks h called address names _ _ _ IsOver = refl
dial_asks h called address names _ _ _ (IsWrite base made line lines holds) =
    writing_heads h names (dotted_name called) (codes "connect " ++ line_address line) made (made_found called base names made holds) holds.both (retrying h called base made lines) (connected h called base made)
dial_asks h called address names _ _ _ (IsWait base made line lines holds) = (_, refl, rw (made_found called base names made holds) refl)
dial_asks h called address names _ _ _ (IsRetry base made line lines holds) = (_, refl, rw (made_found called base names made holds) refl)
dial_asks h called address names _ _ _ (IsData base made lines holds) =
    rw (made_found called base names made holds)
    (opens_head h names called made file.Data (closes_last h made base) (λ (data_file : Fid). closes_last h made (bind called data_file base)) (still_free called base names made holds) holds.slot refl)
dial_asks h called address names _ _ _ (IsClose base made lines is left) = (_, refl, rw is refl)
dial_asks h called address names _ _ _ (IsThrough lines) = refl
