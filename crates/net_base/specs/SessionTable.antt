-- What a session knows: the longest message, and the fids with what they stand for.
use Rattle.std.specs.Prelude.{◌≡◌, ◌≤◌, ℕ, ◌==◌, ◌&&◌, Bool, true, false, not, Option, Some, None, is_some, if◌then◌else◌}
use Rattle.std.specs.Option.{option_and_then}
use Rattle.net_base.specs.declared.names.Node.{Node}
use Rattle.net_base.specs.Paths.{node_in_range}
use Rattle.net_base.specs.NinepMessages.{longest}
use Rattle.net_base.specs.declared.ninep.Target.{Target}

pub record Table : Type 0 where
  -- no message was heard yet
  pub is_first : Bool
  -- no message is longer: what the first Tversion agrees on is no more than this is before it
  pub msize : ℕ
  pub fids : ℕ → Option Target

abbrev pub opening : Table
opening = record { is_first = true; msize = longest; fids = λ (n : ℕ). None }

abbrev pub fresh : Node → Target
fresh at = record { node = at; is_used = false }

-- the fid stands for this, whatever it stood for
abbrev pub with_fid : ℕ → Option Target → (ℕ → Option Target) → ℕ → Option Target
with_fid n f fids m = if n == m then f else fids m

abbrev pub set : ℕ → Option Target → Table → Table
set n f t = record t { fids = with_fid n f t.fids }

-- so it does where there is something to stand for
abbrev pub with_target : ℕ → Option Target → Table → Table
with_target n None t = t
with_target n (Some f) t = set n (Some f) t

abbrev pub if_used : Target → Option Target
if_used f = if f.is_used then Some f else None

-- what a fid stands for that was opened
abbrev pub used : Table → ℕ → Option Target
used t n = option_and_then if_used (t.fids n)

-- a walk to newfid finds it taken: it is another fid than fid, and known
abbrev pub is_taken : Table → ℕ → ℕ → Bool
is_taken t fid newfid = not (fid == newfid) && is_some (t.fids newfid)

-- what a session knows after any messages
pub record IsSound (t : Table) : Type 0 where
  pub least : 256 ≤ t.msize
  pub most : t.msize ≤ longest
  pub nodes : (fid : ℕ) (f : Target) → t.fids fid ≡ Some f → node_in_range f.node ≡ true
