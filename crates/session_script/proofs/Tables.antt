-- Tables that are alike.
use Rattle.std.proofs.Common.{◌≡◌, ℕ, Bool, true, Option, None, ap}
use Rattle.net_base.specs.declared.ninep.Target.{Target}
use Rattle.net_base.specs.SessionTable.{Table, opening}

abbrev pub table_of : Bool → ℕ → (ℕ → Option Target) → Table
table_of is_first msize fids = record { is_first = is_first; msize = msize; fids = fids }

pub opens_so : (fids : ℕ → Option Target) → fids ≡ (λ n. None) → table_of true 8216 fids ≡ opening
opens_so fids none = ap (table_of true 8216) none

pub opens_shorter : (msize : ℕ) (fids : ℕ → Option Target) → fids ≡ (λ n. None) → table_of true msize fids ≡ record opening { msize = msize }
opens_shorter msize fids none = ap (table_of true msize) none
