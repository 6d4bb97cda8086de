-- A part of a history.
use Rattle.std.specs.Prelude.{ℕ, List, take, drop}
use Rattle.net_base.specs.declared.history.Entry.{Entry}

-- the entries from a stamp up to another
abbrev pub part : ℕ → ℕ → List Entry → List Entry
part first last xs = drop first (take last xs)
