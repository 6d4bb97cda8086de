-- Sources and sinks in memory, as contracts see them.
use Rattle.std.specs.Prelude.{ℕ, ◌+◌, min, List}

-- what is left, the numbers of the calls that fail, and how many calls and faults there were
pub record Supply : Type 0 where
  pub left : List ℕ
  pub fails : List ℕ
  pub calls : ℕ
  pub faults : ℕ

-- what is held, for how many bytes there is room, the numbers of the calls that fail, and how many calls and faults there were
pub record Store : Type 0 where
  pub held : List ℕ
  pub room : ℕ
  pub fails : List ℕ
  pub calls : ℕ
  pub faults : ℕ

-- one more, up to the last value that 64 bits have
abbrev pub one_more_counted : ℕ → ℕ
one_more_counted n = min (n + 1) 18446744073709551615
