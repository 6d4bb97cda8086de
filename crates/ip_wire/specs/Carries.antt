-- Adding first and carrying at the end.
use Rattle.std.specs.Prelude.{ℕ, ◌+◌, ◌-◌, ◌%◌, ◌==◌, if◌then◌else◌}

-- the word that a sum of words comes to when its carries are added at the lowest bit
abbrev pub around : ℕ → ℕ
around total = if total == 0 then 0 else (total - 1) % 65535 + 1
