-- Numbers and places that are in their ranges.
use Rattle.std.specs.Prelude.{◌≡◌, ◌≢◌, ℕ, ◌^◌, List, ◌∷◌, ◌++◌, Option, Some, None, MatchOption, nat_lt, if◌then◌else◌}
use Rattle.std.specs.Borrow.{Bor}
use Rattle.net_base.specs.declared.address.Addr.{Addr}
use Rattle.net_base.specs.declared.names.Ctl.{Ctl}
use Rattle.net_base.specs.ControlWords.{is_port, is_place, single, with_number, connect_of, announce_of}

-- a number that stands for all that are as large: no number of a control is
abbrev pub cap : ℕ
cap = 68719476736

abbrev pub kept_port : ℕ → Option ℕ
kept_port n = if is_port n then Some n else None

abbrev pub kept_byte : ℕ → Option ℕ
kept_byte n = if nat_lt n 256 then Some n else None

abbrev pub kept_ip : Option ℕ → Option ℕ
kept_ip None = None
kept_ip (Some ip) = if nat_lt ip (2 ^ 32) then Some ip else None

abbrev pub kept_place : Option Addr → Option Addr
kept_place None = None
kept_place (Some a) = if is_place a then Some a else None

-- what stands behind a front, where the text begins with it
abbrev pub Begins : List ℕ → List ℕ → Option (Bor (List ℕ)) → Type 0
Begins text front result = MatchOption result ((rest : List ℕ) → text ≢ front ++ rest) (λ rest. text ≡ front ++ rest.now)

-- more parts than one
pub record AreMany (parts : List (List ℕ)) : Type 0 where
  pub not_single : single parts ≡ None
  pub no_number : (control : ℕ → Ctl) → with_number control parts ≡ None
  pub no_connect : (at : List ℕ) → connect_of (at ∷ parts) ≡ None
  pub no_announce : (host : List ℕ) → announce_of (host ∷ parts) ≡ None
