-- Where a text says no world: the lines before the first bad one, and what is bad.
use Rattle.std.specs.Prelude.{◌≡◌, ℕ, ◌+◌, ◌⊎◌, true, false, List, [], ◌∷◌, ◌++◌, length, codes, Some}
use Rattle.std.specs.List.{list_all}
use Rattle.net_base.specs.declared.world.World.{World}
use Rattle.net_base.specs.NdbText.{is_empty}
use Rattle.world_text.specs.declared.line.LineCause.{LineCause}
use Rattle.world_text.specs.LineCauses.{cause_number_of}
use Rattle.world_text.specs.VersionLines.{bad_version_line}
use Rattle.world_text.specs.WorldLines.{Draft, Goes, Begins, Bad, line_verdict}
use Rattle.world_text.specs.WorldSpelling.{laid, is_line, IsHeaded}
use Rattle.world_text.specs.WorldText.{missing}

-- each of these lines goes on, and the last one leaves this world
abbrev pub LeadsToWorld : Draft → List (List ℕ) → Draft → Type 0
LeadsToWorld d [] e = d ≡ e
LeadsToWorld d (line ∷ lines) e = (next : Draft) × (line_verdict d line ≡ Goes next) × LeadsToWorld next lines e

-- a line ends here: nothing follows, or a newline
abbrev pub EndsLine : List ℕ → Type 0
EndsLine rest = (rest ≡ []) ⊎ ((more : List ℕ) × (rest ≡ 10 ∷ more))

-- the n-th line of a text, whose first line has this number and stands behind that world so far, is bad for the cause c
pub record IsBadLineOf (d : Draft) (first : ℕ) (text : List ℕ) (n c : ℕ) : Type 0 where
  pub good : List (List ℕ)
  pub line : List ℕ
  pub rest : List ℕ
  pub so_far : Draft
  pub parts : text ≡ laid good ++ (line ++ rest)
  pub ended : EndsLine rest
  pub whole : list_all is_line (line ∷ good) ≡ true
  pub leads : LeadsToWorld d good so_far
  pub cause : LineCause
  pub bad : line_verdict so_far line ≡ Bad cause
  pub number : c ≡ cause_number_of cause
  pub place : n ≡ first + length good

-- the lines up to `ndb` are good, and a line of the versions behind it is bad
pub record IsBadBundle (d : Draft) (first : ℕ) (text : List ℕ) (n c : ℕ) : Type 0 where
  pub good : List (List ℕ)
  pub bundle : List ℕ
  pub so_far : Draft
  pub world : World
  pub line : ℕ
  pub parts : IsHeaded text good bundle
  pub whole : list_all is_line good ≡ true
  pub leads : LeadsToWorld d good so_far
  pub begins : line_verdict so_far (codes "ndb") ≡ Begins world
  pub bad : bad_version_line bundle ≡ Some (line, c)
  pub place : n ≡ first + length good + line

-- all lines are good, and none is `ndb`: the number is one past the last line
pub record IsUnended (d : Draft) (first : ℕ) (text : List ℕ) (n c : ℕ) : Type 0 where
  pub good : List (List ℕ)
  pub so_far : Draft
  -- the last line may lack its newline, where it isn't empty
  pub parts : (text ≡ laid good)
      ⊎ ((before : List (List ℕ)) × (last : List ℕ) × (good ≡ before ++ last ∷ []) × (text ≡ laid before ++ last) × (is_empty last ≡ false))
  pub whole : list_all is_line good ≡ true
  pub leads : LeadsToWorld d good so_far
  pub place : n ≡ first + length good
  pub cause : c ≡ cause_number_of (missing so_far)

-- the text is refused at its n-th line for the cause c
abbrev pub IsTextRefused : Draft → ℕ → List ℕ → ℕ → ℕ → Type 0
IsTextRefused d first text n c = IsBadLineOf d first text n c ⊎ (IsBadBundle d first text n c ⊎ IsUnended d first text n c)
