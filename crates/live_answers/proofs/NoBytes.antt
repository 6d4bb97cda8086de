-- Ghost lines have no bytes, so they can be made with any lines. Assumes `Logic`.
use Rattle.std.proofs.Common.{[], ◌∷◌, refl}
use seplogic.Ra.Ura.{Ura}
use mir.Val.{Val, vstruct, vcons, vnil}
use base.Logic.{ent, emp}
use base.Fml.{Fml}
use types.Logic.{Logic, sem}
use denote.Shadow.{makes_shadow}
use Rattle.live_answers.specs.contracts.ghost_lines.GhostLines as GhostLines

-- the machine's value: a struct of a marker alone
abbrev pub nothing_in : Val
nothing_in = vstruct (vcons (vstruct vnil) vnil)

abbrev pub owned : GhostLines.the_row.Denot → Fml
owned g = GhostLines.the_row.own_val g (nothing_in ∷ [])

pub made : {M : Type 1} {𝓤 : Ura M} (𝓛 : Logic 𝓤) (g : GhostLines.the_row.Denot) → ent 𝓤 (emp 𝓤) (sem 𝓛 (owned g))
made 𝓛 g = makes_shadow 𝓛 (owned g) ((λ vss. (tt, ((λ uss. (tt, tt)), tt))), tt) (((vstruct vnil ∷ [], tt), (refl, ((tt, (refl, tt)), tt))), tt)
