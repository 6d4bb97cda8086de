-- What holds of a world that a text is read as.
use Rattle.std.proofs.Common.{◌≡◌, ℕ, Result, Ok, Err}
use Rattle.std.specs.Prelude.{IfOk}
use Rattle.net_base.specs.declared.world.World.{World}
use Rattle.world_file.specs.declared.fault.WorldError.{WorldError}

pub holds : (P : World → Type 0) (answer : Result World WorldError) (reading : Result World (ℕ × ℕ)) → ((w : World) → reading ≡ Ok w → P w) → IfOk answer (λ w. reading ≡ Ok w) → IfOk answer P
holds P (Ok w) reading says is = says w is
holds P (Err e) reading says is = is
