-- The path of a file of a slot is walked to that file.
use Rattle.std.proofs.Common.{◌≡◌, ℕ, ◌<◌, Some, refl}
use Rattle.std.proofs.lemmas.Bool.{lt-ltb}
use Rattle.net_base.specs.declared.address.Proto.{Proto}
use Rattle.net_base.specs.declared.names.FileName.{FileName}
use Rattle.net_base.specs.declared.names.Node.TheVariants as node
use Rattle.net_base.specs.Paths.{path_of, walk}
use Rattle.net_base.proofs.Shared.{walks_exactly}

pub file_walked : (p : Proto) (n : ℕ) (f : FileName) → n < 32 → walk (path_of (node.File p n f)) ≡ Some (node.File p n f)
file_walked p n f low = (walks_exactly (path_of (node.File p n f)) (node.File p n f)).0 (lt-ltb n 32 low, refl)
