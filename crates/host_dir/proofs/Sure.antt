-- What a call that can't fail leaves.
use Rattle.std.proofs.Common.{Result, Ok, Err}
use Rattle.std.proofs.lemmas.Bool.{false≢true}
use Rattle.std.specs.Result.{IsOk, OnOk}

pub sure : {X E : Type 0} (r : Result X E) (P : Type 0) → IsOk r → OnOk r P → P
sure (Ok x) P fine then = then
sure (Err e) P fine then = absurd (false≢true fine)
