use Rattle.std.proofs.Common.{◌≡◌, ◌++◌, length, take, All}
use Rattle.std.specs.List.{flat_map}
use Rattle.net_base.specs.NinepFields.{number_bytes, qid, IsQid}
use Rattle.ninep_wire.proofs.put.put_qids.Given as goal

-- so many qids are written, and they have a spelling
abbrev pub invariant-loop-one : goal.invariant-loop-one
invariant-loop-one l =
    (l.out ≡ l.fn.out ++ (number_bytes 2 (length l.qids) ++ flat_map qid (take l.one-index l.qids))) × All IsQid (take l.one-index l.qids)
