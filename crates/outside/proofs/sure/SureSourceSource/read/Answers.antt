use Rattle.outside.proofs.Pieces.{nothing_left}
use Rattle.outside.proofs.sure.SureSourceSource.read.Goals as goal

pub returns-clause-end : goal.returns-clause-end
returns-clause-end c =
    nothing_left _ _ _ _ _ c.as_slice.ensures c.copy_front-n.ensures.most c.requires
