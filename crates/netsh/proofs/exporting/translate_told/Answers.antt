use Rattle.std.proofs.Common.{rules}
use Rattle.netsh.proofs.exporting.translate_told.Goals as goal

pub returns : goal.returns
returns c = (c.in_ok-translated.translated.world, c.in_ok-translated.ensures.translated, search (rules))
