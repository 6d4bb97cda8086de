use Rattle.std.proofs.Common.{refl}
use Rattle.replay_views.proofs.savefile.record_header.Goals as goal

pub returns : goal.returns
returns c = rw (c.write_u32-4.ensures, c.write_u32-3.ensures, c.write_u32-2.ensures, c.write_u32.ensures) refl
