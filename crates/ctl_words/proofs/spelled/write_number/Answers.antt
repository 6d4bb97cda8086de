use Rattle.ctl_words.proofs.Pieces.{number_fits}
use Rattle.ctl_words.proofs.spelled.write_number.Goals as goal

pub write-requires : goal.write-requires
write-requires c = number_fits c.args.word.now c.args.n c.requires c.ranges.n.fits
