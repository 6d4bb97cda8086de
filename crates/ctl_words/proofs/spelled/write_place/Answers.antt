use Rattle.std.proofs.Common.{subst, [], List, ℕ, arith}
use Rattle.ctl_words.specs.Written.{Lays}
use Rattle.ctl_words.proofs.Pieces.{place_fits, place_pieces}
use Rattle.ctl_words.proofs.spelled.write_place.Goals as goal

pub write-requires : goal.write-requires
write-requires c = place_fits c.args.word.now [] c.args.ip c.args.port c.requires (omega arith) c.ranges.ip.fits c.ranges.port.fits

pub returns : goal.returns
returns c = subst (λ (t : List ℕ). Lays t c.args.out.now c.write.new.out c.write.result) (place_pieces c.args.word.now c.args.ip c.args.port) c.write.ensures
