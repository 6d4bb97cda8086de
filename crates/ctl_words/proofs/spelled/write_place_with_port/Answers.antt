use Rattle.std.proofs.Common.{subst, List, ℕ}
use Rattle.ctl_words.specs.Written.{Lays}
use Rattle.ctl_words.proofs.Pieces.{place_fits, last_fits, place_port_pieces}
use Rattle.ctl_words.proofs.spelled.write_place_with_port.Goals as goal

pub write-requires : goal.write-requires
write-requires c = place_fits c.args.word.now _ c.args.ip c.args.port c.requires (last_fits c.args.last c.ranges.last.fits) c.ranges.ip.fits c.ranges.port.fits

pub returns : goal.returns
returns c =
    subst (λ (t : List ℕ). Lays t c.args.out.now c.write.new.out c.write.result)
    (place_port_pieces c.args.word.now c.args.ip c.args.port c.args.last) c.write.ensures
