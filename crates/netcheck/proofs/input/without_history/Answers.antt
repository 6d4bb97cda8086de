use Rattle.std.proofs.Common.{arith, refl}
use Rattle.netcheck.proofs.Halves.{cuts_few}
use Rattle.netcheck.proofs.Handing.{lacks_history, lacks_told}
use Rattle.netcheck.proofs.input.without_history.Goals as goal
use Rattle.netcheck.proofs.input.without_history.Goals.{in-Ok, in-Err}

pub missing-requires : goal.missing-requires
missing-requires c = omega (arith, c.requires.limit, c.requires.lines, cuts_few c.args.input.now)

pub returns : goal.returns
returns c = elim c.match-read_world.branch [
  | in-Ok w ↦
      rw (w.result-is, w.missing.ensures) (lacks_history c.args.input.now _ c.args.lines _ c.requires.none w.in-Ok.ensures.ok c.requires.lines refl)
  | in-Err w ↦ rw (w.result-is, w.of_world.ensures) (lacks_told c.args.input.now w.in-Err.error c.requires.none w.in-Err.ensures.bad)
]
