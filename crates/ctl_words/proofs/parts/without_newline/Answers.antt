use Rattle.std.proofs.Common.{arith, length, ◌-◌}
use Rattle.std.proofs.lemmas.Bool.Decides.{nat_tests}
use Rattle.ctl_words.proofs.Newlines.{newline_cut, no_newline}
use Rattle.ctl_words.proofs.parts.without_newline.Goals as goal

pub returns-then-text-last-eq10 : goal.returns-then-text-last-eq10
returns-then-text-last-eq10 c = newline_cut c.args.text.now (length c.args.text.now - 1) (grind (arith, nat_tests)) c.if-text-last-eq10.true

pub returns-else-text-last-eq10 : goal.returns-else-text-last-eq10
returns-else-text-last-eq10 c = no_newline c.args.text.now (length c.args.text.now - 1) (grind (arith, nat_tests)) c.if-text-last-eq10.false
