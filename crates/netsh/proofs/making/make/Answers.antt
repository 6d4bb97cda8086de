use Rattle.netsh.proofs.MadeText.{made_answer}
use Rattle.netsh.proofs.making.make.Goals as goal

pub returns : goal.returns
returns c =
    made_answer c.args.messages c.in_ok-world.world c.in_ok-text.text c.whole.result
    c.in_ok-world.ensures.made c.in_ok-text.ensures c.whole.ensures
