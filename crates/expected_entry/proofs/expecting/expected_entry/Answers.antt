use Rattle.expected_entry.proofs.Playing.{comes}
use Rattle.expected_entry.proofs.expecting.expected_entry.Goals as goal

pub returns : goal.returns
returns c =
    comes c.args.world.now c.args.past.now c.play.new.runner c.take_turn.new.runner c.args.wanted c.in-Some.caller c.goer.result c.in_ok-entry.entry
    c.in_ok-play.ensures c.in_ok-entry.ensures c.in-Some.is c.goer.ensures.own
