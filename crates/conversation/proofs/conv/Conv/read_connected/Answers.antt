use Rattle.std.proofs.Common.{ap}
use Rattle.conversation.specs.Kept.{Seat, seen_core}
use Rattle.conversation.proofs.Reading.{read_of_udp}
use Rattle.conversation.proofs.conv.Conv.read_connected.Goals as goal

pub returns-in_ok-answer-in-Udp-clause-ok : goal.returns-in_ok-answer-in-Udp-clause-ok
returns-in_ok-answer-in-Udp-clause-ok c =
    read_of_udp _ c.args.self.now.conv c.in-Udp.end c.read_udp.new.end c.args.count c.is_over-was_over.result c.in_ok-answer-in-Udp.answer c.left_if-in-Udp.result
    (ap (λ (s : Seat). s.conv) c.self.view_is)
    (ap seen_core c.in-Udp.is)
    c.is_over-was_over.ensures
    c.in_ok-answer-in-Udp.ensures.ok
    c.left_if-in-Udp.ensures
