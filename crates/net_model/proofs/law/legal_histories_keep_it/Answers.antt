use Rattle.net_model.proofs.CsAnswers.{answers_cs}
use Rattle.net_model.proofs.DnsOrder.{answers_questions}
use Rattle.net_model.proofs.OwnEntries.{keeps_script}
use Rattle.net_model.proofs.PlainHistories.{legal_is_plain}
use Rattle.net_model.proofs.law.legal_histories_keep_it.Goals as goal

pub returns : goal.returns
returns c = λ w h world legal. record {
  in_script_order = λ k s is. keeps_script w k s is h legal;
  imports_answered = c.imports_are_answered.ensures w h world legal;
  questions = λ k s is. answers_questions w k s is h legal;
  cs = λ k x query stands is. answers_cs w h k x query legal stands is;
  in_order = λ e f il is. c.prefix_law.ensures.in_order w h e f world legal il is;
  alone = λ e il none. c.prefix_law.ensures.alone w h e world legal il none;
  datagrams = λ e k count text udp is. c.prefix_law.ensures.datagrams w h e k count text world legal udp is;
  plain = legal_is_plain w world h legal;
}
