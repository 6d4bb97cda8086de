use Rattle.history_laws.proofs.Asked.{in_order}
use Rattle.history_laws.proofs.law.tasks_ask_in_order.Goals as goal

pub returns : goal.returns
returns c = λ ts w h caller s asks legal script plays. in_order ts w caller s asks script plays h legal
