use Rattle.net_base.specs.Net.{opening_net}
use Rattle.history_laws.proofs.Histories.{after_push, legal_push, timed_push}
use Rattle.history_laws.proofs.Owed.{past_after}
use Rattle.history_laws.proofs.law.histories_grow.Goals as goal

pub returns : goal.returns
returns c = record { net = after_push; past = λ w h. past_after w (opening_net w) h; legal = legal_push; timed = timed_push }
