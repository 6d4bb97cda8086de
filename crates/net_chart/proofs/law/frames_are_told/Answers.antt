use Rattle.net_chart.proofs.Telling.{all_arrows, all_crosses}
use Rattle.net_chart.proofs.law.frames_are_told.Goals as goal

pub returns : goal.returns
returns c = λ brief h. record { crosses = all_crosses brief h; arrows = all_arrows brief h }
