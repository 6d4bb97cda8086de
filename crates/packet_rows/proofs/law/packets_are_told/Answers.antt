use Rattle.packet_rows.proofs.Rising.{all_rise}
use Rattle.packet_rows.proofs.Takes.{all_takes}
use Rattle.packet_rows.proofs.law.packets_are_told.Goals as goal

pub returns : goal.returns
returns c = λ w h. record { takes = λ key. all_takes w h key; sorted = all_rise w h }
