use Rattle.net_chart.proofs.Showing.{all_flights, all_losses}
use Rattle.net_chart.proofs.law.ways_are_shown.Goals as goal

pub returns : goal.returns
returns c = λ brief h. record { flights = all_flights brief h; losses = all_losses brief h }
