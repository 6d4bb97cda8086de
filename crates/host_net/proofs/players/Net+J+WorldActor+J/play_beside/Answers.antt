use Rattle.host_net.proofs.Seating.{same_seats}
use Rattle.host_net.proofs.players.Net+J+WorldActor+J.play_beside.Goals as goal

pub returns : goal.returns
returns g c = record { seats = same_seats c.args.groups.now c.play_each_beside.new.groups c.play_each_beside.ensures.many c.play_each_beside.ensures.seats }
