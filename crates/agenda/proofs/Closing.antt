-- What the history of players is.
use Rattle.std.proofs.Common.{◌≡◌, List, subst}
use Rattle.net_base.specs.declared.history.Entry.{Entry}
use Rattle.net_base.specs.declared.world.World.{World}
use Rattle.net_base.specs.Legal.{IsLegalBy, IsTimedBy}
use Rattle.net_base.specs.Tasks.{Tasks}
use Rattle.host_net.specs.Advancing.{IsHistoryOf}
use Rattle.host_net.specs.Answering.{AreAfter}
use Rattle.host_net.specs.Playing.{AreVisitsPlayed}
use Rattle.net_guests.specs.Visits.{Finished, Visit}

module _ (ts : Tasks) (w : World) (vs : List Visit) (h : List Entry) (finished : Finished ts w vs h) (plays : AreVisitsPlayed ts w vs) where
  pub closed_legal : IsLegalBy ts w h
  closed_legal = finished.legal (λ v in_it. (plays v in_it).nexts)

  pub closed_timed : IsTimedBy ts w h
  closed_timed = finished.timed (λ v in_it. (plays v in_it).timely)

  pub closed_after : (players : List Visit) → vs ≡ players → AreAfter w players h
  closed_after players same =
      let of_these : AreAfter w vs h = record { lists = finished.lists; owes = finished.owes } in
      subst (λ (us : List Visit). AreAfter w us h) same of_these

  pub closed_history : (players : List Visit) → vs ≡ players → IsHistoryOf ts w players h
  closed_history players same =
      let of_these : IsHistoryOf ts w vs h = record { legal = closed_legal; timed = closed_timed; lists = finished.lists } in
      subst (λ (us : List Visit). IsHistoryOf ts w us h) same of_these
