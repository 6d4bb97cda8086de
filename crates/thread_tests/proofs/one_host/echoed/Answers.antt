use Rattle.std.proofs.Common.{◌≡◌, ap, ◌∙◌}
use Rattle.net_base.specs.Callers.{caller_count}
use Rattle.thread_tests.proofs.Staying.{fresh_three, has_three, callers_of}
use Rattle.thread_tests.proofs.one_host.echoed.Goals as goal

pub play-held-requires-clause-callers : goal.play-held-requires-clause-callers
play-held-requires-clause-callers g c =
    let few : g.J.Naming.run.roster.callers ≡ 3 = c.requires.roster.callers_are ∙ ap caller_count (c.requires.world ∙ c.requires.worked) in
    ap callers_of c.deref_mut.ensures.value ∙ fresh_three _ c.in_ok-net.guests.items c.in_ok-net.ensures.fresh (c.in_ok-net.ensures.many ∙ few)

pub finish-requires : goal.finish-requires
finish-requires g c =
    let few : g.J.Naming.run.roster.callers ≡ 3 = c.requires.roster.callers_are ∙ ap caller_count (c.requires.world ∙ c.requires.worked) in
    let guests = c.in_ok-net.guests in
    record { all = λ k lt. has_three g.J.Naming.run.roster.callers guests.len c.play-held.new.guests _ few (guests.ok.0 ∙ (c.in_ok-net.ensures.many ∙ few)) c.play-held.ensures k lt }
