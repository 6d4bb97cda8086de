use Rattle.std.proofs.Common.{List, length, ap, sym, subst, ◌∙◌}
use Rattle.net_base.specs.declared.actor.ActorName.{ActorName}
use Rattle.net_base.specs.declared.world.World.{World}
use Rattle.net_base.specs.Stamped.{In}
use Rattle.net_base.specs.World.{IsWorld}
use Rattle.net_actors.specs.Numbers.{count_in}
use Rattle.duties.specs.WaysOf.{AreWaysOfWorld}
use Rattle.net_locks.proofs.Rows.{known, blank_names, few_actors, numbered_apart}
use Rattle.net_locks.proofs.locks.Locks+J+WorldActor+J.named.Goals as goal

pub named-requires-clause-distinct : goal.named-requires-clause-distinct
named-requires-clause-distinct g c =
    let w = g.J.Placing.world in
    numbered_apart w (count_in w) g.J.Naming.run.roster.actors c.requires.roster.actors_are

pub named-requires-clause-few : goal.named-requires-clause-few
named-requires-clause-few g c =
    let w = g.J.Placing.world in
    few_actors w (subst (λ (v : World). IsWorld v) (sym c.requires.world) c.requires.is) g.J.Naming.run.roster.actors c.requires.roster.actors_are

pub locks_of-requires-clause-actors : goal.locks_of-requires-clause-actors
locks_of-requires-clause-actors g c a there =
    let w = g.J.Placing.world in
    let r = g.J.Naming.run.roster in
    known w (count_in w) r.actors c.requires.roster.actors_are a
    (subst (λ (l : List ActorName). In a l) (blank_names 0 r.actors c.in_ok-journal.books.items c.in_ok-journal.ensures.books).0 there)

pub locks_of-requires-clause-blank : goal.locks_of-requires-clause-blank
locks_of-requires-clause-blank g c = (blank_names 0 g.J.Naming.run.roster.actors c.in_ok-journal.books.items c.in_ok-journal.ensures.books).1

pub invariant_of-net : goal.invariant_of-net
invariant_of-net g c = record {
  of = record {
    hosts_are = c.len-2.ensures ∙ ap (λ (w : World). length w.hosts) (sym c.requires.world);
    media_are = c.len-3.ensures ∙ ap (λ (w : World). length w.media) (sym c.requires.world);
    ways_are = subst (λ (w : World). AreWaysOfWorld w c.in_ok-ways.ways) (sym c.requires.world) c.in_ok-ways.ensures;
    roster = c.requires.roster;
    actors_are = c.in_ok-locks.ensures ∙ (blank_names 0 g.J.Naming.run.roster.actors c.in_ok-journal.books.items c.in_ok-journal.ensures.books).0;
  };
}
