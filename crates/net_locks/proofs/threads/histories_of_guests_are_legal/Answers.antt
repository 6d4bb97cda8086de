use Rattle.net_locks.proofs.Whole.{but_scripts, legal, timed}
use Rattle.net_locks.proofs.threads.histories_of_guests_are_legal.Goals as goal

pub returns : goal.returns
returns c =
    record {
      but_scripts = λ w r log g. (but_scripts c.histories_grow.ensures.net w r g.actors_are g.callers_are log g.lawful g.turns).0;
      net = λ w r log g. (but_scripts c.histories_grow.ensures.net w r g.actors_are g.callers_are log g.lawful g.turns).1;
      legal = λ ts w r log g. legal c.histories_grow.ensures.net w r g.actors_are g.callers_are log g.lawful g.turns ts;
      timed = λ ts w r log g. timed c.histories_grow.ensures.net w r g.actors_are g.callers_are log g.lawful g.turns ts;
    }
