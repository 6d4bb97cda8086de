use Rattle.std.proofs.Common.{refl, sym}
use Rattle.end_rows.proofs.Changes.{other_row}
use Rattle.end_rows.proofs.rows.follow_entry.Goals as goal

pub follow-requires : goal.follow-requires
follow-requires c = record {
  world = c.requires.0;
  entry = c.args.entry.now;
  is = record { caller_is = refl; event_is = refl };
  follows = c.requires.1;
}

pub returns-in_ok-follow-in-None : goal.returns-in_ok-follow-in-None
returns-in_ok-follow-in-None c = λ w f.
    other_row w c.args.runner.now c.follow.new.self c.args.entry.now c.args.ends.now.entries c.args.stamp c.args.out.now (sym c.in-None.ensures)
    (c.in_ok-follow-in-None.ensures w c.args.entry.now (record { caller_is = refl; event_is = refl }) f).followed
