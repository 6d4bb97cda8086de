use Rattle.std.proofs.Common.{length, refl, ap, ◌∙◌}
use Rattle.std.proofs.lemmas.Option.{slice_get_read}
use Rattle.journal.proofs.Placing.{long_set, placed_all, placed_next}
use Rattle.journal.proofs.places.note.Goals as goal

pub loop-at-preserved : goal.loop-at-preserved
loop-at-preserved c =
    let es = c.args.entries.now in
    let l = c.loop-at in
    let x = c.index-entries-at.result in
    let got = slice_get_read es (length es) l.at x refl c.loop-at-test.true c.index-entries-at.is in
    record {
      long = ap length c.note_at.ensures ∙ long_set l.places.items x.stamp record { list = c.args.list; at = l.at } ∙ l.invariant.long;
      placed = λ ls behind were.
          placed_next ls es l.at l.places.items c.note_at.new.places.items x c.args.list got behind c.note_at.ensures (l.invariant.placed ls behind were);
    }

pub returns-clause-placed : goal.returns-clause-placed
returns-clause-placed c = λ ls behind were.
    placed_all ls c.args.entries.now c.loop-at.at c.loop-at.places.items c.loop-at-test.false (c.loop-at.invariant.placed ls behind were)
