use Rattle.std.proofs.Common.{refl}
use Rattle.plain_runner.proofs.Recorded.{come, got, recorded_so}
use Rattle.plain_runner.proofs.runner.Runner.record.Goals as goal

pub record-requires : goal.record-requires
record-requires c =
    let r = c.args.self.now in
    let k = c.index_mut-taken.result.now in
    record {
      world = c.requires.ready.0;
      past = r.history.entries;
      comes = come c.requires.ready.0 r c.args.caller c.args.turn k c.requires.ready.1
          (got r.callers.items c.args.caller k c.requires.caller c.index_mut-taken.ensures.value);
    }

pub returns : goal.returns
returns c =
    let r = c.args.self.now in
    let k = c.index_mut-taken.result.now in
    λ w before.
    recorded_so w r _ c.args.caller c.args.turn c.record.new.caller c.in_ok-entry.entry c.requires.caller before
    (c.in_ok-entry.ensures w r.history.entries
    (come w r c.args.caller c.args.turn k before (got r.callers.items c.args.caller k c.requires.caller c.index_mut-taken.ensures.value)))
    c.with-self.ensures refl refl refl c.moment_after-self.ensures
