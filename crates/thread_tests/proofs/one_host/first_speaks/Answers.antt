use Rattle.std.proofs.Common.{get_or, ap, ◌∙◌}
use Rattle.net_base.specs.declared.world.World.{World}
use Rattle.net_base.specs.Callers.{caller_of}
use Rattle.thread_tests.specs.Worked as worked
use Rattle.thread_tests.proofs.Staying.{first_is}
use Rattle.thread_tests.proofs.one_host.first_speaks.Goals as goal

pub script_speaks-requires : goal.script_speaks-requires
script_speaks-requires g c =
    let guests = c.args.guests.now in
    let d = c.index-guests-0.result in
    let called = (get_or guests 0 d).caller in
    record {
      script = (
        worked.worked_script,
        ap (λ (w : World). caller_of w called) c.requires.world ∙ ap (caller_of worked.echo_world) (first_is guests d c.requires.callers),
      );
    }
