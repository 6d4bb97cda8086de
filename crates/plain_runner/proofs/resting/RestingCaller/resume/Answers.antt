use Rattle.std.proofs.Common.{◌≡◌, ◌<◌, List, length, Some, slice_get, ap, sym, ◌∙◌, arith}
use Rattle.net_base.specs.declared.world.Script.{Script}
use Rattle.plain_runner.proofs.Recorded.{got}
use Rattle.plain_runner.proofs.Rested.{script_resumes, script_within}
use Rattle.plain_runner.proofs.resting.RestingCaller.resume.Goals as goal

pub returns-in_ok-next-in-Script : goal.returns-in_ok-next-in-Script
returns-in_ok-next-in-Script c = λ h rests.
    let w = c.args.world.now in
    let n = c.args.number in
    let s = c.index-as_slice-number.result in
    let within : n < length c.as_slice.result.now =
    omega (arith, script_within w n c.args.self.role c.in-Script.player c.in-Script.is c.requires, ap (λ (ss : List Script). length ss) c.as_slice.ensures) in
    let here : slice_get w.scripts n ≡ Some s =
    ap (λ (ss : List Script). slice_get ss n) (sym c.as_slice.ensures) ∙ got c.as_slice.result.now n s within c.index-as_slice-number.is in
    let both =
    script_resumes w h n c.args.self s c.in-Script.player c.in-Script.is here rests c.next_or_asked.new.player c.in_ok-next-in-Script.next
    c.in_ok-next-in-Script.ensures.same c.in_ok-next-in-Script.ensures.event in
    record {
      stands = record { role_is = both.0; next_is = both.1; own = c.in_ok-next-in-Script.ensures.own rests.own };
      owes = rests.owes;
      entries_is = rests.entries_is;
    }
