use Rattle.std.proofs.Common.{List, Option, ℕ, take, subst, sym, ◌∙◌}
use Rattle.net_base.specs.declared.history.Entry.{Entry}
use Rattle.net_base.specs.Legal.{IsLegal}
use Rattle.expected_entry.specs.Expected.{ComesNext, IsExpected}
use Rattle.expected_entry.proofs.Playing.{caller_is}
use Rattle.expected_entry.proofs.input.expected_at.Goals as goal

pub expected_entry-requires-clause-legal : goal.expected_entry-requires-clause-legal
expected_entry-requires-clause-legal c =
    subst (λ (h : List Entry). IsLegal c.args.world.now (take c.args.stamp h)) (sym c.as_slice.ensures) c.requires.fault.1.legal

pub returns-in_ok-line_of-in-Some-found : goal.returns-in_ok-line_of-in-Some-found
returns-in_ok-line_of-in-Some-found c =
    let w = c.args.world.now in
    let fault = c.requires.fault.1 in
    let x = c.in-Some-found.entry in
    let next = subst (λ (found : Option Entry). IsExpected w (take c.args.stamp c.as_slice.result.now) c.in-Some.wanted found) c.in-Some-found.is
    c.in_ok-found.ensures in
    let here = subst (λ (h : List Entry). ComesNext w (take c.args.stamp h) c.in-Some.wanted x) c.as_slice.ensures next in
    let by = caller_is c.args.history c.args.stamp c.in-Some.wanted fault.entry fault.stands (sym c.in-Some.is ∙ c.caller_at.ensures) in
    record {
      stamp = c.args.stamp;
      rule = c.requires.fault.0;
      found = x;
      stands = fault;
      is = subst (λ (n : ℕ). ComesNext w (take c.args.stamp c.args.history) n x) by here;
      text_is = c.in_ok-line_of-in-Some-found.ensures;
    }
