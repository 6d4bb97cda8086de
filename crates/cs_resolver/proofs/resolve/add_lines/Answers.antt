use Rattle.std.proofs.Common.{◌++◌, map, ap, ◌∙◌, List, ℕ}
use Rattle.std.specs.Prelude.{flat_map}
use Rattle.net_base.specs.Cs.{cs_line}
use Rattle.cs_resolver.specs.Targets.{target_text}
use Rattle.cs_resolver.proofs.Answering.{lines_of_is}
use Rattle.cs_resolver.proofs.resolve.add_lines.Goals as goal

pub returns : goal.returns
returns c =
    let net = c.args.net in
    c.in_ok-add_lines_of.ensures
    ∙ ap (λ back. c.args.lines.now ++ back)
    (ap (λ (ports : List ℕ). flat_map (λ target. map (cs_line net (target_text target)) ports) c.args.targets.now) (c.deref.ensures.value ∙ c.in_ok-ports.ensures)
    ∙ lines_of_is c.args.db.now c.args.service.now c.args.targets.now net)
