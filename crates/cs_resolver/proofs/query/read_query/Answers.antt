use Rattle.cs_resolver.proofs.Parts.{four_parts}
use Rattle.cs_resolver.proofs.query.read_query.Goals as goal

pub returns-in-Some : goal.returns-in-Some
returns-in-Some c =
    four_parts c.args.text.now c.in_ok-rest.field-0.now c.in_ok-rest-2.field-0.now c.in-Some.field-0.now _ _ _
    (rw c.in_ok-rest.was at c.split_first.ensures)
    (rw c.in_ok-rest-2.was at c.split_first-2.ensures)
    (rw c.in-Some.is at c.split_first-3.ensures)
