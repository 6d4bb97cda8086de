use Rattle.std.proofs.Common.{refl, sym, ◌∙◌, inr}
use Rattle.ndb_dns.proofs.Reading.{no_run_end}
use Rattle.ndb_dns.proofs.name.add_run.Goals as goal

pub returns-in_default-clause-refused : goal.returns-in_default-clause-refused
returns-in_default-clause-refused c =
    inr (refl, no_run_end c.args.bytes.now c.args.place c.split_at.result.1.now c.args.text.now c.in_ok-rest.rest.now _ c.split_at.ensures.back c.in_ok-rest.ensures.found (sym c.ending.ensures.value ∙ c.in_default.is))
