use Rattle.std.proofs.Common.{rules, ◌∙◌}
use Rattle.host_dir.specs.contracts.slots.EndsPartialEq.TheImpl as derived
use Rattle.host_dir.specs.Tables.{kept_pair}
use Rattle.host_dir.proofs.Index.{lookup_is}
use Rattle.host_dir.proofs.slots.given_to.Goals as goal

pub returns : goal.returns
returns c =
    rw (← c.ends_of.ensures)
    (c.copied.ensures ∙ c.get.ensures.value ∙ lookup_is (derived.eq-value.it c.ends_of.result) (kept_pair c.ends_of.result) c.args.given.now.entries (λ e. search rules))
