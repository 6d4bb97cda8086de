use Rattle.std.proofs.Common.{◌+◌, sym, rules, ap, ◌∙◌}
use Rattle.std.specs.Option.{option_map}
use Rattle.host_dir.specs.contracts.slots.EndsPartialEq.TheImpl as derived
use Rattle.host_dir.specs.Tables.{kept_pair}
use Rattle.host_dir.proofs.Index.{number_is}
use Rattle.host_dir.proofs.slots.Slots.number_of.Goals as goal

pub returns : goal.returns
returns c =
    rw (← c.self.view_is, ← c.ends_of-ends.ensures)
    (ap (option_map (λ n. n + 1)) (sym c.in_ok-place.was) ∙ ap (option_map (λ n. n + 1)) c.get_index_of.ensures.index
    ∙ number_is (derived.eq-value.it c.ends_of-ends.result) (kept_pair c.ends_of-ends.result) c.self.inside.given.entries (λ e. search rules))

pub returns-in_err-place : goal.returns-in_err-place
returns-in_err-place c =
    rw (← c.self.view_is, ← c.ends_of-ends.ensures)
    (c.from_residual.ensures ∙ ap (option_map (λ n. n + 1)) (sym c.in_err-place.was) ∙ ap (option_map (λ n. n + 1)) c.get_index_of.ensures.index
    ∙ number_is (derived.eq-value.it c.ends_of-ends.result) (kept_pair c.ends_of-ends.result) c.self.inside.given.entries (λ e. search rules))
