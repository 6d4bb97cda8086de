use Rattle.std.proofs.Common.{sym, ap, ◌∙◌, arith}
use Rattle.std.specs.Prelude.{bytes_eq, map}
use Rattle.std.specs.List.{position_or_len}
use Rattle.net_base.specs.declared.world.MediumSpec.{MediumSpec}
use Rattle.net_base.specs.World.{all_apart}
use Rattle.world_text.specs.WorldLines as spec
use Rattle.world_file.proofs.Drafts.{past_name, same_media, set_medium, with_media}
use Rattle.world_file.proofs.draft.Draft.set_rates.Goals as goal

pub returns-then-place-len : goal.returns-then-place-len
returns-then-place-len c =
    let change = spec.with_rates c.args.loss c.args.twice c.args.later in
    let len = c.len.ensures ∙ c.self.inside.media.ok.0 in
    let lt = c.if-place-len.true in
    with_media _ c.args.self.now _ (spec.on_named_medium c.args.name.now change) c.self.view_is
    (set_medium c.args.name.now change c.self.inside.media.items c.medium_place-place.result c.index_mut-medium.result.now c.set_rates.new.self
    (ap (λ (d : spec.Draft). all_apart bytes_eq (map (λ (s : MediumSpec). s.name) d.media)) c.self.view_is ∙ c.requires.named)
    (c.medium_place-place.ensures ∙ ap (position_or_len (spec.is_medium_named c.args.name.now)) c.as_slice.ensures.value)
    (omega (arith, lt, len)) c.index_mut-medium.ensures.value c.set_rates.ensures)

pub returns-else-place-len : goal.returns-else-place-len
returns-else-place-len c =
    let change = spec.with_rates c.args.loss c.args.twice c.args.later in
    same_media c.args.self.now (spec.on_named_medium c.args.name.now change)
    (past_name c.args.name.now change c.as_slice.result.now c.args.self.now.media c.medium_place-place.result c.len.result
    c.medium_place-place.ensures (c.as_slice.ensures.value ∙ ap (λ (d : spec.Draft). d.media) c.self.view_is)
    (c.len.ensures ∙ sym c.as_slice.ensures.len) c.if-place-len.false)
