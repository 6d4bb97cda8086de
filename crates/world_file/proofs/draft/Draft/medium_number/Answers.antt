use Rattle.std.proofs.Common.{◌∙◌, ap, arith}
use Rattle.world_text.specs.WorldLines.{Draft, is_medium_named}
use Rattle.world_file.proofs.Drafts.{small_place}
use Rattle.world_file.proofs.draft.Draft.medium_number.Goals as goal

pub overflow_cast-result : goal.overflow_cast-result
overflow_cast-result c =
    let small = small_place (is_medium_named c.args.name.now) c.as_slice.result.now c.args.self.now.media c.medium_place.result 4
    c.medium_place.ensures (c.as_slice.ensures.value ∙ ap (λ (d : Draft). d.media) c.self.view_is) c.requires in
    omega (arith, small)
