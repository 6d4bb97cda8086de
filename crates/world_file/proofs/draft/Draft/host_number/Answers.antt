use Rattle.std.proofs.Common.{◌∙◌, ap, arith}
use Rattle.world_text.specs.WorldLines.{Draft, is_host_named}
use Rattle.world_file.proofs.Drafts.{small_place}
use Rattle.world_file.proofs.draft.Draft.host_number.Goals as goal

pub overflow_cast-result : goal.overflow_cast-result
overflow_cast-result c =
    let small = small_place (is_host_named c.args.name.now) c.as_slice.result.now c.args.self.now.hosts c.host_place.result 8
    c.host_place.ensures (c.as_slice.ensures.value ∙ ap (λ (d : Draft). d.hosts) c.self.view_is) c.requires in
    omega (arith, small)
