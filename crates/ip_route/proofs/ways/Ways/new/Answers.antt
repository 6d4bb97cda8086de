use Rattle.std.proofs.Common.{◌≡◌, Some, slice_get, refl, rules, ◌∙◌}
use Rattle.std.proofs.lemmas.Option.{slice_get_read}
use Rattle.ip_route.proofs.OfWorld.{are_ways}
use Rattle.ip_route.proofs.ways.Ways.new.Goals as goal

pub returns : goal.returns
returns c =
    let host = c.index-as_slice-host.result in
    let hosts = c.args.world.now.hosts in
    let at : slice_get hosts c.args.host ≡ Some host =
    slice_get_read hosts _ c.args.host host refl c.requires (c.index-as_slice-host.is ∙ rw (c.as_slice.ensures) (refl)) in
    are_ways c.args.world.now c.args.host host _ at (search rules)
