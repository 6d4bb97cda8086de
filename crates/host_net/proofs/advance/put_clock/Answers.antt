use Rattle.std.proofs.Common.{slice_set, ap, ◌∙◌}
use Rattle.std.proofs.lemmas.Option.{get_or_from_slice_get}
use Rattle.host_net.proofs.Taking.{filled}
use Rattle.host_net.specs.Groups.{Grouped}
use Rattle.host_net.proofs.advance.put_clock.Goals as goal

pub returns : goal.returns
returns g c k there =
    ap (λ (x : Grouped g.row.T.Denot). slice_set c.args.groups.now c.args.place x)
    (c.put_into.ensures ∙ ap (λ (x : Grouped g.row.T.Denot). filled x c.args.clock) (get_or_from_slice_get c.args.groups.now c.args.place k _ there))
