use Rattle.std.proofs.Common.{◌++◌, map, sym}
use Rattle.world_text.specs.WorldSpelling.{laid, line_of_iface, line_of_route, line_of_start, medium_names}
use Rattle.world_writer.proofs.Laid.{laid_three, three_added}
use Rattle.world_writer.proofs.hosts.put_under.Goals as goal

pub returns : goal.returns
returns c =
    let ifaces = map (line_of_iface (medium_names c.args.media.now)) c.args.ifaces.now in
    let routes = map line_of_route c.args.routes.now in
    let starts = map line_of_start c.args.starts.now in
    three_added c.put_starts.result c.args.out.now c.put_ifaces.new.out c.put_routes.new.out c.put_starts.new.out
    (laid ifaces) (laid routes) (laid starts) (laid (ifaces ++ (routes ++ starts)))
    c.in_ok-put_ifaces.ensures c.in_ok-put_routes.ensures (sym (laid_three ifaces routes starts)) c.put_starts.ensures
