use Rattle.std.proofs.Common.{◌∷◌, map, sym}
use Rattle.net_base.specs.Paths.{proto_name}
use Rattle.world_text.specs.WorldSpelling.{spaced_line}
use Rattle.world_writer.specs.Written.{written_behind}
use Rattle.world_writer.proofs.Laid.{spaced_first, two_added}
use Rattle.world_writer.proofs.hosts.put_named.Goals as goal

pub returns : goal.returns
returns c =
    let names = map proto_name c.args.nets.now in
    two_added c.put_nets.result c.args.out.now c.append.new.self c.put_nets.new.out c.args.name.now (written_behind names) (spaced_line (c.args.name.now ∷ names))
    c.in_ok-append.ensures.ok (sym (spaced_first c.args.name.now names)) c.put_nets.ensures
