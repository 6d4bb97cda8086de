use Rattle.std.proofs.Common.{◌++◌, sym}
use Rattle.std.specs.Prelude.{flat_map}
use Rattle.world_text.specs.WorldSpelling.{laid, lines_of_host, lines_of_medium, lines_of_script, host_names, medium_names}
use Rattle.world_writer.proofs.Laid.{laid_three, three_added}
use Rattle.world_writer.proofs.writer.put_parts.Goals as goal

pub returns : goal.returns
returns c =
    let media = flat_map lines_of_medium c.args.media.now in
    let hosts = flat_map (lines_of_host (medium_names c.args.media.now)) c.args.hosts.now in
    let scripts = flat_map (lines_of_script (host_names c.args.hosts.now)) c.args.scripts.now in
    three_added c.put_scripts.result c.args.out.now c.put_media.new.out c.put_hosts.new.out c.put_scripts.new.out
    (laid media) (laid hosts) (laid scripts) (laid (media ++ (hosts ++ scripts)))
    c.in_ok-put_media.ensures c.in_ok-put_hosts.ensures (sym (laid_three media hosts scripts)) c.put_scripts.ensures
