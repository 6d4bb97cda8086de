use Rattle.dial_lib.proofs.Misused.{misused}
use Rattle.dial_lib.proofs.hwrite.Hwrite.write.Goals as goal

pub returns-in-None : goal.returns-in-None
returns-in-None c =
    misused c.in_ok-name.name c.as_slice.result.now c.args.self.now.name c.args.self.now.bytes c.as_slice-2.result.now c.args.fids.now.names c.open_call.result
    c.in_ok-name.ensures c.as_slice.ensures c.as_slice-2.ensures c.if-is_none.ensures c.open_call.ensures c.in-None.ensures
