use Rattle.std.proofs.Common.{List, subst, sym}
use Rattle.std.proofs.lemmas.Result.{IfOk-weaker}
use Rattle.session_script.specs.declared.world.Session.{Session}
use Rattle.netsh.proofs.Exported.{exported}
use Rattle.net_export.specs.Answered.{ArePlayed}
use Rattle.netsh.proofs.exporting.export_told.Goals as goal

pub export_world-answer-requires-clause-played : goal.export_world-answer-requires-clause-played
export_world-answer-requires-clause-played g c κs within =
    let w = c.in_ok-translated.translated.world in
    subst (λ (ss : List Session). ArePlayed w ss) (sym c.in_ok-translated.ensures.sessions)
    (c.sessions_are_played.ensures c.args.told w c.requires.streams c.requires.hosts c.in_ok-translated.ensures.translated)

pub returns : goal.returns
returns g c = IfOk-weaker _ _ _ (exported c.args.told c.in_ok-translated.translated.world _ c.in_ok-translated.ensures.translated c.in_ok-translated.ensures.sessions) c.export_world-answer.ensures
