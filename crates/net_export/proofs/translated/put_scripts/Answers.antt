use Rattle.std.proofs.Common.{List, sym, subst, ◌∙◌}
use Rattle.net_base.specs.declared.world.Script.{Script}
use Rattle.net_base.specs.World.{IsWorld}
use Rattle.session_script.specs.Worlds.{IsTranslated}
use Rattle.net_export.proofs.Placing.{Placing, all_placed, has_place, is_world, past_all, placing_more, placing_none, session_at, stream_at}
use Rattle.net_export.proofs.translated.put_scripts.Goals as goal

-- before the first session
pub loop-session-init : goal.loop-session-init
loop-session-init c =
    subst (λ (xs : List Script). Placing c.args.told.now 0 xs) (sym (c.into_vec-scripts.ensures ∙ c.replace.ensures.value))
    (placing_none c.args.told.now c.requires.world)

-- the session is this one of the world's
pub put_script-requires-clause-place : goal.put_script-requires-clause-place
put_script-requires-clause-place c =
    has_place c.args.told.now c.loop-session.session-index c.session-item.result _ c.requires.streams c.loop-session.invariant
    (session_at c.args.told.now c.as_slice-session-items.result.now c.loop-session.session-index c.session-item.result
    c.as_slice-session-items.ensures c.loop-session-test.true c.session-item.is)

pub put_script-requires-clause-stream : goal.put_script-requires-clause-stream
put_script-requires-clause-stream c =
    stream_at c.args.told.now c.loop-session.session-index c.session-item.result c.requires.streams
    (session_at c.args.told.now c.as_slice-session-items.result.now c.loop-session.session-index c.session-item.result
    c.as_slice-session-items.ensures c.loop-session-test.true c.session-item.is)

-- its script was put in its place
pub loop-session-preserved : goal.loop-session-preserved
loop-session-preserved c =
    placing_more c.args.told.now c.loop-session.session-index c.session-item.result _ _ c.requires.streams c.loop-session.invariant c.in_ok-put_script.ensures
    (session_at c.args.told.now c.as_slice-session-items.result.now c.loop-session.session-index c.session-item.result
    c.as_slice-session-items.ensures c.loop-session-test.true c.session-item.is)

-- behind the last one
pub returns-clause-translated : goal.returns-clause-translated
returns-clause-translated c =
    subst (λ (xs : List Script). IsTranslated c.args.told.now (record c.args.told.now.world { scripts = xs })) (sym c.from_vec.ensures)
    (all_placed c.args.told.now c.loop-session.session-index _ c.loop-session.invariant
    (past_all c.args.told.now c.as_slice-session-items.result.now c.loop-session.session-index c.as_slice-session-items.ensures c.loop-session-test.false))

pub returns-clause-world : goal.returns-clause-world
returns-clause-world c =
    subst (λ (xs : List Script). IsWorld (record c.args.told.now.world { scripts = xs })) (sym c.from_vec.ensures)
    (is_world c.args.told.now c.loop-session.session-index _ c.requires.world c.loop-session.invariant)
