use Rattle.std.proofs.Common.{◌≡◌, List, refl, sym, subst}
use Rattle.net_base.specs.declared.history.Entry.{Entry}
use Rattle.live_run.specs.LiveRuns.{IsFree}
use Rattle.live_answers.specs.Speech.{speech}
use Rattle.live_run.proofs.Hearing.{comes}
use Rattle.live_run.proofs.Rests.{comes_to_rest, resumes}
use Rattle.live_run.proofs.playing.play.Goals as goal

pub play_turns-requires : goal.play_turns-requires
play_turns-requires g c = resumes c.args.world.now c.args.rest _ c.requires c.in_ok-runner.ensures.tracks c.in_ok-runner.ensures.history refl refl refl

pub returns-clause-rests : goal.returns-clause-rests
returns-clause-rests g c =
    let w = c.args.world.now in
    let running = c.in_ok-pause.ensures.running in
    comes_to_rest w c.play_turns.new.round _ running (c.in_ok-run.ensures.rests w running.tracks) c.in_ok-run.ensures.history refl refl refl

pub returns-clause-free : goal.returns-clause-free
returns-clause-free g c = subst (λ (h : List Entry). IsFree c.args.world.now h c.in_ok-pause.pause) (sym c.in_ok-run.ensures.history) c.in_ok-pause.ensures.free

pub returns-clause-heard : goal.returns-clause-heard
returns-clause-heard g c =
    let rest = c.args.rest in
    let round = c.play_turns.new.round in
    comes c.args.world.now rest (record { run = c.in_ok-run.run'; history = round.history; places = round.places; moved = round.moved })
    (record { runner = c.in_ok-runner.runner; history = rest.history; places = rest.places; moved = rest.moved }) round
    (speech g.K.Sink.held c.args.voice.now) (speech g.K.Sink.held c.play_turns.new.voice) c.in_ok-pause.pause
    c.in_ok-runner.ensures.history refl c.in_ok-run.ensures.history refl c.in_ok-pause.ensures.heard
