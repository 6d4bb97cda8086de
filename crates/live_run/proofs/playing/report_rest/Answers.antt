use Rattle.std.proofs.Common.{◌∙◌, Some, ap}
use Rattle.live_lines.specs.declared.answer.StepWord.TheVariants as word
use Rattle.live_answers.specs.Speech.{speech}
use Rattle.live_run.proofs.Hearing.{on_ok}
use Rattle.live_run.proofs.PlaceLists.{got}
use Rattle.live_run.proofs.SeatLists.{told_on, told_quiet}
use Rattle.live_run.proofs.playing.report_rest.Goals as goal

pub returns-in-Some : goal.returns-in-Some
returns-in-Some g c =
    let r = c.args.round.now in
    let there = got r.places.currents.items c.args.script c.index.result.now c.requires c.index.ensures ∙ ap Some c.in-Some.is in
    on_ok c.say_unanswered.result (λ says first before w world to.
    told_on c.args.script first before w r.history r.places.currents.items (speech g.K.Sink.held c.args.voice.now) (speech g.K.Sink.held c.say_unanswered.new.self) c.place_number.result
    c.args.moment word.Unanswered c.in-Some.step world c.place_number.ensures there says to) c.say_unanswered.ensures

pub returns-in-None : goal.returns-in-None
returns-in-None g c first before w world to =
    let r = c.args.round.now in
    told_quiet c.args.script first before w r.history r.places.currents.items (speech g.K.Sink.held c.args.voice.now)
    (got r.places.currents.items c.args.script c.index.result.now c.requires c.index.ensures ∙ ap Some c.in-None.is) to
