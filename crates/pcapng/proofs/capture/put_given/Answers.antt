use Rattle.std.proofs.Common.{◌≡◌, ◌∙◌, Some, None}
use Rattle.net_base.specs.Net.{owed, with_of}
use Rattle.replay_views.specs.Capture.{given_packet}
use Rattle.pcapng.proofs.Following.{adds_given, adds_nothing, caller_is, early_at}
use Rattle.pcapng.proofs.Laying.{laid_fits}
use Rattle.pcapng.proofs.capture.put_given.Goals as goal

pub returns-in_default : goal.returns-in_default
returns-in_default c = λ w f.
    let r = c.args.runner.now in
    let x = c.args.entry.now in
    let is = c.packet_given.ensures w r.history.entries x.caller (caller_is w r x c.args.caller.now f c.requires.caller) in
    let none : given_packet (with_of (owed w r.history.entries x.caller)) ≡ None = cc in
    adds_nothing w c.args.copies.now.entries r c.args.stamp x c.args.out.now none

pub put_spelled-requires-clause-early : goal.put_spelled-requires-clause-early
put_spelled-requires-clause-early c = early_at c.requires.follow.0 c.args.runner.now c.args.entry.now c.requires.follow.1

pub put_spelled-requires-clause-fits : goal.put_spelled-requires-clause-fits
put_spelled-requires-clause-fits c =
    let w = c.requires.follow.0 in
    let f = c.requires.follow.1 in
    let r = c.args.runner.now in
    let x = c.args.entry.now in
    let is = c.packet_given.ensures w r.history.entries x.caller (caller_is w r x c.args.caller.now f c.requires.caller) in
    let gift : given_packet (with_of (owed w r.history.entries x.caller)) ≡ Some c.in-Some.packet.now = cc in
    laid_fits w r.history.entries x c.args.key.0 c.in-Some.packet.now f.tracks.history.world f.may c.requires.on gift

pub returns : goal.returns
returns c = λ w f.
    let r = c.args.runner.now in
    let x = c.args.entry.now in
    let is = c.packet_given.ensures w r.history.entries x.caller (caller_is w r x c.args.caller.now f c.requires.caller) in
    let gift : given_packet (with_of (owed w r.history.entries x.caller)) ≡ Some c.in-Some.packet.now = cc in
    adds_given w c.args.copies.now.entries r c.args.stamp x c.args.key.0 c.args.key.1 c.in-Some.packet.now c.as_slice.result.now c.args.out.now c.put_spelled.new.out c.requires.on
    c.requires.number gift (c.as_slice.ensures ∙ c.in_ok-comment.ensures) c.in_ok-put_spelled.ensures
