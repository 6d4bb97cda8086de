use Rattle.std.proofs.Common.{◌≡◌, ℕ, true, Option, is_some, sym, ap, subst, ◌∙◌}
use Rattle.std.proofs.lemmas.Option.{same_Some}
use Rattle.net_base.specs.declared.history.Outcome.{Outcome}
use Rattle.net_base.specs.declared.reply.Reply.{Reply}
use Rattle.net_base.specs.Actors.{actor_step}
use Rattle.net_base.specs.Net.{after}
use Rattle.duties.specs.declared.shown.Shown.{Shown}
use Rattle.duties.specs.Showing.{shown_entry}
use Rattle.plain_runner.specs.Callers.{WentOn}
use Rattle.plain_runner.specs.Recording.{OwesAll}
use Rattle.plain_runner.proofs.Growing.{ready_has, records_so}
use Rattle.plain_runner.proofs.recording.record.Goals as goal

pub returns : goal.returns
returns c =
    let o : Outcome = c.in_ok-outcome.outcome in
    let reply : c.unwrap-reply.result ≡ o.reply = same_Some _ _ (sym c.unwrap-reply.ensures ∙ c.take.ensures.value ∙ c.in_ok-outcome.ensures.copy) in
    records_so c.histories_grow.ensures.net c.histories_grow.ensures.past c.replies_fit.ensures.steps
    c.args.coming c.args.turn c.args.caller.now c.recorded.new.self c.args.net.now c.step.new.self c.args.ways.now
    c.in_ok-dues.dues o c.owe.new.owed c.entry_of.result
    c.in_ok-outcome.ensures.ok
    c.in_ok-dues.ensures
    (subst
    (λ (copy : Option Reply).
    OwesAll c.args.ways.now c.args.turn.actor c.args.coming.stamp c.args.turn.work (record o { copy = copy }) c.in_ok-dues.dues c.args.caller.now.owed c.owe.new.owed)
    c.take.ensures.after c.in_ok-shown.ensures.owes)
    (subst (λ (r : Reply). WentOn (record c.args.caller.now { owed = c.owe.new.owed }) c.recorded.new.self c.args.turn.cites r)
    reply c.in_ok-recorded.ensures)
    (c.entry_of.ensures.entry
    ∙ ap (λ (s : Shown). shown_entry c.args.turn.actor c.args.coming.caller c.args.coming.now c.args.turn.cites s) c.in_ok-shown.ensures.shown)

pub step-requires-clause-ready : goal.step-requires-clause-ready
step-requires-clause-ready c =
    let r = c.requires in
    let t = c.args.turn in
    record {
      world = r.world;
      states = (after r.world r.past).actors;
      are = r.comes.are;
      has = ready_has r.world r.past c.args.coming.caller t r.comes.ready;
      small = c.histories_are_short.ensures.small r.world r.past t.actor r.comes.history.world r.comes.history.legal;
      ready = subst (λ (now : ℕ). is_some (actor_step r.world t.actor ((after r.world r.past).actors t.actor) now t.work) ≡ true)
          (sym r.comes.now_is) r.comes.ready.ready;
    }
