use Rattle.std.proofs.Common.{◌≡◌, ℕ, List, length, ap, subst, ◌∙◌, arith}
use Rattle.net_base.specs.declared.actor.ActorName.{ActorName}
use Rattle.net_base.specs.declared.noted.Noted.{Noted}
use Rattle.journal.specs.declared.tokens.Volume.{Volume}
use Rattle.locked.specs.Acts.{made, IsDone, Stands}
use Rattle.locked.proofs.Standing.{stands_same, stands_after, is_done}
use Rattle.locked.proofs.guarded.Guarded.act.Goals as goal

-- few works led to the machine's state: those of the book
pub step-requires-clause-reached : goal.step-requires-clause-reached
step-requires-clause-reached g c =
    let same = c.reserve.ensures.same in (
      c.self.inside.book.actor,
      c.self.inside.book.list,
      omega (arith, c.reserve.ensures.short, ap (λ (works : List (ℕ × Noted)). length works) same.3),
      c.self.invariant.state_is,
    )

pub invariant_of-self-2 : goal.invariant_of-self-2
invariant_of-self-2 g c =
    let m = g.M.Machine in
    let a = c.args.asked in
    let b : Volume = c.reserve.new.self in
    let same = c.reserve.ensures.same in
    let stands : Stands m.begin m.answer c.self.inside.machine b = stands_same m.begin m.answer c.self.inside.machine c.self.inside.book b c.self.invariant same.0 same.3 in
    let entry : c.entry_of-entry.result ≡ (made b.actor a.caller a.now a.work.now a.cites c.in-Ok.outcome).entry =
    c.entry_of-entry.ensures.entry ∙ ap (λ (n : ActorName). (made n a.caller a.now a.work.now a.cites c.in-Ok.outcome).entry) c.actor.ensures in
    stands_after m.begin m.answer g.J.Naming.run.roster a.caller a.now a.work.now a.cites c.args.pass.now c.record-stamp.new.pass b c.record-stamp.new.book
    c.self.inside.machine c.step.new.self c.in-Ok.outcome c.entry_of-entry.new.outcome c.entry_of-entry.result c.record-stamp.result stands c.in-Ok.ensures.ok entry
    c.record-stamp.ensures

pub returns-clause-acted : goal.returns-clause-acted
returns-clause-acted g c =
    let m = g.M.Machine in
    let r = g.J.Naming.run.roster in
    let a = c.args.asked in
    let b : Volume = c.reserve.new.self in
    let same = c.reserve.ensures.same in
    let stands : Stands m.begin m.answer c.self.inside.machine b = stands_same m.begin m.answer c.self.inside.machine c.self.inside.book b c.self.invariant same.0 same.3 in
    let entry : c.entry_of-entry.result ≡ (made b.actor a.caller a.now a.work.now a.cites c.in-Ok.outcome).entry =
    c.entry_of-entry.ensures.entry ∙ ap (λ (n : ActorName). (made n a.caller a.now a.work.now a.cites c.in-Ok.outcome).entry) c.actor.ensures in
    subst (λ (n : ActorName). IsDone m.begin m.answer r n a.caller a.now a.work.now a.cites c.args.pass.now c.record-stamp.result c.entry_of-entry.new.outcome c.record-stamp.new.pass)
    (same.0 ∙ ap (λ (z : Volume). z.actor) c.self.view_is)
    (is_done m.begin m.answer r a.caller a.now a.work.now a.cites c.args.pass.now c.record-stamp.new.pass b c.record-stamp.new.book
    c.self.inside.machine c.step.new.self c.in-Ok.outcome c.entry_of-entry.new.outcome c.entry_of-entry.result c.record-stamp.result stands c.in-Ok.ensures.ok entry
    c.record-stamp.ensures c.entry_of-entry.ensures.outcome c.requires.moment)
