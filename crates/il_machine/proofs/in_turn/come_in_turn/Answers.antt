use Rattle.std.proofs.Common.{◌≡◌, ◌+◌, [], ◌∷◌, None, arith, sym, ap, ◌∙◌, length, length-append}
use Rattle.net_base.specs.IlEnd.{early_at}
use Rattle.il_machine.specs.InTurn.{TurnedMessages}
use Rattle.il_machine.proofs.Near.{begins_after, none_goes, one_further}
use Rattle.il_machine.proofs.InTurn.{none_next, steps}
use Rattle.il_machine.proofs.in_turn.come_in_turn.Goals as goal

-- the next message is early

pub loop-text-smaller : goal.loop-text-smaller
loop-text-smaller c =
    let s = steps c.loop-text.last c.in-Some.text c.loop-text.early c.take.new.self c.take.ensures.rest (sym c.take.ensures.value ∙ c.in-Some.is) in
    omega (arith, s.less)

pub loop-text-preserved : goal.loop-text-preserved
loop-text-preserved c =
    let s = steps c.loop-text.last c.in-Some.text c.loop-text.early c.take.new.self c.take.ensures.rest (sym c.take.ensures.value ∙ c.in-Some.is) in
    record {
      texts = rw c.append.ensures (s.texts c.loop-text.unread.texts ∙ c.loop-text.invariant.texts);
      offset = rw c.append.ensures c.loop-text.invariant.offset;
      left = s.early_left ∙ c.loop-text.invariant.left;
      got = s.got ∙ c.loop-text.invariant.got;
      near = rw c.take.ensures.rest (one_further c.loop-text.last c.loop-text.early c.loop-text.invariant.near);
      room = rw c.append.ensures (omega (arith, s.less, c.loop-text.invariant.room, length-append c.loop-text.unread.texts (c.in-Some.text ∷ [])));
      few = omega (arith, s.less, c.loop-text.invariant.few);
    }

-- it isn't

pub returns-clause-left : goal.returns-clause-left
returns-clause-left c =
    let none : early_at (c.loop-text.last + 1) c.loop-text.early ≡ None = sym c.take.ensures.value ∙ c.in_default.is in
    c.take.ensures.rest ∙ none_goes (c.loop-text.last + 1) c.loop-text.early none
    ∙ ap (λ (t : TurnedMessages). t.early) (sym (none_next (length c.loop-text.early) c.loop-text.last c.loop-text.early none)) ∙ c.loop-text.invariant.left

pub returns-clause-near : goal.returns-clause-near
returns-clause-near c =
    let none : early_at (c.loop-text.last + 1) c.loop-text.early ≡ None = sym c.take.ensures.value ∙ c.in_default.is in
    rw (c.take.ensures.rest, none_goes (c.loop-text.last + 1) c.loop-text.early none) (begins_after c.loop-text.last (c.loop-text.last + 20) c.loop-text.early none c.loop-text.invariant.near)

pub returns-clause-room : goal.returns-clause-room
returns-clause-room c =
    let none : early_at (c.loop-text.last + 1) c.loop-text.early ≡ None = sym c.take.ensures.value ∙ c.in_default.is in
    rw (c.take.ensures.rest, none_goes (c.loop-text.last + 1) c.loop-text.early none) c.loop-text.invariant.room
