use Rattle.std.proofs.Common.{ap}
use Rattle.duties.specs.Places.{Moments}
use Rattle.duties.proofs.Puts.{not_so, there_so, within_so}
use Rattle.duties.proofs.moments.DueMoments.clear.Goals as goal

pub returns-then-is_at-clause-list : goal.returns-then-is_at-clause-list
returns-then-is_at-clause-list c =
    there_so c.args.place c.before-from.result c.args.self.now.list c.self.inside.dues.items (ap (λ (m : Moments). m.list) c.self.view_is) c.is_at.result
    c.as_slice.result.now c.as_slice-2.result.now c.as_slice.ensures.value c.as_slice-2.ensures.value c.before-from.ensures c.is_at.ensures c.if-is_at.true
    c.remove.new.self.items c.remove.ensures.items

pub returns-clause-within : goal.returns-clause-within
returns-clause-within c =
    within_so c.args.place c.before-from.result c.args.self.now.list c.self.inside.dues.items (ap (λ (m : Moments). m.list) c.self.view_is) c.is_at.result
    c.as_slice.result.now c.as_slice-2.result.now c.as_slice.ensures.value c.as_slice-2.ensures.value c.before-from.ensures c.is_at.ensures

pub returns-clause-list : goal.returns-clause-list
returns-clause-list c =
    not_so c.args.place c.before-from.result c.args.self.now.list c.self.inside.dues.items (ap (λ (m : Moments). m.list) c.self.view_is) c.is_at.result
    c.as_slice.result.now c.as_slice-2.result.now c.as_slice.ensures.value c.as_slice-2.ensures.value c.before-from.ensures c.is_at.ensures c.if-is_at.false
