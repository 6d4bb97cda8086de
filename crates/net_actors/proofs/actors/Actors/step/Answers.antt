use Rattle.std.proofs.Common.{ℕ, get_or, length, refl, OnErr, slice_set, ap, subst, sym, ◌∙◌}
use Rattle.std.proofs.lemmas.Option.{slice_get_read}
use Rattle.net_base.specs.declared.history.Outcome.{Outcome}
use Rattle.net_actors.specs.Numbers.{number_of}
use Rattle.net_actors.specs.Together.{CanStep, MayWantAt, Numbered, StepsTogether}
use Rattle.net_actors.proofs.Placed.{map_ok, steps_at, want_at, within}
use Rattle.net_actors.proofs.actors.Actors.step.Goals as goal

pub returns-clause-ok : goal.returns-clause-ok
returns-clause-ok c =
    let xs = c.self.inside.actors.items in
    let here : Numbered = record { hosts = c.self.inside.hosts; media = c.self.inside.media; actors = xs } in
    let n = number_of c.self.inside.hosts c.self.inside.media c.args.name in
    let can = subst (λ (v : Numbered). CanStep v c.args.name c.args.now c.args.work.now) (sym c.self.view_is) c.requires.ready in
    let at = c.index_mut.ensures.value ∙ ap (λ (k : ℕ). get_or xs k c.index_mut.result.now) c.number_of-number.ensures in
    let there = slice_get_read xs (length xs) n c.index_mut.result.now refl (within here c.args.name c.args.now c.args.work.now can c.self.invariant) at in
    map_ok c.step.result _ _ _
    (λ (o : Outcome) done.
    subst (λ (v : Numbered). StepsTogether v (record { hosts = c.self.inside.hosts; media = c.self.inside.media; actors = slice_set xs c.number_of-number.result c.step.new.self }) c.args.name c.args.now c.args.work.now o) c.self.view_is
    (subst (λ (k : ℕ). StepsTogether here (record { hosts = c.self.inside.hosts; media = c.self.inside.media; actors = slice_set xs k c.step.new.self }) c.args.name c.args.now c.args.work.now o) (sym c.number_of-number.ensures)
    (steps_at here c.args.name c.index_mut.result.now c.step.new.self c.args.now c.args.work.now o there done c.step.ensures.name)))
    c.step.ensures.ok

pub returns-clause-memory : goal.returns-clause-memory
returns-clause-memory c =
    let xs = c.self.inside.actors.items in
    let here : Numbered = record { hosts = c.self.inside.hosts; media = c.self.inside.media; actors = xs } in
    let n = number_of c.self.inside.hosts c.self.inside.media c.args.name in
    let can = subst (λ (v : Numbered). CanStep v c.args.name c.args.now c.args.work.now) (sym c.self.view_is) c.requires.ready in
    let at = c.index_mut.ensures.value ∙ ap (λ (k : ℕ). get_or xs k c.index_mut.result.now) c.number_of-number.ensures in
    let there = slice_get_read xs (length xs) n c.index_mut.result.now refl (within here c.args.name c.args.now c.args.work.now can c.self.invariant) at in
    subst (λ (v : Numbered). OnErr c.step.result (MayWantAt v c.args.name c.args.now c.args.work.now)) c.self.view_is
    (want_at c.step.result here c.args.name c.args.now c.args.work.now c.index_mut.result.now there c.step.ensures.memory)
