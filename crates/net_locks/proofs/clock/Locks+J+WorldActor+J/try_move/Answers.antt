use Rattle.std.proofs.Common.{◌≡◌, ℕ, Option, List, ap, sym, subst, ◌∙◌, arith}
use Rattle.net_base.specs.declared.world.World.{World}
use Rattle.net_base.specs.Duties.{Duty}
use Rattle.net_base.specs.Stamped.{moment_noted as moment_of}
use Rattle.journal.specs.declared.tokens.Sight.{Sight}
use Rattle.duties.specs.Marks.{Covers, Marks}
use Rattle.net_locks.specs.Guests.{IsGuest}
use Rattle.net_locks.specs.Moving.{MayGo}
use Rattle.net_locks.specs.Turns.{own_seen}
use Rattle.net_locks.proofs.Visited.{early_end}
use Rattle.net_locks.proofs.clock.Locks+J+WorldActor+J.try_move.Goals as goal

pub returns-in_default-clause-complete : goal.returns-in_default-clause-complete
returns-in_default-clause-complete g c =
    let w = g.J.Placing.world in
    let r = g.J.Naming.run.roster in
    let v = c.args.visitor.now in
    let v' = c.reach.new.visitor in
    let is = c.requires.complete in
    let b = c.reach.ensures.same in
    let still : (v'.bearer.pass ≡ v.bearer.pass) × (v'.duties.list ≡ v.duties.list) =
    subst (λ (o : Option ℕ). MayGo g.J.Placing.tasks w r v.bearer v.duties.list o v'.bearer v'.duties.list) c.in_default.is c.reach.ensures.go in
    record {
      guest = subst (λ (n : ℕ). IsGuest w r n v'.bearer.pass v'.duties.list) (sym b.caller)
          (subst (λ (l : List Duty). IsGuest w r v.bearer.caller v'.bearer.pass l) (sym still.1)
          (subst (λ (q : Sight). IsGuest w r v.bearer.caller q v.duties.list) (sym still.0) is.guest));
      here = b.now ∙ (is.here ∙ ap (λ (q : Sight). moment_of q.seen) (sym still.0));
      early = omega (arith, is.early, b.now);
      covers = subst (λ (n : ℕ). Covers (own_seen n v'.bearer.pass) v'.touched) (sym b.caller)
          (subst (λ (q : Sight). Covers (own_seen v.bearer.caller q) v'.touched) (sym still.0)
          (subst (λ (m : Marks). Covers (own_seen v.bearer.caller v.bearer.pass) m) (sym c.reach.ensures.touched) is.covers));
      known = c.reach.ensures.known;
    }

pub returns-clause-complete : goal.returns-clause-complete
returns-clause-complete g c =
    let w = g.J.Placing.world in
    let r = g.J.Naming.run.roster in
    let v = c.args.visitor.now in
    let v' = c.reach.new.visitor in
    let is = c.requires.complete in
    let m = c.in-Some.moment in
    let b = c.reach.ensures.same in
    let gone = subst (λ (o : Option ℕ). MayGo g.J.Placing.tasks w r v.bearer v.duties.list o v'.bearer v'.duties.list) c.in-Some.is c.reach.ensures.go in
    record {
      guest = subst (λ (n : ℕ). IsGuest w r n v'.bearer.pass v'.duties.list) (sym b.caller) gone.0.guest;
      here = gone.0.here;
      early = early_end m c.args.world.now.end c.requires.is.end (omega (arith, gone.2, ap (λ (u : World). u.end) c.requires.world));
      covers = c.forget.ensures.covers (own_seen v'.bearer.caller v'.bearer.pass) (subst (λ (n : ℕ). Covers (own_seen n v'.bearer.pass) v'.touched) (sym b.caller)
          (subst (λ (t : Marks). Covers (own_seen v.bearer.caller v'.bearer.pass) t) (sym c.reach.ensures.touched) (gone.0.covers v.touched is.covers)));
      known = c.reach.ensures.known;
    }
