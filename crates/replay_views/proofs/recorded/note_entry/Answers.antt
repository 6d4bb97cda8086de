use Rattle.std.proofs.Common.{ℕ, Bool, cond, Some, sym, ap, subst, slice_get, ◌≡◌, ◌∙◌}
use Rattle.std.proofs.lemmas.Option.{none-some, same_Some}
use Rattle.net_base.specs.Next.{finished_by, own_replies, zone_of}
use Rattle.replay_views.proofs.Latests.{cites_none, cites_some, noted_so, other_so, owed_so}
use Rattle.replay_views.specs.Recorded.{is_close, latest_at, latest_noted, same_step}
use Rattle.replay_views.proofs.recorded.note_entry.Goals as goal

pub returns-then-is_some : goal.returns-then-is_some
returns-then-is_some c = λ w d s n st at.
    let x = c.args.entry.now in
    let past = c.args.runner.now.history.entries in
    owed_so (is_close x.event) c.args.latest.now.entries c.args.stamp x.caller d n (finished_by (zone_of w) (own_replies past d) s) _
    (cites_some x.cites (sym c.is_some.ensures ∙ c.if-is_some.true))

pub returns-in_ok-note-in-Some : goal.returns-in_ok-note-in-Some
returns-in_ok-note-in-Some c = λ w d s n st at.
    let x = c.args.entry.now in
    let past = c.args.runner.now.history.entries in
    noted_so (is_close x.event) c.args.latest.now.entries c.args.stamp x.caller c.in-Some.step d n (finished_by (zone_of w) (own_replies past d) s) _ _
    (cites_none x.cites (sym c.is_some.ensures ∙ c.if-is_some.false))
    (λ same.
    same_Some _ _ (c.in-Some.ensures w s st (subst (λ (k : ℕ). slice_get w.scripts k ≡ Some s) (sym same) at))
    ∙ ap (λ (k : ℕ). finished_by (zone_of w) (own_replies past k) s) same)
    (c.in_ok-note-in-Some.ensures (d, n)
    ∙ ap (λ (closes : Bool). cond (same_step (x.caller, c.in-Some.step) (d, n))
    (latest_noted closes c.args.stamp (latest_at c.args.latest.now.entries (x.caller, c.in-Some.step)))
    (latest_at c.args.latest.now.entries (d, n))) c.is_close.ensures)

pub returns-in-None : goal.returns-in-None
returns-in-None c = λ w d s n st at.
    let x = c.args.entry.now in
    let past = c.args.runner.now.history.entries in
    other_so (is_close x.event) c.args.latest.now.entries c.args.stamp x.caller d n (finished_by (zone_of w) (own_replies past d) s) _
    (λ same. none-some _ (c.in-None.ensures w s st (subst (λ (k : ℕ). slice_get w.scripts k ≡ Some s) (sym same) at)))
