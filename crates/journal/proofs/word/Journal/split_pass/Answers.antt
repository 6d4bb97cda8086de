use Rattle.std.proofs.Common.{◌<◌, filter, refl, ap, sym, subst, ◌∙◌}
use Rattle.std.specs.Prelude.{slice_set, slice_index, not}
use Rattle.net_base.specs.declared.noted.Number.TheVariants as number
use Rattle.net_base.specs.Stamped.{In}
use Rattle.journal.specs.declared.law.View.{View}
use Rattle.journal.specs.declared.tokens.Sight.{Sight}
use Rattle.journal.specs.Rule.{Held, same_number}
use Rattle.journal.specs.Tokens.{Agrees, Counted, OnlyCallers}
use Rattle.journal.proofs.Counts.{counts_kept, counts_given}
use Rattle.journal.proofs.After.{part_agrees, part_callers, zeros_at}
use Rattle.std.proofs.Common.{replicate}
use Rattle.journal.proofs.word.Journal.split_pass.Goals as goal

pub bounds-pass-inside-place : goal.bounds-pass-inside-place
bounds-pass-inside-place g c = let t = c.requires in (c.pass.invariant.counted.each c.args.caller t.0 (subst (λ (z : Sight). In (number.Caller c.args.caller, t.0) z.held) (sym c.pass.view_is) t.1)).0

pub bounds-counts-place : goal.bounds-counts-place
bounds-counts-place g c = let t = c.requires in (c.pass.invariant.counted.each c.args.caller t.0 (subst (λ (z : Sight). In (number.Caller c.args.caller, t.0) z.held) (sym c.pass.view_is) t.1)).0

pub bounds-pass-inside-place-2 : goal.bounds-pass-inside-place-2
bounds-pass-inside-place-2 g c = let t = c.requires in (c.pass.invariant.counted.each c.args.caller t.0 (subst (λ (z : Sight). In (number.Caller c.args.caller, t.0) z.held) (sym c.pass.view_is) t.1)).0

pub invariant_of-pass : goal.invariant_of-pass
invariant_of-pass g c =
    let p = c.pass.invariant in
    let s = c.hand-seat.ensures in
    let v : View = c.pass.inside.seat.me.0 in
    let lt : c.args.caller < 37 = (let t = c.requires in (p.counted.each c.args.caller t.0 (subst (λ (z : Sight). In (number.Caller c.args.caller, t.0) z.held) (sym c.pass.view_is) t.1)).0) in record {
      seat = s.seats.0;
      agrees = subst Agrees (sym s.kept) (part_agrees v (λ (h : Held). not (same_number h.0 (number.Caller c.args.caller))) p.agrees);
      callers = subst (λ (z : View). OnlyCallers z.held) (sym s.kept) (part_callers (λ (h : Held). not (same_number h.0 (number.Caller c.args.caller))) v.held p.callers);
      counted = subst (λ (z : View). Counted (slice_set c.pass.inside.counts c.args.caller 0) z.held) (sym s.kept) (counts_kept c.pass.inside.counts v.held c.args.caller lt p.counted);
    }

pub invariant_of-result : goal.invariant_of-result
invariant_of-result g c =
    let p = c.pass.invariant in
    let s = c.hand-seat.ensures in
    let v : View = c.pass.inside.seat.me.0 in
    let lt : c.args.caller < 37 = (let t = c.requires in (p.counted.each c.args.caller t.0 (subst (λ (z : Sight). In (number.Caller c.args.caller, t.0) z.held) (sym c.pass.view_is) t.1)).0) in
    let m = slice_index c.pass.inside.counts c.args.caller in record {
      seat = s.seats.1;
      agrees = subst Agrees (sym s.given) (part_agrees v (λ (h : Held). same_number h.0 (number.Caller c.args.caller)) p.agrees);
      callers = subst (λ (z : View). OnlyCallers z.held) (sym s.given) (part_callers (λ (h : Held). same_number h.0 (number.Caller c.args.caller)) v.held p.callers);
      counted = subst (λ (z : View). Counted (slice_set (replicate 37 0) c.args.caller m) z.held) (sym s.given) (counts_given c.pass.inside.counts (replicate 37 0) v.held c.args.caller m lt refl (zeros_at 37) refl p.counted);
    }

pub returns-clause-kept : goal.returns-clause-kept
returns-clause-kept g c =
    let s = c.hand-seat.ensures in (
      ap (λ (z : View). z.seen) s.kept ∙ ap (λ (z : Sight). z.seen) c.pass.view_is,
      ap (λ (z : View). z.held) s.kept ∙ ap (λ (z : Sight). filter (λ (h : Held). not (same_number h.0 (number.Caller c.args.caller))) z.held) c.pass.view_is,
    )

pub returns-clause-given : goal.returns-clause-given
returns-clause-given g c =
    let s = c.hand-seat.ensures in (
      ap (λ (z : View). z.seen) s.given ∙ ap (λ (z : Sight). z.seen) c.pass.view_is,
      ap (λ (z : View). z.held) s.given ∙ ap (λ (z : Sight). filter (λ (h : Held). same_number h.0 (number.Caller c.args.caller)) z.held) c.pass.view_is,
    )
