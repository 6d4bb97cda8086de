use Rattle.std.proofs.Common.{◌≡◌, None, Some, ℕ, suc, List, ◌∷◌, length, true, false, ap, sym, ◌∙◌, subst, arith, is_some, nat_le}
use Rattle.std.proofs.lemmas.Bool.Decides.{nat_tests}
use Rattle.net_base.specs.Number.{number}
use Rattle.net_base.specs.IlEnd.{backlog, early_at, rstart_of}
use Rattle.il_machine.specs.InTurn.{in_turn, with_turned}
use Rattle.il_machine.specs.Windows.{Windows, rstart_kept, windows_of}
use Rattle.il_machine.specs.Stands.{StandsFor}
use Rattle.il_machine.specs.contracts.end.IlEnd.{the_view}
use Rattle.il_machine.proofs.Accepting.{Hears, accepts_in_turn, kept_early_already, kept_no_number, kept_no_room}
use Rattle.il_machine.proofs.end.IlEnd.accept.Goals as goal

pub returns-in_default-clause-ok : goal.returns-in_default-clause-ok
unfolding StandsFor
returns-in_default-clause-ok c e stands =
    kept_no_number c.args.self.now c.args.message.now e stands
    (subst (λ (w : Windows). Hears w c.args.message.now None) c.self.view_is (record {
      near = c.self.invariant.early_are_near;
      number = ap (λ b. number b c.args.message.now.id c.self.inside.got) (sym c.unwrap_or.ensures) ∙ sym c.number.ensures.value ∙ c.in_default.is;
    }))

pub returns-then-contains-clause-ok : goal.returns-then-contains-clause-ok
unfolding StandsFor
returns-then-contains-clause-ok c e stands =
    kept_early_already c.args.self.now c.args.message.now e c.in-Some.k stands
    (subst (λ (w : Windows). Hears w c.args.message.now (Some c.in-Some.k)) c.self.view_is (record {
      near = c.self.invariant.early_are_near;
      number = ap (λ b. number b c.args.message.now.id c.self.inside.got) (sym c.unwrap_or.ensures) ∙ sym c.number.ensures.value ∙ c.in-Some.is;
    }))
    (subst (λ (w : Windows). is_some (early_at c.in-Some.k w.early) ≡ true) c.self.view_is (sym c.contains.ensures ∙ c.if-contains.true))

pub returns-then-backlog-ge-MOST_UNREAD-clause-ok : goal.returns-then-backlog-ge-MOST_UNREAD-clause-ok
unfolding StandsFor
returns-then-backlog-ge-MOST_UNREAD-clause-ok c e stands =
    let says = c.backlog.ensures.said e stands in
    kept_no_room c.args.self.now c.args.message.now e c.in-Some.k stands
    (subst (λ (w : Windows). Hears w c.args.message.now (Some c.in-Some.k)) c.self.view_is (record {
      near = c.self.invariant.early_are_near;
      number = ap (λ b. number b c.args.message.now.id c.self.inside.got) (sym c.unwrap_or.ensures) ∙ sym c.number.ensures.value ∙ c.in-Some.is;
    }))
    (grind (arith, nat_tests, says, c.if-backlog-ge-MOST_UNREAD.true))

pub returns-clause-ok : goal.returns-clause-ok
unfolding StandsFor
returns-clause-ok c e stands =
    let is : the_view c.self.inside ≡ windows_of e = c.self.view_is ∙ stands in
    let says = c.backlog.ensures.said e stands in
    let told : number (rstart_of e) c.args.message.now.id (length e.got) ≡ Some c.in-Some.k
    = subst (λ (w : Windows). number (rstart_kept w) c.args.message.now.id w.got ≡ Some c.in-Some.k) is
    (ap (λ b. number b c.args.message.now.id c.self.inside.got) (sym c.unwrap_or.ensures) ∙ sym c.number.ensures.value ∙ c.in-Some.is) in
    let new : is_some (early_at c.in-Some.k e.early) ≡ false
    = subst (λ (w : Windows). is_some (early_at c.in-Some.k w.early) ≡ false) is (sym c.contains.ensures ∙ c.if-contains.false) in
    let room : nat_le 64 (backlog e) ≡ false = grind (arith, nat_tests, says, c.if-backlog-ge-MOST_UNREAD.false) in
    c.add.ensures.end e stands
    ∙ ap (λ (text : List ℕ). windows_of (with_turned e (in_turn (suc (length e.early)) (length e.got) (record { number = c.in-Some.k; text = text } ∷ e.early)))) c.in_ok-text.ensures.cases
    ∙ ap windows_of (accepts_in_turn c.args.message.now e c.in-Some.k told new room)
