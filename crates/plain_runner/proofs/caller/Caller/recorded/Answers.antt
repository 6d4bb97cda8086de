use Rattle.std.proofs.Common.{◌≡◌, ℕ, Option, None, refl, sym, subst, ◌∙◌}
use Rattle.plain_runner.specs.declared.caller.Role.{Role}
use Rattle.plain_runner.specs.Callers.{HasRole, IsEntryOf}
use Rattle.plain_runner.proofs.CallerLaws.{cites_none, stands_script}
use Rattle.plain_runner.proofs.caller.Caller.recorded.Goals as goal

-- a script's own event
pub returns-in_ok-next-in-Script : goal.returns-in_ok-next-in-Script
returns-in_ok-next-in-Script c =
    let none : c.args.cites ≡ None = cites_none c.args.cites (sym c.is_some.ensures ∙ c.if-is_some.false) in
    record {
      owed_stays = refl;
      entries_is = refl;
      goes = λ w h number x turns is.
          let both =
          stands_script w h number c.in-Script.script.now c.in-Script.player c.told.new.self c.next.new.self
          c.args.self.now.before c.finished-self.result c.asked.result c.args.reply x
          (λ zone rs at. c.finished-self.ensures zone c.in-Script.script.now rs at)
          (λ zone rs ask at comes fit. c.in_ok-told-in-Script.ensures.ok zone rs ask at comes fit)
          (λ zone rs at. c.asked.ensures.asks ∙ c.in_ok-next-in-Script.ensures.event zone rs at)
          (λ zone rs at. c.in_ok-next-in-Script.ensures.same zone rs at)
          (subst (λ (r : Role). HasRole w h number r c.args.self.now.before) c.in-Script.is turns.role_is)
          (subst (λ (o : Option ℕ). IsEntryOf w h number o c.args.reply x) none is) in
          record { role_is = both.0; next_is = both.1; own = c.asked.ensures.own };
    }
