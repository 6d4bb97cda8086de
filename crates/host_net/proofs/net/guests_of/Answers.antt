use Rattle.std.proofs.Common.{◌≡◌, ℕ, ◌+◌, ◌<◌, List, [], ◌∷◌, length, length-append, ap, sym, subst, ◌∙◌, arith}
use Rattle.net_base.specs.declared.noted.Number.TheVariants as number
use Rattle.net_base.specs.Callers.{caller_count as callers_in}
use Rattle.net_base.specs.Next.{zone_of}
use Rattle.net_base.specs.Stamped.{In}
use Rattle.journal.specs.Rule.{Held}
use Rattle.net_guests.specs.Visits.{AreFresh, IsFresh}
use Rattle.host_net.proofs.Freshly.{fresh_more, given_own, kept_later, some_versions}
use Rattle.host_net.proofs.net.guests_of.Goals as goal
use Rattle.journal.proofs.Shared.{in-callers}

pub loop-caller-init : goal.loop-caller-init
loop-caller-init g c = (
  c.requires.seen,
  λ d le lt.
      subst (λ (hs : List Held). In (number.Caller d, []) hs) (sym c.requires.held)
      (in-callers g.J.Naming.run.roster.callers d
      (subst (λ (n : ℕ). d < n) (c.caller_count-callers.ensures ∙ (ap callers_in (sym c.requires.world) ∙ sym c.requires.callers)) lt)),
  ap length c.in_ok-guests.ensures.items,
  subst (AreFresh (zone_of g.J.Placing.world) 0) (sym c.in_ok-guests.ensures.items) tt,
)

pub split_pass-own-requires : goal.split_pass-own-requires
split_pass-own-requires g c = ([], c.loop-caller.invariant.1 c.loop-caller.caller (omega arith) (omega arith))

pub fresh-requires-clause-held : goal.fresh-requires-clause-held
fresh-requires-clause-held g c =
    subst (λ (hs : List Held). In (number.Caller c.loop-caller.caller, []) hs) (sym c.split_pass-own.ensures.given.1)
    (given_own c.loop-caller.caller c.loop-caller.pass.held (c.loop-caller.invariant.1 c.loop-caller.caller (omega arith) (omega arith)))

pub fresh-requires-clause-some : goal.fresh-requires-clause-some
fresh-requires-clause-some g c = some_versions c.args.world.now _ c.requires.is (c.in_ok-dbs.ensures ∙ c.requires.dbs)

pub loop-caller-preserved : goal.loop-caller-preserved
loop-caller-preserved g c =
    let k = c.loop-caller.caller in
    let at : k ≡ 0 + length c.loop-caller.guests.items = omega (arith, c.loop-caller.invariant.2) in (
      c.split_pass-own.ensures.kept.0 ∙ c.loop-caller.invariant.0,
      λ d le lt.
          subst (λ (hs : List Held). In (number.Caller d, []) hs) (sym c.split_pass-own.ensures.kept.1)
          (kept_later k d c.loop-caller.pass.held (omega (arith, le)) (c.loop-caller.invariant.1 d (omega (arith, le)) lt)),
      ap length c.in_ok-push.ensures.items ∙ (length-append c.loop-caller.guests.items (c.fresh.result ∷ []) ∙ ap (λ (n : ℕ). n + 1) c.loop-caller.invariant.2),
      subst (AreFresh (zone_of g.J.Placing.world) 0) (sym c.in_ok-push.ensures.items)
          (fresh_more (zone_of g.J.Placing.world) 0 c.loop-caller.guests.items c.fresh.result c.loop-caller.invariant.3
          (subst (λ (n : ℕ). IsFresh (zone_of g.J.Placing.world) n c.fresh.result) at c.fresh.ensures)),
    )
