-- Guests whose passes meet in one and part again, and an entry of another caller in between.
use Rattle.std.proofs.Common.{◌≡◌, ℕ, ◌==◌, Bool, false, not, List, [], ◌∷◌, ◌++◌, length, map, Option, if◌then◌else◌, ap, sym, subst, ◌∙◌}
use Rattle.std.proofs.lemmas.List.{append-nil}
use mathlib.Core.List.{IsPrefix}
use Rattle.net_base.specs.declared.actor.ActorName.{ActorName}
use Rattle.net_base.specs.declared.history.Outcome.{Outcome}
use Rattle.net_base.specs.declared.history.Work.{Work}
use Rattle.net_base.specs.declared.noted.Noted.{Noted}
use Rattle.net_base.specs.declared.noted.Number.TheVariants as number
use Rattle.net_base.specs.declared.world.World.{World}
use Rattle.net_base.specs.Duties.{Duty}
use Rattle.net_base.specs.Stamped.{at, In}
use Rattle.journal.specs.declared.law.Roster.{Roster}
use Rattle.journal.specs.declared.tokens.Sight.{Sight}
use Rattle.journal.specs.Rule.{Held, gain, same_number}
use Rattle.journal.proofs.Shared.{at-snoc, in-gain, prefix_snoc, prefix_trans}
use Rattle.locked.specs.Acts.{made}
use Rattle.net_locks.specs.Guests.{IsGuest, GuestRecords, StaysGuest, HandsOver, deed_at}
use Rattle.net_locks.proofs.Apart.{LaterStands}
use Rattle.net_locks.proofs.Guests.{stays}
use Rattle.net_base.proofs.Shared.{number_itself, in_front, in_back, in_filter}

module _ (still : LaterStands) (w : World) (r : Roster) (c : ℕ) (p q p' q' : Sight) (h : HandsOver r c p q p' q') where
  -- the number that goes over
  pub goes_over : (ds : List Duty) → IsGuest w r c p ds → StaysGuest w r c p ds q'
  goes_over ds g =
      let moved : In (number.Caller c, g.list) h.moved.held =
      subst (λ (hs : List Held). In (number.Caller c, g.list) hs) (sym h.given_held)
      (in_filter (λ (k : Held). same_number k.0 (number.Caller c)) (number.Caller c, g.list) p.held g.held (number_itself c)) in
      let held : In (number.Caller c, g.list) q'.held =
      subst (λ (hs : List Held). In (number.Caller c, g.list) hs) (sym h.met.held) (in_back (number.Caller c, g.list) q.held h.moved.held moved) in
      stays still w r c p q' ds g (subst (λ (l : List Noted). IsPrefix l q'.seen) h.given_seen h.met.that) held (h.met.lists (number.Caller c) g.list held)

  -- the numbers that the other pass had
  pub stays_there : (d : ℕ) (ds : List Duty) → IsGuest w r d q ds → StaysGuest w r d q ds q'
  stays_there d ds g =
      let held : In (number.Caller d, g.list) q'.held =
      subst (λ (hs : List Held). In (number.Caller d, g.list) hs) (sym h.met.held) (in_front (number.Caller d, g.list) q.held h.moved.held g.held) in
      stays still w r d q q' ds g h.met.this held (h.met.lists (number.Caller d) g.list held)

  -- the numbers that stay
  pub stays_here : (d : ℕ) (ds : List Duty) → (d == c) ≡ false → IsGuest w r d p ds → StaysGuest w r d p ds p'
  stays_here d ds other g =
      let held : In (number.Caller d, g.list) p'.held =
      subst (λ (hs : List Held). In (number.Caller d, g.list) hs) (sym h.left_held)
      (in_filter (λ (k : Held). not (same_number k.0 (number.Caller c))) (number.Caller d, g.list) p.held g.held (ap not other)) in
      stays still w r d p p' ds g (subst (λ (l : List Noted). IsPrefix p.seen l) (sym h.left_seen) ([], append-nil p.seen)) held
      (ap (at (number.Caller d)) h.left_seen ∙ g.all)

-- another caller's entry
pub stays_by : LaterStands
    → (w : World) (r : Roster) (c : ℕ) (p p' : Sight) (a : ActorName) (now : ℕ) (work : Work) (cites : Option ℕ) (stamp : ℕ) (o : Outcome)
    → GuestRecords w r (deed_at a c now work cites) p stamp o p' → (e : ℕ) (ds : List Duty) → (c == e) ≡ false → IsGuest w r e p ds → StaysGuest w r e p ds p'
stays_by still w r c p p' a now work cites stamp o d e ds other g =
    let the : Noted = made a c now work cites o in
    let held : In (number.Caller e, g.list) p'.held =
    subst (λ (hs : List Held). In (number.Caller e, g.list) hs) (sym d.held)
    (subst (λ (b : Bool). In (number.Caller e, if b then g.list ++ (stamp, the) ∷ [] else g.list) (map (gain stamp the) p.held)) other
    (in-gain stamp the p.held (number.Caller e) g.list g.held)) in
    let all : at (number.Caller e) p'.seen ≡ g.list =
    ap (at (number.Caller e)) d.seen ∙ (at-snoc (number.Caller e) d.past the
    ∙ (ap (λ (b : Bool). if b then at (number.Caller e) d.past ++ (length d.past, the) ∷ [] else at (number.Caller e) d.past) other
    ∙ d.lists (number.Caller e) g.list g.held)) in
    let before : IsPrefix p.seen p'.seen =
    prefix_trans p.seen d.past p'.seen d.before (subst (λ (l : List Noted). IsPrefix d.past l) (sym d.seen) (prefix_snoc d.past the)) in
    stays still w r e p p' ds g before held all
