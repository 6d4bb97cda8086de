-- Whether the clock has room, and the history by a look.
use Rattle.std.proofs.Common.{◌≡◌, ℕ, ◌+◌, ◌<◌, ◌≤◌, ◌==◌, not, Bool, true, false, List, length, ap, sym, subst, ◌∙◌, arith}
use Rattle.std.proofs.lemmas.Bool.{eq-eqb, ne_eqb}
use Rattle.net_base.specs.declared.history.Entry.{Entry}
use Rattle.net_base.specs.declared.noted.Noted.{Noted}
use Rattle.net_base.specs.declared.world.World.{World}
use Rattle.net_base.specs.Callers.{IsClock, caller_count, caller_of, clock_number}
use Rattle.net_base.specs.Net.{Net}
use Rattle.net_base.specs.Next.{by}
use Rattle.net_base.specs.Stamped.{at, moment_noted}
use Rattle.net_base.specs.Tasks.{Tasks}
use Rattle.history_laws.specs.Could.{is_full}
use Rattle.journal.specs.declared.law.Roster.{Roster}
use Rattle.journal.specs.declared.tokens.Sight.{Sight}
use Rattle.journal.specs.Rule.{Lawful}
use Rattle.journal.specs.Tokens.{HoldsPass, Looked}
use Rattle.net_actors.specs.Numbers.{count_in}
use Rattle.net_locks.specs.Guests.{IsOfGuests}
use Rattle.net_locks.specs.Rosters.{IsRosterOf}
use Rattle.net_locks.specs.Works.{entries, noted_net}
use Rattle.net_locks.specs.declared.clock.Standing.{Standing}
use Rattle.net_locks.specs.Standings.{AllStand}
use Rattle.net_locks.specs.Turns.{HasRoom, own_seen}
use Rattle.net_locks.proofs.Concluding.{of_guests}
use Rattle.net_locks.proofs.Rows.{known}
use Rattle.net_locks.proofs.Sighted.{clock_at, counted, holds_all, looked_same}

-- Room.

module _ (ts : Tasks) (w : World) (r : Roster) (p : Sight) (ss : List Standing) (stand : AllStand ts w r p ss) (callers : r.callers ≡ caller_count w)
    (past : (noted_net w p.seen).past ≡ entries p.seen) (c : ℕ) (is : caller_of w c ≡ IsClock) where
  abbrev net : Net
  net = noted_net w p.seen

  number_is : c ≡ clock_number w
  number_is = clock_at w c is

  pub known_clock : c < r.callers
  known_clock = omega (arith, number_is, callers)

  -- its entries are with the pass
  pub list_of : (es : List (ℕ × Noted)) × HoldsPass p c es × (own_seen c p ≡ es)
  list_of =
      let s = stand.all c known_clock in
      let st = stand.each s.0 s.1 in
      subst (λ (k : ℕ). (es : List (ℕ × Noted)) × HoldsPass p k es × (own_seen k p ≡ es)) s.2 (st.guest.list, st.guest.held, st.guest.all)

  full_is : is_full net (clock_number w) ≡ (length (own_seen c p) == 131072)
  full_is =
      ap (λ (k : ℕ). is_full net k) (sym number_is)
      ∙ (ap (λ (h : List Entry). length (by h c) == 131072) past ∙ ap (λ (n : ℕ). n == 131072) (counted c 0 p.seen))

  many : (n : ℕ) → ((es : List (ℕ × Noted)) → HoldsPass p c es → n + length es ≡ 131072) → n + length (own_seen c p) ≡ 131072
  many n room = let l = list_of in omega (arith, room l.0 l.1, ap length l.2)

  pub full_clock : (n : ℕ) → ((es : List (ℕ × Noted)) → HoldsPass p c es → n + length es ≡ 131072) → n ≡ 0 → is_full net (clock_number w) ≡ true
  full_clock n room none = full_is ∙ eq-eqb (length (own_seen c p)) 131072 (omega (arith, many n room, none))

  pub has_room : (n : ℕ) → ((es : List (ℕ × Noted)) → HoldsPass p c es → n + length es ≡ 131072) → (n ≡ 0 → ⊥) → HasRoom c p
  has_room n room some = omega (arith, many n room, some)

  pub free_clock : HasRoom c p → is_full net (clock_number w) ≡ false
  free_clock room = full_is ∙ ne_eqb (length (own_seen c p)) 131072 (λ e. absurd (omega (arith, e, room)))

pub room_as : (p p' : Sight) (c n : ℕ) → p' ≡ p → ((es : List (ℕ × Noted)) → HoldsPass p' c es → n + length es ≡ 131072) → (es : List (ℕ × Noted)) → HoldsPass p c es → n + length es ≡ 131072
room_as p p' c n same room = subst (λ (q : Sight). (es : List (ℕ × Noted)) → HoldsPass q c es → n + length es ≡ 131072) same room

pub flipped : (a b x : Bool) → b ≡ not a → b ≡ x → a ≡ not x
flipped true b x is at = ap not (sym is ∙ at)
flipped false b x is at = ap not (sym is ∙ at)

-- a moment that isn't the last comes before it
pub in_end : (moment_noted end now last : ℕ) → moment_noted ≤ end → moment_noted ≡ now → end ≡ last → (now ≡ last → ⊥) → moment_noted < end
in_end moment_noted end now last within here is apart = omega arith

-- the history by a look
pub guests_seen : (ts : Tasks) (w : World) (r : Roster) (p q : Sight) (ss : List Standing) (front : ℕ) → AllStand ts w r p ss → IsRosterOf w r → Looked r p front q → IsOfGuests w r p.seen
guests_seen ts w r p q ss front stand roster look =
    of_guests ts w r p ss stand (known w (count_in w) r.actors roster.actors_are) roster.callers_are
    (subst (λ (s : Sight). Lawful r s.seen) (looked_same r p front q (holds_all ts w r p ss stand) look) look.lawful)
