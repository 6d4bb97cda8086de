-- A number goes to the clock's guest, and comes back.
use Rattle.std.proofs.Common.{◌≡◌, ℕ, ◌<◌, ◌^◌, ◌==◌, false, List, [], refl, sym, subst, ◌∙◌}
use Rattle.net_base.specs.declared.noted.Noted.{Noted}
use Rattle.net_base.specs.declared.world.Script.{Script}
use Rattle.net_base.specs.declared.world.World.{World}
use Rattle.net_base.specs.Callers.{IsScript, caller_of}
use Rattle.net_base.specs.Duties.{Duty}
use Rattle.net_base.specs.Stamped.{moment_noted}
use Rattle.net_base.specs.Steps.{no_names}
use Rattle.journal.specs.declared.law.Roster.{Roster}
use Rattle.journal.specs.declared.tokens.Sight.{Sight}
use Rattle.duties.specs.Marks.{Covers, Marks}
use Rattle.net_locks.specs.Guests.{HandsOver, IsGuest, StaysGuest}
use Rattle.net_locks.specs.declared.calendar.Calendar.{Calendar}
use Rattle.net_locks.specs.Knowing.{IsKnown}
use Rattle.net_locks.specs.Turns.{own_seen}
use Rattle.net_guests.proofs.Handing.{goes_over, moment_here, moment_over, moment_there, stays_here, stays_there}
use Rattle.net_guests.proofs.Operating.{StaysKnown, visit}
use Rattle.net_guests.proofs.Passes.{itself}
use Rattle.net_guests.specs.Visits.{IsHosted, IsWith, Visit}

-- the laws of a number that goes over
abbrev pub Overs : World → Roster → Type 0
Overs w r = (c : ℕ) (p q p' q' : Sight) (ds : List Duty) → HandsOver r c p q p' q' → IsGuest w r c p ds → StaysGuest w r c p ds q'

abbrev pub Theres : World → Roster → Type 0
Theres w r = (c d : ℕ) (p q p' q' : Sight) (ds : List Duty) → HandsOver r c p q p' q' → IsGuest w r d q ds → StaysGuest w r d q ds q'

abbrev pub Heres : World → Roster → Type 0
Heres w r =
    (c d : ℕ) (p q p' q' : Sight) (ds : List Duty) → HandsOver r c p q p' q' → (d == c) ≡ false → IsGuest w r d p ds → StaysGuest w r d p ds p'

module _ (w : World) (r : Roster) (over : Overs w r) (there : Theres w r) (v : Visit) (mine : IsGuest w r v.caller v.sight v.owed)
    (q p1 q1 : Sight) (h : HandsOver r v.caller v.sight q p1 q1) where
  -- its caller is with the clock's guest
  pub lent_one : IsWith w r v q1
  lent_one = goes_over w r v.caller v.sight q p1 q1 h v refl (itself w r v v.sight refl mine) (over v.caller v.sight q p1 q1 v.owed h mine)

  -- who was with it is still
  pub had_still : (u : Visit) → IsWith w r u q → IsWith w r u q1
  had_still u is = stays_there w r v.caller v.sight q p1 q1 h u is (there v.caller u.caller v.sight q p1 q1 u.owed h is.guest)

  -- and its own guest has one number more
  pub clock_with : StaysKnown w → (c now : ℕ) (ds : List Duty) (host : ℕ) (m : Marks) (k : Calendar) → IsHosted w r c now q ds host m k
      → IsHosted w r c now q1 ds host m k
  clock_with stays_known c now ds host m k is =
      let u : Visit = visit c now q ds (no_names []) in
      let with : IsWith w r u q1 = had_still u (itself w r u q refl is.visit.guest) in
      record {
        visit = record {
          guest = with.guest;
          here = is.visit.here ∙ sym (moment_there w r v.caller v.sight q p1 q1 h c ds is.visit.guest);
          early = is.visit.early;
          covers = subst (λ (l : List (ℕ × Noted)). Covers l m) (sym with.stays.alone) is.visit.covers;
          known = stays_known q.seen q1.seen k with.stays.before is.visit.known;
        };
        home = is.home;
      }

-- Back from the clock's guest, whose pass was s.
module _ (w : World) (r : Roster) (over : Overs w r) (here : Heres w r) (c : ℕ) (s p1 s2 p2 : Sight) (b : HandsOver r c s p1 s2 p2) where
  pub returned : (v : Visit) → v.caller ≡ c → IsWith w r v s → IsWith w r v p2
  returned v at_c is =
      goes_over w r c s p1 s2 p2 b v at_c is
      (subst (λ (k : ℕ). StaysGuest w r k s v.owed p2) (sym at_c)
      (over c s p1 s2 p2 v.owed b (subst (λ (k : ℕ). IsGuest w r k s v.owed) at_c is.guest)))

  pub others_stay : (u : Visit) → (u.caller == c) ≡ false → IsWith w r u s → IsWith w r u s2
  others_stay u other is = stays_here w r c s p1 s2 p2 b u other is (here c u.caller s p1 s2 p2 u.owed b other is.guest)

  pub clock_after : StaysKnown w → (d now : ℕ) (ds : List Duty) (host : ℕ) (m : Marks) (k : Calendar) → (d == c) ≡ false
      → IsHosted w r d now s ds host m k → IsHosted w r d now s2 ds host m k
  clock_after stays_known d now ds host m k other is =
      let u : Visit = visit d now s ds (no_names []) in
      let with : IsWith w r u s2 = others_stay u other (itself w r u s refl is.visit.guest) in
      record {
        visit = record {
          guest = with.guest;
          here = is.visit.here ∙ sym (moment_here w r c s p1 s2 p2 b);
          early = is.visit.early;
          covers = subst (λ (l : List (ℕ × Noted)). Covers l m) (sym with.stays.alone) is.visit.covers;
          known = stays_known s.seen s2.seen k with.stays.before is.visit.known;
        };
        home = is.home;
      }

  -- the guest itself, at the clock's moment
  pub me_visits : StaysKnown w → (v : Visit) → v.caller ≡ c → (ds : List Duty) → v.owed ≡ ds → IsWith w r v s → (now : ℕ) → now ≡ moment_noted s.seen
      → now < 2 ^ 63 → (host : ℕ) (touched forgotten : Marks) (k : Calendar) → ((z : Script) → caller_of w v.caller ≡ IsScript z → z.host ≡ host)
      → Covers (own_seen v.caller v.sight) touched → ((es : List (ℕ × Noted)) → Covers es touched → Covers es forgotten)
      → IsKnown w v.sight.seen k → IsHosted w r c now p2 ds host forgotten k
  me_visits stays_known v at_c ds owes is now at early host touched forgotten k home covers forgets known =
      let back : IsWith w r v p2 = returned v at_c is in
      let whole : IsHosted w r v.caller now p2 v.owed host forgotten k =
      record {
        visit = record {
          guest = back.guest;
          here = at ∙ sym (moment_over w r c s p1 s2 p2 b v.owed (subst (λ (n : ℕ). IsGuest w r n s v.owed) at_c is.guest));
          early = early;
          covers = forgets (own_seen v.caller p2) (subst (λ (l : List (ℕ × Noted)). Covers l touched) (sym back.stays.alone) covers);
          known = stays_known v.sight.seen p2.seen k back.stays.before known;
        };
        home = home;
      } in
      subst (λ (l : List Duty). IsHosted w r c now p2 l host forgotten k) owes
      (subst (λ (n : ℕ). IsHosted w r n now p2 v.owed host forgotten k) at_c whole)
