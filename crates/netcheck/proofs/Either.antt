-- A history is legal and timed, or it has a fault.
use Rattle.std.proofs.Common.{◌≡◌, ℕ, zero, suc, ◌<◌, ◌≤◌, ◌==◌, Bool, true, false, List, [], ◌∷◌, ◌++◌, length, take, take_all, Option, Some, None, is_some, slice_get, ◌⊎◌, inl, inr, refl, sym, ap, subst, ◌∙◌, arith}
use Rattle.std.proofs.lemmas.Bool.{cases_eq, cases_lt, eqb-true, eqb-false, false≢true, true≢false}
use Rattle.std.proofs.lemmas.Option.{none-some, same_Some}
use Rattle.net_base.specs.declared.actor.ActorName.{ActorName}
use Rattle.net_base.specs.declared.actor.ActorName.TheVariants as name
use Rattle.net_base.specs.declared.event.Event.{Event}
use Rattle.net_base.specs.declared.event.Event.TheVariants as event
use Rattle.net_base.specs.declared.history.Entry.{Entry}
use Rattle.net_base.specs.declared.history.Outcome.{Outcome}
use Rattle.net_base.specs.declared.packet.Header.{Header}
use Rattle.net_base.specs.declared.reply.Reply.{Reply}
use Rattle.net_base.specs.declared.world.World.{World}
use Rattle.net_base.specs.Actors.{has_actor}
use Rattle.net_base.specs.Callers.{Caller, IsScript, IsCourier, IsClock, IsNobody, caller_of, caller_count}
use Rattle.net_base.specs.Calm.{most_entries, movable, target}
use Rattle.net_base.specs.Duties.{Duty}
use Rattle.net_base.specs.Legal.{Answers, AtMoment, Cites, Asked, Ready, InTime, Known, HasRoom, IsAsked, IsFault, IsInTime, IsLegal, IsMove, IsNext, IsTimed, Keeps, MayFollow, Rule, Shown, Shows, asked_by, cites_of, rule_number, shown_by, shown_of}
use Rattle.net_base.specs.Net.{Net, after, outcome_in}
use Rattle.net_base.specs.Next.{by, next_recorded}
use Rattle.net_base.specs.Steps.{Ask}
use Rattle.history_laws.proofs.Shared.{legal_push, one_more, timed_push}
use Rattle.netcheck.proofs.Codes.{Decided, decide_actor, decide_event, decide_header, decide_reply}
use Rattle.netcheck.specs.Judged.{KeepsAt}
use Rattle.netcheck.proofs.Least.{same_rule}

-- Values.

decide_bool : (b c : Bool) → Decided (b ≡ c)
decide_bool true true = inl refl
decide_bool true false = inr true≢false
decide_bool false true = inr false≢true
decide_bool false false = inl refl

decide_below : (a b : ℕ) → Decided (a < b)
decide_below a b = by_order (cases_lt a b)
  where
    by_order : (a < b) ⊎ (b ≤ a) → Decided (a < b)
    by_order (inl lt) = inl lt
    by_order (inr le) = inr (λ lt. omega (arith, lt, le))

decide_option : {A : Type 0} → ((x y : A) → Decided (x ≡ y)) → (o p : Option A) → Decided (o ≡ p)
decide_option {A} each None None = inl refl
decide_option {A} each None (Some y) = inr (λ e. none-some y e)
decide_option {A} each (Some x) None = inr (λ e. none-some x (sym e))
decide_option {A} each (Some x) (Some y) = go (each x y)
  where
    go : Decided (x ≡ y) → Decided (◌≡◌ {A = Option A} (Some x) (Some y))
    go (inl is) = inl (ap (λ (z : A). Some z) is)
    go (inr other) = inr (λ e. other (same_Some x y e))

decide_both : {P Q : Type 0} → Decided P → Decided Q → Decided (P × Q)
decide_both (inl p) (inl q) = inl (p, q)
decide_both (inl p) (inr never) = inr (λ both. never both.1)
decide_both (inr never) q = inr (λ both. never both.0)

same_asks : {a b : ActorName} {d e : Event} → a ≡ b → d ≡ e → ◌≡◌ {A = Ask} (record { actor = a; event = d }) (record { actor = b; event = e })
same_asks one two = rw (one, two) refl

decide_ask : (a b : Ask) → Decided (a ≡ b)
decide_ask a b = go (decide_both (decide_actor a.actor b.actor) (decide_event a.event b.event))
  where
    go : Decided ((a.actor ≡ b.actor) × (a.event ≡ b.event)) → Decided (a ≡ b)
    go (inl both) = inl (same_asks both.0 both.1)
    go (inr other) = inr (λ e. other (ap (λ (k : Ask). k.actor) e, ap (λ (k : Ask). k.event) e))

pub same_shown : {r s : Reply} {e f : Option Header} {a b : Bool} → r ≡ s → e ≡ f → a ≡ b
    → ◌≡◌ {A = Shown} (record { reply = r; emits = e; ended = a }) (record { reply = s; emits = f; ended = b })
same_shown one two three = rw (one, two, three) refl

decide_shown : (x y : Shown) → Decided (x ≡ y)
decide_shown x y = go (decide_both (decide_reply x.reply y.reply) (decide_both (decide_header x.emits y.emits) (decide_bool x.ended y.ended)))
  where
    go : Decided ((x.reply ≡ y.reply) × ((x.emits ≡ y.emits) × (x.ended ≡ y.ended))) → Decided (x ≡ y)
    go (inl all) = inl (same_shown all.0 all.1.0 all.1.1)
    go (inr other) = inr (λ e. other (ap (λ (s : Shown). s.reply) e, (ap (λ (s : Shown). s.emits) e, ap (λ (s : Shown). s.ended) e)))

-- Rules.

decide_shows : (o : Option Outcome) (x : Entry) → Decided (Shows o x)
decide_shows None x = inl tt
decide_shows (Some o) x = decide_shown (shown_by x) (shown_of o)

decide_move : (a : ActorName) (e : Event) → Decided (IsMove a e)
decide_move name.Clock (event.Move m) = inl tt
decide_move _ _ = inr (λ is. is)

decide_next : (k : Caller) (ask : Option Ask) (x : Entry) → Decided (IsNext k ask x)
decide_next (IsScript s) ask x = decide_option decide_ask ask (Some (asked_by x))
decide_next (IsCourier m) ask x = decide_option decide_ask ask (Some (asked_by x))
decide_next IsClock ask x = decide_move x.actor x.event
decide_next IsNobody ask x = decide_option decide_ask ask (Some (asked_by x))

decide_asked : (ds : List Duty) (k : Caller) (ask : Option Ask) (x : Entry) → Decided (IsAsked ds k ask x)
decide_asked [] k ask x = decide_next k ask x
decide_asked (d ∷ ds) k ask x = decide_ask (record { actor = d.actor; event = d.event }) (asked_by x)

decide_in_time : (net : Net) (w : World) (e : Event) → Decided (IsInTime net w e)
decide_in_time net w (event.Move m) = decide_both (decide_bool (movable w net) true) (cases_eq m (target w net))
decide_in_time net w _ = inl tt

decide_keeps : (r : Rule) (w : World) (past : List Entry) (net : Net) (x : Entry) → Decided (Keeps r w past net x)
decide_keeps Answers w past net x = decide_shows (outcome_in w net x) x
decide_keeps AtMoment w past net x = cases_eq x.moment net.moment
decide_keeps Cites w past net x = decide_option cases_eq x.cites (cites_of (net.owed x.caller))
decide_keeps Asked w past net x = decide_asked (net.owed x.caller) (caller_of w x.caller) (next_recorded w past x.caller) x
decide_keeps Ready w past net x = decide_bool (is_some (outcome_in w net x)) true
decide_keeps InTime w past net x = decide_in_time net w x.event
decide_keeps Known w past net x = decide_both (decide_bool (has_actor w x.actor) true) (decide_below x.caller (caller_count w))
decide_keeps HasRoom w past net x = decide_below (length (by past x.caller)) most_entries

-- The least that an entry breaks.

some_number : (q : Rule) → 0 < rule_number q
some_number Answers = omega arith
some_number AtMoment = omega arith
some_number Cites = omega arith
some_number Asked = omega arith
some_number Ready = omega arith
some_number InTime = omega arith
some_number Known = omega arith
some_number HasRoom = omega arith

at_most_eight : (q : Rule) → rule_number q ≤ 8
at_most_eight Answers = omega arith
at_most_eight AtMoment = omega arith
at_most_eight Cites = omega arith
at_most_eight Asked = omega arith
at_most_eight Ready = omega arith
at_most_eight InTime = omega arith
at_most_eight Known = omega arith
at_most_eight HasRoom = omega arith

record IsLeast (w : World) (h : List Entry) (x : Entry) (r : Rule) : Type 0 where
  lower : (q : Rule) → rule_number q < rule_number r → KeepsAt q w h x
  broken : KeepsAt r w h x → ⊥

-- the entry keeps the rules of the numbers up to this one, or one of them is the least that it breaks
abbrev Found : World → List Entry → Entry → ℕ → Type 0
Found w h x n = ((q : Rule) → rule_number q ≤ n → KeepsAt q w h x) ⊎ ((r : Rule) × IsLeast w h x r)

one_rule_more : (w : World) (h : List Entry) (x : Entry) (r : Rule) (n : ℕ) → rule_number r ≡ suc n → Found w h x n → Found w h x (suc n)
one_rule_more w h x r n is (inr found) = inr found
one_rule_more w h x r n is (inl all) = go (decide_keeps r w h (after w h) x)
  where
    kept : KeepsAt r w h x → (q : Rule) → rule_number q ≤ suc n → KeepsAt q w h x
    kept keeps q le = by_equal (rule_number q == suc n) refl
      where
        by_equal : (b : Bool) → (rule_number q == suc n) ≡ b → KeepsAt q w h x
        by_equal true same = subst (λ (s : Rule). KeepsAt s w h x) (same_rule r q (is ∙ sym (eqb-true (rule_number q) (suc n) same))) keeps
        by_equal false apart = all q (omega (arith, le, eqb-false (rule_number q) (suc n) apart))

    go : Decided (KeepsAt r w h x) → Found w h x (suc n)
    go (inl keeps) = inl (kept keeps)
    go (inr broken) = inr (r, record { lower = λ q below. all q (omega (arith, below, is)); broken = broken })

found : (w : World) (h : List Entry) (x : Entry) → Found w h x 8
found w h x =
    one_rule_more w h x HasRoom 7 refl (one_rule_more w h x Known 6 refl (one_rule_more w h x InTime 5 refl (one_rule_more w h x Ready 4 refl
    (one_rule_more w h x Asked 3 refl (one_rule_more w h x Cites 2 refl (one_rule_more w h x AtMoment 1 refl (one_rule_more w h x Answers 0 refl none)))))))
  where
    none : Found w h x 0
    none = inl (λ q le. absurd (omega (arith, le, some_number q)))

-- Histories.

abbrev pub HasSome : World → List Entry → Type 0
HasSome w h = (s : ℕ) × (r : Rule) × IsFault w h s r

may_follow : (w : World) (h : List Entry) (x : Entry) → ((q : Rule) → rule_number q ≤ 8 → KeepsAt q w h x) → MayFollow w h x
may_follow w h x all = record {
  answers = all Answers (at_most_eight Answers);
  at_moment = all AtMoment (at_most_eight AtMoment);
  cites = all Cites (at_most_eight Cites);
  is_asked = all Asked (at_most_eight Asked);
  is_ready = all Ready (at_most_eight Ready);
  is_known = all Known (at_most_eight Known);
  has_room = all HasRoom (at_most_eight HasRoom);
}

module _ (w : World) (h : List Entry) where
  abbrev UpTo : ℕ → Type 0
  UpTo k = (IsLegal w (take k h) × IsTimed w (take k h)) ⊎ HasSome w h

  one_entry_more : (k : ℕ) → k < length h → UpTo k → UpTo (suc k)
  one_entry_more k lt (inr fault) = inr fault
  one_entry_more k lt (inl both) = go (found w (take k h) x)
    where
      there : (x : Entry) × (slice_get h k ≡ Some x) × (take (suc k) h ≡ take k h ++ x ∷ [])
      there = one_more h k lt

      x : Entry
      x = there.0

      go : Found w (take k h) x 8 → UpTo (suc k)
      go (inl all) = inl (
        subst (IsLegal w) (sym there.2) (legal_push w (take k h) x both.0 (may_follow w (take k h) x all)),
        subst (IsTimed w) (sym there.2) (timed_push w (take k h) x both.1 (all InTime (at_most_eight InTime))),
      )
      go (inr least) = inr (
        k,
        least.0,
        record {
          entry = x;
          stands = there.1;
          legal = both.0;
          timed = both.1;
          lower = least.1.lower;
          broken = least.1.broken;
        },
      )

  up_to : (k : ℕ) → k ≤ length h → UpTo k
  up_to zero le = inl (λ j x is. absurd (none-some x is), λ j x is. absurd (none-some x is))
  up_to (suc k) le = one_entry_more k (omega (arith, le)) (up_to k (omega (arith, le)))

  pub legal_or_fault : (IsLegal w h × IsTimed w h) ⊎ HasSome w h
  legal_or_fault = go (up_to (length h) (omega arith))
    where
      all : take (length h) h ≡ h
      all = take_all (length h) h (omega arith)

      go : UpTo (length h) → (IsLegal w h × IsTimed w h) ⊎ HasSome w h
      go (inl both) = inl (subst (IsLegal w) all both.0, subst (IsTimed w) all both.1)
      go (inr fault) = inr fault
