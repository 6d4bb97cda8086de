-- The own entries of a caller that plays a task are what that asks for, in order.
use Rattle.std.proofs.Common.{◌≡◌, ℕ, ◌==◌, Bool, true, false, List, [], ◌∷◌, ◌++◌, length, map, filter, take, Option, Some, None, is_none, slice_get, inl, inr, refl, sym, ap, subst, ◌∙◌, append-nil, arith}
use Rattle.std.proofs.lemmas.Bool.{eqb-true}
use Rattle.std.proofs.lemmas.List.{length-map, map-append, take-append-le, take_at}
use Rattle.std.proofs.lemmas.List.Elements.{filter-append}
use Rattle.std.proofs.lemmas.Option.{none-some}
use Rattle.net_base.specs.declared.history.Entry.{Entry}
use Rattle.net_base.specs.declared.reply.Reply.{Reply}
use Rattle.net_base.specs.declared.world.Script.{Script}
use Rattle.net_base.specs.declared.world.World.{World}
use Rattle.net_base.specs.Callers.{Caller, IsScript, caller_of}
use Rattle.net_base.specs.Duties.{Duty}
use Rattle.net_base.specs.Legal.{IsAsked, IsLegalBy, MayFollowBy, asked_by, cites_of}
use Rattle.net_base.specs.Net.{owed}
use Rattle.net_base.specs.Next.{by, next_by, next_of_by, own_entries, own_replies, place_next, zone_of}
use Rattle.net_base.specs.Steps.{no_names}
use Rattle.net_base.specs.Tasks.{Asking, Tasks, task_next}
use Rattle.history_laws.specs.Asked.{AsksInOrder}
use Rattle.history_laws.proofs.Histories.{by_entries, in_pushed}

pub own_push : (h : List Entry) (c : ℕ) (x : Entry) → own_entries (h ++ x ∷ []) c ≡ own_entries h c ++ own_entries (x ∷ []) c
own_push h c x =
    ap (λ (xs : List Entry). filter (λ (y : Entry). is_none y.cites) xs) (filter-append (λ (y : Entry). y.caller == c) h (x ∷ []))
    ∙ filter-append (λ (y : Entry). is_none y.cites) (by h c) (by (x ∷ []) c)

pub one_own : (x : Entry) → x.cites ≡ None → filter (λ (y : Entry). is_none y.cites) (x ∷ []) ≡ x ∷ []
one_own x is = rw is refl

module _ (ts : Tasks) (w : World) (c : ℕ) (s : Script) (asks : Asking) (script : caller_of w c ≡ IsScript s) (plays : ts c ≡ Some asks) where
  -- each of these is asked for after the replies to those before it
  record InOrder (xs : List Entry) : Type 0 where
    each : (k : ℕ) (x : Entry) → slice_get xs k ≡ Some x
        → task_next s.host (no_names (zone_of w)) asks (take k (map (λ (y : Entry). y.reply) xs)) ≡ Some (asked_by x)

  -- where the caller owes nothing, what it records is asked for
  asked_now : (past : List Entry) (ds : List Duty) (k : Caller) (x : Entry) → None ≡ cites_of ds → k ≡ IsScript s → IsAsked ds k (next_of_by ts w k past c) x
      → task_next s.host (no_names (zone_of w)) asks (own_replies past c) ≡ Some (asked_by x)
  asked_now past [] k x none is asked =
      subst (λ (o : Option Asking). place_next o (zone_of w) s (own_replies past c) ≡ Some (asked_by x)) plays
      (subst (λ (l : Caller). IsAsked [] l (next_of_by ts w l past c) x) is asked)
  asked_now past (d ∷ ds) k x none is asked = absurd (none-some d.cites none)

  -- one more
  in_order_push : (xs : List Entry) (x : Entry) → InOrder xs
      → task_next s.host (no_names (zone_of w)) asks (map (λ (y : Entry). y.reply) xs) ≡ Some (asked_by x) → InOrder (xs ++ x ∷ [])
  in_order_push xs x so_far next = record { each = one }
    where
      rs : List Reply
      rs = map (λ (y : Entry). y.reply) xs

      pushed : map (λ (y : Entry). y.reply) (xs ++ x ∷ []) ≡ rs ++ x.reply ∷ []
      pushed = map-append (λ (y : Entry). y.reply) xs (x ∷ [])

      long : length rs ≡ length xs
      long = length-map xs (λ (y : Entry). y.reply)

      one : (k : ℕ) (y : Entry) → slice_get (xs ++ x ∷ []) k ≡ Some y
          → task_next s.host (no_names (zone_of w)) asks (take k (map (λ (z : Entry). z.reply) (xs ++ x ∷ []))) ≡ Some (asked_by y)
      one k y is =
          elim (in_pushed xs x k y is) [
            | inl there ↦
                let same : take k (map (λ (z : Entry). z.reply) (xs ++ x ∷ [])) ≡ take k rs =
                ap (take k) pushed ∙ take-append-le k rs (x.reply ∷ []) (omega (arith, there.0, long)) in
                subst (λ (l : List Reply). task_next s.host (no_names (zone_of w)) asks l ≡ Some (asked_by y)) (sym same) (so_far.each k y there.1)
            | inr last ↦
                let at_end : k ≡ length rs = last.0 ∙ sym long in
                let whole : take k (rs ++ x.reply ∷ []) ≡ rs = rw at_end (take_at rs (x.reply ∷ []) (length rs) refl) in
                subst (λ (l : List Reply). task_next s.host (no_names (zone_of w)) asks l ≡ Some (asked_by y)) (sym (ap (take k) pushed ∙ whole))
                (subst (λ (z : Entry). task_next s.host (no_names (zone_of w)) asks rs ≡ Some (asked_by z)) last.1 next)
          ]

  push : (h : List Entry) (x : Entry) → IsLegalBy ts w h → MayFollowBy ts w h x → InOrder (own_entries h c) → InOrder (own_entries (h ++ x ∷ []) c)
  push h x legal may so_far = subst InOrder (sym (own_push h c x)) (by_caller (x.caller == c) refl)
    where
      unmoved : InOrder (own_entries h c ++ [])
      unmoved = subst InOrder (sym (append-nil (own_entries h c))) so_far

      by_cites : (o : Option ℕ) → x.cites ≡ o → x.caller ≡ c → InOrder (own_entries h c ++ filter (λ (y : Entry). is_none y.cites) (x ∷ []))
      by_cites (Some k) is same = rw is unmoved
      by_cites None is same =
          subst InOrder (ap (λ (xs : List Entry). own_entries h c ++ xs) (sym (one_own x is)))
          (in_order_push (own_entries h c) x so_far
          (asked_now h (owed w h c) (caller_of w c) x (sym is ∙ subst (λ (d : ℕ). x.cites ≡ cites_of (owed w h d)) same may.cites) script
          (subst (λ (d : ℕ). IsAsked (owed w h d) (caller_of w d) (next_by ts w h d) x) same may.is_asked)))

      by_caller : (b : Bool) → (x.caller == c) ≡ b → InOrder (own_entries h c ++ own_entries (x ∷ []) c)
      by_caller false is = rw is unmoved
      by_caller true is = rw is (by_cites x.cites refl (eqb-true x.caller c is))

  none_yet : InOrder []
  none_yet = record { each = λ k x is. absurd (none-some x is) }

  pub in_order : (h : List Entry) → IsLegalBy ts w h → AsksInOrder w h c s asks
  in_order h legal = (by_entries {ts = ts} w (λ (k : List Entry). InOrder (own_entries k c)) none_yet push h legal).each
