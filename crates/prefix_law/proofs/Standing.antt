-- The end of a conversation as it last stood is that of its pair.
use Rattle.std.proofs.Common.{◌≡◌, ℕ, ◌==◌, ◌&&◌, Bool, true, false, cond, List, [], ◌∷◌, ◌++◌, length, Some, ◌⊎◌, inl, inr, refl, sym, ap, subst, ◌∙◌, arith}
use Rattle.std.proofs.lemmas.Option.{none-some}
use Rattle.std.proofs.lemmas.Bool.{and_from, eqb-true, eqb-false, eq-eqb}
use Rattle.net_base.specs.declared.actor.ActorName.{ActorName}
use Rattle.net_base.specs.declared.actor.ActorName.TheVariants as actor
use Rattle.net_base.specs.declared.address.Pair.{Pair}
use Rattle.net_base.specs.declared.address.Proto.TheVariants as proto
use Rattle.net_base.specs.declared.history.Entry.{Entry}
use Rattle.net_base.specs.declared.timer.Timers.TheVariants.{Fixed}
use Rattle.net_base.specs.declared.world.World.{World}
use Rattle.net_base.specs.Actors.{Actor, IsDesk, IsConv, IsDir, IsMedium, IsPlain}
use Rattle.net_base.specs.Conversation.{Conv, Core, Il, Udp, Stage, Unused, Listening, Connected}
use Rattle.net_base.specs.IlEnd.{End, fresh_end}
use Rattle.net_base.specs.Legal.{IsLegalBy, MayFollowBy}
use Rattle.net_base.specs.Net.{Net, opening_net, next_net, net_of, after, work_of}
use Rattle.net_base.specs.Stamped.{same_actor}
use Rattle.net_base.specs.Tasks.{Tasks}
use Rattle.net_base.specs.World.{IsWorld}
use Rattle.net_base.specs.Written.{Conversation, actor_of, end_in, shown_in, stood_from, stood}
use Rattle.prefix_law.proofs.Books.{conv_of, EntryAccount, NoEntry}
use Rattle.prefix_law.proofs.ConvMoves.{is_connected}
use Rattle.prefix_law.proofs.Happened.{Happened, happened, kept_at}
use Rattle.history_laws.proofs.Shared.{by_entries, legal_push, after_push, next_same}
use Rattle.prefix_law.proofs.Pairs.{Side}
use Rattle.prefix_law.proofs.Touch.{owner_of, HasEnd, ConvFine, ActorFine}
use Rattle.prefix_law.proofs.Trace.{Owner, Trace, empty_side, actor_trace, trace}
use Rattle.prefix_law.proofs.Whole.{Kept}

-- both have written, got and had acknowledged the same
pub record Same (e e' : End) : Type 0 where
  pub sent_is : e.sent ≡ e'.sent
  pub got_is : e.got ≡ e'.got
  pub acked_is : e.acked ≡ e'.acked

same_from : (e e' : End) → e ≡ e' → Same e e'
same_from e e' is = record { sent_is = ap (λ (x : End). x.sent) is; got_is = ap (λ (x : End). x.got) is; acked_is = ap (λ (x : End). x.acked) is }

pub record Stood (t : Trace) (last : Owner → End) : Type 0 where
  pub had : (p : Pair) (o : Owner) → t.owner p ≡ Some o → Same (last o) (t.side p).end
  pub none : (o : Owner) → ((p : Pair) → t.owner p ≡ Some o → ⊥) → Same (last o) (fresh_end Fixed)

-- The end that an actor shows.

module _ (t : Trace) (owned_unique : (p q : Pair) (o : Owner) → t.owner p ≡ Some o → t.owner q ≡ Some o → p ≡ q) where
  -- of a pair's own conversation in its own generation
  own_end : (o : Owner) (c : Conv) (p : Pair) → ConvFine t o.host o.slot c → c.generation ≡ o.generation → t.owner p ≡ Some o → (before : End) → Same (end_in c.core before) (t.side p).end
  own_end o c p fine same owns before = go c.stage c.core refl fine.0
    where
      owns' : t.owner p ≡ owner_of o.host o.slot c.generation
      owns' = owns ∙ ap (λ (g : ℕ). Some (record { host = o.host; slot = o.slot; generation = g })) (sym same)

      empty : is_connected c.stage ≡ false → t.side p ≡ empty_side
      empty not = fine.1 p c.generation owns' (omega arith) (λ _. not)

      go : (s : Stage) (core : Core) → c.stage ≡ s → HasEnd t o.host o.slot c s core → Same (end_in core before) (t.side p).end
      go Connected (Il e) is has = same_from e (t.side p).end (sym has.1 ∙ ap (λ (q : Pair). (t.side q).end) (owned_unique c.pair p _ has.0 owns'))
      go Unused (Il e) is has =
          let bare = ap (λ (x : Side). x.end) (empty (ap is_connected is)) in
          record {
            sent_is = ap (λ (x : End). x.sent) has ∙ sym (ap (λ (x : End). x.sent) bare);
            got_is = ap (λ (x : End). x.got) has ∙ sym (ap (λ (x : End). x.got) bare);
            acked_is = ap (λ (x : End). x.acked) has ∙ sym (ap (λ (x : End). x.acked) bare);
          }
      go Listening (Il e) is has =
          let bare = ap (λ (x : Side). x.end) (empty (ap is_connected is)) in
          record { sent_is = has.3 ∙ sym (ap (λ (x : End). x.sent) bare); got_is = has.4 ∙ sym (ap (λ (x : End). x.got) bare); acked_is = has.5 ∙ sym (ap (λ (x : End). x.acked) bare) }
      go Connected (Udp e) is has = absurd has
      go Unused (Udp e) is has = absurd has
      go Listening (Udp e) is has = absurd has

  -- of a conversation that has no pair in its generation
  bare_end : (o : Owner) (c : Conv) → ConvFine t o.host o.slot c → c.generation ≡ o.generation → ((p : Pair) → t.owner p ≡ Some o → ⊥) → (before : End) → Same (end_in c.core before) (fresh_end Fixed)
  bare_end o c fine same alone before = go c.stage c.core fine.0
    where
      go : (s : Stage) (core : Core) → HasEnd t o.host o.slot c s core → Same (end_in core before) (fresh_end Fixed)
      go Connected (Il e) has = absurd (alone c.pair (has.0 ∙ ap (λ (g : ℕ). Some (record { host = o.host; slot = o.slot; generation = g })) same))
      go Unused (Il e) has = record { sent_is = ap (λ (x : End). x.sent) has; got_is = ap (λ (x : End). x.got) has; acked_is = ap (λ (x : End). x.acked) has }
      go Listening (Il e) has = record { sent_is = has.3; got_is = has.4; acked_is = has.5 }
      go Connected (Udp e) has = absurd has
      go Unused (Udp e) has = absurd has
      go Listening (Udp e) has = absurd has

-- One entry more.

pub stood_push : (w : World) (e : Conversation) (h : List Entry) (x : Entry) → stood w (h ++ x ∷ []) e ≡ shown_in e.generation ((after w (h ++ x ∷ [])).actors (actor_of e)) (stood w h e)
stood_push w e h x = go (opening_net w) (fresh_end w.timers) h ∙ ap (λ (net : Net). shown_in e.generation (net.actors (actor_of e)) (stood w h e)) (sym (after_push w h x))
  where
    go : (net : Net) (last : End) (xs : List Entry) → stood_from w e net last (xs ++ x ∷ []) ≡ shown_in e.generation ((next_net w (net_of w net xs) x).actors (actor_of e)) (stood_from w e net last xs)
    go net last [] = refl
    go net last (y ∷ xs) = go (next_net w net y) (shown_in e.generation ((next_net w net y).actors (actor_of e)) last) xs

-- what an actor shows: its own end where it is in the generation, else what was before
shown_cases : (P : End → Type 0) (g : ℕ) (a : Actor) (before : End)
    → ((c : Conv) → a ≡ IsConv c → c.generation ≡ g → P (end_in c.core before)) → (((c : Conv) → a ≡ IsConv c → c.generation ≡ g → ⊥) → P before) → P (shown_in g a before)
shown_cases P g (IsConv c) before own other = go (c.generation == g) refl
  where
    go : (b : Bool) → (c.generation == g) ≡ b → P (cond b (end_in c.core before) before)
    go true is = own c refl (eqb-true c.generation g is)
    go false is = other (λ d same gen. eqb-false c.generation g is (conv_same c d same gen))
      where
        conv_same : (c d : Conv) → IsConv c ≡ IsConv d → d.generation ≡ g → c.generation ≡ g
        conv_same c d same gen = let e : c ≡ d = cc in ap (λ (x : Conv). x.generation) e ∙ gen
shown_cases P g (IsDir d) before own other = other (λ c is gen. is_no_conv c is)
  where
    is_no_conv : (c : Conv) → IsDir d ≡ IsConv c → ⊥
    is_no_conv c is = cc
shown_cases P g (IsMedium m) before own other = other (λ c is gen. is_no_conv c is)
  where
    is_no_conv : (c : Conv) → IsMedium m ≡ IsConv c → ⊥
    is_no_conv c is = cc
shown_cases P g (IsDesk d) before own other = other (λ c is gen. is_no_conv c is)
  where
    is_no_conv : (c : Conv) → IsDesk d ≡ IsConv c → ⊥
    is_no_conv c is = cc
shown_cases P g IsPlain before own other = other (λ c is gen. is_no_conv c is)
  where
    is_no_conv : (c : Conv) → IsPlain ≡ IsConv c → ⊥
    is_no_conv c is = cc

module _ (w : World) (world : IsWorld w) where
  abbrev last : List Entry → Owner → End
  last h o = stood w h (conv_of o)

  more : {ts : Tasks} (h : List Entry) (x : Entry) → IsLegalBy ts w h → MayFollowBy ts w h x → Stood (trace w h) (last h) → Stood (trace w (h ++ x ∷ [])) (last (h ++ x ∷ []))
  more h x legal may s = record { had = had; none = none }
    where
      h' : List Entry
      h' = h ++ x ∷ []

      d : Happened w h x
      d = happened w world h x legal may

      u : Trace
      u = actor_trace x.actor d.step.state (work_of (after w h) x) d.step.outcome (trace w h)

      kept : Kept w (length h') (after w h') (trace w h') h'
      kept = kept_at w world h' (legal_push w h x legal may)

      fine : (o : Owner) (c : Conv) → (after w h').actors (actor.Conv o.host proto.Il o.slot) ≡ IsConv c → ConvFine (trace w h') o.host o.slot c
      fine o c is = subst (λ (a : Actor). ActorFine (trace w h') o.host o.slot a) is (kept.fine.all.convs o.host o.slot)

      -- the side of another generation or conversation stays
      still : (p : Pair) (o : Owner) → (trace w h).owner p ≡ Some o → ((c : Conv) → (after w h').actors (actor.Conv o.host proto.Il o.slot) ≡ IsConv c → c.generation ≡ o.generation → ⊥) → (trace w h').side p ≡ (trace w h).side p
      still p o owns not =
          ap (λ (t : Trace). t.side p) d.trace_is
          ∙ d.leaves.still p o owns (λ c state_is actor_is gen. not c (ap (λ (net : Net). net.actors (actor.Conv o.host proto.Il o.slot)) d.net_is ∙ (next_same w (after w h) x (actor.Conv o.host proto.Il o.slot) (Some d.step) (same_itself x.actor o actor_is) ∙ state_is)) gen)
        where
          same_itself : (a : ActorName) (o : Owner) → a ≡ actor.Conv o.host proto.Il o.slot → same_actor a (actor.Conv o.host proto.Il o.slot) ≡ true
          same_itself a o is =
              subst (λ (b : ActorName). same_actor b (actor.Conv o.host proto.Il o.slot) ≡ true) (sym is)
              (and_from ((o.host == o.host) && true) (o.slot == o.slot) (and_from (o.host == o.host) true (eq-eqb o.host o.host refl) refl) (eq-eqb o.slot o.slot refl))

      had : (p : Pair) (o : Owner) → (trace w h').owner p ≡ Some o → Same (last h' o) ((trace w h').side p).end
      had p o owns =
          subst (λ (e : End). Same e ((trace w h').side p).end) (sym (stood_push w (conv_of o) h x))
          (shown_cases (λ (e : End). Same e ((trace w h').side p).end) o.generation ((after w h').actors (actor.Conv o.host proto.Il o.slot)) (last h o)
          (λ c is gen. own_end (trace w h') kept.fine.owned.unique o c p (fine o c is) gen owns (last h o))
          (λ not. before not (d.leaves.booked.had p o (sym (ap (λ (t : Trace). t.owner p) d.trace_is) ∙ owns))))
        where
          before : ((c : Conv) → (after w h').actors (actor.Conv o.host proto.Il o.slot) ≡ IsConv c → c.generation ≡ o.generation → ⊥)
              → (((trace w h).owner p ≡ Some o) × EntryAccount o x.actor x.event d.step.outcome.reply ((trace w h).side p).end (u.side p).end) ⊎ (((q : Pair) → (trace w h).owner q ≡ Some o → ⊥) × (u.side p ≡ empty_side) × NoEntry o x.actor x.event d.step.outcome.reply)
              → Same (last h o) ((trace w h').side p).end
          before not (inl old) = subst (λ (y : Side). Same (last h o) y.end) (sym (still p o old.0 not)) (s.had p o old.0)
          before not (inr new) = subst (λ (y : Side). Same (last h o) y.end) (sym (ap (λ (t : Trace). t.side p) d.trace_is ∙ new.1)) (s.none o new.0)

      none : (o : Owner) → ((p : Pair) → (trace w h').owner p ≡ Some o → ⊥) → Same (last h' o) (fresh_end Fixed)
      none o alone =
          subst (λ (e : End). Same e (fresh_end Fixed)) (sym (stood_push w (conv_of o) h x))
          (shown_cases (λ (e : End). Same e (fresh_end Fixed)) o.generation ((after w h').actors (actor.Conv o.host proto.Il o.slot)) (last h o)
          (λ c is gen. bare_end (trace w h') kept.fine.owned.unique o c (fine o c is) gen alone (last h o))
          (λ not. s.none o (d.leaves.booked.none o (λ p is. alone p (ap (λ (t : Trace). t.owner p) d.trace_is ∙ is))).0))

  pub all_stood : {ts : Tasks} (h : List Entry) → IsLegalBy ts w h → Stood (trace w h) (last h)
  all_stood h legal =
      by_entries w (λ (k : List Entry). Stood (trace w k) (last k))
      (record { had = λ p o is. absurd (none-some o is); none = λ o alone. record { sent_is = refl; got_is = refl; acked_is = refl } })
      more h legal
