-- Each deed keeps what holds, and so does a run.
use Rattle.std.proofs.Common.{◌≡◌, ℕ, zero, suc, ◌+◌, ◌-◌, ◌^◌, ◌<◌, ◌≤◌, ◌&&◌, nat_lt, Bool, true, false, cond, List, [], ◌∷◌, ◌++◌, length, Option, Some, None, is_none, slice_get, refl, sym, ap, subst, ◌∙◌, arith}
use Rattle.std.proofs.lemmas.Bool.{and_parts, true≢false, cond_both}
use Rattle.std.proofs.lemmas.Option.{none-some, same_Some}
use Rattle.std.proofs.lemmas.List.{length_push}
use Rattle.net_base.specs.declared.il.IlKind.{IlKind}
use Rattle.net_base.specs.declared.il.IlKind.TheVariants.{Sync, Data}
use Rattle.net_base.specs.declared.il.IlMsg.{IlMsg}
use Rattle.net_base.specs.declared.il.IlState.{IlState}
use Rattle.net_base.specs.declared.il.IlState.TheVariants.{Syncer, Syncee, Established, Listening, Closing}
use Rattle.net_base.specs.declared.il.Cause.{Cause}
use Rattle.net_base.specs.declared.il.Cause.TheVariants as cause
use Rattle.net_base.specs.IlEnd.{End, Turn, fresh_end, has_unacked, silent, emitting, starts}
use Rattle.net_base.specs.IlTable.{arrives, connects, is_born, announced, sends, writes, reads, first_unread, hangs_up_at, hangs_up, asks_again, ticks_to, ticks}
use Rattle.net_base.specs.declared.timer.Tick.{Tick}
use Rattle.net_base.specs.declared.timer.Tick.TheVariants as tick
use Rattle.net_base.specs.declared.timer.Timers.{Timers}
use Rattle.net_base.specs.Timer as timer
use Rattle.net_base.specs.Timer.{Timer}
use Rattle.prefix_law.proofs.Pairs.{Side, Talk, Deed, Connects, Is_born, Is_announced, Writes, Reads, Arrives, Hangs_up, Ticks, Event, Near, Far, out_with, leaves, is_new, is_start, is_sync, may_write, born_from, comes_to, does, happens, run, opening, InOrder}
use Rattle.prefix_law.proofs.Begins.{begins_itself, begins_more, begins_prefix, at_push}
use Rattle.prefix_law.proofs.Talking.{SoundAs, Sound, Met, met_untold, answers, HasMet, KnowsAs, Knows, Growth, Grows, grows_itself, sound_stays, Link, link_stays, Talking, Says, Good, good_if, good_same, last_numbered, good_query, good_close, good_sync}
use Rattle.prefix_law.proofs.Rows.{Few, gets_cause, talking, good_arrives}

-- What is asked of an end.

pub both_ways : {b : Bool} → b ≡ true → b ≡ false → ⊥
both_ways is not = true≢false (sym is ∙ not)

-- a fresh end begins anew, with no packet yet
begins_anew : (start : ℕ) (rstart : Option ℕ) (e : End) → e.fresh ≡ true → ((r : ℕ) → e.rstart ≡ Some r → rstart ≡ Some r) → Growth e.start start e.fresh false e.rstart rstart e.sent e.sent e.got e.got e.cause e.cause
begins_anew start rstart e fresh keeps = record {
  same_start = λ h. absurd (both_ways fresh h);
  same_rstart = keeps;
  sent_more = begins_itself e.sent;
  sent_one = omega arith;
  got_more = begins_itself e.got;
  no_more = λ h. (h, begins_itself e.sent);
}

pub good_connects : (now start : ℕ) (e e' : End) → e.fresh ≡ true → e.cause ≡ None → Link e e' → Knows e → Good e e' (connects now start e)
good_connects now start e e' fresh none l knows = record {
  link = l;
  knows = ((refl, none), λ h. (record { r = (knows.1 h).0.r; rstart_is = (knows.1 h).0.rstart_is; not_fresh = refl }, (knows.1 h).1), knows.2);
  grows = begins_anew start e.rstart e fresh (λ r h. h);
  says = (refl, (refl, answers e.rstart));
}

pub good_is_born : (now start id : ℕ) (e e' : End) → e.fresh ≡ true → e.cause ≡ None → e'.fresh ≡ false → id ≡ e'.start → Link e e' → Knows e → Good e e' (is_born now start id e)
good_is_born now start id e e' fresh none old' is l knows =
    let met : Met (Some id) false = record { r = id; rstart_is = refl; not_fresh = refl } in
    record {
      link = record { rstart_is = λ r h. (sym (same_Some id r h) ∙ is, old'); in_order = l.in_order; early_is = l.early_is; acked_got = l.acked_got; all_got = l.all_got };
      knows = ((met, none), λ h. (met, (knows.1 h).1), met_untold _ _ met);
      grows = begins_anew start (Some id) e fresh (λ r h. ap (λ (n : ℕ). Some n) (is ∙ sym (l.rstart_is r h).0));
      says = (refl, (refl, answers (Some id)));
    }

pub good_announced : (e e' : End) → e.fresh ≡ true → Link e e' → Knows e → Good e e' (silent (announced e))
good_announced e e' fresh l knows = record {
  link = l;
  knows = (tt, λ h. (record { r = (knows.1 h).0.r; rstart_is = (knows.1 h).0.rstart_is; not_fresh = refl }, (knows.1 h).1), knows.2);
  grows = begins_anew e.start e.rstart e fresh (λ r h. h);
  says = tt;
}

good_sends : (now : ℕ) (text : List ℕ) (e e0 e' : End) → Talking e0 e' e → e.sent ≡ e0.sent → e0.cause ≡ None → Good e0 e' (sends now text e)
good_sends now text e e0 e' t same none =
    let after = record e { sent = e.sent ++ text ∷ [] } in
    let n : length after.sent ≡ length e.sent + 1 = length_push e.sent text in
    let met : HasMet after = t.1 in
    record {
      link = t.0;
      knows = (t.3.0, t.3.1, met_untold _ _ t.1);
      grows = record {
        same_start = t.2.same_start;
        same_rstart = t.2.same_rstart;
        sent_more = λ k u h. begins_more e.sent (text ∷ []) k u (t.2.sent_more k u h);
        sent_one = omega (arith, n, ap length same);
        got_more = t.2.got_more;
        no_more = λ h. absurd (none-some h.0 (sym none ∙ h.1));
      };
      says = (t.1.not_fresh, (last_numbered Data text after met, record { k = length e.sent; text_is = at_push e.sent text; id_is = rw n refl }));
    }

pub good_writes : (now : ℕ) (text : List ℕ) (e e' : End) → HasMet e → e.cause ≡ None → Link e e' → Knows e → Good e e' (writes now text e)
good_writes now text e e' met none l knows =
    good_if (has_unacked e) _ _ (λ _. good_sends now text e e e' (talking e e' l met knows) refl none) (λ _. good_sends now text (starts now e) e e' (talking e e' l met knows) refl none)

pub good_reads : (count : ℕ) (e e' : End) → Link e e' → Knows e → Good e e' (silent (reads count e))
good_reads count e e' l knows =
    cond_both (nat_lt count (length (first_unread e))) _ _ (λ (x : End). Good e e' (silent x))
    (λ _. record { link = l; knows = knows; grows = grows_itself e; says = tt })
    (λ _. record { link = l; knows = knows; grows = grows_itself e; says = tt })

pub good_hangs_up_at : (s : IlState) (now : ℕ) (e e' : End) → Link e e' → Knows e → KnowsAs s e.rstart e.fresh e.cause → Good e e' (hangs_up_at s now e)
good_hangs_up_at Syncer now e e' l knows as_s = record { link = l; knows = (tt, λ h. ((knows.1 h).0, (cause.Hungup, refl)), knows.2); grows = gets_cause e cause.Hungup; says = tt }
good_hangs_up_at Listening now e e' l knows as_s = record { link = l; knows = (tt, λ h. ((knows.1 h).0, (cause.Hungup, refl)), knows.2); grows = gets_cause e cause.Hungup; says = tt }
good_hangs_up_at Syncee now e e' l knows as_s = good_close e e' (starts now (record e { state = Closing; cause = Some cause.Hungup })) (l, as_s.0, gets_cause e cause.Hungup, ((as_s.0, (cause.Hungup, refl)), λ h. ((knows.1 h).0, (cause.Hungup, refl)), knows.2)) (cause.Hungup, refl)
good_hangs_up_at Established now e e' l knows as_s = good_close e e' (starts now (record e { state = Closing; cause = Some cause.Hungup })) (l, as_s.0, gets_cause e cause.Hungup, ((as_s.0, (cause.Hungup, refl)), λ h. ((knows.1 h).0, (cause.Hungup, refl)), knows.2)) (cause.Hungup, refl)
good_hangs_up_at _ now e e' l knows as_s = good_same e e' l knows

good_asks_again : (s : IlState) (e0 e e' : End) → Link e e' → Knows e → Grows e0 e → KnowsAs s e.rstart e.fresh e.cause → Good e0 e' (asks_again s e)
good_asks_again Syncer e0 e e' l knows grows as_s = record { link = l; knows = knows; grows = grows; says = (as_s.0, (refl, answers e.rstart)) }
good_asks_again Syncee e0 e e' l knows grows as_s = good_sync e0 e' e (l, as_s.0, grows, knows)
good_asks_again Established e0 e e' l knows grows as_s = good_query e0 e' e (l, as_s.0, grows, knows)
good_asks_again Closing e0 e e' l knows grows as_s = good_close e0 e' e (l, as_s.0, grows, knows) as_s.1
good_asks_again _ e0 e e' l knows grows as_s = record { link = l; knows = knows; grows = grows; says = tt }

pub good_ticks : (emitting : Tick) (left : Timer) (e e' : End) → Link e e' → Knows e → Good e e' (ticks_to emitting left e)
good_ticks tick.NotDue left e e' l knows = good_same e e' l knows
good_ticks tick.TimedOut left e e' l knows =
    record { link = l; knows = (tt, λ h. ((knows.1 h).0, (cause.TimedOut, refl)), knows.2); grows = gets_cause e cause.TimedOut; says = tt }
good_ticks tick.Again left e e' l knows = good_asks_again e.state e (record e { timer = left }) e' l knows (grows_itself e) knows.0

-- Sides.

abbrev pub EachSound : End → List IlMsg → Type 0
EachSound e [] = Unit {0}
EachSound e (m ∷ ms) = ((e.fresh ≡ false) × Sound e m) × EachSound e ms

each_stays : (e e' : End) (ms : List IlMsg) → Grows e e' → EachSound e ms → EachSound e' ms
each_stays e e' [] grows all = tt
each_stays e e' (m ∷ ms) grows all = (((grows.same_start all.0.0).1, sound_stays e e' m all.0.0 grows all.0.1), each_stays e e' ms grows all.1)

pub each_at : (e : End) (ms : List IlMsg) (k : ℕ) (m : IlMsg) → EachSound e ms → slice_get ms k ≡ Some m → (e.fresh ≡ false) × Sound e m
each_at e [] k m all is = absurd (none-some m is)
each_at e (x ∷ ms) zero m all is = subst (λ (y : IlMsg). (e.fresh ≡ false) × Sound e y) (same_Some x m is) all.0
each_at e (x ∷ ms) (suc k) m all is = each_at e ms k m all.1 is

-- what a side has from the other, and what it emitted
pub record Holds (s o : Side) : Type 0 where
  pub link : Link s.end o.end
  pub knows : Knows s.end
  pub out : EachSound s.end s.out

pub record Stepped (s o after : Side) : Type 0 where
  pub holds : Holds after o
  pub grows : Grows s.end after.end

sound_out : (emits : Option IlMsg) (e : End) (ms : List IlMsg) → Says emits e → EachSound e ms → EachSound e (out_with emits ms)
sound_out None e ms emitting all = all
sound_out (Some m) e ms emitting all = (emitting, all)

pub stepped : (s o : Side) (t : Turn) → Holds s o → Good s.end o.end t → Stepped s o (leaves s t)
stepped s o t h g = record {
  holds = record { link = g.link; knows = g.knows; out = sound_out t.emits t.end s.out g.says (each_stays s.end t.end s.out g.grows h.out) };
  grows = g.grows;
}

-- a step that emits nothing
stepped_silent : (s o : Side) (e : End) → Holds s o → Good s.end o.end (silent e) → Stepped s o (record s { end = e })
stepped_silent s o e h g = stepped s o (silent e) h g

stays : (s o : Side) → Holds s o → Stepped s o s
stays s o h = record { holds = h; grows = grows_itself s.end }

-- one of two
stepped_if : {s o : Side} (b : Bool) (x y : Side) → (b ≡ true → Stepped s o x) → (b ≡ false → Stepped s o y) → Stepped s o (cond b x y)
stepped_if {s} {o} b x y f g = cond_both b x y (λ (z : Side). Stepped s o z) f g

is_none_is : (o : Option Cause) → is_none o ≡ true → o ≡ None
is_none_is None is = refl
is_none_is (Some why) is = absurd (both_ways is refl)

new_parts : (e : End) → is_new e ≡ true → (e.fresh ≡ true) × (e.cause ≡ None)
new_parts e is = let parts = and_parts e.fresh (is_none e.cause) is in (parts.0, is_none_is e.cause parts.1)

writer_met : (s : IlState) (rstart : Option ℕ) (fresh : Bool) (why : Option Cause) → may_write s ≡ true → KnowsAs s rstart fresh why → Met rstart fresh × (why ≡ None)
writer_met Established rstart fresh why may as_s = as_s
writer_met _ rstart fresh why may as_s = absurd (both_ways may refl)

pub sync_id : (kind : IlKind) (e : End) (m : IlMsg) → is_sync kind ≡ true → SoundAs kind e.start e.rstart e.sent e.got e.cause m → m.id ≡ e.start
sync_id Sync e m is s = s.0
sync_id _ e m is s = absurd (both_ways is refl)

born_steps : (now start : ℕ) (found : Option IlMsg) (s o : Side) → Holds s o → ((m : IlMsg) → found ≡ Some m → (o.end.fresh ≡ false) × Sound o.end m) → Stepped s o (born_from now start s found)
born_steps now start None s o h sound = stays s o h
born_steps now start (Some m) s o h sound =
    stepped_if (is_new s.end && is_start start && is_sync m.kind) _ _
    (λ tests.
    let parts = and_parts (is_new s.end && is_start start) (is_sync m.kind) tests in
    let fresh = new_parts s.end (and_parts (is_new s.end) (is_start start) parts.0).0 in
    let from = sound m refl in
    stepped s o (is_born now start m.id s.end) h
    (good_is_born now start m.id s.end o.end fresh.0 fresh.1 from.0 (sync_id m.kind o.end m parts.1 from.1) h.link h.knows))
    (λ _. stays s o h)

comes_steps : (now : ℕ) (found : Option IlMsg) (s o : Side) → Few s.end o.end → Holds s o → Holds o s → ((m : IlMsg) → found ≡ Some m → (o.end.fresh ≡ false) × Sound o.end m) → Stepped s o (comes_to now s found)
comes_steps now None s o few h back sound = stays s o h
comes_steps now (Some m) s o few h back sound =
    stepped s o (arrives now m s.end) h (good_arrives now m s.end o.end few h.link back.link h.knows (sound m refl).0 (sound m refl).1)

pub steps : (s o : Side) (deed : Deed) → Few s.end o.end → Holds s o → Holds o s → Stepped s o (does s o.out deed)
steps s o (Connects now start) few h back =
    stepped_if (is_new s.end && is_start start) _ _
    (λ tests.
    let new = new_parts s.end (and_parts (is_new s.end) (is_start start) tests).0 in
    stepped s o (connects now start s.end) h (good_connects now start s.end o.end new.0 new.1 h.link h.knows))
    (λ _. stays s o h)
steps s o (Is_born now start which) few h back =
    born_steps now start (slice_get o.out which) s o h (λ m is. each_at o.end o.out which m back.out is)
steps s o Is_announced few h back =
    stepped_if s.end.fresh _ _ (λ fresh. stepped_silent s o (announced s.end) h (good_announced s.end o.end fresh h.link h.knows)) (λ _. stays s o h)
steps s o (Writes now text) few h back =
    stepped_if (may_write s.end.state && nat_lt (length s.end.sent - s.end.acked) 20) _ _
    (λ tests.
    let may = (and_parts (may_write s.end.state) (nat_lt (length s.end.sent - s.end.acked) 20) tests).0 in
    stepped s o (writes now text s.end) h (let met = writer_met s.end.state s.end.rstart s.end.fresh s.end.cause may h.knows.0 in good_writes now text s.end o.end met.0 met.1 h.link h.knows))
    (λ _. stays s o h)
steps s o (Reads count) few h back =
    stepped_if (nat_lt s.end.read_count (length s.end.got)) _ _
    (λ _. stepped_silent s o (reads count s.end) h (good_reads count s.end o.end h.link h.knows))
    (λ _. stays s o h)
steps s o (Arrives now which) few h back =
    comes_steps now (slice_get o.out which) s o few h back (λ m is. each_at o.end o.out which m back.out is)
steps s o (Hangs_up now) few h back =
    stepped s o (hangs_up now s.end) h (good_hangs_up_at s.end.state now s.end o.end h.link h.knows h.knows.0)
steps s o (Ticks now) few h back = stepped s o (ticks now s.end) h (good_ticks (timer.timer_ticks now s.end.timer).says (timer.timer_ticks now s.end.timer).timer s.end o.end h.link h.knows)

-- the other side's own part stays
pub other_holds : (s o after : Side) → Holds o s → Grows s.end after.end → Holds o after
other_holds s o after back grows = record { link = link_stays o.end s.end after.end grows back.link; knows = back.knows; out = back.out }

-- Runs.

pub record Kept (n : ℕ) (t : Talk) : Type 0 where
  pub near : Holds t.near t.far
  pub far : Holds t.far t.near
  pub near_few : length t.near.end.sent ≤ n
  pub far_few : length t.far.end.sent ≤ n

pub kept_next : (n : ℕ) (t : Talk) (e : Event) → n < 2 ^ 31 → Kept n t → Kept (n + 1) (happens t e)
kept_next n t (Near deed) few k =
    let step = steps t.near t.far deed (omega (arith, k.near_few), omega (arith, k.far_few)) k.near k.far in
    record {
      near = step.holds;
      far = other_holds t.near t.far (does t.near t.far.out deed) k.far step.grows;
      near_few = omega (arith, step.grows.sent_one, k.near_few);
      far_few = omega (arith, k.far_few);
    }
kept_next n t (Far deed) few k =
    let step = steps t.far t.near deed (omega (arith, k.far_few), omega (arith, k.near_few)) k.far k.near in
    record {
      near = other_holds t.far t.near (does t.far t.near.out deed) k.near step.grows;
      far = step.holds;
      near_few = omega (arith, k.near_few);
      far_few = omega (arith, step.grows.sent_one, k.far_few);
    }

pub kept_always : (es : List Event) (n : ℕ) (t : Talk) → n + length es < 2 ^ 31 → Kept n t → Kept (n + length es) (run t es)
kept_always [] n t few k = subst (λ (i : ℕ). Kept i t) (omega arith) k
kept_always (e ∷ es) n t few k =
    subst (λ (i : ℕ). Kept i (run (happens t e) es)) (omega arith) (kept_always es (n + 1) (happens t e) (omega arith) (kept_next n t e (omega arith) k))

-- nothing holds of fresh ends but this
pub nothing_yet : (k k' : Timers) → Holds (record { end = fresh_end k; out = [] }) (record { end = fresh_end k'; out = [] })
nothing_yet k k' = record {
  link = record { rstart_is = λ r h. absurd (none-some r h); in_order = begins_itself []; early_is = tt; acked_got = omega arith; all_got = λ h. absurd (both_ways h refl) };
  knows = (tt, λ h. absurd (both_ways h refl), λ _. (refl, refl));
  out = tt;
}

pub in_order : InOrder
in_order k k' es few =
    let start : Kept 0 (opening k k') = record { near = nothing_yet k k'; far = nothing_yet k' k; near_few = omega arith; far_few = omega arith } in
    let kept = kept_always es 0 (opening k k') (omega arith) start in (
      begins_prefix (run (opening k k') es).near.end.got (run (opening k k') es).far.end.sent kept.near.link.in_order,
      begins_prefix (run (opening k k') es).far.end.got (run (opening k k') es).near.end.sent kept.far.link.in_order,
      kept.near.link.acked_got,
      kept.far.link.acked_got,
    )
