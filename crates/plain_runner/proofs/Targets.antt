-- Where the clock moves.
use Rattle.std.proofs.Common.{◌≡◌, ℕ, suc, ◌+◌, ◌-◌, ◌<◌, ◌≤◌, List, [], ◌∷◌, ◌++◌, length, map, min, drop, get_or, filter_map, option_to_list, Option, Some, None, slice_get, refl, sym, ap, ◌∙◌, arith}
use Rattle.std.specs.List.{flat_map, range_with_len}
use Rattle.std.proofs.Math.Nat.{min_comm}
use Rattle.std.proofs.lemmas.List.{map-append}
use Rattle.std.proofs.lemmas.Option.{slice_get-get_or}
use Rattle.std.proofs.lemmas.List.Elements.{filter_map-append}
use Rattle.net_base.specs.declared.actor.ActorName.{ActorName}
use Rattle.net_base.specs.declared.actor.ActorName.TheVariants as name
use Rattle.net_base.specs.declared.address.Proto.{Proto}
use Rattle.net_base.specs.declared.address.Proto.TheVariants as proto
use Rattle.net_base.specs.declared.history.Entry.{Entry}
use Rattle.net_base.specs.declared.world.World.{World}
use Rattle.net_base.specs.Actors.{Actor, slot_count}
use Rattle.net_base.specs.Callers.{caller_count, caller_of}
use Rattle.net_base.specs.Calm.{awaited_moment, callers, least, target}
use Rattle.net_base.specs.Duties.{conversations, due_of, slots_of}
use Rattle.net_base.specs.Net.{after}
use Rattle.net_base.specs.Next.{next_recorded, next_of}
use Rattle.duties.specs.declared.due.Due.{Due}
use Rattle.duties.specs.Ticking.{due_at, dues_of}
use Rattle.plain_runner.specs.Waiting.{awaited_moments, due_moments}
use Rattle.plain_runner.specs.Tracks.{Tracks}
use Rattle.plain_runner.specs.Turns.{asks_of}
use Rattle.plain_runner.specs.declared.caller.Caller.{Caller}
use Rattle.plain_runner.specs.declared.runner.Runner.{Runner}
use Rattle.plain_runner.proofs.Could.{past_is}
use Rattle.net_base.proofs.Shared.{next_one, past_all, least_min}

-- The least.

least_more : (last : ℕ) (ms ns : List ℕ) → least last (ms ++ ns) ≡ least (least last ns) ms
least_more last [] ns = refl
least_more last (m ∷ ms) ns = ap (min m) (least_more last ms ns)

-- Due moments.

pub due_next : (dues : List Due) (n now last : ℕ) (d : Due) → slice_get dues n ≡ Some d
    → least now (due_moments (drop n dues)) ≡ least last (due_moments dues)
    → least (min now d.due) (due_moments (drop (n + 1) dues)) ≡ least last (due_moments dues)
due_next dues n now last d at all =
    ap (λ (m : ℕ). least m (due_moments (drop (n + 1) dues))) (min_comm now d.due) ∙ least_min now d.due (due_moments (drop (n + 1) dues))
    ∙ ap (λ (ds : List Due). least now (due_moments ds)) (sym (next_one dues n d at)) ∙ all

pub due_step : (dues : List Due) (n now new last : ℕ) (d : Due) → n < length dues → new ≡ min now (get_or dues n d).due
    → least now (due_moments (drop n dues)) ≡ least last (due_moments dues)
    → least new (due_moments (drop (n + 1) dues)) ≡ least last (due_moments dues)
due_step dues n now new last d lt is all =
    ap (λ (m : ℕ). least m (due_moments (drop (n + 1) dues))) is ∙ due_next dues n now last (get_or dues n d) (slice_get-get_or dues n d lt) all

pub due_all : (dues : List Due) (n now last : ℕ) → length dues ≤ n → least now (due_moments (drop n dues)) ≡ least last (due_moments dues)
    → now ≡ least last (due_moments dues)
due_all dues n now last le all = ap (λ (ds : List Due). least now (due_moments ds)) (sym (past_all dues n le)) ∙ all

abbrev Agree : (ActorName → Actor) → List ActorName → Type 0
Agree actors xs = due_moments (filter_map (due_at actors) xs) ≡ filter_map (λ (a : ActorName). due_of (actors a)) xs

agree_append : (actors : ActorName → Actor) (xs ys : List ActorName) → Agree actors xs → Agree actors ys → Agree actors (xs ++ ys)
agree_append actors xs ys left right =
    ap due_moments (filter_map-append (due_at actors) xs ys) ∙ map-append (λ (d : Due). d.due) (filter_map (due_at actors) xs) (filter_map (due_at actors) ys)
    ∙ ap (λ ms. ms ++ due_moments (filter_map (due_at actors) ys)) left ∙ ap (λ ms. filter_map (λ (a : ActorName). due_of (actors a)) xs ++ ms) right
    ∙ sym (filter_map-append (λ (a : ActorName). due_of (actors a)) xs ys)

agree_slots : (actors : ActorName → Actor) (h : ℕ) (p : Proto) (ns : List ℕ) → Agree actors (map (λ (n : ℕ). name.Conv h p n) ns)
agree_slots actors h p [] = refl
agree_slots actors h p (n ∷ ns) = agree_append actors (name.Conv h p n ∷ []) (map (λ (k : ℕ). name.Conv h p k) ns)
    (one (due_of (actors (name.Conv h p n))) refl) (agree_slots actors h p ns)
  where
    one : (o : Option ℕ) → due_of (actors (name.Conv h p n)) ≡ o → Agree actors (name.Conv h p n ∷ [])
    one None is = rw is refl
    one (Some m) is = rw is refl

agree_hosts : (actors : ActorName → Actor) (hs : List ℕ) → Agree actors (flat_map (λ (h : ℕ). slots_of h proto.Il ++ slots_of h proto.Udp) hs)
agree_hosts actors [] = refl
agree_hosts actors (h ∷ hs) =
    agree_append actors (slots_of h proto.Il ++ slots_of h proto.Udp) (flat_map (λ (k : ℕ). slots_of k proto.Il ++ slots_of k proto.Udp) hs)
    (agree_append actors (slots_of h proto.Il) (slots_of h proto.Udp) (agree_slots actors h proto.Il (range_with_len 0 slot_count))
    (agree_slots actors h proto.Udp (range_with_len 0 slot_count))) (agree_hosts actors hs)

dues_agree : (w : World) (actors : ActorName → Actor) → due_moments (dues_of w actors) ≡ filter_map (λ (a : ActorName). due_of (actors a)) (conversations w)
dues_agree w actors = agree_hosts actors (range_with_len 0 (length w.hosts))

-- Awaited moments.

abbrev pub awaited_from : World → List Entry → ℕ → List ℕ
awaited_from w h n = filter_map (λ (c : ℕ). awaited_moment (next_recorded w h c)) (range_with_len n (caller_count w - n))

awaited_one : (f : ℕ → Option ℕ) (n k now : ℕ) (o : Option ℕ) → f n ≡ o
    → least (least now (option_to_list o)) (filter_map f (range_with_len (n + 1) k)) ≡ least now (filter_map f (range_with_len n (suc k)))
awaited_one f n k now None is = rw is refl
awaited_one f n k now (Some m) is = rw is (least_min now m (filter_map f (range_with_len (n + 1) k)))

pub awaited_next : (w : World) (r : Runner) (n now earlier last : ℕ) (k : Caller) → Tracks w r → slice_get r.callers.items n ≡ Some k
    → n < length r.callers.items
    → earlier ≡ least now (option_to_list (awaited_moment (asks_of k.next)))
    → least now (awaited_from w r.history.entries n) ≡ least last (awaited_moments w r.history.entries)
    → least earlier (awaited_from w r.history.entries (n + 1)) ≡ least last (awaited_moments w r.history.entries)
awaited_next w r n now earlier last k s at lt is all =
    ap (λ (m : ℕ). least m (awaited_from w r.history.entries (n + 1))) is
    ∙ awaited_one (λ (c : ℕ). awaited_moment (next_recorded w r.history.entries c)) n (caller_count w - (n + 1)) now (awaited_moment (asks_of k.next))
    (ap awaited_moment (sym (s.callers_are.each n k at).stands.next_is))
    ∙ ap (λ (i : ℕ). least now (filter_map (λ (c : ℕ). awaited_moment (next_recorded w r.history.entries c)) (range_with_len n i))) (sym more) ∙ all
  where
    more : caller_count w - n ≡ suc (caller_count w - (n + 1))
    more = omega (arith, lt, s.callers_are.count)

pub awaited_all : (w : World) (r : Runner) (n now last : ℕ) → Tracks w r → length r.callers.items ≤ n
    → least now (awaited_from w r.history.entries n) ≡ least last (awaited_moments w r.history.entries)
    → now ≡ least last (awaited_moments w r.history.entries)
awaited_all w r n now last s le all =
    let none : caller_count w - n ≡ 0 = omega (arith, le, s.callers_are.count) in
    ap (λ (i : ℕ). least now (filter_map (λ (c : ℕ). awaited_moment (next_recorded w r.history.entries c)) (range_with_len n i))) (sym none) ∙ all

-- The target.

pub target_is : (w : World) (r : Runner) (dues : List Due) (awaited moment : ℕ) → Tracks w r → dues ≡ dues_of w (after w r.history.entries).actors
    → awaited ≡ least w.end (awaited_moments w r.history.entries)
    → moment ≡ least awaited (due_moments dues) → moment ≡ target w (after w r.history.entries)
target_is w r dues awaited moment s dues_are awaited_is is =
    is ∙ ap (λ (m : ℕ). least m (due_moments dues)) awaited_is
    ∙ ap (λ (ms : List ℕ). least (least w.end (awaited_moments w r.history.entries)) ms) (ap due_moments dues_are ∙ dues_agree w (after w r.history.entries).actors)
    ∙ sym (least_more w.end (filter_map (λ (a : ActorName). due_of ((after w r.history.entries).actors a)) (conversations w)) (awaited_moments w r.history.entries))
    ∙ ap (λ (p : List Entry). least w.end (filter_map (λ (a : ActorName). due_of ((after w r.history.entries).actors a)) (conversations w) ++ filter_map
    (λ (c : ℕ). awaited_moment (next_of w (caller_of w c) p c)) (callers w))) (sym (past_is w r.history.entries))
