-- Frames of a history that is followed entry by entry.
use Rattle.std.proofs.Common.{◌≡◌, ℕ, ◌+◌, ◌<◌, ◌≤◌, true, List, [], ◌∷◌, ◌++◌, length, take, take_all, get_or, filter, flat_map, map, Option, Some, None, slice_get, sym, ap, subst, ◌∙◌, append_assoc, arith, nat_le}
use Rattle.std.specs.List.{AllByRecursion}
use Rattle.std.proofs.lemmas.Bool.{and_parts, leb-true}
use Rattle.std.proofs.lemmas.List.{append-nil, map-append, take_more}
use Rattle.std.proofs.lemmas.List.Elements.{filter-append}
use Rattle.std.proofs.lemmas.Grind.{flat_map-append}
use Rattle.net_base.specs.declared.history.Entry.{Entry}
use Rattle.net_base.specs.declared.packet.Packet.{Packet}
use Rattle.net_base.specs.declared.world.World.{World}
use Rattle.net_base.specs.Net.{Net, after, moment, net_of, next_net, opening_net, owed, with_of}
use Rattle.plain_runner.specs.Callers.{IsCallerKept}
use Rattle.plain_runner.specs.Followed.{Followed, FollowsRun}
use Rattle.plain_runner.specs.declared.caller.Caller.{Caller}
use Rattle.plain_runner.specs.declared.runner.Runner.{Runner}
use Rattle.plain_runner.proofs.Shared.{moment_within}
use Rattle.formats.specs.Datagram.{IsPacket, datagram_packet, packet_spelling}
use Rattle.replay_views.specs.Capture.{Frame, IsReadBack, capture, frame_of, frames, is_shown, frames_laid, laid_from, medium_of, given_packet, seen, shown_frames}
use Rattle.replay_views.specs.Following.{AddsFramesIn, is_medium_shown, shown_at}
use Rattle.replay_views.specs.Savefile.{Seen, file_header, packet_record, seen_at_moment}
use Rattle.replay_views.proofs.Laying.{nothing_given, shown_on, shown_one}

-- One entry more.

pub laid_more : (w : World) (net : Net) (h : List Entry) (x : Entry) → laid_from w net (h ++ x ∷ []) ≡ laid_from w net h ++ frames_laid (net_of w net h) x
laid_more w net [] x = append-nil (frames_laid net x)
laid_more w net (y ∷ h) x =
    ap (λ (fs : List Frame). frames_laid net y ++ fs) (laid_more w (next_net w net y) h x)
    ∙ sym (append_assoc (frames_laid net y) (laid_from w (next_net w net y) h) (frames_laid (net_of w (next_net w net y) h) x))

shown_more : (w : World) (h : List Entry) (x : Entry) (medium : Option ℕ)
    → shown_frames w (h ++ x ∷ []) medium ≡ shown_frames w h medium ++ filter (is_shown medium) (frames_laid (after w h) x)
shown_more w h x medium =
    ap (filter (is_shown medium)) (laid_more w (opening_net w) h x) ∙ filter-append (is_shown medium) (frames w h) (frames_laid (after w h) x)

records-append : (fs gs : List Frame)
    → flat_map packet_record (map seen (fs ++ gs)) ≡ flat_map packet_record (map seen fs) ++ flat_map packet_record (map seen gs)
records-append fs gs = ap (λ (ps : List Seen). flat_map packet_record ps) (map-append seen fs gs) ∙ flat_map-append packet_record (map seen fs) (map seen gs)

all_read : (fs gs : List Frame) → AllByRecursion IsReadBack fs → AllByRecursion IsReadBack gs → AllByRecursion IsReadBack (fs ++ gs)
all_read [] gs all more = more
all_read (f ∷ fs) gs all more = (all.0, all_read fs gs all.1 more)

-- The loop.

-- what a capture has after some entries
pub record Captured (w : World) (medium : Option ℕ) (h : List Entry) (r : Runner) (bytes : List ℕ) : Type 0 where
  pub followed : Followed w h r
  pub bytes_are : bytes ≡ file_header ++ flat_map packet_record (map seen (shown_frames w h medium))
  pub read : AllByRecursion IsReadBack (shown_frames w h medium)

pub captured_none : (w : World) (medium : Option ℕ) (r : Runner) (bytes : List ℕ) → Followed w [] r → bytes ≡ file_header
    → Captured w medium [] r bytes
captured_none w medium r bytes followed is = record { followed = followed; bytes_are = is ∙ sym (append-nil file_header); read = tt }

taken_more : (h : List Entry) (n : ℕ) (x : Entry) → n < length h → x ≡ get_or h n x → take n h ++ x ∷ [] ≡ take (n + 1) h
taken_more h n x lt is = ap (λ (y : Entry). take n h ++ y ∷ []) is ∙ sym (take_more h n x lt)

pub captured_more : (w : World) (medium : Option ℕ) (h : List Entry) (r new : Runner) (n : ℕ) (x : Entry) (old bytes : List ℕ) → n < length h
    → x ≡ get_or h n x
    → Captured w medium (take n h) r old → AddsFramesIn w r x medium old bytes → Followed w (r.history.entries ++ x ∷ []) new
    → Captured w medium (take (n + 1) h) new bytes
captured_more w medium h r new n x old bytes lt is c adds followed =
    subst (λ (past : List Entry). Captured w medium past new bytes) (taken_more h n x lt is) (record {
      followed = subst (λ (past : List Entry). Followed w (past ++ x ∷ []) new) c.followed.history_is followed;
      bytes_are =
          adds.bytes
          ∙ (ap (λ (front : List ℕ). front ++ flat_map packet_record (map seen here)) c.bytes_are
          ∙ (append_assoc file_header (flat_map packet_record (map seen (shown_frames w (take n h) medium))) (flat_map packet_record (map seen here))
          ∙ ap (λ (rest : List ℕ). file_header ++ rest)
          (ap (λ (fs : List Frame). flat_map packet_record (map seen (shown_frames w (take n h) medium)) ++ flat_map packet_record (map seen fs)) at_past
          ∙ (sym (records-append (shown_frames w (take n h) medium) (filter (is_shown medium) (frames_laid (after w (take n h)) x)))
          ∙ ap (λ (fs : List Frame). flat_map packet_record (map seen fs)) (sym (shown_more w (take n h) x medium))))));
      read = subst (AllByRecursion IsReadBack) (sym (shown_more w (take n h) x medium))
          (all_read (shown_frames w (take n h) medium) (filter (is_shown medium) (frames_laid (after w (take n h)) x)) c.read (subst (AllByRecursion IsReadBack) at_past adds.read));
    })
  where
    here : List Frame
    here = shown_at w r x medium

    at_past : here ≡ filter (is_shown medium) (frames_laid (after w (take n h)) x)
    at_past = ap (λ (past : List Entry). filter (is_shown medium) (frames_laid (after w past) x)) c.followed.history_is

pub captured_all : (w : World) (medium : Option ℕ) (h items : List Entry) (r : Runner) (n : ℕ) (bytes : List ℕ) → items ≡ h → length items ≤ n
    → Captured w medium (take n items) r bytes → (bytes ≡ capture w h medium) × AllByRecursion IsReadBack (shown_frames w h medium)
unfolding capture
captured_all w medium h items r n bytes same le c =
    let whole : take n items ≡ h = take_all n items le ∙ same in (
      c.bytes_are ∙ ap (λ (past : List Entry). file_header ++ flat_map packet_record (map seen (shown_frames w past medium))) whole,
      subst (λ (past : List Entry). AllByRecursion IsReadBack (shown_frames w past medium)) whole c.read,
    )

-- One entry.

-- nothing is added where no frame is shown
pub adds_none : (w : World) (r : Runner) (x : Entry) (medium : Option ℕ) (old : List ℕ) → shown_at w r x medium ≡ [] → AddsFramesIn w r x medium old old
adds_none w r x medium old none = record {
  bytes = sym (ap (λ (fs : List Frame). old ++ flat_map packet_record (map seen fs)) none ∙ append-nil old);
  read = subst (AllByRecursion IsReadBack) (sym none) tt;
}

-- and else its record
pub adds_one : (w : World) (r : Runner) (x : Entry) (medium : Option ℕ) (m : ℕ) (p : Packet) (old new : List ℕ) → medium_of x.actor x.reply ≡ Some m
    → is_medium_shown medium (Some m) ≡ true → given_packet (with_of (owed w r.history.entries x.caller)) ≡ Some p
    → new ≡ old ++ packet_record (seen_at_moment x.moment (packet_spelling p)) → IsPacket p → datagram_packet (packet_spelling p) ≡ p → AddsFramesIn w r x medium old new
adds_one w r x medium m p old new on shown gift is fits again = record {
  bytes = is ∙ ap (λ (rest : List ℕ). old ++ rest) (sym (ap (λ (fs : List Frame). flat_map packet_record (map seen fs)) one ∙ append-nil (packet_record (seen_at_moment x.moment (packet_spelling p)))));
  read = subst (AllByRecursion IsReadBack) (sym one) (record { fits = fits; again = again }, tt);
}
  where
    one : shown_at w r x medium ≡ record { moment = x.moment; medium = m; packet = p } ∷ []
    one =
        ap (λ (o : Option ℕ). filter (is_shown medium) (frame_of o x.moment (given_packet (with_of (owed w r.history.entries x.caller))))) on
        ∙ (ap (λ (o : Option Packet). filter (is_shown medium) (frame_of (Some m) x.moment o)) gift ∙ shown_one medium m x.moment p shown)

-- the caller that is kept of the entry
pub caller_there : (w : World) (r : Runner) (x : Entry) → FollowsRun w r x → x.caller < length r.callers.items
caller_there w r x f = omega (arith, f.may.is_known.1, f.tracks.callers_are.count)

pub caller_is : (w : World) (r : Runner) (x : Entry) (k : Caller) → FollowsRun w r x → slice_get r.callers.items x.caller ≡ Some k
    → IsCallerKept w r.history.entries x.caller k
caller_is w r x k f at = f.tracks.callers_are.each x.caller k at

-- its moment
pub early_at : (w : World) (r : Runner) (x : Entry) → FollowsRun w r x → x.moment ≤ 1000000000
early_at w r x f =
    let end : w.end ≤ 1000000000 = leb-true w.end 1000000000 (and_parts (nat_le 1 w.end) (nat_le w.end 1000000000) f.tracks.history.world.end).1 in
    let before : moment w r.history.entries ≤ 1000000000 = omega
    (arith, end, moment_within w r.history.entries f.tracks.history.legal f.tracks.history.timed) in
    subst (λ (n : ℕ). n ≤ 1000000000) (sym f.may.at_moment) before

-- so where nothing was given
pub adds_nothing : (w : World) (r : Runner) (x : Entry) (medium : Option ℕ) (old : List ℕ)
    → given_packet (with_of (owed w r.history.entries x.caller)) ≡ None
    → AddsFramesIn w r x medium old old
adds_nothing w r x medium old none =
    adds_none w r x medium old
    (ap (λ (p : Option Packet). filter (is_shown medium) (frame_of (medium_of x.actor x.reply) x.moment p)) none
    ∙ nothing_given medium (medium_of x.actor x.reply) x.moment)

-- or this packet
pub adds_given : (w : World) (r : Runner) (x : Entry) (medium : Option ℕ) (p : Packet) (old new : List ℕ)
    → is_medium_shown medium (medium_of x.actor x.reply) ≡ true
    → given_packet (with_of (owed w r.history.entries x.caller)) ≡ Some p → new ≡ old ++ packet_record (seen_at_moment x.moment (packet_spelling p)) → IsPacket p
    → datagram_packet (packet_spelling p) ≡ p → AddsFramesIn w r x medium old new
adds_given w r x medium p old new on gift is fits again =
    let there = shown_on medium (medium_of x.actor x.reply) on in
    adds_one w r x medium there.0 p old new there.1 (ap (is_medium_shown medium) (sym there.1) ∙ on) gift is fits again
