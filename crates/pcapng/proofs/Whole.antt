-- The packets that are read of a file are the frames of its history.
use Rattle.std.proofs.Common.{◌≡◌, ℕ, zero, suc, ◌+◌, ◌^◌, ◌<◌, ◌≤◌, ◌==◌, ◌&&◌, true, List, [], ◌∷◌, ◌++◌, length, take, drop, get_or, flat_map, map, Option, Some, None, slice_get, nat_le, refl, sym, ap, subst, ◌∙◌, append_assoc, arith}
use Rattle.std.specs.List.{AllByRecursion, list_all}
use Rattle.std.proofs.lemmas.Bool.{and_parts, leb-true}
use Rattle.std.proofs.lemmas.List.{append-nil, drop_all, map-append}
use Rattle.net_base.specs.declared.history.Entry.{Entry}
use Rattle.net_base.specs.declared.packet.Packet.{Packet}
use Rattle.net_base.specs.declared.world.MediumSpec.{MediumSpec}
use Rattle.net_base.specs.declared.world.World.{World}
use Rattle.net_base.specs.Legal.{IsLegal, IsTimed, MayFollow}
use Rattle.net_base.specs.Medium.{datagram_length}
use Rattle.net_base.specs.Net.{Net, after, moment, next_net, opening_net, with_of}
use Rattle.net_base.specs.World.{IsWorld, are_media, is_medium, is_name, is_range, is_within, all_apart, overlap}
use Rattle.formats.specs.Datagram.{packet_spelling}
use Rattle.history_laws.proofs.Shared.{after_push, legal_short, legal_take, one_more, timed_take}
use Rattle.plain_runner.proofs.Shared.{moment_within}
use Rattle.replay_views.specs.Capture.{Frame, frame_of, frames, frames_laid, given_packet, laid_from, medium_of}
use Rattle.pcapng.specs.Blocks.{Shown, section_block}
use Rattle.pcapng.specs.Copies.{Copies, copies_in}
use Rattle.pcapng.specs.Frames.{StampedFrame, comment_on, frame_block, medium_block, number_in, pcapng, shown_frame, stamped_at, stamped_frames, stamped_from, with_stamp}
use Rattle.pcapng.specs.Reading.{ReadPacket, as_read, packet_in, packets_in}
use Rattle.pcapng.proofs.Laying.{laid_gives}
use Rattle.pcapng.proofs.Lengths.{name_length, spelled_length, text_length}
use Rattle.pcapng.proofs.Reading.{IsShortBlock, interface_read, packet_read, read_each, read_file, section_read}

-- The frames with their stamps are the frames.

frames_with : (stamp number : ℕ) (fs : List Frame) → map (λ (s : StampedFrame). s.frame) (map (with_stamp stamp number) fs) ≡ fs
frames_with stamp number [] = refl
frames_with stamp number (f ∷ fs) = ap (λ (more : List Frame). f ∷ more) (frames_with stamp number fs)

pub stamps_off : (w : World) (net : Net) (stamp : ℕ) (h : List Entry) → map (λ (s : StampedFrame). s.frame) (stamped_from w net stamp h) ≡ laid_from w net h
stamps_off w net stamp [] = refl
stamps_off w net stamp (x ∷ xs) =
    map-append (λ (s : StampedFrame). s.frame) (stamped_at net stamp x) (stamped_from w (next_net w net x) (stamp + 1) xs)
    ∙ (ap (λ (fs : List Frame). fs ++ map (λ (s : StampedFrame). s.frame) (stamped_from w (next_net w net x) (stamp + 1) xs))
    (frames_with stamp (number_in x.reply) (frames_laid net x))
    ∙ ap (λ (fs : List Frame). frames_laid net x ++ fs) (stamps_off w (next_net w net x) (stamp + 1) xs))

-- Each frame is small.

-- what is kept of a frame in its block fits there
pub record IsSmall (s : StampedFrame) : Type 0 where
  pub stamp : s.stamp < 10 ^ 10
  pub medium : s.frame.medium < 2 ^ 32
  pub moment : s.frame.moment < 2 ^ 32
  pub bytes : length (packet_spelling s.frame.packet) < 2 ^ 16

-- what is known of an entry of a legal and timed history
record IsEntryAt (w : World) (net : Net) (x : Entry) (stamp : ℕ) : Type 0 where
  early : x.moment ≤ 1000000000
  first : stamp < 10 ^ 10
  gives : (m : ℕ) → medium_of x.actor x.reply ≡ Some m
      → (p : Packet) × (given_packet (with_of (net.owed x.caller)) ≡ Some p) × (datagram_length p.body ≤ 16384) × (m < 4)

small_one : (stamp number moment m : ℕ) (p : Packet) → stamp < 10 ^ 10 → moment ≤ 1000000000 → datagram_length p.body ≤ 16384 → m < 4
    → IsSmall (with_stamp stamp number (record { moment = moment; medium = m; packet = p }))
small_one stamp number moment m p first early short few = record {
  stamp = first;
  medium = omega (arith, few);
  moment = omega (arith, early);
  bytes = subst (λ (n : ℕ). n < 2 ^ 16) (sym (spelled_length p)) (omega (arith, short));
}

small_at : (w : World) (net : Net) (x : Entry) (stamp : ℕ) → IsEntryAt w net x stamp → AllByRecursion IsSmall (stamped_at net stamp x)
small_at w net x stamp at = by (medium_of x.actor x.reply) refl
  where
    by : (on : Option ℕ) → medium_of x.actor x.reply ≡ on
        → AllByRecursion IsSmall (map (with_stamp stamp (number_in x.reply)) (frame_of on x.moment (given_packet (with_of (net.owed x.caller)))))
    by None is = tt
    by (Some m) is =
        let (p, gift, short, few) = at.gives m is in
        subst (λ (o : Option Packet). AllByRecursion IsSmall (map (with_stamp stamp (number_in x.reply)) (frame_of (Some m) x.moment o))) (sym gift)
        (small_one stamp (number_in x.reply) x.moment m p at.first at.early short few, tt)

all_append : (xs ys : List StampedFrame) → AllByRecursion IsSmall xs → AllByRecursion IsSmall ys → AllByRecursion IsSmall (xs ++ ys)
all_append [] ys one two = two
all_append (x ∷ xs) ys one two = (one.0, all_append xs ys one.1 two)

drop_one : (h : List Entry) (k : ℕ) (x : Entry) → slice_get h k ≡ Some x → drop k h ≡ x ∷ drop (suc k) h
drop_one [] k x is = absurd (none x is)
  where
    none : (x : Entry) → None ≡ Some x → ⊥
    none x is = cc
drop_one (y ∷ h) zero x is = ap (λ (z : Entry). z ∷ h) (same y x is)
  where
    same : (y x : Entry) → Some y ≡ Some x → y ≡ x
    same y x is = cc
drop_one (y ∷ h) (suc k) x is = drop_one h k x is

module _ (w : World) (h : List Entry) (world : IsWorld w) (legal : IsLegal w h) (timed : IsTimed w h) where
  entry_at : (k : ℕ) (x : Entry) → k < length h → slice_get h k ≡ Some x → IsEntryAt w (after w (take k h)) x k
  entry_at k x lt is = record {
    early =
        let end : w.end ≤ 1000000000 = leb-true w.end 1000000000 (and_parts (nat_le 1 w.end) (nat_le w.end 1000000000) world.end).1 in
        let before : moment w (take k h) ≤ w.end = moment_within w (take k h) (legal_take w h k legal) (timed_take w h k timed) in
        subst (λ (n : ℕ). n ≤ 1000000000) (sym may.at_moment) (omega (arith, end, before));
    first = let few = legal_short w world h legal in omega (arith, few, lt);
    gives = λ m on.
        let gives = laid_gives w (take k h) (after w (take k h)) x m world may on in
        let media : length w.media ≤ 4 = leb-true (length w.media) 4 (and_parts (nat_le 1 (length w.media)) (nat_le (length w.media) 4) world.some_media).1 in
        (gives.packet, gives.is, gives.within, omega (arith, gives.there, media));
  }
    where
      may : MayFollow w (take k h) x
      may = legal k x is

  small_from : (d k : ℕ) → k + d ≡ length h → AllByRecursion IsSmall (stamped_from w (after w (take k h)) k (drop k h))
  small_from zero k is =
      subst (λ (xs : List Entry). AllByRecursion IsSmall (stamped_from w (after w (take k h)) k xs)) (sym (drop_all k h (omega (arith, is)))) tt
  small_from (suc d) k is = all (small_from d (suc k) (omega (arith, is)))
    where
      lt : k < length h
      lt = omega (arith, is)

      x : (x : Entry) × (slice_get h k ≡ Some x) × (take (suc k) h ≡ take k h ++ x ∷ [])
      x = one_more h k lt

      next : after w (take (suc k) h) ≡ next_net w (after w (take k h)) x.0
      next = ap (after w) x.2 ∙ after_push w (take k h) x.0

      one : suc k ≡ k + 1
      one = omega arith

      rest : AllByRecursion IsSmall (stamped_from w (after w (take (suc k) h)) (suc k) (drop (suc k) h))
          → AllByRecursion IsSmall (stamped_from w (next_net w (after w (take k h)) x.0) (k + 1) (drop (suc k) h))
      rest later =
          subst (λ (n : ℕ). AllByRecursion IsSmall (stamped_from w (next_net w (after w (take k h)) x.0) n (drop (suc k) h))) one
          (subst (λ (net : Net). AllByRecursion IsSmall (stamped_from w net (suc k) (drop (suc k) h))) next later)

      all : AllByRecursion IsSmall (stamped_from w (after w (take (suc k) h)) (suc k) (drop (suc k) h))
          → AllByRecursion IsSmall (stamped_from w (after w (take k h)) k (drop k h))
      all later =
          subst (λ (xs : List Entry). AllByRecursion IsSmall (stamped_from w (after w (take k h)) k xs)) (sym (drop_one h k x.0 x.1))
          (all_append (stamped_at (after w (take k h)) k x.0) (stamped_from w (next_net w (after w (take k h)) x.0) (k + 1) (drop (suc k) h))
          (small_at w (after w (take k h)) x.0 k (entry_at k x.0 lt x.1)) (rest later))

  all_small : AllByRecursion IsSmall (stamped_frames w h)
  all_small = small_from (length h) 0 (omega arith)

-- Blocks of a history.

abbrev read_frame : StampedFrame → List ReadPacket
read_frame s = as_read s.frame ∷ []

frame_read : (copies : Copies) (s : StampedFrame) → IsSmall s → IsShortBlock (frame_block copies s) (read_frame s)
unfolding comment_on
frame_read copies s small =
    packet_read (shown_frame copies s) small.medium small.moment small.bytes (text_length copies s.stamp s.frame.medium s.number small.stamp)

each_read : (copies : Copies) (ss : List StampedFrame) → AllByRecursion IsSmall ss
    → AllByRecursion (λ (s : StampedFrame). IsShortBlock (frame_block copies s) (read_frame s)) ss
each_read copies [] all = tt
each_read copies (s ∷ ss) all = (frame_read copies s all.0, each_read copies ss all.1)

abbrev no_packet : MediumSpec → List ReadPacket
no_packet m = []

media_read : (n : ℕ) (ms : List MediumSpec) → are_media n ms ≡ true
    → AllByRecursion (λ (m : MediumSpec). IsShortBlock (medium_block m) (no_packet m)) ms
media_read n [] are = tt
media_read n (m ∷ ms) are =
    let first = (and_parts (is_medium n m) (are_media (n + 1) ms) are).0 in
    (interface_read m.name (name_length m.name (named n m first)), media_read (n + 1) ms (and_parts (is_medium n m) (are_media (n + 1) ms) are).1)
  where
    named : (n : ℕ) (r : MediumSpec) → is_medium n r ≡ true → is_name r.name ≡ true
    named n r is =
        let rest = (and_parts (r.number == n) (is_name r.name && (is_within 576 16384 r.mtu && (nat_le (r.loss + r.twice + r.later) 1000 && (list_all is_range r.fates && all_apart overlap r.fates)))) is).1 in
        (and_parts (is_name r.name) (is_within 576 16384 r.mtu && (nat_le (r.loss + r.twice + r.later) 1000 && (list_all is_range r.fates && all_apart overlap r.fates))) rest).0

nothing_read : (ms : List MediumSpec) → flat_map no_packet ms ≡ []
nothing_read [] = refl
nothing_read (m ∷ ms) = nothing_read ms

frames_read : (ss : List StampedFrame) → flat_map read_frame ss ≡ map as_read (map (λ (s : StampedFrame). s.frame) ss)
frames_read [] = refl
frames_read (s ∷ ss) = ap (λ (more : List ReadPacket). as_read s.frame ∷ more) (frames_read ss)

pub all_read_back : (w : World) (h : List Entry) → IsWorld w → IsLegal w h → IsTimed w h → packets_in (pcapng w h) ≡ map as_read (frames w h)
unfolding pcapng
all_read_back w h world legal timed =
    ap (λ (bytes : List ℕ). packets_in bytes) (append_assoc section_block front back)
    ∙ (read_file section_block front back [] (flat_map no_packet w.media) (flat_map read_frame (stamped_frames w h)) section_read
    (λ rest most fits. read_each medium_block no_packet w.media rest most (media_read 0 w.media world.media) fits)
    (λ most fits. read_each (frame_block (copies_in h)) read_frame (stamped_frames w h) [] most (each_read (copies_in h) (stamped_frames w h) (all_small w h world legal timed)) fits)
    (append-nil back)
    ∙ (ap (λ (ps : List ReadPacket). ps ++ flat_map read_frame (stamped_frames w h)) (nothing_read w.media)
    ∙ (frames_read (stamped_frames w h) ∙ ap (map as_read) (stamps_off w (opening_net w) 0 h))))
  where
    front : List ℕ
    front = flat_map medium_block w.media

    back : List ℕ
    back = flat_map (frame_block (copies_in h)) (stamped_frames w h)
