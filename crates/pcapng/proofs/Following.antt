-- Blocks of a history that is followed entry by entry.
use Rattle.std.proofs.Common.{◌≡◌, ℕ, ◌+◌, ◌<◌, ◌≤◌, true, List, [], ◌∷◌, ◌++◌, length, take, drop, get_or, flat_map, map, Option, Some, None, slice_get, refl, sym, ap, subst, ◌∙◌, append_assoc, arith, nat_le}
use Rattle.std.specs.Prelude.{option_map}
use Rattle.std.proofs.lemmas.Bool.{and_parts, leb-true}
use Rattle.std.proofs.lemmas.Option.{same_Some}
use Rattle.std.proofs.lemmas.List.{append-nil, drop_all, drop_more, take_more}
use Rattle.std.proofs.lemmas.Grind.{flat_map-append}
use Rattle.net_base.specs.declared.history.Entry.{Entry}
use Rattle.net_base.specs.declared.packet.Packet.{Packet}
use Rattle.net_base.specs.declared.world.World.{World}
use Rattle.net_base.specs.Net.{Net, after, moment, next_net, opening_net, owed, with_of}
use Rattle.history_laws.proofs.Shared.{after_push}
use Rattle.plain_runner.specs.Callers.{IsCallerKept}
use Rattle.plain_runner.specs.Followed.{Followed, FollowsRun}
use Rattle.plain_runner.specs.declared.caller.Caller.{Caller}
use Rattle.plain_runner.specs.declared.runner.Runner.{Runner}
use Rattle.plain_runner.proofs.Shared.{moment_within}
use Rattle.replay_views.specs.Capture.{Frame, frame_of, frames_laid, given_packet, medium_of}
use Rattle.pcapng.specs.Blocks.{packet_block}
use Rattle.pcapng.specs.Copies.{Copies}
use Rattle.pcapng.specs.Following.{AddsBlock}
use Rattle.pcapng.specs.Frames.{StampedFrame, comment_on, frame_block, number_in, stamped_at, stamped_frames, stamped_from, with_stamp}
use Rattle.formats.specs.Datagram.{packet_spelling}

-- The loop.

-- the file after some entries: with the blocks of those that are left it is the whole file
pub record Captured (w : World) (copies : Copies) (h : List Entry) (n : ℕ) (r : Runner) (bytes whole : List ℕ) : Type 0 where
  pub followed : Followed w (take n h) r
  pub bytes_are : bytes ++ flat_map (frame_block copies) (stamped_from w (after w r.history.entries) n (drop n h)) ≡ whole

pub captured_none : (w : World) (copies : Copies) (h : List Entry) (r : Runner) (bytes : List ℕ) → Followed w [] r
    → Captured w copies h 0 r bytes (bytes ++ flat_map (frame_block copies) (stamped_frames w h))
captured_none w copies h r bytes followed = record {
  followed = followed;
  bytes_are = ap (λ (past : List Entry). bytes ++ flat_map (frame_block copies) (stamped_from w (after w past) 0 h)) followed.history_is;
}

taken_more : (h : List Entry) (n : ℕ) (x : Entry) → n < length h → x ≡ get_or h n x → take n h ++ x ∷ [] ≡ take (n + 1) h
taken_more h n x lt is = ap (λ (y : Entry). take n h ++ y ∷ []) is ∙ sym (take_more h n x lt)

pub captured_more : (w : World) (copies : Copies) (h : List Entry) (r new : Runner) (n : ℕ) (x : Entry) (old bytes whole : List ℕ) → n < length h
    → x ≡ get_or h n x
    → Captured w copies h n r old whole → bytes ≡ old ++ flat_map (frame_block copies) (stamped_at (after w r.history.entries) n x)
    → Followed w (r.history.entries ++ x ∷ []) new
    → Captured w copies h (n + 1) new bytes whole
captured_more w copies h r new n x old bytes whole lt is c adds followed = record {
  followed =
      subst (λ (past : List Entry). Followed w past new) (ap (λ (past : List Entry). past ++ x ∷ []) c.followed.history_is ∙ taken_more h n x lt is) followed;
  bytes_are =
      ap (λ (bs : List ℕ). bs ++ blocks (stamped_from w (after w new.history.entries) (n + 1) rest)) adds
      ∙ (ap (λ (net : Net). (old ++ blocks here) ++ blocks (stamped_from w net (n + 1) rest)) net_is
      ∙ (append_assoc old (blocks here) (blocks (stamped_from w (next_net w net x) (n + 1) rest))
      ∙ (ap (λ (bs : List ℕ). old ++ bs) (sym (flat_map-append (frame_block copies) here (stamped_from w (next_net w net x) (n + 1) rest)))
      ∙ (ap (λ (xs : List Entry). old ++ blocks (stamped_from w net n xs)) (sym left) ∙ c.bytes_are))));
}
  where
    blocks : List StampedFrame → List ℕ
    blocks fs = flat_map (frame_block copies) fs

    net : Net
    net = after w r.history.entries

    rest : List Entry
    rest = drop (n + 1) h

    here : List StampedFrame
    here = stamped_at net n x

    net_is : after w new.history.entries ≡ next_net w net x
    net_is = ap (after w) followed.history_is ∙ after_push w r.history.entries x

    left : drop n h ≡ x ∷ rest
    left = drop_more h n x lt ∙ ap (λ (y : Entry). y ∷ rest) (sym is)

pub captured_all : (w : World) (copies : Copies) (h : List Entry) (r : Runner) (n : ℕ) (bytes whole : List ℕ) → length h ≤ n
    → Captured w copies h n r bytes whole → bytes ≡ whole
captured_all w copies h r n bytes whole le c =
    sym (append-nil bytes)
    ∙ (ap (λ (xs : List Entry). bytes ++ flat_map (frame_block copies) (stamped_from w (after w r.history.entries) n xs)) (sym (drop_all n h le))
    ∙ c.bytes_are)

-- One entry.

-- the blocks of the frame that is accepted
abbrev given_blocks : Copies → ℕ → ℕ → Option ℕ → ℕ → Option Packet → List ℕ
given_blocks copies stamp number on moment p = flat_map (frame_block copies) (map (with_stamp stamp number) (frame_of on moment p))

nothing_given : (copies : Copies) (stamp number : ℕ) (on : Option ℕ) (moment : ℕ) → given_blocks copies stamp number on moment None ≡ []
nothing_given copies stamp number None moment = refl
nothing_given copies stamp number (Some m) moment = refl

-- nothing is added if no link accepted a frame
pub adds_none : (w : World) (copies : Copies) (r : Runner) (stamp : ℕ) (x : Entry) (old : List ℕ) → medium_of x.actor x.reply ≡ None
    → old ≡ old ++ flat_map (frame_block copies) (stamped_at (after w r.history.entries) stamp x)
adds_none w copies r stamp x old none =
    sym (ap (λ (on : Option ℕ). old ++ given_blocks copies stamp (number_in x.reply) on x.moment (given_packet (with_of (owed w r.history.entries x.caller)))) none
    ∙ append-nil old)

-- or where nothing was given
pub adds_nothing : (w : World) (copies : Copies) (r : Runner) (stamp : ℕ) (x : Entry) (old : List ℕ)
    → given_packet (with_of (owed w r.history.entries x.caller)) ≡ None
    → old ≡ old ++ flat_map (frame_block copies) (stamped_at (after w r.history.entries) stamp x)
adds_nothing w copies r stamp x old none =
    sym (ap (λ (p : Option Packet). old ++ given_blocks copies stamp (number_in x.reply) (medium_of x.actor x.reply) x.moment p) none
    ∙ (ap (λ (bs : List ℕ). old ++ bs) (nothing_given copies stamp (number_in x.reply) (medium_of x.actor x.reply) x.moment) ∙ append-nil old))

-- and otherwise the block of this packet
pub adds_given : (w : World) (copies : Copies) (r : Runner) (stamp : ℕ) (x : Entry) (m k : ℕ) (p : Packet) (comment old new : List ℕ)
    → medium_of x.actor x.reply ≡ Some m → number_in x.reply ≡ k → given_packet (with_of (owed w r.history.entries x.caller)) ≡ Some p
    → comment ≡ comment_on copies stamp m k
    → new ≡ old ++ packet_block (record { interface = m; moment = x.moment; bytes = packet_spelling p; comment = comment })
    → new ≡ old ++ flat_map (frame_block copies) (stamped_at (after w r.history.entries) stamp x)
adds_given w copies r stamp x m k p comment old new on number gift said is =
    is
    ∙ (ap (λ (text : List ℕ). old ++ packet_block (record { interface = m; moment = x.moment; bytes = packet_spelling p; comment = text })) said
    ∙ (sym (ap (λ (bs : List ℕ). old ++ bs) (append-nil (packet_block (record { interface = m; moment = x.moment; bytes = packet_spelling p; comment = comment_on copies stamp m k }))))
    ∙ sym (ap (λ (o : Option ℕ). old ++ given_blocks copies stamp (number_in x.reply) o x.moment (given_packet (with_of (owed w r.history.entries x.caller)))) on
    ∙ (ap (λ (q : Option Packet). old ++ given_blocks copies stamp (number_in x.reply) (Some m) x.moment q) gift
    ∙ ap (λ (n : ℕ). old ++ given_blocks copies stamp n (Some m) x.moment (Some p)) number))))

-- The link and the number of a frame.

abbrev key_of : ℕ → ℕ → ℕ × ℕ
key_of k m = (m, k)

pub key_none : (on : Option ℕ) (k : ℕ) → None ≡ option_map (key_of k) on → on ≡ None
key_none None k is = refl
key_none (Some m) k is = absurd (none_some (key_of k m) is)
  where
    none_some : (key : ℕ × ℕ) → None ≡ Some key → ⊥
    none_some key is = cc

pub key_some : (on : Option ℕ) (k : ℕ) (key : ℕ × ℕ) → Some key ≡ option_map (key_of k) on → (on ≡ Some key.0) × (k ≡ key.1)
key_some None k key is = absurd (some_none key is)
  where
    some_none : (key : ℕ × ℕ) → Some key ≡ None → ⊥
    some_none key is = cc
key_some (Some m) k key is = let same = same_Some key (key_of k m) is in (ap (λ (q : ℕ × ℕ). Some q.0) (sym same), ap (λ (q : ℕ × ℕ). q.1) (sym same))

-- The caller of the entry, and its moment.

pub caller_there : (w : World) (r : Runner) (x : Entry) → FollowsRun w r x → x.caller < length r.callers.items
caller_there w r x f = omega (arith, f.may.is_known.1, f.tracks.callers_are.count)

pub caller_is : (w : World) (r : Runner) (x : Entry) (k : Caller) → FollowsRun w r x → slice_get r.callers.items x.caller ≡ Some k
    → IsCallerKept w r.history.entries x.caller k
caller_is w r x k f at = f.tracks.callers_are.each x.caller k at

pub early_at : (w : World) (r : Runner) (x : Entry) → FollowsRun w r x → x.moment ≤ 1000000000
early_at w r x f =
    let end : w.end ≤ 1000000000 = leb-true w.end 1000000000 (and_parts (nat_le 1 w.end) (nat_le w.end 1000000000) f.tracks.history.world.end).1 in
    let before : moment w r.history.entries ≤ 1000000000 = omega
    (arith, end, moment_within w r.history.entries f.tracks.history.legal f.tracks.history.timed) in
    subst (λ (n : ℕ). n ≤ 1000000000) (sym f.may.at_moment) before
