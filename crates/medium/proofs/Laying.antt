-- A frame that is laid, as the step of a medium.
use Rattle.std.proofs.Common.{◌≡◌, ℕ, ◌+◌, ◌-◌, ◌≤◌, length, take, drop, map, false, List, [], ◌∷◌, ◌++◌, Option, Some, nat_lt, option_to_list, refl, sym, ap, subst, ◌∙◌, arith}
use Rattle.std.proofs.lemmas.Bool.{le-ltb}
use Rattle.std.proofs.lemmas.List.{append-nil, drop_at, drop_all, length-drop, length-take-le, map-append}
use Rattle.std.proofs.Common.{append_assoc}
use borrow.Rule.Slice.PartMut.{put_mid}
use Rattle.net_base.specs.declared.history.Taken.{Taken}
use Rattle.net_base.specs.declared.packet.Body.{Body}
use Rattle.net_base.specs.declared.packet.Body.TheVariants as body
use Rattle.net_base.specs.declared.packet.Packet.{Packet}
use Rattle.net_base.specs.declared.world.Fate.{Fate}
use Rattle.net_base.specs.declared.world.Fate.TheVariants.{Deliver, Lose, Twice, Later}
use Rattle.formats.specs.Datagram.{IsPacket, body_bytes, header_for, datagram_packet, packet_spelling}
use Rattle.formats.specs.Ipv4.{Ipv4, flagged_bytes, summed}
use Rattle.net_base.specs.Medium.{datagram_length, fate_of, held_of, lays, now_of, puts}
use Rattle.formats.proofs.Shared.{packet_again}
use Rattle.medium.specs.declared.frame.Frame.{Frame}
use Rattle.medium.specs.OnMedium.{OnMedium, AllSpelled, copies_now, copy_held, medium_laid, copy_taken, with_frame}
use Rattle.medium.specs.Spelled.{IsSpelledPacket}

pub is_spelled : (p : Packet) (bytes : List ℕ) → IsPacket p → bytes ≡ packet_spelling p → IsSpelledPacket bytes
is_spelled p bytes h e =
    let again : datagram_packet bytes ≡ p = ap datagram_packet e ∙ packet_again p h in
    rw again (h, e)

pub AllSpelled-append : (xs ys : List Frame) → AllSpelled xs → AllSpelled ys → AllSpelled (xs ++ ys)
AllSpelled-append [] ys all more = more
AllSpelled-append (x ∷ xs) ys all more = (all.0, AllSpelled-append xs ys all.1 more)

-- the copies of a frame

pub spelled_now : (fate : Fate) (f : Frame) → IsSpelledPacket f.bytes → AllSpelled (copies_now fate f)
spelled_now Deliver f s = (s, tt)
spelled_now Lose f s = tt
spelled_now Twice f s = (s, (s, tt))
spelled_now Later f s = tt

pub spelled_held : (fate : Fate) (f : Frame) → IsSpelledPacket f.bytes → AllSpelled (option_to_list (copy_held fate f))
spelled_held Deliver f s = tt
spelled_held Lose f s = tt
spelled_held Twice f s = tt
spelled_held Later f s = (s, tt)

-- what joins one after another
pub AllSpelled-joined : (queue one two three first second held : List Frame) (fate : Fate) (f : Frame) → one ≡ queue ++ first → two ≡ one ++ second → three ≡ two ++ held → first ++ second ≡ copies_now fate f
    → AllSpelled queue → AllSpelled held → IsSpelledPacket f.bytes → AllSpelled three
AllSpelled-joined queue one two three first second held fate f e1 e2 e3 now before after s =
    let all : three ≡ (queue ++ copies_now fate f) ++ held =
    e3 ∙ ap (λ (front : List Frame). front ++ held) (e2 ∙ ap (λ (front : List Frame). front ++ second) e1 ∙ append_assoc queue first second ∙ ap (λ (copies : List Frame). queue ++ copies) now) in
    subst AllSpelled (sym all) (AllSpelled-append (queue ++ copies_now fate f) held (AllSpelled-append queue (copies_now fate f) before (spelled_now fate f s)) after)

now_taken : (fate : Fate) (f : Frame) → map copy_taken (copies_now fate f) ≡ now_of fate (copy_taken f)
now_taken Deliver f = refl
now_taken Lose f = refl
now_taken Twice f = refl
now_taken Later f = refl

held_taken : (fate : Fate) (f : Frame) → map copy_taken (option_to_list (copy_held fate f)) ≡ held_of fate (copy_taken f)
held_taken Deliver f = refl
held_taken Lose f = refl
held_taken Twice f = refl
held_taken Later f = refl

taken_in_row : (queue now held : List Frame) → map copy_taken ((queue ++ now) ++ held) ≡ (map copy_taken queue ++ map copy_taken now) ++ map copy_taken held
taken_in_row queue now held = map-append copy_taken (queue ++ now) held ∙ ap (λ (front : List Taken). front ++ map copy_taken held) (map-append copy_taken queue now)

-- a further frame is the definitions' step
lays_frame : (queue : List Frame) (held : Option Frame) (laid : ℕ) (fate : Fate) (f : Frame)
    → record { frames = f.number; queue = map copy_taken ((queue ++ copies_now fate f) ++ option_to_list held); held = map copy_taken (option_to_list (copy_held fate f)) }
    ≡ (lays fate (copy_taken f) (record { frames = laid; queue = map copy_taken queue; held = map copy_taken (option_to_list held) })).state
lays_frame queue held laid fate f =
    ap (λ (q : List Taken). record { frames = f.number; queue = q; held = map copy_taken (option_to_list (copy_held fate f)) })
    (taken_in_row queue (copies_now fate f) (option_to_list held) ∙ ap (λ (now : List Taken). (map copy_taken queue ++ now) ++ map copy_taken (option_to_list held)) (now_taken fate f))
    ∙ ap (λ (h : List Taken). record { frames = f.number; queue = (map copy_taken queue ++ now_of fate (copy_taken f)) ++ map copy_taken (option_to_list held); held = h }) (held_taken fate f)

pub laid_state : (m : OnMedium) (to : ℕ) (p : Packet) (bytes : List ℕ) → datagram_length p.body ≤ m.spec.mtu → IsPacket p → bytes ≡ packet_spelling p
    → medium_laid (with_frame (record { number = m.laid + 1; to = to; bytes = bytes }) m) ≡ (puts m.spec m.seed (Some to) p (medium_laid m)).state
laid_state m to p bytes short fits e =
    let again : datagram_packet bytes ≡ p = ap datagram_packet e ∙ packet_again p fits in
    let small : nat_lt m.spec.mtu (datagram_length p.body) ≡ false = le-ltb m.spec.mtu (datagram_length p.body) short in
    rw small
    (lays_frame m.queue m.held m.laid (fate_of m.seed m.spec (m.laid + 1)) (record { number = m.laid + 1; to = to; bytes = bytes })
    ∙ ap (λ (x : Packet). (lays (fate_of m.seed m.spec (m.laid + 1)) (record { frame = m.laid + 1; to = to; packet = x }) (medium_laid m)).state) again)

-- a header that is written in front of a body
pub framed : (p : Packet) (h : Ipv4) (carried out new : List ℕ) → h ≡ header_for p → carried ≡ body_bytes p.src p.dst p.body → 20 ≤ length out → length carried ≡ length out - 20
    → new ≡ summed false (20 + (length out - 20)) h ++ drop 20 (put_mid 20 (length out - 20) out carried) → new ≡ packet_spelling p
unfolding packet_spelling flagged_bytes
framed p h carried out new eh eb long same e =
    let nothing : drop (length out - 20) (drop 20 out) ≡ [] = drop_all (length out - 20) (drop 20 out) (omega (arith, length-drop 20 out)) in
    let front : length (take 20 out) ≡ 20 = length-take-le 20 out long in
    e
    ∙ ap (λ (x : List ℕ). summed false (20 + (length out - 20)) h ++ x) (drop_at (take 20 out) (carried ++ drop (length out - 20) (drop 20 out)) 20 front
    ∙ ap (λ (x : List ℕ). carried ++ x) nothing
    ∙ append-nil carried)
    ∙ ap (λ (n : ℕ). summed false (20 + n) h ++ carried) (sym same)
    ∙ ap (λ (x : Ipv4). summed false (20 + length carried) x ++ carried) eh
    ∙ ap (λ (b : List ℕ). summed false (20 + length b) (header_for p) ++ b) eb

-- no body is without headers
pub least_length : (b : Body) → 20 ≤ datagram_length b
least_length (body.Il m) = omega arith
least_length (body.Udp text) = omega arith
