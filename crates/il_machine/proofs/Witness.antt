-- What is kept stands for some end of the definitions.
use Rattle.std.proofs.Common.{◌≡◌, ℕ, ◌+◌, ◌-◌, ◌^◌, ◌<◌, List, [], ◌∷◌, ◌++◌, length, drop, replicate, refl, arith, ap, sym, ◌∙◌, length-append}
use Rattle.std.proofs.lemmas.List.{drop_at, length-replicate}
use Rattle.il_queues.specs.Reading.{cut_first}
use Rattle.net_base.specs.IlEnd.{End}
use Rattle.il_machine.specs.Windows.{Windows, windows_of}
use Rattle.il_machine.specs.Stands.{StandsFor, StandsForSomeEnd, IsEndShort}

-- these texts, the first with so many bytes before it
abbrev pub uncut : ℕ → List (List ℕ) → List (List ℕ)
uncut cut [] = []
uncut cut (text ∷ texts) = (replicate cut 0 ++ text) ∷ texts

cut_uncut : (cut : ℕ) (texts : List (List ℕ)) → cut_first cut (uncut cut texts) ≡ texts
cut_uncut cut [] = refl
cut_uncut cut (text ∷ texts) = ap (λ (t : List ℕ). t ∷ texts) (drop_at (replicate cut 0) text cut (length-replicate cut 0))

length_uncut : (cut : ℕ) (texts : List (List ℕ)) → length (uncut cut texts) ≡ length texts
length_uncut cut [] = refl
length_uncut cut (text ∷ texts) = refl

-- in place of a text that is no longer kept
abbrev no_text : List ℕ
no_text = []

-- an end with these windows: what is no longer kept is made up
abbrev pub end_of : Windows → End
end_of w =
    record {
      state = w.state;
      fresh = w.fresh;
      start = w.start;
      rstart = w.rstart;
      sent = replicate w.acked [] ++ w.unacked;
      acked = w.acked;
      got = replicate w.read_count [] ++ uncut w.read_offset w.unread;
      early = w.early;
      read_count = w.read_count;
      read_offset = w.read_offset;
      closed_by_peer = w.closed_by_peer;
      cause = w.cause;
      timer = w.timer;
    }

same_windows : (w : Windows) (sent sent' : ℕ) (unacked unacked' : List (List ℕ)) (got got' : ℕ) (unread unread' : List (List ℕ))
    → sent ≡ sent' → unacked ≡ unacked' → got ≡ got' → unread ≡ unread'
    → record w { sent = sent; unacked = unacked; got = got; unread = unread } ≡ record w { sent = sent'; unacked = unacked'; got = got'; unread = unread' }
same_windows w sent sent' unacked unacked' got got' unread unread' p q r s = rw (p, q, r, s) refl

pub stands_for : (w : Windows) → w.acked + length w.unacked ≡ w.sent → w.read_count + length w.unread ≡ w.got → w ≡ windows_of (end_of w)
stands_for w all_sent all_got =
    let unacked : w.unacked ≡ drop w.acked (replicate w.acked [] ++ w.unacked) = sym (drop_at (replicate w.acked []) w.unacked w.acked (length-replicate w.acked [])) in
    let sent : w.sent ≡ length (replicate w.acked [] ++ w.unacked)
    = omega (arith, all_sent, length-append (replicate w.acked []) w.unacked, length-replicate w.acked no_text) in
    let behind : drop w.read_count (replicate w.read_count [] ++ uncut w.read_offset w.unread) ≡ uncut w.read_offset w.unread
    = drop_at (replicate w.read_count []) (uncut w.read_offset w.unread) w.read_count (length-replicate w.read_count []) in
    let unread : w.unread ≡ cut_first w.read_offset (drop w.read_count (replicate w.read_count [] ++ uncut w.read_offset w.unread))
    = sym (ap (λ (xs : List (List ℕ)). cut_first w.read_offset xs) behind ∙ cut_uncut w.read_offset w.unread) in
    let got : w.got ≡ length (replicate w.read_count [] ++ uncut w.read_offset w.unread)
    = omega (arith, all_got, length-append (replicate w.read_count []) (uncut w.read_offset w.unread), length_uncut w.read_offset w.unread, length-replicate w.read_count no_text) in
    same_windows w _ _ _ _ _ _ _ _ sent unacked got unread

-- few messages are kept: some end with few messages is stood for
pub some_short : (w : Windows) → w.acked + length w.unacked ≡ w.sent → w.read_count + length w.unread ≡ w.got → w.sent < 2 ^ 31 → w.got < 2 ^ 31
    → StandsForSomeEnd w IsEndShort
unfolding StandsFor
some_short w all_sent all_got few_sent few_got =
    let stands = stands_for w all_sent all_got in
    let sent : w.sent ≡ length (end_of w).sent = ap (λ (x : Windows). x.sent) stands in
    let got : w.got ≡ length (end_of w).got = ap (λ (x : Windows). x.got) stands in
    (end_of w, (stands, record { few_sent = omega (arith, sent, few_sent); few_got = omega (arith, got, few_got) }))

-- and if so, few were got
pub got_few : (w : Windows) → StandsForSomeEnd w IsEndShort → w.got < 2 ^ 31
unfolding StandsFor
got_few w (e, (stands, short)) =
    let got : w.got ≡ length e.got = ap (λ (x : Windows). x.got) stands in
    omega (arith, got, short.few_got)
