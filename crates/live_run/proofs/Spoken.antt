-- Lines and replies, one more at a time.
use Rattle.std.proofs.Common.{◌≡◌, ℕ, zero, suc, ◌+◌, ◌<◌, ◌==◌, Bool, true, false, List, [], ◌∷◌, ◌++◌, length, map, filter, Option, Some, None, is_none, slice_get, refl, sym, ap, subst, ◌∙◌, arith}
use Rattle.std.proofs.lemmas.Bool.{eq-eqb, ne_eqb}
use Rattle.std.proofs.lemmas.List.{append_assoc, append-nil, map-append}
use Rattle.net_base.specs.declared.history.Entry.{Entry}
use Rattle.net_base.specs.declared.reply.Reply.{Reply}
use Rattle.net_base.specs.Next.{by, own_entries, own_replies}
use Rattle.live_lines.specs.declared.answer.AnswerHead.{AnswerHead}
use Rattle.history_laws.proofs.Shared.{at_push, before_push, own_push}
use Rattle.net_base.proofs.Shared.{there_at}
use Rattle.live_answers.specs.declared.current.Current.{Current}
use Rattle.live_answers.specs.Lines.{Answer, Line, number_list, numbers_in, numbers_of, replies_in, replies_of}
use Rattle.live_answers.specs.Steps.{own_stamp, replies_at, reply_at}
use Rattle.live_run.specs.Heard.{AreBelow, AreWithin, replies_now}

-- Lines.

pub replies_more : (ls : List Line) (l : Line) (c : ℕ) → replies_in (ls ++ l ∷ []) c ≡ replies_in ls c ++ replies_of l c
replies_more [] l c = append-nil (replies_of l c)
replies_more (k ∷ ls) l c =
    ap (λ (rs : List Reply). replies_of k c ++ rs) (replies_more ls l c) ∙ sym (append_assoc (replies_of k c) (replies_in ls c) (replies_of l c))

pub numbers_more : (ls : List Line) (l : Line) (c : ℕ) → numbers_in (ls ++ l ∷ []) c ≡ numbers_in ls c ++ numbers_of l c
numbers_more [] l c = append-nil (numbers_of l c)
numbers_more (k ∷ ls) l c =
    ap (λ (ns : List ℕ). numbers_of k c ++ ns) (numbers_more ls l c) ∙ sym (append_assoc (numbers_of k c) (numbers_in ls c) (numbers_of l c))

pub replies_here : (a : AnswerHead) (rs : List Reply) (c : ℕ) → a.place ≡ c → replies_of (Answer a rs) c ≡ rs
replies_here a rs c is = rw (eq-eqb a.place c is) refl

pub replies_other : (a : AnswerHead) (rs : List Reply) (c : ℕ) → (a.place ≡ c → ⊥) → replies_of (Answer a rs) c ≡ []
replies_other a rs c other = rw (ne_eqb a.place c other) refl

pub numbers_here : (a : AnswerHead) (rs : List Reply) (c : ℕ) → a.place ≡ c → numbers_of (Answer a rs) c ≡ number_list a.step
numbers_here a rs c is = rw (eq-eqb a.place c is) refl

pub numbers_other : (a : AnswerHead) (rs : List Reply) (c : ℕ) → (a.place ≡ c → ⊥) → numbers_of (Answer a rs) c ≡ []
numbers_other a rs c other = rw (ne_eqb a.place c other) refl

-- Replies of a step.

pub replies_at_more : (h : List Entry) (ks js : List ℕ) → replies_at h (ks ++ js) ≡ replies_at h ks ++ replies_at h js
replies_at_more h [] js = refl
replies_at_more h (k ∷ ks) js =
    ap (λ (rs : List Reply). reply_at (slice_get h k) ++ rs) (replies_at_more h ks js) ∙ sym (append_assoc (reply_at (slice_get h k)) (replies_at h ks) (replies_at h js))

get_before : (h : List Entry) (x : Entry) (k : ℕ) → k < length h → slice_get (h ++ x ∷ []) k ≡ slice_get h k
get_before h x k below = let there = there_at h k below in before_push h x there.0 k there.1 ∙ sym there.1

pub replies_stay : (h : List Entry) (x : Entry) (ks : List ℕ) → AreBelow (length h) ks → replies_at (h ++ x ∷ []) ks ≡ replies_at h ks
replies_stay h x [] below = refl
replies_stay h x (k ∷ ks) below =
    ap (λ (o : Option Entry). reply_at o ++ replies_at (h ++ x ∷ []) ks) (get_before h x k below.0)
    ∙ ap (λ (rs : List Reply). reply_at (slice_get h k) ++ rs) (replies_stay h x ks below.1)

pub now_stays : (h : List Entry) (x : Entry) (o : Option Current) → AreWithin (length h) o → replies_now (h ++ x ∷ []) o ≡ replies_now h o
now_stays h x None within = refl
now_stays h x (Some s) within = replies_stay h x s.stamps.items within

pub below_more : (n m : ℕ) (ks : List ℕ) → n < m → AreBelow n ks → AreBelow m ks
below_more n m [] less below = tt
below_more n m (k ∷ ks) less below = (omega (arith, below.0, less), below_more n m ks less below.1)

pub below_both : (n : ℕ) (ks js : List ℕ) → AreBelow n ks → AreBelow n js → AreBelow n (ks ++ js)
below_both n [] js first then_ = then_
below_both n (k ∷ ks) js first then_ = (first.0, below_both n ks js first.1 then_)

pub within_more : (n m : ℕ) (o : Option Current) → n < m → AreWithin n o → AreWithin m o
within_more n m None less within = tt
within_more n m (Some s) less within = below_more n m s.stamps.items less within

-- Own entries.

abbrev pub own_reply : Option ℕ → Reply → List Reply
own_reply None r = r ∷ []
own_reply (Some k) r = []

own_last : (x : Entry) (c : ℕ) (o : Option ℕ) → x.cites ≡ o → x.caller ≡ c → map (λ (y : Entry). y.reply) (own_entries (x ∷ []) c) ≡ own_reply o x.reply
own_last x c None is caller = rw (eq-eqb x.caller c caller, is) refl
own_last x c (Some k) is caller = rw (eq-eqb x.caller c caller, is) refl

pub own_more : (h : List Entry) (c : ℕ) (x : Entry) → x.caller ≡ c → own_replies (h ++ x ∷ []) c ≡ own_replies h c ++ own_reply x.cites x.reply
own_more h c x caller =
    ap (map (λ (y : Entry). y.reply)) (own_push h c x)
    ∙ (map-append (λ (y : Entry). y.reply) (own_entries h c) (own_entries (x ∷ []) c)
    ∙ ap (λ (rs : List Reply). own_replies h c ++ rs) (own_last x c x.cites refl caller))

pub own_at : (h : List Entry) (x : Entry) (o : Option ℕ) → replies_at (h ++ x ∷ []) (own_stamp (is_none o) (length h)) ≡ own_reply o x.reply
own_at h x (Some k) = refl
own_at h x None = ap (λ (y : Option Entry). reply_at y ++ []) (at_push h x)

pub own_below : (n : ℕ) (o : Option ℕ) → AreBelow (suc n) (own_stamp (is_none o) n)
own_below n (Some k) = tt
own_below n None = (omega arith, tt)
