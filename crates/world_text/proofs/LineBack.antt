-- What a line spells is read as it, stands on one line and isn't passed over.
use Rattle.std.proofs.Common.{◌≡◌, ℕ, ◌<◌, ◌^◌, ◌==◌, true, false, not, ◌&&◌, List, [], ◌∷◌, length, map, refl, sym, ap, subst, ◌∙◌, arith, Some, None, Ok}
use Rattle.std.specs.Prelude.{⊤, codes, decimal, nat_le, option_map, if◌then◌else◌}
use Rattle.std.proofs.lemmas.Bool.{and_parts, false≢true, ltb-true, ne_eqb}
use Rattle.std.proofs.lemmas.List.Elements.{All-append, All-nil}
use Rattle.std.proofs.lemmas.List.Folds.{list_any_none}
use Rattle.net_base.specs.declared.address.Proto.{Proto}
use Rattle.net_base.specs.declared.address.Proto.TheVariants as proto
use Rattle.net_base.specs.declared.timer.Timers.{Timers}
use Rattle.net_base.specs.declared.timer.Timers.TheVariants as timers
use Rattle.net_base.specs.declared.world.Fate.{Fate}
use Rattle.net_base.specs.declared.world.Fate.TheVariants as fate
use Rattle.net_base.specs.declared.world.Step.{Step}
use Rattle.net_base.specs.ControlWords.{dotted}
use Rattle.net_base.specs.NdbText.{is_newline}
use Rattle.net_base.specs.Paths.{proto_name}
use Rattle.net_base.specs.World.{is_address, is_name, is_nets, is_step, is_within}
use Rattle.net_base.proofs.Shared.{IsWithout, cut_at, decimal_without, one_part, without_one, address-back, number-back}
use Rattle.world_text.specs.declared.line.Frames.{Frames}
use Rattle.world_text.specs.declared.line.Frames.TheVariants as frames
use Rattle.world_text.specs.declared.line.HostLine.TheVariants as host
use Rattle.world_text.specs.declared.line.MediumLine.TheVariants as medium
use Rattle.world_text.specs.declared.line.WorldLine.{WorldLine}
use Rattle.world_text.specs.declared.line.WorldLine.TheVariants as line
use Rattle.world_text.specs.WorldWords.{address_in, nets_named, number_in}
use Rattle.world_text.specs.LineReading.{argued, fate_from, fate_named, frame_in, frames_in, frames_of, if_from, if_named, range_from, rate_in, rates_from, read_line, route_from, step_read, words_line}
use Rattle.world_text.specs.WorldSpelling.{fate_word, frames_spelled, is_line, spaced_line, speaks, line_spelling, timers_word, words_of_line}
use Rattle.world_text.specs.LineFit.{fit_frames, is_fit, is_frame, is_rate}
use Rattle.world_text.proofs.StepBack.{loud-step, one-step, step-back}
use Rattle.world_text.proofs.WordsFree.{Apart, AreFree, address-free, apart-blank, apart-newline, letters-free, name-free, nets-free, number-free, spaced-free, split-back, within-high}

-- Words without a byte.

fate-free : (s : ℕ) → Apart s → (x : Fate) → IsWithout s (fate_word x)
fate-free s p fate.Deliver = letters-free s p (codes "deliver") refl
fate-free s p fate.Lose = letters-free s p (codes "lose") refl
fate-free s p fate.Twice = letters-free s p (codes "twice") refl
fate-free s p fate.Later = letters-free s p (codes "later") refl

frames-free : (s : ℕ) → Apart s → (f : Frames) → fit_frames f ≡ true → IsWithout s (frames_spelled f)
frames-free s p (frames.One n) fit = number-free s p 1 18446744073709551615 n (omega arith) fit
frames-free s p (frames.Range m n) fit =
    let first = and_parts (is_frame m) (is_frame n && nat_le m n) fit in
    let last = and_parts (is_frame n) (nat_le m n) first.1 in
    let low = p.low in
    All-append (λ (x : ℕ). (x == s) ≡ false) (decimal m) (45 ∷ decimal n) (number-free s p 1 18446744073709551615 m (omega arith) first.0)
    (without_one s 45 (decimal n) (ne_eqb 45 s (λ is. omega (arith, is, low))) (number-free s p 1 18446744073709551615 n (omega arith) last.0))

-- Lines but those of steps.

abbrev IsPlain : WorldLine → Type 0
IsPlain (line.OfScript s) = ⊥
IsPlain _ = ⊤

one-free : (s : ℕ) → Apart s → IsWithout s (codes "1")
one-free s p = let low = p.low in without_one s 49 [] (ne_eqb 49 s (λ is. omega (arith, is, low))) (All-nil (λ (x : ℕ). (x == s) ≡ false))

two-free : (s : ℕ) → Apart s → IsWithout s (codes "2")
two-free s p = let low = p.low in without_one s 50 [] (ne_eqb 50 s (λ is. omega (arith, is, low))) (All-nil (λ (x : ℕ). (x == s) ≡ false))

timers-free : (s : ℕ) → Apart s → (kind : Timers) → IsWithout s (timers_word kind)
timers-free s p timers.Fixed = one-free s p
timers-free s p timers.Measured = two-free s p

line-free : (s : ℕ) → Apart s → (l : WorldLine) → IsPlain l → is_fit l ≡ true → AreFree s (words_of_line l)
line-free s p (line.Networld kind) plain fit = (letters-free s p (codes "networld") refl, (timers-free s p kind, tt))
line-free s p (line.End m) plain fit = (letters-free s p (codes "end") refl, (number-free s p 1 1000000000 m (omega arith) fit, tt))
line-free s p (line.Seed n) plain fit = (letters-free s p (codes "seed") refl, (number-free s p 0 18446744073709551615 n (omega arith) fit, tt))
line-free s p (line.OfMedium (medium.Medium called mtu)) plain fit =
    let both = and_parts (is_name called) (is_within 576 16384 mtu) fit in
    (letters-free s p (codes "medium") refl, (name-free s p called both.0, (number-free s p 576 16384 mtu (omega arith) both.1, tt)))
line-free s p (line.OfMedium (medium.Rates called a b c)) plain fit =
    let one = and_parts (is_name called) (is_rate a && (is_rate b && is_rate c)) fit in
    let two = and_parts (is_rate a) (is_rate b && is_rate c) one.1 in
    let three = and_parts (is_rate b) (is_rate c) two.1 in (
      letters-free s p (codes "rates") refl,
      (
        name-free s p called one.0,
        (
          number-free s p 0 4294967295 a (omega arith) two.0,
          (number-free s p 0 4294967295 b (omega arith) three.0, (number-free s p 0 4294967295 c (omega arith) three.1, tt)),
        ),
      ),
    )
line-free s p (line.OfMedium (medium.Fate called f x)) plain fit =
    let both = and_parts (is_name called) (fit_frames f) fit in
    (letters-free s p (codes "fate") refl, (name-free s p called both.0, (frames-free s p f both.1, (fate-free s p x, tt))))
line-free s p (line.Host called nets) plain fit =
    let both = and_parts (is_name called) (is_nets nets) fit in
    (letters-free s p (codes "host") refl, (name-free s p called both.0, nets-free s p nets))
line-free s p (line.OfHost (host.If called ip mask)) plain fit =
    let one = and_parts (is_name called) (is_address ip && is_address mask) fit in
    let two = and_parts (is_address ip) (is_address mask) one.1 in
    (letters-free s p (codes "if") refl, (name-free s p called one.0, (address-free s p ip two.0, (address-free s p mask two.1, tt))))
line-free s p (line.OfHost (host.Route l)) plain fit =
    let one = and_parts (is_address l.net) (is_address l.mask && is_address l.gateway) fit in
    let two = and_parts (is_address l.mask) (is_address l.gateway) one.1 in
    (letters-free s p (codes "route") refl, (address-free s p l.net one.0, (address-free s p l.mask two.0, (address-free s p l.gateway two.1, tt))))
line-free s p (line.OfHost (host.Start n)) plain fit = (letters-free s p (codes "start") refl, (number-free s p 1 4294967295 n (omega arith) fit, tt))
line-free s p (line.Script called) plain fit = (letters-free s p (codes "script") refl, (name-free s p called fit, tt))
line-free s p (line.OfScript x) plain fit = absurd plain
line-free s p line.Ndb plain fit = (letters-free s p (codes "ndb") refl, tt)

-- What is read of the words.

rates-back : (called : List ℕ) (a b c : ℕ) → is_name called ≡ true → is_rate a ≡ true → is_rate b ≡ true → is_rate c ≡ true
    → argued (if_named called (rates_from called (rate_in (decimal a)) (rate_in (decimal b)) (rate_in (decimal c)))) ≡ Ok (line.OfMedium (medium.Rates called a b c))
rates-back called a b c name fa fb fc =
    ap (λ v. argued (if v then rates_from called (rate_in (decimal a)) (rate_in (decimal b)) (rate_in (decimal c)) else None)) name
    ∙ (ap (λ o. argued (rates_from called o (rate_in (decimal b)) (rate_in (decimal c)))) (number-back 0 4294967295 a (omega arith) fa)
    ∙ (ap (λ o. argued (rates_from called (Some a) o (rate_in (decimal c)))) (number-back 0 4294967295 b (omega arith) fb)
    ∙ ap (λ o. argued (rates_from called (Some a) (Some b) o)) (number-back 0 4294967295 c (omega arith) fc)))

fate-back : (x : Fate) → fate_named (fate_word x) ≡ Some x
fate-back fate.Deliver = refl
fate-back fate.Lose = refl
fate-back fate.Twice = refl
fate-back fate.Later = refl

frames-back : (f : Frames) → fit_frames f ≡ true → frames_in (frames_spelled f) ≡ Some f
frames-back (frames.One n) fit =
    let high = within-high 1 18446744073709551615 n fit in
    ap frames_of (one_part 45 (decimal n) (decimal_without n 45 (omega (arith, high)) (omega arith)))
    ∙ ap (λ o. option_map (λ k. frames.One k) o) (number-back 1 18446744073709551615 n (omega arith) fit)
frames-back (frames.Range m n) fit =
    let first = and_parts (is_frame m) (is_frame n && nat_le m n) fit in
    let last = and_parts (is_frame n) (nat_le m n) first.1 in
    let high_m = within-high 1 18446744073709551615 m first.0 in
    let high_n = within-high 1 18446744073709551615 n last.0 in
    ap frames_of (cut_at 45 (decimal m) (decimal n) (decimal n ∷ []) (decimal_without m 45 (omega (arith, high_m)) (omega arith))
    (one_part 45 (decimal n) (decimal_without n 45 (omega (arith, high_n)) (omega arith))))
    ∙ (ap (λ o. range_from o (frame_in (decimal n))) (number-back 1 18446744073709551615 m (omega arith) first.0)
    ∙ (ap (range_from (Some m)) (number-back 1 18446744073709551615 n (omega arith) last.0)
    ∙ ap (λ v. if v then Some (frames.Range m n) else None) last.1))

nets-back : (nets : List Proto) → is_nets nets ≡ true → nets_named (map proto_name nets) ≡ nets
nets-back [] is = absurd (false≢true is)
nets-back (proto.Il ∷ []) is = refl
nets-back (proto.Udp ∷ []) is = refl
nets-back (proto.Il ∷ proto.Udp ∷ []) is = refl
nets-back (proto.Udp ∷ proto.Il ∷ []) is = refl
nets-back (proto.Il ∷ proto.Il ∷ []) is = absurd (false≢true is)
nets-back (proto.Udp ∷ proto.Udp ∷ []) is = absurd (false≢true is)
nets-back (proto.Il ∷ proto.Il ∷ q ∷ nets) is = absurd (false≢true is)
nets-back (proto.Il ∷ proto.Udp ∷ q ∷ nets) is = absurd (false≢true is)
nets-back (proto.Udp ∷ proto.Il ∷ q ∷ nets) is = absurd (false≢true is)
nets-back (proto.Udp ∷ proto.Udp ∷ q ∷ nets) is = absurd (false≢true is)

address-read : (ip : ℕ) → is_address ip ≡ true → address_in (dotted ip) ≡ Some ip
address-read ip e = address-back ip (ltb-true ip (2 ^ 32) e)

words-back : (l : WorldLine) → IsPlain l → is_fit l ≡ true → words_line (words_of_line l) ≡ Ok l
words-back (line.Networld timers.Fixed) plain fit = refl
words-back (line.Networld timers.Measured) plain fit = refl
words-back (line.End m) plain fit = ap (λ o. argued (option_map (λ n. line.End n) o)) (number-back 1 1000000000 m (omega arith) fit)
words-back (line.Seed n) plain fit = ap (λ o. argued (option_map (λ k. line.Seed k) o)) (number-back 0 18446744073709551615 n (omega arith) fit)
words-back (line.OfMedium (medium.Medium called mtu)) plain fit =
    let both = and_parts (is_name called) (is_within 576 16384 mtu) fit in
    ap (λ v. argued (if v then option_map (λ n. line.OfMedium (medium.Medium called n)) (number_in 576 16384 (decimal mtu)) else None)) both.0
    ∙ ap (λ o. argued (option_map (λ n. line.OfMedium (medium.Medium called n)) o)) (number-back 576 16384 mtu (omega arith) both.1)
words-back (line.OfMedium (medium.Rates called a b c)) plain fit =
    let one = and_parts (is_name called) (is_rate a && (is_rate b && is_rate c)) fit in
    let two = and_parts (is_rate a) (is_rate b && is_rate c) one.1 in
    let three = and_parts (is_rate b) (is_rate c) two.1 in rates-back called a b c one.0 two.0 three.0 three.1
words-back (line.OfMedium (medium.Fate called f x)) plain fit =
    let both = and_parts (is_name called) (fit_frames f) fit in
    ap (λ v. argued (if v then fate_from called (frames_in (frames_spelled f)) (fate_named (fate_word x)) else None)) both.0
    ∙ (ap (λ o. argued (fate_from called o (fate_named (fate_word x)))) (frames-back f both.1) ∙ ap (λ o. argued (fate_from called (Some f) o)) (fate-back x))
words-back (line.Host called nets) plain fit =
    let both = and_parts (is_name called) (is_nets nets) fit in
    ap (λ ns. argued (if is_name called && is_nets ns then Some (line.Host called ns) else None)) (nets-back nets both.1)
    ∙ ap (λ v. argued (if v then Some (line.Host called nets) else None)) fit
words-back (line.OfHost (host.If called ip mask)) plain fit =
    let one = and_parts (is_name called) (is_address ip && is_address mask) fit in
    let two = and_parts (is_address ip) (is_address mask) one.1 in
    ap (λ v. argued (if v then if_from called (address_in (dotted ip)) (address_in (dotted mask)) else None)) one.0
    ∙ (ap (λ o. argued (if_from called o (address_in (dotted mask)))) (address-read ip two.0) ∙ ap (λ o. argued (if_from called (Some ip) o)) (address-read mask two.1))
words-back (line.OfHost (host.Route l)) plain fit =
    let one = and_parts (is_address l.net) (is_address l.mask && is_address l.gateway) fit in
    let two = and_parts (is_address l.mask) (is_address l.gateway) one.1 in
    ap (λ o. argued (route_from o (address_in (dotted l.mask)) (address_in (dotted l.gateway)))) (address-read l.net one.0)
    ∙ (ap (λ o. argued (route_from (Some l.net) o (address_in (dotted l.gateway)))) (address-read l.mask two.0)
    ∙ ap (λ o. argued (route_from (Some l.net) (Some l.mask) o)) (address-read l.gateway two.1))
words-back (line.OfHost (host.Start n)) plain fit = ap (λ o. argued (option_map (λ k. line.OfHost (host.Start k)) o)) (number-back 1 4294967295 n (omega arith) fit)
words-back (line.Script called) plain fit = ap (λ v. argued (if v then Some (line.Script called) else None)) fit
words-back (line.OfScript x) plain fit = absurd plain
words-back line.Ndb plain fit = refl

-- Lines.

plain-back : (l : WorldLine) → IsPlain l → is_fit l ≡ true → (words : List (List ℕ)) → words_of_line l ≡ words → 0 < length words → read_line (line_spelling l) ≡ Ok l
plain-back l plain fit [] is some = absurd (omega (arith, some))
plain-back l plain fit (word ∷ words) is some =
    ap (λ ws. read_line (spaced_line ws)) is
    ∙ (ap words_line (split-back word words (subst (AreFree 32) is (line-free 32 apart-blank l plain fit))) ∙ (ap words_line (sym is) ∙ words-back l plain fit))

-- the line of a step
step-line : (x : Step) → is_step x ≡ true → read_line (line_spelling (line.OfScript x)) ≡ Ok (line.OfScript x)
step-line x fit = let back = step-back x fit in ap words_line back.cut ∙ (back.own ∙ ap step_read back.read)

pub back : (l : WorldLine) → is_fit l ≡ true → read_line (line_spelling l) ≡ Ok l
back (line.Networld timers.Fixed) fit = refl
back (line.Networld timers.Measured) fit = refl
back (line.End m) fit = plain-back (line.End m) tt fit _ refl (omega arith)
back (line.Seed n) fit = plain-back (line.Seed n) tt fit _ refl (omega arith)
back (line.OfMedium (medium.Medium called mtu)) fit = plain-back (line.OfMedium (medium.Medium called mtu)) tt fit _ refl (omega arith)
back (line.OfMedium (medium.Rates called a b c)) fit = plain-back (line.OfMedium (medium.Rates called a b c)) tt fit _ refl (omega arith)
back (line.OfMedium (medium.Fate called f x)) fit = plain-back (line.OfMedium (medium.Fate called f x)) tt fit _ refl (omega arith)
back (line.Host called nets) fit = plain-back (line.Host called nets) tt fit _ refl (omega arith)
back (line.OfHost (host.If called ip mask)) fit = plain-back (line.OfHost (host.If called ip mask)) tt fit _ refl (omega arith)
back (line.OfHost (host.Route l)) fit = plain-back (line.OfHost (host.Route l)) tt fit _ refl (omega arith)
back (line.OfHost (host.Start n)) fit = plain-back (line.OfHost (host.Start n)) tt fit _ refl (omega arith)
back (line.Script called) fit = plain-back (line.Script called) tt fit _ refl (omega arith)
back (line.OfScript x) fit = step-line x fit
back line.Ndb fit = refl

-- a spelled line isn't passed over
pub loud : (l : WorldLine) → speaks (line_spelling l) ≡ true
loud (line.Networld timers.Fixed) = refl
loud (line.Networld timers.Measured) = refl
loud (line.End m) = refl
loud (line.Seed n) = refl
loud (line.OfMedium (medium.Medium called mtu)) = refl
loud (line.OfMedium (medium.Rates called a b c)) = refl
loud (line.OfMedium (medium.Fate called f x)) = refl
loud (line.Host called nets) = refl
loud (line.OfHost (host.If called ip mask)) = refl
loud (line.OfHost (host.Route l)) = refl
loud (line.OfHost (host.Start n)) = refl
loud (line.Script called) = refl
loud (line.OfScript x) = loud-step x
loud line.Ndb = refl

whole-words : (words : List (List ℕ)) → AreFree 10 words → is_line (spaced_line words) ≡ true
whole-words words free = ap not (list_any_none is_newline (spaced_line words) (spaced-free words free))

one-free-line : (l : WorldLine) → is_fit l ≡ true → AreFree 10 (words_of_line l)
one-free-line (line.OfScript x) fit = one-step x fit
one-free-line (line.Networld kind) fit = line-free 10 apart-newline (line.Networld kind) tt fit
one-free-line (line.End m) fit = line-free 10 apart-newline (line.End m) tt fit
one-free-line (line.Seed n) fit = line-free 10 apart-newline (line.Seed n) tt fit
one-free-line (line.OfMedium l) fit = line-free 10 apart-newline (line.OfMedium l) tt fit
one-free-line (line.Host called nets) fit = line-free 10 apart-newline (line.Host called nets) tt fit
one-free-line (line.OfHost l) fit = line-free 10 apart-newline (line.OfHost l) tt fit
one-free-line (line.Script called) fit = line-free 10 apart-newline (line.Script called) tt fit
one-free-line line.Ndb fit = line-free 10 apart-newline line.Ndb tt fit

-- a spelled line stands on one line
pub one_line : (l : WorldLine) → is_fit l ≡ true → is_line (line_spelling l) ≡ true
one_line l fit = whole-words (words_of_line l) (one-free-line l fit)
