-- What is read of a line is what it spells.
use Rattle.std.proofs.Common.{◌≡◌, ℕ, ◌<◌, ◌^◌, Bool, true, false, ◌&&◌, List, [], ◌∷◌, ◌++◌, map, refl, sym, ap, subst, ◌∙◌, arith, Option, Some, None, Result, Ok, Err}
use Rattle.std.specs.Prelude.{⊤, codes, decimal, bytes_eq, nat_le, option_map, if◌then◌else◌}
use Rattle.std.specs.List.{join_with_byte}
use Rattle.std.specs.Option.{option_and_then, option_to_list}
use Rattle.std.proofs.lemmas.Bool.{and_parts, false≢true, and_from, lt-ltb}
use Rattle.std.proofs.lemmas.List.Splits.{join_with_byte-slice_split}
use Rattle.std.proofs.lemmas.Option.{none-some, same_Some}
use Rattle.net_base.specs.declared.address.Proto.{Proto}
use Rattle.net_base.specs.declared.address.Proto.TheVariants as proto
use Rattle.net_base.specs.declared.timer.Timers.{Timers}
use Rattle.net_base.specs.declared.timer.Timers.TheVariants as timers
use Rattle.net_base.specs.declared.world.Fate.{Fate}
use Rattle.net_base.specs.declared.world.Fate.TheVariants as fate
use Rattle.net_base.specs.declared.world.Step.{Step}
use Rattle.net_base.specs.Addresses.{parts_at, read_digits, within}
use Rattle.net_base.specs.ControlWords.{dotted}
use Rattle.net_base.specs.Paths.{proto_name, proto_named}
use Rattle.net_base.specs.World.{is_address, is_name, is_nets, is_within}
use Rattle.world_text.specs.declared.line.Frames.{Frames}
use Rattle.world_text.specs.declared.line.Frames.TheVariants as frames
use Rattle.world_text.specs.declared.line.HostLine.TheVariants as host
use Rattle.world_text.specs.declared.line.LineCause.{LineCause}
use Rattle.world_text.specs.declared.line.MediumLine.TheVariants as medium
use Rattle.world_text.specs.declared.line.WorldLine.{WorldLine}
use Rattle.world_text.specs.declared.line.WorldLine.TheVariants as line
use Rattle.world_text.specs.WorldWords.{Four, Three, Two, address_in, both_nets, four, is_padded, words_left, nets_named, number_in, single_word, three, two, words_in_line}
use Rattle.world_text.specs.LineReading.{argued, read_end_line, fate_from, fate_named, read_fate_line, frame_in, frames_in, frames_of, host_line_of, if_from, if_of, medium_line_of, if_named, ndb_of, networld_of, range_from, rate_in, rates_from, rates_of, read_line, route_from, route_of, script_of, seed_of, start_line, step_in_line, step_read, timers_named, words_line}
use Rattle.world_text.specs.WorldSpelling.{fate_word, frames_spelled, line_spelling, timers_word, words_of_line}
use Rattle.world_text.specs.LineFit.{fit_frames, is_fit, is_frame, is_rate}
use Rattle.net_base.proofs.Shared.{address-dotted, number_in-spelled, equal_texts}
use Rattle.world_text.proofs.StepSpelled.{step-spelled, then-some}

-- What words say.

-- the words spell the line
pub record Spells (words : List (List ℕ)) (l : WorldLine) : Type 0 where
  pub is : words_left words ≡ line_spelling l
  pub fit : is_fit l ≡ true

abbrev pub Said : List (List ℕ) → Option WorldLine → Type 0
Said words None = ⊤
Said words (Some l) = Spells words l

said-map : {A : Type 0} (words : List (List ℕ)) (f : A → WorldLine) (o : Option A) → ((x : A) → o ≡ Some x → Spells words (f x)) → Said words (option_map f o)
said-map words f None h = tt
said-map words f (Some x) h = h x refl

said-then : {A : Type 0} (words : List (List ℕ)) (f : A → Option WorldLine) (o : Option A) → ((x : A) → o ≡ Some x → Said words (f x)) → Said words (option_and_then f o)
said-then words f None h = tt
said-then words f (Some x) h = h x refl

said-named : (words : List (List ℕ)) (called : List ℕ) (o : Option WorldLine) → (is_name called ≡ true → Said words o) → Said words (if_named called o)
said-named words called o h = by (is_name called) refl
  where
    by : (b : Bool) → is_name called ≡ b → Said words (if b then o else None)
    by true is = h is
    by false is = tt

-- what is read of words that are these
spells : (words : List (List ℕ)) (l : WorldLine) → words ≡ words_of_line l → is_fit l ≡ true → Spells words l
spells words l is fit = record { is = ap words_left is; fit = fit }

-- Arguments.

pub one-is : (args : List (List ℕ)) (word : List ℕ) → single_word args ≡ Some word → args ≡ word ∷ []
one-is [] word e = absurd (none-some word e)
one-is (a ∷ []) word e = ap (λ (w : List ℕ). w ∷ []) (same_Some a word e)
one-is (a ∷ b ∷ args) word e = absurd (none-some word e)

pub two-is : (args : List (List ℕ)) (w : Two) → two args ≡ Some w → args ≡ w.first ∷ w.second ∷ []
two-is [] w e = absurd (none-some w e)
two-is (a ∷ []) w e = absurd (none-some w e)
two-is (a ∷ b ∷ []) w e = ap (λ (v : Two). v.first ∷ v.second ∷ []) (same_Some (record { first = a; second = b }) w e)
two-is (a ∷ b ∷ c ∷ args) w e = absurd (none-some w e)

pub three-is : (args : List (List ℕ)) (w : Three) → three args ≡ Some w → args ≡ w.first ∷ w.second ∷ w.third ∷ []
three-is [] w e = absurd (none-some w e)
three-is (a ∷ []) w e = absurd (none-some w e)
three-is (a ∷ b ∷ []) w e = absurd (none-some w e)
three-is (a ∷ b ∷ c ∷ []) w e = ap (λ (v : Three). v.first ∷ v.second ∷ v.third ∷ []) (same_Some (record { first = a; second = b; third = c }) w e)
three-is (a ∷ b ∷ c ∷ d ∷ args) w e = absurd (none-some w e)

four-is : (args : List (List ℕ)) (w : Four) → four args ≡ Some w → args ≡ w.first ∷ w.second ∷ w.third ∷ w.fourth ∷ []
four-is [] w e = absurd (none-some w e)
four-is (a ∷ []) w e = absurd (none-some w e)
four-is (a ∷ b ∷ []) w e = absurd (none-some w e)
four-is (a ∷ b ∷ c ∷ []) w e = absurd (none-some w e)
four-is (a ∷ b ∷ c ∷ d ∷ []) w e = ap (λ (v : Four). v.first ∷ v.second ∷ v.third ∷ v.fourth ∷ []) (same_Some (record { first = a; second = b; third = c; fourth = d }) w e)
four-is (a ∷ b ∷ c ∷ d ∷ f ∷ args) w e = absurd (none-some w e)

-- Numbers.

within-some : (least greatest : ℕ) (b : Bool) (m n : ℕ) → is_within least greatest m ≡ b → (if b then Some m else None) ≡ Some n → is_within least greatest n ≡ true
within-some least greatest true m n is e = subst (λ (k : ℕ). is_within least greatest k ≡ true) (same_Some m n e) is
within-some least greatest false m n is e = absurd (none-some n e)

digits-within : (least greatest : ℕ) (o : Option ℕ) (n : ℕ) → option_and_then (within least greatest) o ≡ Some n → is_within least greatest n ≡ true
digits-within least greatest None n e = absurd (none-some n e)
digits-within least greatest (Some m) n e = within-some least greatest (is_within least greatest m) m n refl e

padded-within : (least greatest : ℕ) (b : Bool) (o : Option ℕ) (n : ℕ) → (if b then None else option_and_then (within least greatest) o) ≡ Some n → is_within least greatest n ≡ true
padded-within least greatest true o n e = absurd (none-some n e)
padded-within least greatest false o n e = digits-within least greatest o n e

number-within : (least greatest : ℕ) (word : List ℕ) (n : ℕ) → number_in least greatest word ≡ Some n → is_within least greatest n ≡ true
number-within least greatest word n e = padded-within least greatest (is_padded word) (read_digits 20 word) n e

number-is : (least greatest : ℕ) (word : List ℕ) (n : ℕ) → greatest < 2 ^ 64 → number_in least greatest word ≡ Some n → word ≡ decimal n
number-is least greatest word n fits e = (number_in-spelled least greatest word n fits e).is

-- the only argument, a number
said-number : (word : List ℕ) (args : List (List ℕ)) (least greatest : ℕ) (make : ℕ → WorldLine) → greatest < 2 ^ 64
    → ((n : ℕ) → words_of_line (make n) ≡ word ∷ decimal n ∷ []) → ((n : ℕ) → is_within least greatest n ≡ true → is_fit (make n) ≡ true)
    → Said (word ∷ args) (option_map make (option_and_then (number_in least greatest) (single_word args)))
said-number word args least greatest make bound words fit =
    said-map (word ∷ args) make (option_and_then (number_in least greatest) (single_word args)) (λ n e.
    let t = then-some (number_in least greatest) (single_word args) n e in
    spells (word ∷ args) (make n)
    (ap (λ (vs : List (List ℕ)). word ∷ vs) (one-is args t.0 t.1 ∙ ap (λ (w : List ℕ). w ∷ []) (number-is least greatest t.0 n bound t.2)) ∙ sym (words n))
    (fit n (number-within least greatest t.0 n t.2)))

-- The first lines.

timers-is : (word : List ℕ) (kind : Timers) → timers_named word ≡ Some kind → word ≡ timers_word kind
timers-is word kind e = by (bytes_eq word (codes "1")) refl (bytes_eq word (codes "2")) refl e
  where
    by : (a : Bool) → bytes_eq word (codes "1") ≡ a → (b : Bool) → bytes_eq word (codes "2") ≡ b
        → (if a then Some timers.Fixed else (if b then Some timers.Measured else None)) ≡ Some kind → word ≡ timers_word kind
    by true ea b eb f = equal_texts word (codes "1") ea ∙ ap timers_word (same_Some timers.Fixed kind f)
    by false ea true eb f = equal_texts word (codes "2") eb ∙ ap timers_word (same_Some timers.Measured kind f)
    by false ea false eb f = absurd (none-some kind f)

said-networld : (args : List (List ℕ)) → Said (codes "networld" ∷ args) (networld_of args)
said-networld args =
    said-map (codes "networld" ∷ args) (λ (kind : Timers). line.Networld kind) (option_and_then timers_named (single_word args)) (λ kind e.
    let t = then-some timers_named (single_word args) kind e in
    spells (codes "networld" ∷ args) (line.Networld kind)
    (ap (λ (vs : List (List ℕ)). codes "networld" ∷ vs) (one-is args t.0 t.1 ∙ ap (λ (w : List ℕ). w ∷ []) (timers-is t.0 kind t.2))) refl)

said-ndb : (args : List (List ℕ)) → Said (codes "ndb" ∷ args) (ndb_of args)
said-ndb [] = spells (codes "ndb" ∷ []) line.Ndb refl refl
said-ndb (a ∷ args) = tt

-- Media.

said-medium : (args : List (List ℕ)) → Said (codes "medium" ∷ args) (medium_line_of args)
said-medium args = said-then (codes "medium" ∷ args) (λ (w : Two). if_named w.first (option_map (λ mtu. line.OfMedium (medium.Medium w.first mtu)) (number_in 576 16384 w.second))) (two args) (λ w e.
    said-named (codes "medium" ∷ args) w.first (option_map (λ mtu. line.OfMedium (medium.Medium w.first mtu)) (number_in 576 16384 w.second)) (λ name.
    said-map (codes "medium" ∷ args) (λ mtu. line.OfMedium (medium.Medium w.first mtu)) (number_in 576 16384 w.second) (λ mtu f.
    spells (codes "medium" ∷ args) (line.OfMedium (medium.Medium w.first mtu))
    (ap (λ (vs : List (List ℕ)). codes "medium" ∷ vs) (two-is args w e ∙ ap (λ (x : List ℕ). w.first ∷ x ∷ []) (number-is 576 16384 w.second mtu (omega arith) f)))
    (and_from (is_name w.first) (is_within 576 16384 mtu) name (number-within 576 16384 w.second mtu f)))))

said-rates : (args : List (List ℕ)) → Said (codes "rates" ∷ args) (rates_of args)
said-rates args = said-then (codes "rates" ∷ args) (λ (w : Four). if_named w.first (rates_from w.first (rate_in w.second) (rate_in w.third) (rate_in w.fourth))) (four args) (λ w e.
    said-named (codes "rates" ∷ args) w.first (rates_from w.first (rate_in w.second) (rate_in w.third) (rate_in w.fourth)) (λ name.
    by w e name (rate_in w.second) refl (rate_in w.third) refl (rate_in w.fourth) refl))
  where
    by : (w : Four) → four args ≡ Some w → is_name w.first ≡ true → (o : Option ℕ) → rate_in w.second ≡ o → (p : Option ℕ) → rate_in w.third ≡ p → (q : Option ℕ) → rate_in w.fourth ≡ q
        → Said (codes "rates" ∷ args) (rates_from w.first o p q)
    by w e name (Some a) ea (Some b) eb (Some c) ec =
        spells (codes "rates" ∷ args) (line.OfMedium (medium.Rates w.first a b c))
        (ap (λ (vs : List (List ℕ)). codes "rates" ∷ vs) (four-is args w e)
        ∙ (ap (λ (x : List ℕ). codes "rates" ∷ w.first ∷ x ∷ w.third ∷ w.fourth ∷ []) (number-is 0 4294967295 w.second a (omega arith) ea)
        ∙ (ap (λ (x : List ℕ). codes "rates" ∷ w.first ∷ decimal a ∷ x ∷ w.fourth ∷ []) (number-is 0 4294967295 w.third b (omega arith) eb)
        ∙ ap (λ (x : List ℕ). codes "rates" ∷ w.first ∷ decimal a ∷ decimal b ∷ x ∷ []) (number-is 0 4294967295 w.fourth c (omega arith) ec))))
        (and_from (is_name w.first) (is_rate a && (is_rate b && is_rate c)) name
        (and_from (is_rate a) (is_rate b && is_rate c) (number-within 0 4294967295 w.second a ea)
        (and_from (is_rate b) (is_rate c) (number-within 0 4294967295 w.third b eb) (number-within 0 4294967295 w.fourth c ec))))
    by w e name (Some a) ea (Some b) eb None ec = tt
    by w e name (Some a) ea None eb q ec = tt
    by w e name None ea p eb q ec = tt

record SpellsFrames (word : List ℕ) (f : Frames) : Type 0 where
  pub is : word ≡ frames_spelled f
  pub fit : fit_frames f ≡ true

frames-are : (word : List ℕ) (f : Frames) (words : List (List ℕ)) → parts_at 45 word ≡ words → frames_of words ≡ Some f → SpellsFrames word f
frames-are word f [] parts e = absurd (none-some f e)
frames-are word f (k ∷ []) parts e = by (frame_in k) refl e
  where
    same : word ≡ k
    same = sym (join_with_byte-slice_split 45 word) ∙ ap (join_with_byte 45) parts

    by : (o : Option ℕ) → frame_in k ≡ o → option_map (λ n. frames.One n) o ≡ Some f → SpellsFrames word f
    by None ek g = absurd (none-some f g)
    by (Some n) ek g =
        subst (SpellsFrames word) (same_Some (frames.One n) f g)
        (record { is = same ∙ number-is 1 18446744073709551615 k n (omega arith) ek; fit = number-within 1 18446744073709551615 k n ek })
frames-are word f (k ∷ l ∷ []) parts e = by (frame_in k) refl (frame_in l) refl e
  where
    same : word ≡ k ++ (45 ∷ l)
    same = sym (join_with_byte-slice_split 45 word) ∙ ap (join_with_byte 45) parts

    last : (m n : ℕ) → frame_in k ≡ Some m → frame_in l ≡ Some n → (b : Bool) → nat_le m n ≡ b → (if b then Some (frames.Range m n) else None) ≡ Some f → SpellsFrames word f
    last m n ek el true low g =
        subst (SpellsFrames word) (same_Some (frames.Range m n) f g)
        (record {
          is = same ∙ (ap (λ (x : List ℕ). x ++ (45 ∷ l)) (number-is 1 18446744073709551615 k m (omega arith) ek)
              ∙ ap (λ (x : List ℕ). decimal m ++ (45 ∷ x)) (number-is 1 18446744073709551615 l n (omega arith) el));
          fit = and_from (is_frame m) (is_frame n && nat_le m n) (number-within 1 18446744073709551615 k m ek)
              (and_from (is_frame n) (nat_le m n) (number-within 1 18446744073709551615 l n el) low);
        })
    last m n ek el false low g = absurd (none-some f g)

    by : (o : Option ℕ) → frame_in k ≡ o → (p : Option ℕ) → frame_in l ≡ p → range_from o p ≡ Some f → SpellsFrames word f
    by (Some m) ek (Some n) el g = last m n ek el (nat_le m n) refl g
    by (Some m) ek None el g = absurd (none-some f g)
    by None ek p el g = absurd (none-some f g)
frames-are word f (k ∷ l ∷ m ∷ words) parts e = absurd (none-some f e)

pub fate-is : (word : List ℕ) (x : Fate) → fate_named word ≡ Some x → word ≡ fate_word x
fate-is word x e = by (bytes_eq word (codes "deliver")) refl (bytes_eq word (codes "lose")) refl (bytes_eq word (codes "twice")) refl (bytes_eq word (codes "later")) refl e
  where
    put : (w : List ℕ) (y : Fate) → bytes_eq word w ≡ true → w ≡ fate_word y → y ≡ x → word ≡ fate_word x
    put w y is named_so same = equal_texts word w is ∙ (named_so ∙ ap fate_word same)

    by : (a : Bool) → bytes_eq word (codes "deliver") ≡ a → (b : Bool) → bytes_eq word (codes "lose") ≡ b → (c : Bool) → bytes_eq word (codes "twice") ≡ c → (d : Bool) → bytes_eq word (codes "later") ≡ d
        → (if a then Some fate.Deliver else (if b then Some fate.Lose else (if c then Some fate.Twice else (if d then Some fate.Later else None)))) ≡ Some x → word ≡ fate_word x
    by true ea b eb c ec d ed f = put (codes "deliver") fate.Deliver ea refl (same_Some fate.Deliver x f)
    by false ea true eb c ec d ed f = put (codes "lose") fate.Lose eb refl (same_Some fate.Lose x f)
    by false ea false eb true ec d ed f = put (codes "twice") fate.Twice ec refl (same_Some fate.Twice x f)
    by false ea false eb false ec true ed f = put (codes "later") fate.Later ed refl (same_Some fate.Later x f)
    by false ea false eb false ec false ed f = absurd (none-some x f)

said-fate : (args : List (List ℕ)) → Said (codes "fate" ∷ args) (read_fate_line args)
said-fate args = said-then (codes "fate" ∷ args) (λ (w : Three). if_named w.first (fate_from w.first (frames_in w.second) (fate_named w.third))) (three args) (λ w e.
    said-named (codes "fate" ∷ args) w.first (fate_from w.first (frames_in w.second) (fate_named w.third)) (λ name.
    by w e name (frames_in w.second) refl (fate_named w.third) refl))
  where
    by : (w : Three) → three args ≡ Some w → is_name w.first ≡ true → (o : Option Frames) → frames_in w.second ≡ o → (p : Option Fate) → fate_named w.third ≡ p → Said (codes "fate" ∷ args) (fate_from w.first o p)
    by w e name (Some f) ef (Some x) ex =
        let s = frames-are w.second f (parts_at 45 w.second) refl ef in
        spells (codes "fate" ∷ args) (line.OfMedium (medium.Fate w.first f x))
        (ap (λ (vs : List (List ℕ)). codes "fate" ∷ vs) (three-is args w e)
        ∙ (ap (λ (y : List ℕ). codes "fate" ∷ w.first ∷ y ∷ w.third ∷ []) s.is ∙ ap (λ (y : List ℕ). codes "fate" ∷ w.first ∷ frames_spelled f ∷ y ∷ []) (fate-is w.third x ex)))
        (and_from (is_name w.first) (fit_frames f) name s.fit)
    by w e name (Some f) ef None ex = tt
    by w e name None ef p ex = tt

-- Hosts.

pub proto-is : (word : List ℕ) (p : Proto) → proto_named word ≡ Some p → word ≡ proto_name p
proto-is word p e = by (bytes_eq word (codes "il")) refl (bytes_eq word (codes "udp")) refl e
  where
    by : (a : Bool) → bytes_eq word (codes "il") ≡ a → (b : Bool) → bytes_eq word (codes "udp") ≡ b → (if a then Some proto.Il else (if b then Some proto.Udp else None)) ≡ Some p → word ≡ proto_name p
    by true ea b eb f = equal_texts word (codes "il") ea ∙ ap proto_name (same_Some proto.Il p f)
    by false ea true eb f = equal_texts word (codes "udp") eb ∙ ap proto_name (same_Some proto.Udp p f)
    by false ea false eb f = absurd (none-some p f)

nets-are : (nets : List (List ℕ)) → is_nets (nets_named nets) ≡ true → nets ≡ map proto_name (nets_named nets)
nets-are [] e = absurd (false≢true e)
nets-are (a ∷ []) e = by (proto_named a) refl e
  where
    by : (o : Option Proto) → proto_named a ≡ o → is_nets (option_to_list o) ≡ true → a ∷ [] ≡ map proto_name (option_to_list o)
    by None ea f = absurd (false≢true f)
    by (Some p) ea f = ap (λ (w : List ℕ). w ∷ []) (proto-is a p ea)
nets-are (a ∷ b ∷ []) e = by (proto_named a) refl (proto_named b) refl e
  where
    by : (o : Option Proto) → proto_named a ≡ o → (q : Option Proto) → proto_named b ≡ q → is_nets (both_nets o q) ≡ true → a ∷ b ∷ [] ≡ map proto_name (both_nets o q)
    by (Some p) ea (Some q) eb f = ap (λ (w : List ℕ). w ∷ b ∷ []) (proto-is a p ea) ∙ ap (λ (w : List ℕ). proto_name p ∷ w ∷ []) (proto-is b q eb)
    by (Some p) ea None eb f = absurd (false≢true f)
    by None ea q eb f = absurd (false≢true f)
nets-are (a ∷ b ∷ c ∷ nets) e = absurd (false≢true e)

said-host : (args : List (List ℕ)) → Said (codes "host" ∷ args) (host_line_of args)
said-host [] = tt
said-host (called ∷ nets) = by (is_name called && is_nets (nets_named nets)) refl
  where
    by : (b : Bool) → (is_name called && is_nets (nets_named nets)) ≡ b → Said (codes "host" ∷ called ∷ nets) (if b then Some (line.Host called (nets_named nets)) else None)
    by true is =
        spells (codes "host" ∷ called ∷ nets) (line.Host called (nets_named nets))
        (ap (λ (ns : List (List ℕ)). codes "host" ∷ called ∷ ns) (nets-are nets ((and_parts (is_name called) (is_nets (nets_named nets)) is).1))) is
    by false is = tt

address-fits : (word : List ℕ) (ip : ℕ) → address_in word ≡ Some ip → is_address ip ≡ true
address-fits word ip e = lt-ltb ip (2 ^ 32) ((address-dotted word ip e).fits)

said-if : (args : List (List ℕ)) → Said (codes "if" ∷ args) (if_of args)
said-if args = said-then (codes "if" ∷ args) (λ (w : Three). if_named w.first (if_from w.first (address_in w.second) (address_in w.third))) (three args) (λ w e.
    said-named (codes "if" ∷ args) w.first (if_from w.first (address_in w.second) (address_in w.third)) (λ name.
    by w e name (address_in w.second) refl (address_in w.third) refl))
  where
    by : (w : Three) → three args ≡ Some w → is_name w.first ≡ true → (o : Option ℕ) → address_in w.second ≡ o → (p : Option ℕ) → address_in w.third ≡ p → Said (codes "if" ∷ args) (if_from w.first o p)
    by w e name (Some ip) ei (Some mask) em =
        spells (codes "if" ∷ args) (line.OfHost (host.If w.first ip mask))
        (ap (λ (vs : List (List ℕ)). codes "if" ∷ vs) (three-is args w e)
        ∙ (ap (λ (y : List ℕ). codes "if" ∷ w.first ∷ y ∷ w.third ∷ []) ((address-dotted w.second ip ei).is)
        ∙ ap (λ (y : List ℕ). codes "if" ∷ w.first ∷ dotted ip ∷ y ∷ []) ((address-dotted w.third mask em).is)))
        (and_from (is_name w.first) (is_address ip && is_address mask) name (and_from (is_address ip) (is_address mask) (address-fits w.second ip ei) (address-fits w.third mask em)))
    by w e name (Some ip) ei None em = tt
    by w e name None ei p em = tt

said-route : (args : List (List ℕ)) → Said (codes "route" ∷ args) (route_of args)
said-route args = said-then (codes "route" ∷ args) (λ (w : Three). route_from (address_in w.first) (address_in w.second) (address_in w.third)) (three args) (λ w e.
    by w e (address_in w.first) refl (address_in w.second) refl (address_in w.third) refl)
  where
    by : (w : Three) → three args ≡ Some w → (o : Option ℕ) → address_in w.first ≡ o → (p : Option ℕ) → address_in w.second ≡ p → (q : Option ℕ) → address_in w.third ≡ q → Said (codes "route" ∷ args) (route_from o p q)
    by w e (Some net) en (Some mask) em (Some gateway) eg =
        spells (codes "route" ∷ args) (line.OfHost (host.Route (record { net = net; mask = mask; gateway = gateway })))
        (ap (λ (vs : List (List ℕ)). codes "route" ∷ vs) (three-is args w e)
        ∙ (ap (λ (y : List ℕ). codes "route" ∷ y ∷ w.second ∷ w.third ∷ []) ((address-dotted w.first net en).is)
        ∙ (ap (λ (y : List ℕ). codes "route" ∷ dotted net ∷ y ∷ w.third ∷ []) ((address-dotted w.second mask em).is)
        ∙ ap (λ (y : List ℕ). codes "route" ∷ dotted net ∷ dotted mask ∷ y ∷ []) ((address-dotted w.third gateway eg).is))))
        (and_from (is_address net) (is_address mask && is_address gateway) (address-fits w.first net en)
        (and_from (is_address mask) (is_address gateway) (address-fits w.second mask em) (address-fits w.third gateway eg)))
    by w e (Some net) en (Some mask) em None eg = tt
    by w e (Some net) en None em q eg = tt
    by w e None en p em q eg = tt

-- Scripts.

said-script : (args : List (List ℕ)) → Said (codes "script" ∷ args) (script_of args)
said-script args = said-then (codes "script" ∷ args) (λ called. if_named called (Some (line.Script called))) (single_word args) (λ called e.
    said-named (codes "script" ∷ args) called (Some (line.Script called)) (λ name.
    spells (codes "script" ∷ args) (line.Script called) (ap (λ (vs : List (List ℕ)). codes "script" ∷ vs) (one-is args called e)) name))

-- Steps.

abbrev SaidOwn : List (List ℕ) → Option (Option Step) → Type 0
SaidOwn words (Some (Some s)) = Spells words (line.OfScript s)
SaidOwn words _ = ⊤

said-step : (word : List ℕ) (args : List (List ℕ)) → SaidOwn (word ∷ args) (step_in_line word args)
said-step word args = by (step_in_line word args) refl
  where
    by : (o : Option (Option Step)) → step_in_line word args ≡ o → SaidOwn (word ∷ args) o
    by None is = tt
    by (Some None) is = tt
    by (Some (Some s)) is = let spells_step = step-spelled word args s is in record { is = spells_step.is; fit = spells_step.fit }

-- Lines.

abbrev SaidLine : List (List ℕ) → Result WorldLine LineCause → Type 0
SaidLine words (Ok l) = Spells words l
SaidLine words (Err c) = ⊤

said-argued : (words : List (List ℕ)) (o : Option WorldLine) → Said words o → SaidLine words (argued o)
said-argued words None h = tt
said-argued words (Some l) h = h

line-if : (word : List ℕ) (args : List (List ℕ)) (called : List ℕ) (o : Option WorldLine) (r : Result WorldLine LineCause) → Said (called ∷ args) o → SaidLine (word ∷ args) r
    → SaidLine (word ∷ args) (if bytes_eq word called then argued o else r)
line-if word args called o r here later = by (bytes_eq word called) refl
  where
    by : (b : Bool) → bytes_eq word called ≡ b → SaidLine (word ∷ args) (if b then argued o else r)
    by true is = subst (λ (w : List ℕ). SaidLine (w ∷ args) (argued o)) (sym (equal_texts word called is)) (said-argued (called ∷ args) o here)
    by false is = later

said-read_step : (words : List (List ℕ)) (o : Option (Option Step)) → SaidOwn words o → SaidLine words (step_read o)
said-read_step words None h = tt
said-read_step words (Some None) h = tt
said-read_step words (Some (Some s)) h = h

said-words : (words : List (List ℕ)) → SaidLine words (words_line words)
said-words [] = tt
said-words (word ∷ args) =
    line-if word args (codes "ndb") (ndb_of args) _ (said-ndb args)
    (line-if word args (codes "networld") (networld_of args) _ (said-networld args)
    (line-if word args (codes "end") (read_end_line args) _ (said-number (codes "end") args 1 1000000000 (λ m. line.End m) (omega arith) (λ n. refl) (λ n e. e))
    (line-if word args (codes "seed") (seed_of args) _ (said-number (codes "seed") args 0 18446744073709551615 (λ s. line.Seed s) (omega arith) (λ n. refl) (λ n e. e))
    (line-if word args (codes "medium") (medium_line_of args) _ (said-medium args)
    (line-if word args (codes "rates") (rates_of args) _ (said-rates args)
    (line-if word args (codes "fate") (read_fate_line args) _ (said-fate args)
    (line-if word args (codes "host") (host_line_of args) _ (said-host args)
    (line-if word args (codes "if") (if_of args) _ (said-if args)
    (line-if word args (codes "route") (route_of args) _ (said-route args)
    (line-if word args (codes "start") (start_line args) _ (said-number (codes "start") args 1 4294967295 (λ n. line.OfHost (host.Start n)) (omega arith) (λ n. refl) (λ n e. e))
    (line-if word args (codes "script") (script_of args) _ (said-script args)
    (said-read_step (word ∷ args) (step_in_line word args) (said-step word args)))))))))))))

-- what is read of a line is what it spells
pub spelled : (text : List ℕ) (l : WorldLine) → read_line text ≡ Ok l → (text ≡ line_spelling l) × (is_fit l ≡ true)
spelled text l e =
    let s : Spells (words_in_line text) l = subst (SaidLine (words_in_line text)) e (said-words (words_in_line text)) in
    (sym (join_with_byte-slice_split 32 text) ∙ s.is, s.fit)
