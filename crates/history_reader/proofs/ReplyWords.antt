-- Replies are read exactly.
use Rattle.std.proofs.Common.{◌≡◌, ℕ, Bool, true, false, if◌then◌else◌, List, [], ◌∷◌, ◌++◌, get_or, refl, ap, subst, ◌∙◌, arith, Some, None, codes}
use Rattle.std.specs.Prelude.{bytes_eq}
use Rattle.std.proofs.lemmas.Option.{none-some, same_Some}
use Rattle.std.proofs.lemmas.Slice.Eq.{bytes_eq-Decides}
use Rattle.net_base.specs.declared.actor.Call.{Call}
use Rattle.net_base.specs.declared.address.Addr.{Addr}
use Rattle.net_base.specs.declared.reply.Reply.{Reply}
use Rattle.net_base.specs.declared.reply.Reply.TheVariants as reply
use Rattle.net_base.specs.Numeral.{numeral}
use Rattle.net_base.specs.Plain.{AreBytes, IsPlainReply}
use Rattle.net_base.specs.Transcript.{call_words, calls_of, reply_words}
use Rattle.history_reader.specs.Fields.{Words, Read, FieldReader, behind, both_fields, read_cause, long, read_as, narrow, read_place, state_read, text, texts}
use Rattle.history_reader.specs.ReplyRows as spec
use Rattle.history_reader.specs.Wide.{AreWideCalls, IsLongField, IsNarrow, IsPlace, IsWideReply}
use Rattle.history_reader.proofs.Exact.{AreBare, AreRows, Back, Exact, IsBare, IsRow, back, bare_row, exact_both, made_of, made_sound, made_told, row, rows_sound}
use Rattle.history_reader.proofs.FieldWords.{bare, bare_numeral, cause_exact, causes, long_exact, narrow_exact, no_mark_alone, numbers, place_exact, places, state_exact, states}
use Rattle.history_reader.proofs.TextWords.{AreTexts, hexes, line_hexes, text_exact, texts_exact}

-- Fields of rows.

abbrev slot_words : ℕ × ℕ → Words
slot_words f = numbers f.0 ++ numbers f.1

abbrev slot_fits : ℕ × ℕ → Type 0
slot_fits f = IsNarrow f.0 × IsLongField f.1

slot_exact : Exact (ℕ × ℕ) (both_fields narrow long) slot_words slot_fits
slot_exact = exact_both narrow long numbers numbers IsNarrow IsLongField narrow_exact long_exact

abbrev limits_words : ℕ × ℕ → Words
limits_words f = numbers f.0 ++ numbers f.1

abbrev limits_fits : ℕ × ℕ → Type 0
limits_fits f = IsNarrow f.0 × IsNarrow f.1

limits_exact : Exact (ℕ × ℕ) (both_fields narrow narrow) limits_words limits_fits
limits_exact = exact_both narrow narrow numbers numbers IsNarrow IsNarrow narrow_exact narrow_exact

abbrev long_limit_words : ℕ × ℕ → Words
long_limit_words f = numbers f.0 ++ numbers f.1

abbrev long_limit_fits : ℕ × ℕ → Type 0
long_limit_fits f = IsLongField f.0 × IsNarrow f.1

long_limit_exact : Exact (ℕ × ℕ) (both_fields long narrow) long_limit_words long_limit_fits
long_limit_exact = exact_both long narrow numbers numbers IsLongField IsNarrow long_exact narrow_exact

abbrev remote_words : Addr × (ℕ × ℕ) → Words
remote_words f = places f.0 ++ limits_words f.1

abbrev remote_fits : Addr × (ℕ × ℕ) → Type 0
remote_fits f = IsPlace f.0 × limits_fits f.1

remote_exact : Exact (Addr × (ℕ × ℕ)) (both_fields read_place (both_fields narrow narrow)) remote_words remote_fits
remote_exact = exact_both read_place (both_fields narrow narrow) places limits_words IsPlace limits_fits place_exact limits_exact

abbrev granted_words : Addr × (Addr × (ℕ × ℕ)) → Words
granted_words f = places f.0 ++ remote_words f.1

abbrev granted_fits : Addr × (Addr × (ℕ × ℕ)) → Type 0
granted_fits f = IsPlace f.0 × remote_fits f.1

granted_exact : Exact (Addr × (Addr × (ℕ × ℕ))) (both_fields read_place (both_fields read_place (both_fields narrow narrow))) granted_words granted_fits
granted_exact = exact_both read_place (both_fields read_place (both_fields narrow narrow)) places remote_words IsPlace remote_fits place_exact remote_exact

abbrev of_long_words : ℕ × (ℕ × ℕ) → Words
of_long_words f = numbers f.0 ++ limits_words f.1

abbrev of_long_fits : ℕ × (ℕ × ℕ) → Type 0
of_long_fits f = IsLongField f.0 × limits_fits f.1

of_long_exact : Exact (ℕ × (ℕ × ℕ)) (both_fields long (both_fields narrow narrow)) of_long_words of_long_fits
of_long_exact = exact_both long (both_fields narrow narrow) numbers limits_words IsLongField limits_fits long_exact limits_exact

abbrev born_words : ℕ × (ℕ × (ℕ × ℕ)) → Words
born_words f = numbers f.0 ++ of_long_words f.1

abbrev born_fits : ℕ × (ℕ × (ℕ × ℕ)) → Type 0
born_fits f = IsNarrow f.0 × of_long_fits f.1

born_exact : Exact (ℕ × (ℕ × (ℕ × ℕ))) (both_fields narrow (both_fields long (both_fields narrow narrow))) born_words born_fits
born_exact = exact_both narrow (both_fields long (both_fields narrow narrow)) numbers of_long_words IsNarrow of_long_fits narrow_exact of_long_exact

-- Calls.

abbrev pub of_call : Call → ℕ × ℕ
of_call c = (c.slot, c.generation)

abbrev pub call_spelled : Call → Words
call_spelled c = numeral c.slot ∷ numeral c.generation ∷ []

abbrev pub IsWideCall : Call → Type 0
IsWideCall c = IsNarrow c.slot × IsLongField c.generation

pub call_sound : (words : Words) (c : Call) (rest : Words) → spec.call words ≡ Some (c, rest) → (words ≡ call_spelled c ++ rest) × IsWideCall c
call_sound = made_sound (both_fields narrow long) slot_words slot_fits slot_exact spec.to_call call_spelled IsWideCall (λ f. refl) (λ f h. h)

pub call_told : (c : Call) → IsWideCall c → (rest : Words) → spec.call (call_spelled c ++ rest) ≡ Some (c, rest)
call_told c h rest = made_told (both_fields narrow long) slot_words slot_fits slot_exact spec.to_call (of_call c) h rest

abbrev pub at : Words → ℕ → List ℕ
at words k = get_or words k []

abbrev AreCalls : spec.Calls → Words → Type 0
AreCalls read words = (words ≡ calls_of read.0 ++ read.1) × AreWideCalls read.0

each_sound : (words : Words) → AreCalls (spec.each_call words) words
each_sound [] = (refl, tt)
each_sound (slot ∷ []) = (refl, tt)
each_sound (slot ∷ generation ∷ words) = by (spec.call (slot ∷ generation ∷ [])) refl (spec.each_call words) (each_sound words)
  where
    by : (o : Read Call) → spec.call (slot ∷ generation ∷ []) ≡ o → (read : spec.Calls) → AreCalls read words
        → AreCalls (spec.call_before o read (slot ∷ generation ∷ words)) (slot ∷ generation ∷ words)
    by None e read later = (refl, tt)
    by (Some (first, rest)) e read later =
        let is = call_sound (slot ∷ generation ∷ []) first rest e in
        let one : slot ≡ numeral first.slot = ap (λ (ws : Words). at ws 0) is.0 in
        let two : generation ≡ numeral first.generation = ap (λ (ws : Words). at ws 1) is.0 in (
          ap (λ (w : List ℕ). w ∷ generation ∷ words) one ∙ ap (λ (w : List ℕ). numeral first.slot ∷ w ∷ words) two ∙ ap (λ (ws : Words). numeral first.slot ∷ numeral first.generation ∷ ws) later.0,
          (is.1.0, is.1.1, later.1),
        )

-- no call follows
abbrev pub Ends : Words → Type 0
Ends rest = spec.each_call rest ≡ ([], rest)

each_told : (calls : List Call) → AreWideCalls calls → (rest : Words) → Ends rest → spec.each_call (calls_of calls ++ rest) ≡ (calls, rest)
each_told [] h rest ends = ends
each_told (c ∷ calls) h rest ends =
    ap (λ (o : Read Call). spec.call_before o (spec.each_call (calls_of calls ++ rest)) (call_spelled c ++ (calls_of calls ++ rest))) (call_told c (h.0, h.1) [])
    ∙ ap (λ (read : spec.Calls). (c ∷ read.0, read.1)) (each_told calls h.2 rest ends)

some_sound : (read : spec.Calls) (words : Words) (cs : List Call) (rest : Words) → AreCalls read words → spec.some_calls read ≡ Some (cs, rest) → (words ≡ call_words cs ++ rest) × AreWideCalls cs
some_sound ([], last) words cs rest are e = absurd (none-some (cs, rest) e)
some_sound (c ∷ calls, last) words cs rest are e =
    let same = same_Some (c ∷ calls, last) (cs, rest) e in
    (are.0 ∙ ap (λ (r : List Call × Words). call_words r.0 ++ r.1) same, subst (λ (r : List Call × Words). AreWideCalls r.0) same are.1)

calls_sound : (words : Words) (cs : List Call) (rest : Words) → spec.calls_read words ≡ Some (cs, rest) → (words ≡ call_words cs ++ rest) × AreWideCalls cs
calls_sound [] cs rest e = absurd (none-some (cs, rest) e)
calls_sound (word ∷ words) cs rest e = by (bytes_eq word (codes "-")) refl e
  where
    by : (v : Bool) → bytes_eq word (codes "-") ≡ v → (if v then Some ([], words) else spec.some_calls (spec.each_call (word ∷ words))) ≡ Some (cs, rest)
        → (word ∷ words ≡ call_words cs ++ rest) × AreWideCalls cs
    by true is f =
        let same = same_Some ([], words) (cs, rest) f in
        (ap (λ (w : List ℕ). w ∷ words) ((bytes_eq-Decides word (codes "-")).0 is) ∙ ap (λ (r : List Call × Words). call_words r.0 ++ r.1) same, subst (λ (r : List Call × Words). AreWideCalls r.0) same tt)
    by false is f = some_sound (spec.each_call (word ∷ words)) (word ∷ words) cs rest (each_sound (word ∷ words)) f

calls_told : (cs : List Call) → AreWideCalls cs → (rest : Words) → Ends rest → spec.calls_read (call_words cs ++ rest) ≡ Some (cs, rest)
calls_told [] h rest ends = refl
calls_told (c ∷ calls) h rest ends =
    ap (λ v. if v then Some ([], numeral c.generation ∷ (calls_of calls ++ rest)) else spec.some_calls (spec.each_call (calls_of (c ∷ calls) ++ rest))) (no_mark_alone c.slot 45 (omega arith))
    ∙ ap spec.some_calls (each_told (c ∷ calls) h rest ends)

calls_of_bare : (calls : List Call) → AreBare (calls_of calls)
calls_of_bare [] = tt
calls_of_bare (c ∷ calls) = (bare_numeral c.slot, (bare_numeral c.generation, calls_of_bare calls))

calls_bare : (cs : List Call) → AreBare (call_words cs)
calls_bare [] = (bare (codes "-") refl refl, tt)
calls_bare (c ∷ calls) = calls_of_bare (c ∷ calls)

-- What is read of a reply.

abbrev pub FitsReply : Reply → Type 0
FitsReply r = IsWideReply r × IsPlainReply r

abbrev Row : List ℕ → FieldReader Reply → Type 0
Row word read = IsRow reply_words FitsReply word read

of_narrow : (make : ℕ → Reply) (word : List ℕ) → ((n : ℕ) → reply_words (make n) ≡ word ∷ numbers n) → ((n : ℕ) → IsNarrow n → FitsReply (make n)) → Row word (read_as narrow make)
of_narrow make word spelled fits = row narrow numbers IsNarrow narrow_exact make reply_words FitsReply word (λ n h. spelled n) fits

of_wide : (make : ℕ → Reply) (word : List ℕ) → ((n : ℕ) → reply_words (make n) ≡ word ∷ numbers n) → ((n : ℕ) → IsLongField n → FitsReply (make n)) → Row word (read_as long make)
of_wide make word spelled fits = row long numbers IsLongField long_exact make reply_words FitsReply word (λ n h. spelled n) fits

of_slot : (make : ℕ × ℕ → Reply) (word : List ℕ) → ((f : ℕ × ℕ) → reply_words (make f) ≡ word ∷ slot_words f) → ((f : ℕ × ℕ) → slot_fits f → FitsReply (make f)) → Row word (read_as (both_fields narrow long) make)
of_slot make word spelled fits = row (both_fields narrow long) slot_words slot_fits slot_exact make reply_words FitsReply word (λ f h. spelled f) fits

of_texts : (make : List (List ℕ) → Reply) (word : List ℕ) → ((l : List (List ℕ)) → reply_words (make l) ≡ word ∷ line_hexes l) → ((l : List (List ℕ)) → AreTexts l → FitsReply (make l)) → Row word (read_as texts make)
of_texts make word spelled fits = row texts line_hexes AreTexts texts_exact make reply_words FitsReply word (λ f h. spelled f) fits

bare_is : (value : Reply) (word : List ℕ) → reply_words value ≡ word ∷ [] → FitsReply value → Row word (λ words. Some (value, words))
bare_is value word spelled fits = bare_row value reply_words FitsReply word spelled fits

last_rows_are : AreRows reply_words FitsReply spec.last_rows
last_rows_are = (
  bare_is reply.Took (codes "took") refl (tt, tt),
  (
    bare_is reply.Full (codes "full") refl (tt, tt),
    (
      bare_is reply.Ticked (codes "ticked") refl (tt, tt),
      (
        bare_is reply.NotDue (codes "notdue") refl (tt, tt),
        (
          bare_is reply.TooBig (codes "toobig") refl (tt, tt),
          (
            bare_is reply.NoStation (codes "nostation") refl (tt, tt),
            tt,
          ),
        ),
      ),
    ),
  ),
)

refused_rows_are : AreRows reply_words FitsReply spec.refused_rows
refused_rows_are = (
  bare_is reply.Refused (codes "refused") refl (tt, tt),
  (
    bare_is reply.Dropped (codes "dropped") refl (tt, tt),
    (
      bare_is reply.Stale (codes "stale") refl (tt, tt),
      (
        bare_is reply.NotOpen (codes "notopen") refl (tt, tt),
        (
          bare_is reply.ZeroWrite (codes "zerowrite") refl (tt, tt),
          (
            bare_is reply.Left (codes "left") refl (tt, tt),
            last_rows_are,
          ),
        ),
      ),
    ),
  ),
)

bare_rows_are : AreRows reply_words FitsReply spec.bare_rows
bare_rows_are = (
  bare_is reply.NoFile (codes "nofile") refl (tt, tt),
  (
    bare_is reply.BadMode (codes "badmode") refl (tt, tt),
    (
      bare_is reply.BadFid (codes "badfid") refl (tt, tt),
      (
        bare_is reply.NoSlot (codes "noslot") refl (tt, tt),
        (
          bare_is reply.NoRoute (codes "noroute") refl (tt, tt),
          (
            bare_is reply.NoPort (codes "noport") refl (tt, tt),
            (
              bare_is reply.SelfPair (codes "selfpair") refl (tt, tt),
              refused_rows_are,
            ),
          ),
        ),
      ),
    ),
  ),
)

several_rows_are : AreRows reply_words FitsReply spec.several_rows
several_rows_are = (
  of_slot (λ f. reply.Call f.0 f.1) (codes "call") (λ f. refl) (λ f h. (h, tt)),
  (
    of_slot (λ f. reply.To f.0 f.1) (codes "to") (λ f. refl) (λ f h. (h, tt)),
    (
      row (both_fields long narrow) long_limit_words long_limit_fits long_limit_exact (λ f. reply.TooLong f.0 f.1) reply_words FitsReply (codes "toolong") (λ f h. refl) (λ f h. (h, tt)),
      (
        row (both_fields read_place (both_fields read_place (both_fields narrow narrow))) granted_words granted_fits granted_exact spec.to_granted reply_words FitsReply (codes "granted") (λ f h. refl) (λ f h. ((h.0, h.1.0, h.1.1.0, h.1.1.1), tt)),
        (
          row (both_fields narrow (both_fields long (both_fields narrow narrow))) born_words born_fits born_exact spec.to_born reply_words FitsReply (codes "born") (λ f h. refl) (λ f h. ((h.0, h.1.0, h.1.1.0, h.1.1.1), tt)),
          (
            row state_read states (λ s. Unit {0}) state_exact (λ s. reply.WrongState s) reply_words FitsReply (codes "wrong") (λ s h. refl) (λ s h. (tt, tt)),
            (
              row read_cause causes (λ c. Unit {0}) cause_exact (λ c. reply.Hungup c) reply_words FitsReply (codes "hungup") (λ c h. refl) (λ c h. (tt, tt)),
              bare_rows_are,
            ),
          ),
        ),
      ),
    ),
  ),
)

number_rows_are : AreRows reply_words FitsReply spec.number_rows
number_rows_are = (
  of_narrow (λ n. reply.CsRefused n) (codes "csrefused") (λ n. refl) (λ n h. (h, tt)),
  (
    of_wide (λ n. reply.PairUsed n) (codes "pairused") (λ n. refl) (λ n h. (h, tt)),
    (
      of_narrow (λ n. reply.PortTaken n) (codes "taken") (λ n. refl) (λ n h. (h, tt)),
      (
        of_wide (λ n. reply.Opened n) (codes "opened") (λ n. refl) (λ n h. (h, tt)),
        (
          of_narrow (λ n. reply.BadCtl n) (codes "badctl") (λ n. refl) (λ n h. (h, tt)),
          (
            of_wide (λ n. reply.Version n) (codes "version") (λ n. refl) (λ n h. (h, tt)),
            (
              of_wide (λ n. reply.Laid n) (codes "laid") (λ n. refl) (λ n h. (h, tt)),
              (
                of_wide (λ n. reply.Copy n) (codes "copy") (λ n. refl) (λ n h. (h, tt)),
                several_rows_are,
              ),
            ),
          ),
        ),
      ),
    ),
  ),
)

calls_are : Row (codes "calls") spec.waited
calls_are words y rest e = by (spec.calls_read words) refl e
  where
    by : (o : Read (List Call)) → spec.calls_read words ≡ o → behind o (made_of (λ (c : List Call). reply.Calls c)) ≡ Some (y, rest) → (codes "calls" ∷ words ≡ reply_words y ++ rest) × FitsReply y
    by None q f = absurd (none-some (y, rest) f)
    by (Some (cs, last)) q f =
        let is = calls_sound words cs last q in
        let same = same_Some (reply.Calls cs, last) (y, rest) f in
        (ap (λ (ws : Words). codes "calls" ∷ ws) is.0 ∙ ap (λ (r : Reply × Words). reply_words r.0 ++ r.1) same, subst (λ (r : Reply × Words). FitsReply r.0) same (is.1, tt))

reply_rows_are : AreRows reply_words FitsReply spec.reply_rows
reply_rows_are = (
  bare_is reply.Ok (codes "ok") refl (tt, tt),
  (
    of_narrow (λ n. reply.Count n) (codes "count") (λ n. refl) (λ n h. (h, tt)),
    (
      of_slot (λ f. reply.Slot f.0 f.1) (codes "slot") (λ f. refl) (λ f h. (h, tt)),
      (
        row text hexes AreBytes text_exact (λ b. reply.Bytes b) reply_words FitsReply (codes "bytes") (λ b h. refl) (λ b h. (h, tt)),
        (
          of_texts (λ l. reply.Lines l) (codes "lines") (λ l. refl) (λ l h. h),
          (
            of_texts (λ l. reply.Names l) (codes "names") (λ l. refl) (λ l h. h),
            (
              calls_are,
              number_rows_are,
            ),
          ),
        ),
      ),
    ),
  ),
)

pub reply_sound : (words : Words) (r : Reply) (rest : Words) → spec.reply_read words ≡ Some (r, rest) → (words ≡ reply_words r ++ rest) × FitsReply r
reply_sound [] r rest e = absurd (none-some (r, rest) e)
reply_sound (word ∷ words) r rest e = rows_sound reply_words FitsReply spec.reply_rows reply_rows_are word words r rest e

-- From the reply to its words, where no call follows.

abbrev pub ReplyBack : Reply → Type 0
ReplyBack r = ((rest : Words) → Ends rest → spec.reply_read (reply_words r ++ rest) ≡ Some (r, rest)) × AreBare (reply_words r)

at_narrow : (make : ℕ → Reply) (word : List ℕ) → IsBare word → (n : ℕ) → IsNarrow n → Back (read_as narrow make) (make n) (numbers n) (word ∷ numbers n)
at_narrow make word clean n h = back narrow numbers IsNarrow narrow_exact make word clean n h

at_wide : (make : ℕ → Reply) (word : List ℕ) → IsBare word → (n : ℕ) → IsLongField n → Back (read_as long make) (make n) (numbers n) (word ∷ numbers n)
at_wide make word clean n h = back long numbers IsLongField long_exact make word clean n h

at_slot : (make : ℕ × ℕ → Reply) (word : List ℕ) → IsBare word → (f : ℕ × ℕ) → slot_fits f → Back (read_as (both_fields narrow long) make) (make f) (slot_words f) (word ∷ slot_words f)
at_slot make word clean f h = back (both_fields narrow long) slot_words slot_fits slot_exact make word clean f h

pub reply_back : (r : Reply) → IsWideReply r → IsPlainReply r → ReplyBack r
reply_back (reply.Lines l) w p = let b = back texts line_hexes AreTexts texts_exact (λ l. reply.Lines l) (codes "lines") (bare (codes "lines") refl refl) l (w, p) in (λ rest ends. b.0 rest, b.1)
reply_back (reply.CsRefused n) w p = let b = at_narrow (λ n. reply.CsRefused n) (codes "csrefused") (bare (codes "csrefused") refl refl) n w in (λ rest ends. b.0 rest, b.1)
reply_back (reply.Names l) w p = let b = back texts line_hexes AreTexts texts_exact (λ l. reply.Names l) (codes "names") (bare (codes "names") refl refl) l (w, p) in (λ rest ends. b.0 rest, b.1)
reply_back reply.NoFile w p = (λ rest ends. refl, (bare (codes "nofile") refl refl, tt))
reply_back reply.BadMode w p = (λ rest ends. refl, (bare (codes "badmode") refl refl, tt))
reply_back reply.BadFid w p = (λ rest ends. refl, (bare (codes "badfid") refl refl, tt))
reply_back reply.Ok w p = (λ rest ends. refl, (bare (codes "ok") refl refl, tt))
reply_back (reply.Slot n g) w p = let b = at_slot (λ f. reply.Slot f.0 f.1) (codes "slot") (bare (codes "slot") refl refl) (n, g) w in (λ rest ends. b.0 rest, b.1)
reply_back reply.NoSlot w p = (λ rest ends. refl, (bare (codes "noslot") refl refl, tt))
reply_back (reply.Granted pair start limit) w p = let b = back (both_fields read_place (both_fields read_place (both_fields narrow narrow))) granted_words granted_fits granted_exact spec.to_granted (codes "granted") (bare (codes "granted") refl refl) (pair.local, (pair.remote, (start, limit))) (w.0, (w.1, (w.2, w.3))) in (λ rest ends. b.0 rest, b.1)
reply_back (reply.WrongState s) w p = let b = back state_read states (λ s. Unit {0}) state_exact (λ s. reply.WrongState s) (codes "wrong") (bare (codes "wrong") refl refl) s tt in (λ rest ends. b.0 rest, b.1)
reply_back reply.NoRoute w p = (λ rest ends. refl, (bare (codes "noroute") refl refl, tt))
reply_back reply.NoPort w p = (λ rest ends. refl, (bare (codes "noport") refl refl, tt))
reply_back reply.SelfPair w p = (λ rest ends. refl, (bare (codes "selfpair") refl refl, tt))
reply_back (reply.PairUsed n) w p = let b = at_wide (λ n. reply.PairUsed n) (codes "pairused") (bare (codes "pairused") refl refl) n w in (λ rest ends. b.0 rest, b.1)
reply_back (reply.PortTaken n) w p = let b = at_narrow (λ n. reply.PortTaken n) (codes "taken") (bare (codes "taken") refl refl) n w in (λ rest ends. b.0 rest, b.1)
reply_back (reply.Call n g) w p = let b = at_slot (λ f. reply.Call f.0 f.1) (codes "call") (bare (codes "call") refl refl) (n, g) w in (λ rest ends. b.0 rest, b.1)
reply_back (reply.Calls cs) w p =
    (λ rest ends. ap (λ (o : Read (List Call)). behind o (made_of (λ (c : List Call). reply.Calls c))) (calls_told cs w rest ends), (bare (codes "calls") refl refl, calls_bare cs))
reply_back (reply.To n g) w p = let b = at_slot (λ f. reply.To f.0 f.1) (codes "to") (bare (codes "to") refl refl) (n, g) w in (λ rest ends. b.0 rest, b.1)
reply_back (reply.Born n g start limit) w p = let b = back (both_fields narrow (both_fields long (both_fields narrow narrow))) born_words born_fits born_exact spec.to_born (codes "born") (bare (codes "born") refl refl) (n, (g, (start, limit))) (w.0, (w.1, (w.2, w.3))) in (λ rest ends. b.0 rest, b.1)
reply_back reply.Refused w p = (λ rest ends. refl, (bare (codes "refused") refl refl, tt))
reply_back reply.Dropped w p = (λ rest ends. refl, (bare (codes "dropped") refl refl, tt))
reply_back reply.Stale w p = (λ rest ends. refl, (bare (codes "stale") refl refl, tt))
reply_back (reply.Hungup c) w p = let b = back read_cause causes (λ c. Unit {0}) cause_exact (λ c. reply.Hungup c) (codes "hungup") (bare (codes "hungup") refl refl) c tt in (λ rest ends. b.0 rest, b.1)
reply_back (reply.Opened n) w p = let b = at_wide (λ n. reply.Opened n) (codes "opened") (bare (codes "opened") refl refl) n w in (λ rest ends. b.0 rest, b.1)
reply_back reply.NotOpen w p = (λ rest ends. refl, (bare (codes "notopen") refl refl, tt))
reply_back (reply.Bytes bytes) w p = let b = back text hexes AreBytes text_exact (λ b. reply.Bytes b) (codes "bytes") (bare (codes "bytes") refl refl) bytes w in (λ rest ends. b.0 rest, b.1)
reply_back (reply.Count n) w p = let b = at_narrow (λ n. reply.Count n) (codes "count") (bare (codes "count") refl refl) n w in (λ rest ends. b.0 rest, b.1)
reply_back reply.ZeroWrite w p = (λ rest ends. refl, (bare (codes "zerowrite") refl refl, tt))
reply_back (reply.TooLong n limit) w p = let b = back (both_fields long narrow) long_limit_words long_limit_fits long_limit_exact (λ f. reply.TooLong f.0 f.1) (codes "toolong") (bare (codes "toolong") refl refl) (n, limit) w in (λ rest ends. b.0 rest, b.1)
reply_back reply.Left w p = (λ rest ends. refl, (bare (codes "left") refl refl, tt))
reply_back (reply.BadCtl n) w p = let b = at_narrow (λ n. reply.BadCtl n) (codes "badctl") (bare (codes "badctl") refl refl) n w in (λ rest ends. b.0 rest, b.1)
reply_back reply.Took w p = (λ rest ends. refl, (bare (codes "took") refl refl, tt))
reply_back reply.Full w p = (λ rest ends. refl, (bare (codes "full") refl refl, tt))
reply_back reply.Ticked w p = (λ rest ends. refl, (bare (codes "ticked") refl refl, tt))
reply_back reply.NotDue w p = (λ rest ends. refl, (bare (codes "notdue") refl refl, tt))
reply_back (reply.Version n) w p = let b = at_wide (λ n. reply.Version n) (codes "version") (bare (codes "version") refl refl) n w in (λ rest ends. b.0 rest, b.1)
reply_back (reply.Laid n) w p = let b = at_wide (λ n. reply.Laid n) (codes "laid") (bare (codes "laid") refl refl) n w in (λ rest ends. b.0 rest, b.1)
reply_back reply.TooBig w p = (λ rest ends. refl, (bare (codes "toobig") refl refl, tt))
reply_back reply.NoStation w p = (λ rest ends. refl, (bare (codes "nostation") refl refl, tt))
reply_back (reply.Copy n) w p = let b = at_wide (λ n. reply.Copy n) (codes "copy") (bare (codes "copy") refl refl) n w in (λ rest ends. b.0 rest, b.1)
