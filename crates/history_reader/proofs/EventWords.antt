-- Events are read exactly.
use Rattle.std.proofs.Common.{◌≡◌, ℕ, List, [], ◌∷◌, ◌++◌, refl, sym, ap, subst, ◌∙◌, Option, Some, codes}
use Rattle.std.proofs.lemmas.Option.{none-some, same_Some}
use Rattle.net_base.specs.declared.address.Addr.{Addr}
use Rattle.net_base.specs.declared.event.Event.{Event}
use Rattle.net_base.specs.declared.event.Event.TheVariants as event
use Rattle.net_base.specs.declared.names.FileName.{FileName}
use Rattle.net_base.specs.declared.names.Mode.{Mode}
use Rattle.net_base.specs.Plain.{AreBytes, IsPlainEvent}
use Rattle.net_base.specs.Paths.{file_name}
use Rattle.net_base.specs.Transcript.{event_words, hex_word, mode_word}
use Rattle.history_reader.specs.EventRows as spec
use Rattle.history_reader.specs.Fields.{Words, Read, FieldReader, both_fields, read_called, file, read_ip_or_star, long, read_as, mode_of, narrow, narrow_or_dash, octet, read_place, port, port_or_dash, port_or_star, text, with_rest, behind}
use Rattle.history_reader.specs.Wide.{IfAny, IsLongField, IsNarrow, IsOctet, IsPlace, IsPort, IsWideEvent}
use Rattle.history_reader.proofs.Clean.{clean_free, free_clean}
use Rattle.history_reader.proofs.Exact.{AreBare, AreRows, Back, Exact, IsBare, IsRow, back, bare_row, either_row, exact_both, made_of, paired, row, rows_sound}
use Rattle.history_reader.proofs.FieldWords.{IsNamed, bare, dashes, file_exact, files, ip_or_star_exact, ip_stars, long_exact, mode_exact, modes, narrow_exact, narrow_or_dash_exact, numbers, octet_exact, place_exact, places, port_exact, port_or_dash_exact, port_or_star_exact, stars}
use Rattle.history_reader.proofs.TextWords.{hexes, no_file, text_exact}

-- Fields of rows.

abbrev AnyMode : Mode → Type 0
AnyMode m = Unit {0}

abbrev AnyFile : FileName → Type 0
AnyFile f = Unit {0}

abbrev slot_words : ℕ × ℕ → Words
slot_words f = numbers f.0 ++ numbers f.1

abbrev slot_fits : ℕ × ℕ → Type 0
slot_fits f = IsNarrow f.0 × IsLongField f.1

slot_exact : Exact (ℕ × ℕ) (both_fields narrow long) slot_words slot_fits
slot_exact = exact_both narrow long numbers numbers IsNarrow IsLongField narrow_exact long_exact

abbrev counted_words : ℕ × ℕ → Words
counted_words f = numbers f.0 ++ numbers f.1

abbrev counted_fits : ℕ × ℕ → Type 0
counted_fits f = IsLongField f.0 × IsNarrow f.1

counted_exact : Exact (ℕ × ℕ) (both_fields long narrow) counted_words counted_fits
counted_exact = exact_both long narrow numbers numbers IsLongField IsNarrow long_exact narrow_exact

abbrev short_words : ℕ × ℕ → Words
short_words f = numbers f.0 ++ numbers f.1

abbrev short_fits : ℕ × ℕ → Type 0
short_fits f = IsLongField f.0 × IsOctet f.1

short_exact : Exact (ℕ × ℕ) (both_fields long octet) short_words short_fits
short_exact = exact_both long octet numbers numbers IsLongField IsOctet long_exact octet_exact

abbrev written_words : ℕ × List ℕ → Words
written_words f = numbers f.0 ++ hexes f.1

abbrev written_fits : ℕ × List ℕ → Type 0
written_fits f = IsLongField f.0 × AreBytes f.1

written_exact : Exact (ℕ × List ℕ) (both_fields long text) written_words written_fits
written_exact = exact_both long text numbers hexes IsLongField AreBytes long_exact text_exact

abbrev opened_words : FileName × Mode → Words
opened_words f = files f.0 ++ modes f.1

abbrev opened_fits : FileName × Mode → Type 0
opened_fits f = AnyFile f.0 × AnyMode f.1

opened_exact : Exact (FileName × Mode) (both_fields file mode_of) opened_words opened_fits
opened_exact = exact_both file mode_of files modes AnyFile AnyMode file_exact mode_exact

abbrev path_words : List ℕ × Mode → Words
path_words f = hexes f.0 ++ modes f.1

abbrev path_fits : List ℕ × Mode → Type 0
path_fits f = AreBytes f.0 × AnyMode f.1

path_exact : Exact (List ℕ × Mode) (both_fields text mode_of) path_words path_fits
path_exact = exact_both text mode_of hexes modes AreBytes AnyMode text_exact mode_exact

abbrev file_count_words : FileName × ℕ → Words
file_count_words f = files f.0 ++ numbers f.1

abbrev file_count_fits : FileName × ℕ → Type 0
file_count_fits f = AnyFile f.0 × IsNarrow f.1

file_count_exact : Exact (FileName × ℕ) (both_fields file narrow) file_count_words file_count_fits
file_count_exact = exact_both file narrow files numbers AnyFile IsNarrow file_exact narrow_exact

abbrev filed_words : ℕ × (FileName × ℕ) → Words
filed_words f = numbers f.0 ++ file_count_words f.1

abbrev filed_fits : ℕ × (FileName × ℕ) → Type 0
filed_fits f = IsLongField f.0 × file_count_fits f.1

filed_exact : Exact (ℕ × (FileName × ℕ)) (both_fields long (both_fields file narrow)) filed_words filed_fits
filed_exact = exact_both long (both_fields file narrow) numbers file_count_words IsLongField file_count_fits long_exact file_count_exact

abbrev at_port_words : ℕ × ℕ → Words
at_port_words f = numbers f.0 ++ numbers f.1

abbrev at_port_fits : ℕ × ℕ → Type 0
at_port_fits f = IsLongField f.0 × IsPort f.1

at_port_exact : Exact (ℕ × ℕ) (both_fields long port) at_port_words at_port_fits
at_port_exact = exact_both long port numbers numbers IsLongField IsPort long_exact port_exact

abbrev bound_words : ℕ × (ℕ × ℕ) → Words
bound_words f = numbers f.0 ++ at_port_words f.1

abbrev bound_fits : ℕ × (ℕ × ℕ) → Type 0
bound_fits f = IsNarrow f.0 × at_port_fits f.1

bound_exact : Exact (ℕ × (ℕ × ℕ)) (both_fields narrow (both_fields long port)) bound_words bound_fits
bound_exact = exact_both narrow (both_fields long port) numbers at_port_words IsNarrow at_port_fits narrow_exact at_port_exact

abbrev remote_words : Addr × Option ℕ → Words
remote_words f = places f.0 ++ dashes f.1

abbrev remote_fits : Addr × Option ℕ → Type 0
remote_fits f = IsPlace f.0 × (IfAny IsPort) f.1

remote_exact : Exact (Addr × Option ℕ) (both_fields read_place port_or_dash) remote_words remote_fits
remote_exact = exact_both read_place port_or_dash places dashes IsPlace (IfAny IsPort) place_exact port_or_dash_exact

abbrev to_remote_words : ℕ × (Addr × Option ℕ) → Words
to_remote_words f = numbers f.0 ++ remote_words f.1

abbrev to_remote_fits : ℕ × (Addr × Option ℕ) → Type 0
to_remote_fits f = IsLongField f.0 × remote_fits f.1

to_remote_exact : Exact (ℕ × (Addr × Option ℕ)) (both_fields long (both_fields read_place port_or_dash)) to_remote_words to_remote_fits
to_remote_exact = exact_both long (both_fields read_place port_or_dash) numbers remote_words IsLongField remote_fits long_exact remote_exact

abbrev grant_words : ℕ × (ℕ × (Addr × Option ℕ)) → Words
grant_words f = numbers f.0 ++ to_remote_words f.1

abbrev grant_fits : ℕ × (ℕ × (Addr × Option ℕ)) → Type 0
grant_fits f = IsNarrow f.0 × to_remote_fits f.1

grant_exact : Exact (ℕ × (ℕ × (Addr × Option ℕ))) (both_fields narrow (both_fields long (both_fields read_place port_or_dash))) grant_words grant_fits
grant_exact = exact_both narrow (both_fields long (both_fields read_place port_or_dash)) numbers to_remote_words IsNarrow to_remote_fits narrow_exact to_remote_exact

abbrev key_words : Option ℕ × Option ℕ → Words
key_words f = ip_stars f.0 ++ stars f.1

abbrev key_fits : Option ℕ × Option ℕ → Type 0
key_fits f = (IfAny IsNarrow) f.0 × (IfAny IsPort) f.1

key_exact : Exact (Option ℕ × Option ℕ) (both_fields read_ip_or_star port_or_star) key_words key_fits
key_exact = exact_both read_ip_or_star port_or_star ip_stars stars (IfAny IsNarrow) (IfAny IsPort) ip_or_star_exact port_or_star_exact

abbrev of_key_words : ℕ × (Option ℕ × Option ℕ) → Words
of_key_words f = numbers f.0 ++ key_words f.1

abbrev of_key_fits : ℕ × (Option ℕ × Option ℕ) → Type 0
of_key_fits f = IsLongField f.0 × key_fits f.1

of_key_exact : Exact (ℕ × (Option ℕ × Option ℕ)) (both_fields long (both_fields read_ip_or_star port_or_star)) of_key_words of_key_fits
of_key_exact = exact_both long (both_fields read_ip_or_star port_or_star) numbers key_words IsLongField key_fits long_exact key_exact

abbrev announce_words : ℕ × (ℕ × (Option ℕ × Option ℕ)) → Words
announce_words f = numbers f.0 ++ of_key_words f.1

abbrev announce_fits : ℕ × (ℕ × (Option ℕ × Option ℕ)) → Type 0
announce_fits f = IsNarrow f.0 × of_key_fits f.1

announce_exact : Exact (ℕ × (ℕ × (Option ℕ × Option ℕ))) (both_fields narrow (both_fields long (both_fields read_ip_or_star port_or_star))) announce_words announce_fits
announce_exact = exact_both narrow (both_fields long (both_fields read_ip_or_star port_or_star)) numbers of_key_words IsNarrow of_key_fits narrow_exact of_key_exact

-- What is read of an event: it is wide, and a name isn't empty.

abbrev pub HasName : Event → Type 0
HasName (event.Use n) = IsNamed n
HasName (event.Misuse n) = IsNamed n
HasName _ = Unit {0}

abbrev pub FitsEvent : Event → Type 0
FitsEvent e = IsWideEvent e × HasName e

abbrev Row : List ℕ → FieldReader Event → Type 0
Row word read = IsRow event_words FitsEvent word read

-- a row of a generation
of_long : (make : ℕ → Event) (word : List ℕ) → ((g : ℕ) → event_words (make g) ≡ word ∷ numbers g) → ((g : ℕ) → IsLongField g → FitsEvent (make g)) → Row word (read_as long make)
of_long make word spelled fits = row long numbers IsLongField long_exact make event_words FitsEvent word (λ g h. spelled g) fits

of_slot : (make : ℕ × ℕ → Event) (word : List ℕ) → ((f : ℕ × ℕ) → event_words (make f) ≡ word ∷ slot_words f) → ((f : ℕ × ℕ) → slot_fits f → FitsEvent (make f)) → Row word (read_as (both_fields narrow long) make)
of_slot make word spelled fits = row (both_fields narrow long) slot_words slot_fits slot_exact make event_words FitsEvent word (λ f h. spelled f) fits

other_rows_are : AreRows event_words FitsEvent spec.other_rows
other_rows_are = (
  bare_row event.Reserve event_words FitsEvent (codes "reserve") refl (tt, tt),
  (
    bare_row event.Take event_words FitsEvent (codes "take") refl (tt, tt),
    (
      row narrow_or_dash dashes (IfAny IsNarrow) narrow_or_dash_exact (λ to. event.Put to) event_words FitsEvent (codes "put") (λ to h. refl) (λ to h. (h, tt)),
      (
        of_long (λ m. event.Move m) (codes "move") (λ m. refl) (λ m h. (h, tt)),
        (
          of_long (λ m. event.Until m) (codes "until") (λ m. refl) (λ m h. (h, tt)),
          (bare_row event.Refresh event_words FitsEvent (codes "refresh") refl (tt, tt), tt),
        ),
      ),
    ),
  ),
)

slot_rows_are : AreRows event_words FitsEvent spec.slot_rows
slot_rows_are = (
  row (both_fields narrow (both_fields long (both_fields read_place port_or_dash))) grant_words grant_fits grant_exact spec.to_grant event_words FitsEvent (codes "grant") (λ f h. refl) (λ f h. ((h.0, h.1.0, h.1.1.0, h.1.1.1), tt)),
  (
    row (both_fields narrow (both_fields long (both_fields read_ip_or_star port_or_star))) announce_words announce_fits announce_exact spec.to_announce event_words FitsEvent (codes "announce") (λ f h. refl) (λ f h. ((h.0, h.1.0, h.1.1.0, h.1.1.1), tt)),
    (
      row (both_fields narrow (both_fields long port)) bound_words bound_fits bound_exact spec.to_bind event_words FitsEvent (codes "bind") (λ f h. refl) (λ f h. ((h.0, h.1.0, h.1.1), tt)),
      (
        row narrow numbers IsNarrow narrow_exact (λ n. event.Listen n) event_words FitsEvent (codes "listen") (λ n h. refl) (λ n h. (h, tt)),
        (
          of_slot (λ f. event.Withdraw f.0 f.1) (codes "withdraw") (λ f. refl) (λ f h. (h, tt)),
          (
            of_slot (λ f. event.Release f.0 f.1) (codes "release") (λ f. refl) (λ f h. (h, tt)),
            (
              row (both_fields long (both_fields file narrow)) filed_words filed_fits filed_exact spec.to_file event_words FitsEvent (codes "file") (λ f h. refl) (λ f h. ((h.0, h.1.1), tt)),
              other_rows_are,
            ),
          ),
        ),
      ),
    ),
  ),
)

arrive_is : Row (codes "arrive") spec.arrive
arrive_is =
    either_row (read_as long (λ g. event.ArriveAt g)) (λ words. Some (event.Arrive, words)) event_words FitsEvent (codes "arrive")
    (of_long (λ g. event.ArriveAt g) (codes "arrive") (λ g. refl) (λ g h. (h, tt))) (bare_row event.Arrive event_words FitsEvent (codes "arrive") refl (tt, tt))

end_rows_are : AreRows event_words FitsEvent spec.end_rows
end_rows_are = (
  of_long (λ g. event.Hangup g) (codes "hangup") (λ g. refl) (λ g h. (h, tt)),
  (
    of_long (λ g. event.Close g) (codes "close") (λ g. refl) (λ g h. (h, tt)),
    (
      of_long (λ g. event.Tick g) (codes "tick") (λ g. refl) (λ g h. (h, tt)),
      (
        arrive_is,
        (
          row (both_fields long narrow) counted_words counted_fits counted_exact (λ f. event.Read f.0 f.1) event_words FitsEvent (codes "read") (λ f h. refl) (λ f h. (h, tt)),
          (
            row (both_fields long octet) short_words short_fits short_exact (λ f. event.Ttl f.0 f.1) event_words FitsEvent (codes "ttl") (λ f h. refl) (λ f h. (h, tt)),
            (
              row (both_fields long octet) short_words short_fits short_exact (λ f. event.Tos f.0 f.1) event_words FitsEvent (codes "tos") (λ f h. refl) (λ f h. (h, tt)),
              slot_rows_are,
            ),
          ),
        ),
      ),
    ),
  ),
)

generation_rows_are : AreRows event_words FitsEvent spec.generation_rows
generation_rows_are = (
  of_long (λ g. event.Begin g) (codes "begin") (λ g. refl) (λ g h. (h, tt)),
  (
    of_long (λ g. event.Born g) (codes "born") (λ g. refl) (λ g h. (h, tt)),
    (
      of_long (λ g. event.Claim g) (codes "claim") (λ g. refl) (λ g h. (h, tt)),
      (
        of_long (λ g. event.Connect g) (codes "connect") (λ g. refl) (λ g h. (h, tt)),
        (
          of_long (λ g. event.Announced g) (codes "announced") (λ g. refl) (λ g h. (h, tt)),
          (
            of_long (λ g. event.Bound g) (codes "bound") (λ g. refl) (λ g h. (h, tt)),
            (
              of_long (λ g. event.Await g) (codes "await") (λ g. refl) (λ g h. (h, tt)),
              end_rows_are,
            ),
          ),
        ),
      ),
    ),
  ),
)

ls_is : Row (codes "ls") spec.ls_read
ls_is =
    either_row (read_as text (λ path. event.LsPath path)) (λ words. Some (event.Ls, words)) event_words FitsEvent (codes "ls")
    (row text hexes AreBytes text_exact (λ path. event.LsPath path) event_words FitsEvent (codes "ls") (λ path h. refl) (λ path h. (h, tt)))
    (bare_row event.Ls event_words FitsEvent (codes "ls") refl (tt, tt))

open_is : Row (codes "open") spec.read_opening
open_is =
    either_row spec.open_file spec.open_path event_words FitsEvent (codes "open")
    (row (both_fields file mode_of) opened_words opened_fits opened_exact (λ f. event.Open f.0 f.1) event_words FitsEvent (codes "open") (λ f h. refl) (λ f h. (tt, tt)))
    (row (both_fields text mode_of) path_words path_fits path_exact (λ f. event.OpenPath f.0 f.1) event_words FitsEvent (codes "open") (λ f h. refl) (λ f h. (h.0, tt)))

-- a row of a name, which is any word that isn't empty
named_row : (make : List ℕ → Event) (word : List ℕ) → ((n : List ℕ) → event_words (make n) ≡ word ∷ n ∷ []) → ((b : ℕ) (n : List ℕ) → FitsEvent (make (b ∷ n))) → Row word (read_as read_called make)
named_row make word spelled fits [] y rest e = absurd (none-some (y, rest) e)
named_row make word spelled fits ([] ∷ words) y rest e = absurd (none-some (y, rest) e)
named_row make word spelled fits ((b ∷ n) ∷ words) y rest e =
    let same = same_Some (make (b ∷ n), words) (y, rest) e in
    (ap (λ (ws : Words). ws ++ words) (sym (spelled (b ∷ n))) ∙ ap (λ (r : Event × Words). event_words r.0 ++ r.1) same, subst (λ (r : Event × Words). FitsEvent r.0) same (fits b n))

event_rows_are : AreRows event_words FitsEvent spec.event_rows
event_rows_are = (
  row text hexes AreBytes text_exact (λ query. event.Cs query) event_words FitsEvent (codes "cs") (λ query h. refl) (λ query h. (h, tt)),
  (
    ls_is,
    (
      open_is,
      (
        named_row (λ n. event.Use n) (codes "use") (λ n. refl) (λ b n. (tt, tt)),
        (
          named_row (λ n. event.Misuse n) (codes "misuse") (λ n. refl) (λ b n. (tt, tt)),
          (
            row (both_fields long text) written_words written_fits written_exact (λ f. event.Write f.0 f.1) event_words FitsEvent (codes "write") (λ f h. refl) (λ f h. (h, tt)),
            (
              row (both_fields long text) written_words written_fits written_exact (λ f. event.Ctl f.0 f.1) event_words FitsEvent (codes "ctl") (λ f h. refl) (λ f h. (h, tt)),
              generation_rows_are,
            ),
          ),
        ),
      ),
    ),
  ),
)

pub event_sound : (words : Words) (e : Event) (rest : Words) → spec.event_of words ≡ Some (e, rest) → (words ≡ event_words e ++ rest) × FitsEvent e
event_sound [] e rest is = absurd (none-some (e, rest) is)
event_sound (word ∷ words) e rest is = rows_sound event_words FitsEvent spec.event_rows event_rows_are word words e rest is

-- From the event to its words, with a `=` behind them.

abbrev pub equals : List ℕ
equals = codes "="

abbrev pub EventBack : Event → Type 0
EventBack e = ((rest : Words) → spec.event_of (event_words e ++ equals ∷ rest) ≡ Some (e, equals ∷ rest)) × AreBare (event_words e)

of_generation : (make : ℕ → Event) (word : List ℕ) → IsBare word → (g : ℕ) → IsLongField g → Back (read_as long make) (make g) (numbers g) (word ∷ numbers g)
of_generation make word clean g h = back long numbers IsLongField long_exact make word clean g h

of_pair : (make : ℕ × ℕ → Event) (word : List ℕ) → IsBare word → (f : ℕ × ℕ) → slot_fits f → Back (read_as (both_fields narrow long) make) (make f) (slot_words f) (word ∷ slot_words f)
of_pair make word clean f h = back (both_fields narrow long) slot_words slot_fits slot_exact make word clean f h

-- an `open` by what its word is as a file's name
abbrev file_read : Option FileName → Words → Read Event
file_read o words = behind (behind (with_rest o words) (λ f rest. behind (mode_of rest) (paired f))) (made_of (λ (f : FileName × Mode). event.Open f.0 f.1))

pub event_back : (e : Event) → IsWideEvent e → IsPlainEvent e → EventBack e
event_back (event.Cs query) w p = let b = back text hexes AreBytes text_exact (λ q. event.Cs q) (codes "cs") (bare (codes "cs") refl refl) query w in (λ rest. b.0 (equals ∷ rest), b.1)
event_back (event.LsPath path) w p =
    let b = back text hexes AreBytes text_exact (λ q. event.LsPath q) (codes "ls") (bare (codes "ls") refl refl) path w in
    (λ rest. ap (λ o. spec.otherwise o (Some (event.Ls, hex_word path ∷ equals ∷ rest))) (b.0 (equals ∷ rest)), b.1)
event_back (event.OpenPath path m) w p =
    let b = back (both_fields text mode_of) path_words path_fits path_exact (λ f. event.OpenPath f.0 f.1) (codes "open") (bare (codes "open") refl refl) (path, m) (w, tt) in
    (λ rest. ap (λ o. spec.otherwise (file_read o (mode_word m ∷ equals ∷ rest)) (spec.open_path (hex_word path ∷ mode_word m ∷ equals ∷ rest))) (no_file path w) ∙ b.0 (equals ∷ rest), b.1)
event_back (event.Use []) w p = absurd p
event_back (event.Use (b ∷ n)) w p = (λ rest. refl, (bare (codes "use") refl refl, (clean_free (b ∷ n) p, tt)))
event_back (event.Misuse []) w p = absurd p
event_back (event.Misuse (b ∷ n)) w p = (λ rest. refl, (bare (codes "misuse") refl refl, (clean_free (b ∷ n) p, tt)))
event_back (event.Until g) w p = let b = of_generation (λ g. event.Until g) (codes "until") (bare (codes "until") refl refl) g w in (λ rest. b.0 (equals ∷ rest), b.1)
event_back event.Refresh w p = (λ rest. refl, (bare (codes "refresh") refl refl, tt))
event_back event.Reserve w p = (λ rest. refl, (bare (codes "reserve") refl refl, tt))
event_back (event.Grant n g remote lport) w p = let b = back (both_fields narrow (both_fields long (both_fields read_place port_or_dash))) grant_words grant_fits grant_exact spec.to_grant (codes "grant") (bare (codes "grant") refl refl) (n, (g, (remote, lport))) (w.0, (w.1, (w.2, w.3))) in (λ rest. b.0 (equals ∷ rest), b.1)
event_back (event.Announce n g ip port) w p = let b = back (both_fields narrow (both_fields long (both_fields read_ip_or_star port_or_star))) announce_words announce_fits announce_exact spec.to_announce (codes "announce") (bare (codes "announce") refl refl) (n, (g, (ip, port))) (w.0, (w.1, (w.2, w.3))) in (λ rest. b.0 (equals ∷ rest), b.1)
event_back (event.Bind n g q) w p = let b = back (both_fields narrow (both_fields long port)) bound_words bound_fits bound_exact spec.to_bind (codes "bind") (bare (codes "bind") refl refl) (n, (g, q)) (w.0, (w.1, w.2)) in (λ rest. b.0 (equals ∷ rest), b.1)
event_back (event.Listen n) w p = let b = back narrow numbers IsNarrow narrow_exact (λ n. event.Listen n) (codes "listen") (bare (codes "listen") refl refl) n w in (λ rest. b.0 (equals ∷ rest), b.1)
event_back (event.Withdraw n g) w p = let b = of_pair (λ f. event.Withdraw f.0 f.1) (codes "withdraw") (bare (codes "withdraw") refl refl) (n, g) w in (λ rest. b.0 (equals ∷ rest), b.1)
event_back (event.Release n g) w p = let b = of_pair (λ f. event.Release f.0 f.1) (codes "release") (bare (codes "release") refl refl) (n, g) w in (λ rest. b.0 (equals ∷ rest), b.1)
event_back event.Arrive w p = (λ rest. refl, (bare (codes "arrive") refl refl, tt))
event_back event.Ls w p = (λ rest. refl, (bare (codes "ls") refl refl, tt))
event_back (event.Begin g) w p = let b = of_generation (λ g. event.Begin g) (codes "begin") (bare (codes "begin") refl refl) g w in (λ rest. b.0 (equals ∷ rest), b.1)
event_back (event.Born g) w p = let b = of_generation (λ g. event.Born g) (codes "born") (bare (codes "born") refl refl) g w in (λ rest. b.0 (equals ∷ rest), b.1)
event_back (event.Claim g) w p = let b = of_generation (λ g. event.Claim g) (codes "claim") (bare (codes "claim") refl refl) g w in (λ rest. b.0 (equals ∷ rest), b.1)
event_back (event.Connect g) w p = let b = of_generation (λ g. event.Connect g) (codes "connect") (bare (codes "connect") refl refl) g w in (λ rest. b.0 (equals ∷ rest), b.1)
event_back (event.Announced g) w p = let b = of_generation (λ g. event.Announced g) (codes "announced") (bare (codes "announced") refl refl) g w in (λ rest. b.0 (equals ∷ rest), b.1)
event_back (event.Bound g) w p = let b = of_generation (λ g. event.Bound g) (codes "bound") (bare (codes "bound") refl refl) g w in (λ rest. b.0 (equals ∷ rest), b.1)
event_back (event.Await g) w p = let b = of_generation (λ g. event.Await g) (codes "await") (bare (codes "await") refl refl) g w in (λ rest. b.0 (equals ∷ rest), b.1)
event_back (event.Open f m) w p =
    let b = back (both_fields file mode_of) opened_words opened_fits opened_exact (λ f. event.Open f.0 f.1) (codes "open") (bare (codes "open") refl refl) (f, m) (tt, tt) in
    (λ rest. ap (λ o. spec.otherwise o (spec.open_path (file_name f ∷ mode_word m ∷ equals ∷ rest))) (b.0 (equals ∷ rest)), b.1)
event_back (event.File g f count) w p = let b = back (both_fields long (both_fields file narrow)) filed_words filed_fits filed_exact spec.to_file (codes "file") (bare (codes "file") refl refl) (g, (f, count)) (w.0, (tt, w.1)) in (λ rest. b.0 (equals ∷ rest), b.1)
event_back (event.Read g count) w p = let b = back (both_fields long narrow) counted_words counted_fits counted_exact (λ f. event.Read f.0 f.1) (codes "read") (bare (codes "read") refl refl) (g, count) w in (λ rest. b.0 (equals ∷ rest), b.1)
event_back (event.Write g t) w p = let b = back (both_fields long text) written_words written_fits written_exact (λ f. event.Write f.0 f.1) (codes "write") (bare (codes "write") refl refl) (g, t) w in (λ rest. b.0 (equals ∷ rest), b.1)
event_back (event.Hangup g) w p = let b = of_generation (λ g. event.Hangup g) (codes "hangup") (bare (codes "hangup") refl refl) g w in (λ rest. b.0 (equals ∷ rest), b.1)
event_back (event.Ttl g n) w p = let b = back (both_fields long octet) short_words short_fits short_exact (λ f. event.Ttl f.0 f.1) (codes "ttl") (bare (codes "ttl") refl refl) (g, n) w in (λ rest. b.0 (equals ∷ rest), b.1)
event_back (event.Tos g n) w p = let b = back (both_fields long octet) short_words short_fits short_exact (λ f. event.Tos f.0 f.1) (codes "tos") (bare (codes "tos") refl refl) (g, n) w in (λ rest. b.0 (equals ∷ rest), b.1)
event_back (event.Ctl g t) w p = let b = back (both_fields long text) written_words written_fits written_exact (λ f. event.Ctl f.0 f.1) (codes "ctl") (bare (codes "ctl") refl refl) (g, t) w in (λ rest. b.0 (equals ∷ rest), b.1)
event_back (event.Close g) w p = let b = of_generation (λ g. event.Close g) (codes "close") (bare (codes "close") refl refl) g w in (λ rest. b.0 (equals ∷ rest), b.1)
event_back (event.ArriveAt g) w p =
    let b = of_generation (λ g. event.ArriveAt g) (codes "arrive") (bare (codes "arrive") refl refl) g w in
    (λ rest. ap (λ o. spec.otherwise o (Some (event.Arrive, numbers g ++ equals ∷ rest))) (b.0 (equals ∷ rest)), b.1)
event_back (event.Tick g) w p = let b = of_generation (λ g. event.Tick g) (codes "tick") (bare (codes "tick") refl refl) g w in (λ rest. b.0 (equals ∷ rest), b.1)
event_back (event.Put to) w p = let b = back narrow_or_dash dashes (IfAny IsNarrow) narrow_or_dash_exact (λ t. event.Put t) (codes "put") (bare (codes "put") refl refl) to w in (λ rest. b.0 (equals ∷ rest), b.1)
event_back event.Take w p = (λ rest. refl, (bare (codes "take") refl refl, tt))
event_back (event.Move g) w p = let b = of_generation (λ g. event.Move g) (codes "move") (bare (codes "move") refl refl) g w in (λ rest. b.0 (equals ∷ rest), b.1)

-- Names in bare words.

pub plain_event : (e : Event) → FitsEvent e → AreBare (event_words e) → IsPlainEvent e
plain_event (event.OpenPath path m) fits clean = fits.0
plain_event (event.Use []) fits clean = fits.1
plain_event (event.Use (b ∷ n)) fits clean = free_clean (b ∷ n) clean.1.0.0 clean.1.0.1
plain_event (event.Misuse []) fits clean = fits.1
plain_event (event.Misuse (b ∷ n)) fits clean = free_clean (b ∷ n) clean.1.0.0 clean.1.0.1
plain_event _ fits clean = tt
