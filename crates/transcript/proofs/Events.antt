-- Events are told by their words, and these are clean.
use Rattle.std.proofs.Common.{◌≡◌, ℕ, ◌/◌, ◌==◌, Bool, false, if◌then◌else◌, List, [], ◌∷◌, ◌++◌, drop, get_or, refl, codes, arith}
use Rattle.net_base.specs.declared.event.Event.{Event}
use Rattle.net_base.specs.declared.event.Event.TheVariants as event
use Rattle.net_base.specs.declared.names.FileName.TheVariants as file
use Rattle.net_base.specs.Plain.{IsClean, IsWord, IsPlainEvent}
use Rattle.net_base.specs.Transcript.{event_words, hex_digit, hex_word}
use Rattle.transcript.proofs.Bytes.{unhex, unhexed, clean_hex, is_hex, hex_is}
use Rattle.transcript.proofs.Numbers.{number, number_told, number_starts, starts_digit, clean_numeral}
use Rattle.transcript.proofs.Readers.{Word, at, chosen, read_addr, read_file, read_ip, read_mode, read_number}
use Rattle.transcript.proofs.Told.{addr_told, clean, clean_addr, clean_dash, clean_file, clean_ip, clean_mode, clean_star, dash_told, file_told, ip_told, mode_told, star_told}
use Rattle.transcript.specs.Telling.{AreClean}

-- an event, and the words that follow it
abbrev pub Read : Type 0
Read = Event × List Word

-- it begins with `=`
abbrev pub is_sign : Word → Bool
is_sign word = get_or word 0 0 == 61

abbrev listed : List Word → Read
listed ws = if is_sign (at ws 0) then (event.Ls, ws) else (event.LsPath (unhex (at ws 0)), drop 1 ws)

abbrev opened : Word → Word → Event
opened what how = if is_hex what then event.OpenPath (unhex what) (read_mode how) else event.Open (read_file what) (read_mode how)

abbrev arrived : List Word → Read
arrived ws = if starts_digit (at ws 0) then (event.ArriveAt (number (at ws 0)), drop 1 ws) else (event.Arrive, ws)

-- what the words behind each first word say
abbrev rows : List (Word × (List Word → Read))
rows =
    (codes "cs", λ ws. (event.Cs (unhex (at ws 0)), drop 1 ws))
    ∷ (codes "ls", listed)
    ∷ (codes "open", λ ws. (opened (at ws 0) (at ws 1), drop 2 ws))
    ∷ (codes "use", λ ws. (event.Use (at ws 0), drop 1 ws))
    ∷ (codes "misuse", λ ws. (event.Misuse (at ws 0), drop 1 ws))
    ∷ (codes "until", λ ws. (event.Until (number (at ws 0)), drop 1 ws))
    ∷ (codes "refresh", λ ws. (event.Refresh, ws))
    ∷ (codes "reserve", λ ws. (event.Reserve, ws))
    ∷ (codes "grant", λ ws. (event.Grant (number (at ws 0)) (number (at ws 1)) (read_addr (at ws 2)) (read_number (at ws 3)), drop 4 ws))
    ∷ (codes "announce", λ ws. (event.Announce (number (at ws 0)) (number (at ws 1)) (read_ip (at ws 2)) (read_number (at ws 3)), drop 4 ws))
    ∷ (codes "bind", λ ws. (event.Bind (number (at ws 0)) (number (at ws 1)) (number (at ws 2)), drop 3 ws))
    ∷ (codes "listen", λ ws. (event.Listen (number (at ws 0)), drop 1 ws))
    ∷ (codes "withdraw", λ ws. (event.Withdraw (number (at ws 0)) (number (at ws 1)), drop 2 ws))
    ∷ (codes "release", λ ws. (event.Release (number (at ws 0)) (number (at ws 1)), drop 2 ws))
    ∷ (codes "arrive", arrived)
    ∷ (codes "begin", λ ws. (event.Begin (number (at ws 0)), drop 1 ws))
    ∷ (codes "born", λ ws. (event.Born (number (at ws 0)), drop 1 ws))
    ∷ (codes "claim", λ ws. (event.Claim (number (at ws 0)), drop 1 ws))
    ∷ (codes "connect", λ ws. (event.Connect (number (at ws 0)), drop 1 ws))
    ∷ (codes "announced", λ ws. (event.Announced (number (at ws 0)), drop 1 ws))
    ∷ (codes "bound", λ ws. (event.Bound (number (at ws 0)), drop 1 ws))
    ∷ (codes "await", λ ws. (event.Await (number (at ws 0)), drop 1 ws))
    ∷ (codes "file", λ ws. (event.File (number (at ws 0)) (read_file (at ws 1)) (number (at ws 2)), drop 3 ws))
    ∷ (codes "read", λ ws. (event.Read (number (at ws 0)) (number (at ws 1)), drop 2 ws))
    ∷ (codes "write", λ ws. (event.Write (number (at ws 0)) (unhex (at ws 1)), drop 2 ws))
    ∷ (codes "hangup", λ ws. (event.Hangup (number (at ws 0)), drop 1 ws))
    ∷ (codes "ttl", λ ws. (event.Ttl (number (at ws 0)) (number (at ws 1)), drop 2 ws))
    ∷ (codes "tos", λ ws. (event.Tos (number (at ws 0)) (number (at ws 1)), drop 2 ws))
    ∷ (codes "ctl", λ ws. (event.Ctl (number (at ws 0)) (unhex (at ws 1)), drop 2 ws))
    ∷ (codes "close", λ ws. (event.Close (number (at ws 0)), drop 1 ws))
    ∷ (codes "tick", λ ws. (event.Tick (number (at ws 0)), drop 1 ws))
    ∷ (codes "put", λ ws. (event.Put (read_number (at ws 0)), drop 1 ws))
    ∷ (codes "take", λ ws. (event.Take, ws))
    ∷ (codes "move", λ ws. (event.Move (number (at ws 0)), drop 1 ws))
    ∷ []

abbrev pub read_event : List Word → Read
read_event words = chosen (λ ws. (event.Reserve, ws)) rows (at words 0) (drop 1 words)

digit_no_sign : (n : ℕ) → (hex_digit n == 61) ≡ false
digit_no_sign n = grind arith

hex_no_sign : (bytes : List ℕ) → is_sign (hex_word bytes) ≡ false
hex_no_sign [] = refl
hex_no_sign (b ∷ bs) = digit_no_sign (b / 16)

pub event_told : (e : Event) → IsPlainEvent e → (rest : List Word) → read_event (event_words e ++ codes "=" ∷ rest) ≡ (e, codes "=" ∷ rest)
event_told (event.Cs query) plain rest = rw (unhexed query) refl
event_told (event.LsPath path) plain rest = rw (hex_no_sign path, unhexed path) refl
event_told (event.OpenPath path m) plain rest = rw (hex_is path plain, unhexed path, mode_told m) refl
event_told (event.Use called) plain rest = refl
event_told (event.Misuse called) plain rest = refl
event_told (event.Until m) plain rest = rw (number_told m) refl
event_told event.Refresh plain rest = refl
event_told event.Reserve plain rest = refl
event_told (event.Grant n g remote lport) plain rest = rw (number_told n, number_told g, addr_told remote, dash_told lport) refl
event_told (event.Announce n g ip port) plain rest = rw (number_told n, number_told g, ip_told ip, star_told port) refl
event_told (event.Bind n g port) plain rest = rw (number_told n, number_told g, number_told port) refl
event_told (event.Listen n) plain rest = rw (number_told n) refl
event_told (event.Withdraw n g) plain rest = rw (number_told n, number_told g) refl
event_told (event.Release n g) plain rest = rw (number_told n, number_told g) refl
event_told event.Arrive plain rest = refl
event_told event.Ls plain rest = refl
event_told (event.Begin g) plain rest = rw (number_told g) refl
event_told (event.Born g) plain rest = rw (number_told g) refl
event_told (event.Claim g) plain rest = rw (number_told g) refl
event_told (event.Connect g) plain rest = rw (number_told g) refl
event_told (event.Announced g) plain rest = rw (number_told g) refl
event_told (event.Bound g) plain rest = rw (number_told g) refl
event_told (event.Await g) plain rest = rw (number_told g) refl
event_told (event.Open file.Ctl m) plain rest = rw (mode_told m) refl
event_told (event.Open file.Data m) plain rest = rw (mode_told m) refl
event_told (event.Open file.Err m) plain rest = rw (mode_told m) refl
event_told (event.Open file.Listen m) plain rest = rw (mode_told m) refl
event_told (event.Open file.Local m) plain rest = rw (mode_told m) refl
event_told (event.Open file.Remote m) plain rest = rw (mode_told m) refl
event_told (event.Open file.Status m) plain rest = rw (mode_told m) refl
event_told (event.File g f count) plain rest = rw (number_told g, file_told f, number_told count) refl
event_told (event.Read g count) plain rest = rw (number_told g, number_told count) refl
event_told (event.Write g text) plain rest = rw (number_told g, unhexed text) refl
event_told (event.Hangup g) plain rest = rw (number_told g) refl
event_told (event.Ttl g n) plain rest = rw (number_told g, number_told n) refl
event_told (event.Tos g n) plain rest = rw (number_told g, number_told n) refl
event_told (event.Ctl g text) plain rest = rw (number_told g, unhexed text) refl
event_told (event.Close g) plain rest = rw (number_told g) refl
event_told (event.ArriveAt g) plain rest = rw (number_starts g, number_told g) refl
event_told (event.Tick g) plain rest = rw (number_told g) refl
event_told (event.Put to) plain rest = rw (dash_told to) refl
event_told event.Take plain rest = refl
event_told (event.Move m) plain rest = rw (number_told m) refl

clean_word : (word : List ℕ) → IsWord word → IsClean word
clean_word [] is = absurd is
clean_word (b ∷ bs) is = is

pub clean_event : (e : Event) → IsPlainEvent e → AreClean (event_words e)
clean_event (event.Cs query) plain = (clean (codes "cs") refl, (clean_hex query, tt))
clean_event (event.LsPath path) plain = (clean (codes "ls") refl, (clean_hex path, tt))
clean_event (event.OpenPath path m) plain = (clean (codes "open") refl, (clean_hex path, (clean_mode m, tt)))
clean_event (event.Use called) plain = (clean (codes "use") refl, (clean_word called plain, tt))
clean_event (event.Misuse called) plain = (clean (codes "misuse") refl, (clean_word called plain, tt))
clean_event (event.Until m) plain = (clean (codes "until") refl, (clean_numeral m, tt))
clean_event event.Refresh plain = (clean (codes "refresh") refl, tt)
clean_event event.Reserve plain = (clean (codes "reserve") refl, tt)
clean_event (event.Grant n g remote lport) plain = (clean (codes "grant") refl, (clean_numeral n, (clean_numeral g, (clean_addr remote, (clean_dash lport, tt)))))
clean_event (event.Announce n g ip port) plain = (clean (codes "announce") refl, (clean_numeral n, (clean_numeral g, (clean_ip ip, (clean_star port, tt)))))
clean_event (event.Bind n g port) plain = (clean (codes "bind") refl, (clean_numeral n, (clean_numeral g, (clean_numeral port, tt))))
clean_event (event.Listen n) plain = (clean (codes "listen") refl, (clean_numeral n, tt))
clean_event (event.Withdraw n g) plain = (clean (codes "withdraw") refl, (clean_numeral n, (clean_numeral g, tt)))
clean_event (event.Release n g) plain = (clean (codes "release") refl, (clean_numeral n, (clean_numeral g, tt)))
clean_event event.Arrive plain = (clean (codes "arrive") refl, tt)
clean_event event.Ls plain = (clean (codes "ls") refl, tt)
clean_event (event.Begin g) plain = (clean (codes "begin") refl, (clean_numeral g, tt))
clean_event (event.Born g) plain = (clean (codes "born") refl, (clean_numeral g, tt))
clean_event (event.Claim g) plain = (clean (codes "claim") refl, (clean_numeral g, tt))
clean_event (event.Connect g) plain = (clean (codes "connect") refl, (clean_numeral g, tt))
clean_event (event.Announced g) plain = (clean (codes "announced") refl, (clean_numeral g, tt))
clean_event (event.Bound g) plain = (clean (codes "bound") refl, (clean_numeral g, tt))
clean_event (event.Await g) plain = (clean (codes "await") refl, (clean_numeral g, tt))
clean_event (event.Open f m) plain = (clean (codes "open") refl, (clean_file f, (clean_mode m, tt)))
clean_event (event.File g f count) plain = (clean (codes "file") refl, (clean_numeral g, (clean_file f, (clean_numeral count, tt))))
clean_event (event.Read g count) plain = (clean (codes "read") refl, (clean_numeral g, (clean_numeral count, tt)))
clean_event (event.Write g text) plain = (clean (codes "write") refl, (clean_numeral g, (clean_hex text, tt)))
clean_event (event.Hangup g) plain = (clean (codes "hangup") refl, (clean_numeral g, tt))
clean_event (event.Ttl g n) plain = (clean (codes "ttl") refl, (clean_numeral g, (clean_numeral n, tt)))
clean_event (event.Tos g n) plain = (clean (codes "tos") refl, (clean_numeral g, (clean_numeral n, tt)))
clean_event (event.Ctl g text) plain = (clean (codes "ctl") refl, (clean_numeral g, (clean_hex text, tt)))
clean_event (event.Close g) plain = (clean (codes "close") refl, (clean_numeral g, tt))
clean_event (event.ArriveAt g) plain = (clean (codes "arrive") refl, (clean_numeral g, tt))
clean_event (event.Tick g) plain = (clean (codes "tick") refl, (clean_numeral g, tt))
clean_event (event.Put to) plain = (clean (codes "put") refl, (clean_dash to, tt))
clean_event event.Take plain = (clean (codes "take") refl, tt)
clean_event (event.Move m) plain = (clean (codes "move") refl, (clean_numeral m, tt))
