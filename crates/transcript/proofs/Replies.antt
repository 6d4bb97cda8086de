-- Replies are told by their words, and these are clean.
use Rattle.std.proofs.Common.{◌≡◌, false, if◌then◌else◌, List, [], ◌∷◌, ◌++◌, drop, refl, codes}
use Rattle.net_base.specs.declared.actor.Call.{Call}
use Rattle.net_base.specs.declared.reply.Reply.{Reply}
use Rattle.net_base.specs.declared.reply.Reply.TheVariants as reply
use Rattle.net_base.specs.Plain.{IsPlainReply}
use Rattle.net_base.specs.Transcript.{reply_words, cause_number, call_words, calls_of, as_lines}
use Rattle.transcript.proofs.Bytes.{unhex, unhexed, clean_hex, cut_lines, lines_told}
use Rattle.transcript.proofs.Numbers.{number, number_told, number_starts, starts_digit, clean_numeral}
use Rattle.transcript.proofs.Readers.{Word, at, chosen, numbered, read_addr, read_state}
use Rattle.transcript.proofs.Told.{addr_told, cause_told, clean, clean_addr, clean_state, state_told}
use Rattle.transcript.specs.Telling.{AreClean}

-- a reply, and the words that follow it
abbrev pub Read : Type 0
Read = Reply × List Word

-- Calls.

abbrev pub CallsRead : Type 0
CallsRead = List Call × List Word

abbrev with_call : Call → CallsRead → CallsRead
with_call call read = (call ∷ read.0, read.1)

-- two words a call, as long as numbers come
unfoldable pub read_calls : List Word → CallsRead
read_calls [] = ([], [])
read_calls (w ∷ []) = ([], w ∷ [])
read_calls (w ∷ v ∷ ws) = if starts_digit w then with_call (record { slot = number w; generation = number v }) (read_calls ws) else ([], w ∷ v ∷ ws)

-- no number follows
abbrev pub Ends : List Word → Type 0
Ends rest = starts_digit (at rest 0) ≡ false

no_calls : (rest : List Word) → Ends rest → read_calls rest ≡ ([], rest)
unfolding read_calls
no_calls [] ends = refl
no_calls (w ∷ []) ends = refl
no_calls (w ∷ v ∷ ws) ends = rw ends refl

calls_told : (calls : List Call) → (rest : List Word) → Ends rest → read_calls (calls_of calls ++ rest) ≡ (calls, rest)
unfolding read_calls
calls_told [] rest ends = no_calls rest ends
calls_told (call ∷ calls) rest ends =
    rw (number_starts call.slot, calls_told calls rest ends, number_told call.slot, number_told call.generation) refl

abbrev of_calls : CallsRead → Read
of_calls read = (reply.Calls read.0, read.1)

abbrev waited : List Word → Read
waited ws = if starts_digit (at ws 0) then of_calls (read_calls ws) else (reply.Calls [], drop 1 ws)

-- what the words behind each first word say
abbrev rows : List (Word × (List Word → Read))
rows =
    (codes "lines", λ ws. (reply.Lines (cut_lines (unhex (at ws 0))), drop 1 ws))
    ∷ (codes "csrefused", λ ws. (reply.CsRefused (number (at ws 0)), drop 1 ws))
    ∷ (codes "names", λ ws. (reply.Names (cut_lines (unhex (at ws 0))), drop 1 ws))
    ∷ (codes "nofile", λ ws. (reply.NoFile, ws))
    ∷ (codes "badmode", λ ws. (reply.BadMode, ws))
    ∷ (codes "badfid", λ ws. (reply.BadFid, ws))
    ∷ (codes "ok", λ ws. (reply.Ok, ws))
    ∷ (codes "slot", λ ws. (reply.Slot (number (at ws 0)) (number (at ws 1)), drop 2 ws))
    ∷ (codes "noslot", λ ws. (reply.NoSlot, ws))
    ∷ (codes "granted", λ ws. (reply.Granted (record { local = read_addr (at ws 0); remote = read_addr (at ws 1) }) (number (at ws 2)) (number (at ws 3)), drop 4 ws))
    ∷ (codes "wrong", λ ws. (reply.WrongState (read_state (at ws 0)), drop 1 ws))
    ∷ (codes "noroute", λ ws. (reply.NoRoute, ws))
    ∷ (codes "noport", λ ws. (reply.NoPort, ws))
    ∷ (codes "selfpair", λ ws. (reply.SelfPair, ws))
    ∷ (codes "pairused", λ ws. (reply.PairUsed (number (at ws 0)), drop 1 ws))
    ∷ (codes "taken", λ ws. (reply.PortTaken (number (at ws 0)), drop 1 ws))
    ∷ (codes "call", λ ws. (reply.Call (number (at ws 0)) (number (at ws 1)), drop 2 ws))
    ∷ (codes "calls", waited)
    ∷ (codes "to", λ ws. (reply.To (number (at ws 0)) (number (at ws 1)), drop 2 ws))
    ∷ (codes "born", λ ws. (reply.Born (number (at ws 0)) (number (at ws 1)) (number (at ws 2)) (number (at ws 3)), drop 4 ws))
    ∷ (codes "refused", λ ws. (reply.Refused, ws))
    ∷ (codes "dropped", λ ws. (reply.Dropped, ws))
    ∷ (codes "stale", λ ws. (reply.Stale, ws))
    ∷ (codes "hungup", λ ws. (reply.Hungup (numbered (number (at ws 0))), drop 1 ws))
    ∷ (codes "opened", λ ws. (reply.Opened (number (at ws 0)), drop 1 ws))
    ∷ (codes "notopen", λ ws. (reply.NotOpen, ws))
    ∷ (codes "bytes", λ ws. (reply.Bytes (unhex (at ws 0)), drop 1 ws))
    ∷ (codes "count", λ ws. (reply.Count (number (at ws 0)), drop 1 ws))
    ∷ (codes "zerowrite", λ ws. (reply.ZeroWrite, ws))
    ∷ (codes "toolong", λ ws. (reply.TooLong (number (at ws 0)) (number (at ws 1)), drop 2 ws))
    ∷ (codes "left", λ ws. (reply.Left, ws))
    ∷ (codes "badctl", λ ws. (reply.BadCtl (number (at ws 0)), drop 1 ws))
    ∷ (codes "took", λ ws. (reply.Took, ws))
    ∷ (codes "full", λ ws. (reply.Full, ws))
    ∷ (codes "ticked", λ ws. (reply.Ticked, ws))
    ∷ (codes "notdue", λ ws. (reply.NotDue, ws))
    ∷ (codes "version", λ ws. (reply.Version (number (at ws 0)), drop 1 ws))
    ∷ (codes "laid", λ ws. (reply.Laid (number (at ws 0)), drop 1 ws))
    ∷ (codes "toobig", λ ws. (reply.TooBig, ws))
    ∷ (codes "nostation", λ ws. (reply.NoStation, ws))
    ∷ (codes "copy", λ ws. (reply.Copy (number (at ws 0)), drop 1 ws))
    ∷ []

abbrev pub read_reply : List Word → Read
read_reply words = chosen (λ ws. (reply.Ok, ws)) rows (at words 0) (drop 1 words)

waited_told : (calls : List Call) → (rest : List Word) → Ends rest → waited (call_words calls ++ rest) ≡ (reply.Calls calls, rest)
waited_told [] rest ends = refl
waited_told (call ∷ calls) rest ends = rw (number_starts call.slot, calls_told (call ∷ calls) rest ends) refl

pub reply_told : (r : Reply) → IsPlainReply r → (rest : List Word) → Ends rest → read_reply (reply_words r ++ rest) ≡ (r, rest)
reply_told (reply.Lines lines) plain rest ends = rw (unhexed (as_lines lines), lines_told lines plain) refl
reply_told (reply.CsRefused n) plain rest ends = rw (number_told n) refl
reply_told (reply.Names names) plain rest ends = rw (unhexed (as_lines names), lines_told names plain) refl
reply_told reply.NoFile plain rest ends = refl
reply_told reply.BadMode plain rest ends = refl
reply_told reply.BadFid plain rest ends = refl
reply_told reply.Ok plain rest ends = refl
reply_told (reply.Slot n g) plain rest ends = rw (number_told n, number_told g) refl
reply_told reply.NoSlot plain rest ends = refl
reply_told (reply.Granted pair start limit) plain rest ends = rw (addr_told pair.local, addr_told pair.remote, number_told start, number_told limit) refl
reply_told (reply.WrongState s) plain rest ends = rw (state_told s) refl
reply_told reply.NoRoute plain rest ends = refl
reply_told reply.NoPort plain rest ends = refl
reply_told reply.SelfPair plain rest ends = refl
reply_told (reply.PairUsed k) plain rest ends = rw (number_told k) refl
reply_told (reply.PortTaken n) plain rest ends = rw (number_told n) refl
reply_told (reply.Call n g) plain rest ends = rw (number_told n, number_told g) refl
reply_told (reply.Calls calls) plain rest ends = waited_told calls rest ends
reply_told (reply.To n g) plain rest ends = rw (number_told n, number_told g) refl
reply_told (reply.Born n g start limit) plain rest ends = rw (number_told n, number_told g, number_told start, number_told limit) refl
reply_told reply.Refused plain rest ends = refl
reply_told reply.Dropped plain rest ends = refl
reply_told reply.Stale plain rest ends = refl
reply_told (reply.Hungup c) plain rest ends = rw (cause_told c) refl
reply_told (reply.Opened g) plain rest ends = rw (number_told g) refl
reply_told reply.NotOpen plain rest ends = refl
reply_told (reply.Bytes bytes) plain rest ends = rw (unhexed bytes) refl
reply_told (reply.Count n) plain rest ends = rw (number_told n) refl
reply_told reply.ZeroWrite plain rest ends = refl
reply_told (reply.TooLong length limit) plain rest ends = rw (number_told length, number_told limit) refl
reply_told reply.Left plain rest ends = refl
reply_told (reply.BadCtl n) plain rest ends = rw (number_told n) refl
reply_told reply.Took plain rest ends = refl
reply_told reply.Full plain rest ends = refl
reply_told reply.Ticked plain rest ends = refl
reply_told reply.NotDue plain rest ends = refl
reply_told (reply.Version k) plain rest ends = rw (number_told k) refl
reply_told (reply.Laid k) plain rest ends = rw (number_told k) refl
reply_told reply.TooBig plain rest ends = refl
reply_told reply.NoStation plain rest ends = refl
reply_told (reply.Copy k) plain rest ends = rw (number_told k) refl

clean_calls_of : (calls : List Call) → AreClean (calls_of calls)
clean_calls_of [] = tt
clean_calls_of (call ∷ calls) = (clean_numeral call.slot, (clean_numeral call.generation, clean_calls_of calls))

clean_calls : (calls : List Call) → AreClean (call_words calls)
clean_calls [] = (clean (codes "-") refl, tt)
clean_calls (call ∷ calls) = clean_calls_of (call ∷ calls)

pub clean_reply : (r : Reply) → AreClean (reply_words r)
clean_reply (reply.Lines lines) = (clean (codes "lines") refl, (clean_hex (as_lines lines), tt))
clean_reply (reply.CsRefused n) = (clean (codes "csrefused") refl, (clean_numeral n, tt))
clean_reply (reply.Names names) = (clean (codes "names") refl, (clean_hex (as_lines names), tt))
clean_reply reply.NoFile = (clean (codes "nofile") refl, tt)
clean_reply reply.BadMode = (clean (codes "badmode") refl, tt)
clean_reply reply.BadFid = (clean (codes "badfid") refl, tt)
clean_reply reply.Ok = (clean (codes "ok") refl, tt)
clean_reply (reply.Slot n g) = (clean (codes "slot") refl, (clean_numeral n, (clean_numeral g, tt)))
clean_reply reply.NoSlot = (clean (codes "noslot") refl, tt)
clean_reply (reply.Granted pair start limit) = (clean (codes "granted") refl, (clean_addr pair.local, (clean_addr pair.remote, (clean_numeral start, (clean_numeral limit, tt)))))
clean_reply (reply.WrongState s) = (clean (codes "wrong") refl, (clean_state s, tt))
clean_reply reply.NoRoute = (clean (codes "noroute") refl, tt)
clean_reply reply.NoPort = (clean (codes "noport") refl, tt)
clean_reply reply.SelfPair = (clean (codes "selfpair") refl, tt)
clean_reply (reply.PairUsed k) = (clean (codes "pairused") refl, (clean_numeral k, tt))
clean_reply (reply.PortTaken n) = (clean (codes "taken") refl, (clean_numeral n, tt))
clean_reply (reply.Call n g) = (clean (codes "call") refl, (clean_numeral n, (clean_numeral g, tt)))
clean_reply (reply.Calls calls) = (clean (codes "calls") refl, clean_calls calls)
clean_reply (reply.To n g) = (clean (codes "to") refl, (clean_numeral n, (clean_numeral g, tt)))
clean_reply (reply.Born n g start limit) = (clean (codes "born") refl, (clean_numeral n, (clean_numeral g, (clean_numeral start, (clean_numeral limit, tt)))))
clean_reply reply.Refused = (clean (codes "refused") refl, tt)
clean_reply reply.Dropped = (clean (codes "dropped") refl, tt)
clean_reply reply.Stale = (clean (codes "stale") refl, tt)
clean_reply (reply.Hungup c) = (clean (codes "hungup") refl, (clean_numeral (cause_number c), tt))
clean_reply (reply.Opened g) = (clean (codes "opened") refl, (clean_numeral g, tt))
clean_reply reply.NotOpen = (clean (codes "notopen") refl, tt)
clean_reply (reply.Bytes bytes) = (clean (codes "bytes") refl, (clean_hex bytes, tt))
clean_reply (reply.Count n) = (clean (codes "count") refl, (clean_numeral n, tt))
clean_reply reply.ZeroWrite = (clean (codes "zerowrite") refl, tt)
clean_reply (reply.TooLong length limit) = (clean (codes "toolong") refl, (clean_numeral length, (clean_numeral limit, tt)))
clean_reply reply.Left = (clean (codes "left") refl, tt)
clean_reply (reply.BadCtl n) = (clean (codes "badctl") refl, (clean_numeral n, tt))
clean_reply reply.Took = (clean (codes "took") refl, tt)
clean_reply reply.Full = (clean (codes "full") refl, tt)
clean_reply reply.Ticked = (clean (codes "ticked") refl, tt)
clean_reply reply.NotDue = (clean (codes "notdue") refl, tt)
clean_reply (reply.Version k) = (clean (codes "version") refl, (clean_numeral k, tt))
clean_reply (reply.Laid k) = (clean (codes "laid") refl, (clean_numeral k, tt))
clean_reply reply.TooBig = (clean (codes "toobig") refl, tt)
clean_reply reply.NoStation = (clean (codes "nostation") refl, tt)
clean_reply (reply.Copy k) = (clean (codes "copy") refl, (clean_numeral k, tt))
