-- The words of results have no blank and no newline.
use Rattle.std.proofs.Common.{◌≡◌, ℕ, ◌/◌, ◌%◌, List, [], ◌∷◌, ◌++◌, Some, codes, refl, arith}
use Rattle.net_base.specs.declared.actor.Call.{Call}
use Rattle.net_base.specs.declared.reply.Reply.{Reply}
use Rattle.net_base.specs.declared.reply.Reply.TheVariants as reply
use Rattle.net_base.specs.Numeral.{numeral}
use Rattle.net_base.specs.Plain.{IsClean}
use Rattle.net_base.specs.Transcript.{as_lines, call_words, calls_of, cause_number, hex_digit, hex_digits, hex_word}
use Rattle.transcript.specs.Telling.{AreClean}
use Rattle.transcript.proofs.Told.{clean, clean_addr, clean_dash, clean_state}
use Rattle.turn_orders.specs.Results.{result_words}

clean_number : (n : ℕ) → IsClean (numeral n)
clean_number n = clean_dash (Some n)

clean_hex_digit : (n : ℕ) → IsClean (hex_digit n ∷ [])
clean_hex_digit n = (λ is. grind (arith, is), λ is. grind (arith, is), tt)

clean_digits : (bytes : List ℕ) → IsClean (hex_digits bytes)
clean_digits [] = tt
clean_digits (b ∷ bs) =
    let high = clean_hex_digit (b / 16) in
    let low = clean_hex_digit (b % 16) in
    (high.0, high.1, (low.0, low.1, clean_digits bs))

clean_hex : (bytes : List ℕ) → IsClean (hex_word bytes)
clean_hex [] = (λ is. omega (arith, is), λ is. omega (arith, is), tt)
clean_hex (b ∷ bs) = clean_digits (b ∷ bs)

clean_calls_of : (calls : List Call) → AreClean (calls_of calls)
clean_calls_of [] = tt
clean_calls_of (call ∷ calls) = (clean_number call.slot, (clean_number call.generation, clean_calls_of calls))

clean_calls : (calls : List Call) → AreClean (call_words calls)
clean_calls [] = (clean (codes "-") refl, tt)
clean_calls (call ∷ calls) = clean_calls_of (call ∷ calls)

pub clean_result : (r : Reply) → AreClean (result_words r)
clean_result (reply.Lines lines) = (clean (codes "lines") refl, (clean_hex (as_lines lines), tt))
clean_result (reply.CsRefused n) = (clean (codes "csrefused") refl, (clean_number n, tt))
clean_result (reply.Names names) = (clean (codes "names") refl, (clean_hex (as_lines names), tt))
clean_result reply.NoFile = (clean (codes "nofile") refl, tt)
clean_result reply.BadMode = (clean (codes "badmode") refl, tt)
clean_result reply.BadFid = (clean (codes "badfid") refl, tt)
clean_result reply.Ok = (clean (codes "ok") refl, tt)
clean_result (reply.Version n) = (clean (codes "version") refl, (clean_number n, tt))
clean_result (reply.Slot n g) = (clean (codes "slot") refl, tt)
clean_result reply.NoSlot = (clean (codes "noslot") refl, tt)
clean_result (reply.Granted pair start limit) = (clean (codes "granted") refl, (clean_addr pair.local, (clean_addr pair.remote, (clean_number start, (clean_number limit, tt)))))
clean_result (reply.WrongState s) = (clean (codes "wrong") refl, (clean_state s, tt))
clean_result reply.NoRoute = (clean (codes "noroute") refl, tt)
clean_result reply.NoPort = (clean (codes "noport") refl, tt)
clean_result reply.SelfPair = (clean (codes "selfpair") refl, tt)
clean_result (reply.PairUsed k) = (clean (codes "pairused") refl, (clean_number k, tt))
clean_result (reply.PortTaken n) = (clean (codes "taken") refl, (clean_number n, tt))
clean_result (reply.Call n g) = (clean (codes "call") refl, tt)
clean_result (reply.Calls calls) = (clean (codes "calls") refl, clean_calls calls)
clean_result (reply.To n g) = (clean (codes "to") refl, (clean_number n, (clean_number g, tt)))
clean_result (reply.Born n g start limit) = (clean (codes "born") refl, (clean_number n, (clean_number g, (clean_number start, (clean_number limit, tt)))))
clean_result reply.Refused = (clean (codes "refused") refl, tt)
clean_result reply.Dropped = (clean (codes "dropped") refl, tt)
clean_result reply.Stale = (clean (codes "stale") refl, tt)
clean_result (reply.Hungup c) = (clean (codes "hungup") refl, (clean_number (cause_number c), tt))
clean_result (reply.Opened g) = (clean (codes "opened") refl, tt)
clean_result reply.NotOpen = (clean (codes "notopen") refl, tt)
clean_result (reply.Bytes bytes) = (clean (codes "bytes") refl, (clean_hex bytes, tt))
clean_result (reply.Count n) = (clean (codes "count") refl, (clean_number n, tt))
clean_result reply.ZeroWrite = (clean (codes "zerowrite") refl, tt)
clean_result (reply.TooLong length limit) = (clean (codes "toolong") refl, (clean_number length, (clean_number limit, tt)))
clean_result reply.Left = (clean (codes "left") refl, tt)
clean_result (reply.BadCtl n) = (clean (codes "badctl") refl, (clean_number n, tt))
clean_result reply.Took = (clean (codes "took") refl, tt)
clean_result reply.Full = (clean (codes "full") refl, tt)
clean_result reply.Ticked = (clean (codes "ticked") refl, tt)
clean_result reply.NotDue = (clean (codes "notdue") refl, tt)
clean_result (reply.Laid k) = (clean (codes "laid") refl, (clean_number k, tt))
clean_result reply.TooBig = (clean (codes "toobig") refl, tt)
clean_result reply.NoStation = (clean (codes "nostation") refl, tt)
clean_result (reply.Copy k) = (clean (codes "copy") refl, (clean_number k, tt))
