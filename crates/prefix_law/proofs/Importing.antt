-- The importing steps read whole messages.
use Rattle.std.proofs.Common.{ℕ, Bool, true, false, List, [], ◌∷◌, arith}
use Rattle.std.specs.Prelude.{if◌then◌else◌}
use Rattle.net_base.specs.declared.event.Event.TheVariants as event
use Rattle.net_base.specs.declared.names.Mode.{Mode}
use Rattle.net_base.specs.declared.reply.Reply.{Reply}
use Rattle.net_base.specs.Paths.{mode_reads, mode_writes}
use Rattle.net_base.specs.Steps.{Names, Play, Ends, is_accepted, bytes_in}
use Rattle.net_base.specs.Written.{Conversation, actor_of}
use Rattle.prefix_law.specs.ImportLaw.{misuse, own_of_data}
use Rattle.net_base.specs.declared.ninep.Tmsg.{Tmsg}
use Rattle.net_base.specs.Imports.{attach_message, clunk_message, imports, is_open, is_version, is_whole, open_message, opens_remote, sends_message, sends_for, sends_once, version_message, walk_message}
use Rattle.net_base.specs.NinepMessages.{t_bytes}
use Rattle.prefix_law.specs.LongReads.{IsLong, ReadsLong, ReadsWhole}
use Rattle.net_base.specs.Exports.{Own, asks_on, by_text}

-- what is asked on a data file reads long
pub data_long : (f : Conversation) (called : List ℕ) (m : Mode) → IsLong (own_of_data f called m)
data_long f called m = (of_read (mode_reads m), λ answer. of_write answer (mode_writes m))
  where
    of_read : (b : Bool) → ReadsLong (if b then record { actor = actor_of f; event = event.Read f.generation 8192 } else misuse f.host called).event
    of_read true = omega arith
    of_read false = tt

    of_write : (answer : List ℕ) (b : Bool) → ReadsLong (if b then record { actor = actor_of f; event = event.Write f.generation answer } else misuse f.host called).event
    of_write answer true = tt
    of_write answer false = tt

by_test_whole : (b : Bool) (p q : Play) → ReadsWhole p → ReadsWhole q → ReadsWhole (if b then p else q)
by_test_whole true p q one two = one
by_test_whole false p q one two = two

by_text_whole : (text : List ℕ) (p : Play) (next : List ℕ → Play) → ReadsWhole p → ((t : List ℕ) → ReadsWhole (next t)) → ReadsWhole (by_text text p next)
by_text_whole [] p next one two = one
by_text_whole (b ∷ bs) p next one two = two (b ∷ bs)

module _ (own : Own) (long : IsLong own) where
  pub sends_whole : (m : Tmsg) (refused : Play) (next : List ℕ → Play) → ReadsWhole refused → ((t : List ℕ) → ReadsWhole (next t)) → ReadsWhole (sends_message own m refused next)
  sends_whole m refused next one two =
      (long.1 (t_bytes m), λ w. by_test_whole (is_accepted w) (asks_on own.reads (λ (r : Reply). by_text (bytes_in r) refused next)) refused (long.0, λ r. by_text_whole (bytes_in r) refused next one two) one)

  pub sends_for_whole : (m : Tmsg) (is_reply : List ℕ → Bool) (refused other next : Play) → ReadsWhole refused → ReadsWhole other → ReadsWhole next
      → ReadsWhole (sends_for own m is_reply refused other next)
  sends_for_whole m is_reply refused other next one two three =
      sends_whole m refused (λ (text : List ℕ). if is_reply text then next else other) one (λ text. by_test_whole (is_reply text) next other three two)

  pub sends_once_whole : (m : Tmsg) (names : Names) → ReadsWhole (sends_once own m (Ends names))
  sends_once_whole m names = sends_whole m (Ends names) (λ (text : List ℕ). Ends names) tt (λ text. tt)

  pub imports_whole : (names : Names) → ReadsWhole (imports own (Ends names))
  imports_whole names = sends_for_whole version_message is_version (Ends names) (Ends names) (sends_once own attach_message (Ends names)) tt tt (sends_once_whole attach_message names)

  pub opens_remote_whole : (fid : ℕ) (path : List ℕ) (m : Mode) (names : Names) → ReadsWhole (opens_remote own fid path m (Ends names))
  opens_remote_whole fid path m names =
      sends_for_whole (walk_message fid path) (is_whole path) (Ends names) (Ends names) _ tt tt
      (sends_for_whole (open_message fid m) is_open (Ends names) (sends_once own (clunk_message fid) (Ends names)) (Ends names) tt (sends_once_whole (clunk_message fid) names) tt)
