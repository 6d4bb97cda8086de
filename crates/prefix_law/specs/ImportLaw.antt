-- What is imported over a call is what the exporter answers, in order.
use Rattle.std.specs.Prelude.{ℕ, ◌≡◌, ◌++◌, Bool, true, false, List, [], ◌∷◌, filter, map, Some, slice_get, if◌then◌else◌}
use Rattle.std.specs.List.{flat_map}
use Rattle.net_base.specs.declared.history.Entry.{Entry}
use Rattle.net_base.specs.declared.event.Event.TheVariants as event
use Rattle.net_base.specs.declared.names.Mode.{Mode}
use Rattle.net_base.specs.declared.actor.ActorName.TheVariants as name
use Rattle.net_base.specs.Networks.{is_filled}
use Rattle.net_base.specs.Paths.{mode_reads, mode_writes}
use Rattle.net_base.specs.Stamped.{In}
use Rattle.net_base.specs.Steps.{Ask}
use Rattle.net_base.specs.Written.{Conversation, actor_of, read_by, written_by}
use Rattle.prefix_law.specs.PrefixLaw.{IsPrefix}
use Rattle.net_base.specs.Next.{own_entries}
use Rattle.prefix_law.specs.LongReads.{ReadsWhole}
use Rattle.prefix_law.specs.Order.{StandInOrder}
use Rattle.prefix_law.specs.Phases.{Reads, Request, answers_in_turn, on_own, requests}
use Rattle.net_base.specs.Exports.{Own, exports}
use Rattle.net_base.specs.Server.{Server}
use Rattle.prefix_law.specs.Spans.{Scripted, Span, own_stamped, spans}

-- Texts.

-- the texts of these entries that are read at a conversation, the end of file aside, and those that are written there
abbrev pub read_in_all : Conversation → List (ℕ × Entry) → List (List ℕ)
read_in_all e xs = filter is_filled (flat_map (λ (x : ℕ × Entry). read_by e x.1) xs)

abbrev pub written_in_all : Conversation → List (ℕ × Entry) → List (List ℕ)
written_in_all e xs = flat_map (λ (x : ℕ × Entry). written_by e x.1) xs

-- a read that replied bytes at the conversation, or a write that counts
abbrev pub is_deed : Conversation → Entry → Bool
is_deed e x = is_some_text (read_by e x ++ written_by e x)
  where
    is_some_text : List (List ℕ) → Bool
    is_some_text [] = false
    is_some_text (t ∷ ts) = true

-- each read and write at the conversation is one of these
abbrev pub AreAll : List Entry → Conversation → List (ℕ × Entry) → Type 0
AreAll h e xs = (k : ℕ) (x : Entry) → slice_get h k ≡ Some x → is_deed e x ≡ true → In (k, x) xs

-- the own entries of a caller are those of the script's steps, in order
abbrev pub StandsInOrder : {N T : Type 0} → Scripted N T → List Entry → ℕ → Type 0
StandsInOrder script h c = (n : ℕ) × StandInOrder script script.start script.steps n (own_entries h c)

-- The importing side.

-- the entries of the steps that are of a kind
abbrev pub of_steps : {N T : Type 0} → (T → Bool) → List (Span N T) → List (ℕ × Entry)
of_steps {N} {T} is ps = flat_map (λ (p : Span N T). if is p.step then p.entries else []) ps

-- the steps of a caller that import, and all that is read and written at the conversation by them alone
pub record Imports (N T : Type 0) (h : List Entry) (c : ℕ) (e : Conversation) (script : Scripted N T) (is_importing : T → Bool) : Type 0 where
  pub in_order : StandsInOrder script h c
  pub whole : (k : N) (step : T) → is_importing step ≡ true → ReadsWhole (script.play k step)
  pub all : AreAll h e (of_steps is_importing (spans script (own_stamped h c)))

abbrev pub calls : {N T : Type 0} → List Entry → ℕ → Conversation → Scripted N T → (T → Bool) → List (List ℕ)
calls h c e script is_importing = filter is_filled (written_in_all e (of_steps is_importing (spans script (own_stamped h c))))

abbrev pub got_back : {N T : Type 0} → List Entry → ℕ → Conversation → Scripted N T → (T → Bool) → List (List ℕ)
got_back h c e script is_importing = read_in_all e (of_steps is_importing (spans script (own_stamped h c)))

-- The exporting side.

-- the desk records that the name isn't open for it
abbrev pub misuse : ℕ → List ℕ → Ask
misuse h called = record { actor = name.Desk h; event = event.Misuse called }

-- what is asked on a data file of a conversation that is bound to this name and opened so
abbrev pub own_of_data : Conversation → List ℕ → Mode → Own
own_of_data e called m =
    record {
      reads = if mode_reads m then record { actor = actor_of e; event = event.Read e.generation 8192 } else misuse e.host called;
      writes = λ (text : List ℕ). if mode_writes m then record { actor = actor_of e; event = event.Write e.generation text } else misuse e.host called;
    }

-- a step of a caller that exports over a conversation, and all that is read and written there by its own file alone
pub record Exports {S : Type 0} (v : Server S (List ℕ)) (N T : Type 0) (h : List Entry) (s : ℕ) (f : Conversation) (script : Scripted N T)
    (i : ℕ) : Type 0 where
  pub in_order : StandsInOrder script h s
  pub span : Span N T
  pub stands : slice_get (spans script (own_stamped h s)) i ≡ Some span
  pub called : List ℕ
  pub mode : Mode
  pub rounds : ℕ
  -- the state of the session in which the step begins
  pub start : S
  pub play_is : script.play span.kept span.step ≡ exports v (own_of_data f called mode) rounds start
  pub all : AreAll h f (on_own v (Reads start) span.entries)

-- The law.

-- the i-th call was served as the i-th request, and this is its answer
pub record IsCallAnswer {S : Type 0} (v : Server S (List ℕ)) (start : S) (calls : List (List ℕ)) (qs : List Request) (i : ℕ) (reply : List ℕ) : Type 0 where
  pub request : Request
  pub called : slice_get calls i ≡ Some request.text
  pub served : slice_get qs i ≡ Some request
  pub answered : slice_get (answers_in_turn v start qs) i ≡ Some reply

-- what was served, where these are the entries of the exporting step
pub record Served {S : Type 0} (v : Server S (List ℕ)) (start : S) (f : Conversation) (calls got_back : List (List ℕ)) (xs : List (ℕ × Entry)) : Type 0 where
  -- the requests that were read begin the calls that were written
  pub asked : IsPrefix (read_in_all f (on_own v (Reads start) xs)) calls
  -- the replies that were read begin the answers that were written
  pub replied : IsPrefix got_back (written_in_all f (on_own v (Reads start) xs))
  -- the answers that were written begin the session's answers to the requests, each by the replies to its own events
  pub requests_are : map (λ (q : Request). q.text) (requests v (Reads start) xs) ≡ read_in_all f (on_own v (Reads start) xs)
  pub answered : IsPrefix (written_in_all f (on_own v (Reads start) xs)) (answers_in_turn v start (requests v (Reads start) xs))
  -- so the reply that was read i-th is the answer to the call that was written i-th
  pub each : (i : ℕ) (reply : List ℕ) → slice_get got_back i ≡ Some reply → IsCallAnswer v start calls (requests v (Reads start) xs) i reply
