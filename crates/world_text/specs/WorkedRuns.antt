-- Worked worlds whose runs are known by what is read, emitted and moved to.
use Rattle.std.specs.Prelude.{ℕ, zero, suc, List, [], ◌∷◌, map, Option, Some, None, codes, filter_map}
use Rattle.net_base.specs.declared.event.Event.{Event}
use Rattle.net_base.specs.declared.event.Event.TheVariants as event
use Rattle.net_base.specs.declared.history.Entry.{Entry}
use Rattle.net_base.specs.declared.il.IlKind.{IlKind}
use Rattle.net_base.specs.declared.il.IlKind.TheVariants.{Data}
use Rattle.net_base.specs.declared.packet.BodyHeader.{BodyHeader}
use Rattle.net_base.specs.declared.packet.BodyHeader.TheVariants as shown
use Rattle.net_base.specs.declared.packet.Header.{Header}
use Rattle.net_base.specs.declared.reply.Reply.{Reply}
use Rattle.net_base.specs.declared.reply.Reply.TheVariants as reply
use Rattle.net_base.specs.declared.world.Fate.TheVariants.{Lose, Twice, Later}
use Rattle.net_base.specs.declared.world.FateRange.{FateRange}
use Rattle.net_base.specs.declared.world.HostSpec.{HostSpec}
use Rattle.net_base.specs.declared.world.Step.{Step}
use Rattle.net_base.specs.declared.world.Step.TheVariants as step
use Rattle.net_base.specs.declared.world.World.{World}
use Rattle.world_text.specs.Worked.{anna, helix, host, script_with, world}

-- What is seen of a history.

-- who records each entry
abbrev pub who_recorded : List Entry → List ℕ
who_recorded h = map (λ (x : Entry). x.caller) h

-- the moments that the clock moves to
abbrev pub moves : List Entry → List ℕ
moves h = filter_map (λ (x : Entry). moved x.event) h
  where
    moved : Event → Option ℕ
    moved (event.Move m) = Some m
    moved _ = None

-- the texts that reads reply
abbrev pub texts_read : List Entry → List (List ℕ)
texts_read h = filter_map (λ (x : Entry). text_in x.reply) h
  where
    text_in : Reply → Option (List ℕ)
    text_in (reply.Bytes bytes) = Some bytes
    text_in _ = None

-- the kinds of the IL messages that are emitted
abbrev pub kinds : List Entry → List IlKind
kinds h = filter_map (λ (x : Entry). kind_of x.emits) h
  where
    kind_in : BodyHeader → Option IlKind
    kind_in (shown.Il kind spec id ack n) = Some kind
    kind_in _ = None

    kind_of : Option Header → Option IlKind
    kind_of None = None
    kind_of (Some header) = kind_in header.body

-- the ids of the data messages that are emitted
abbrev pub data_ids : List Entry → List ℕ
data_ids h = filter_map (λ (x : Entry). id_of x.emits) h
  where
    id_by : IlKind → ℕ → Option ℕ
    id_by Data id = Some id
    id_by _ id = None

    id_in : BodyHeader → Option ℕ
    id_in (shown.Il kind spec id ack n) = id_by kind id
    id_in _ = None

    id_of : Option Header → Option ℕ
    id_of None = None
    id_of (Some header) = id_in header.body

-- Worlds: anna calls helix and writes, helix reads.

abbrev hosts : List ℕ → List HostSpec
hosts starts = host (codes "anna") anna starts ∷ host (codes "helix") helix [] ∷ []

abbrev calls : List Step → List Step
calls steps = step.Until 10 ∷ step.Dial (codes "d") (codes "net!helix!9fs") ∷ steps

abbrev answers : List Step → List Step
answers steps = step.Announce (codes "a") (codes "net!*!9fs") ∷ step.Listen (codes "c") (codes "a") ∷ step.Accept (codes "e") (codes "c") ∷ steps

abbrev write : List ℕ → Step
write text = step.Write (codes "d") text

abbrev read : ℕ → Step
read count = step.Read (codes "e") count

abbrev two_hosts : ℕ → List FateRange → List ℕ → List Step → List Step → World
two_hosts end fates starts for_anna for_helix = world end fates (hosts starts) (script_with 0 (calls for_anna) ∷ script_with 1 (answers for_helix) ∷ [])

abbrev pub hello_world : World
hello_world = two_hosts 60000 [] [] (write (codes "hello") ∷ step.Close (codes "d") ∷ []) (read 8192 ∷ read 8192 ∷ step.Close (codes "e") ∷ [])

abbrev pub early_close_world : World
early_close_world =
    two_hosts 60000 (record { first = 4; last = 4; fate = Lose } ∷ []) [] (write (codes "hello") ∷ step.Close (codes "d") ∷ []) (read 8192 ∷ read 8192 ∷ step.Close (codes "e") ∷ [])

abbrev letters : List Step
letters = write (codes "a") ∷ write (codes "b") ∷ write (codes "c") ∷ step.Close (codes "d") ∷ []

abbrev four_reads : List Step
four_reads = read 8192 ∷ read 8192 ∷ read 8192 ∷ read 8192 ∷ step.Close (codes "e") ∷ []

abbrev pub repeated_world : World
repeated_world =
    two_hosts 60000 (record { first = 4; last = 4; fate = Twice } ∷ record { first = 5; last = 5; fate = Later } ∷ []) [] letters four_reads

abbrev pub wrapping_world : World
wrapping_world = two_hosts 60000 [] (4294967294 ∷ []) letters four_reads

abbrev pub cut_world : World
cut_world = two_hosts 60000 [] [] (write (codes "hello") ∷ step.Close (codes "d") ∷ []) (read 2 ∷ read 8192 ∷ step.Close (codes "e") ∷ [])

abbrev pub nobody_world : World
nobody_world = world 60000 [] (hosts []) (script_with 0 (step.Until 10 ∷ step.Dial (codes "d") (codes "il!135.104.9.99!9fs") ∷ []) ∷ [])

-- From the fourth frame on all are lost, and anna writes more than her window holds.

abbrev many : ℕ → List Step
many zero = []
many (suc n) = write (codes "x") ∷ many n

abbrev pub lost_world : World
lost_world = two_hosts 20000 (record { first = 4; last = 100000; fate = Lose } ∷ []) [] (many 21) (read 8192 ∷ [])

-- A datagram is read in part, and what is left of it is gone.

abbrev pub dropped_world : World
dropped_world =
    world 60000 [] (hosts [])
    (script_with 0 (step.Open (codes "c") (codes "/net/udp/clone") None
    ∷ step.Write (codes "c") (codes "connect 135.104.9.31!7 5000")
    ∷ step.Open (codes "d") (codes "/net/udp/0/data") None
    ∷ step.Write (codes "d") (codes "hello") ∷ [])
    ∷ script_with 1 (step.Open (codes "c") (codes "/net/udp/clone") None
    ∷ step.Write (codes "c") (codes "connect 135.104.9.6!5000 7")
    ∷ step.Open (codes "d") (codes "/net/udp/0/data") None
    ∷ step.Read (codes "d") 2
    ∷ step.Read (codes "d") 8192 ∷ [])
    ∷ [])

-- Two calls at once.

abbrev caller : List ℕ → List ℕ → List Step
caller address text =
    step.Until 10 ∷ step.Dial (codes "d") address ∷ write text ∷ step.Read (codes "d") 8192 ∷ []

abbrev listener : List ℕ → List ℕ → List Step
listener address text =
    step.Announce (codes "a") address ∷ step.Listen (codes "c") (codes "a") ∷ step.Accept (codes "e") (codes "c") ∷ read 8192 ∷ step.Write (codes "e") text ∷ []

abbrev pub two_calls_world : World
two_calls_world =
    world 60000 [] (hosts [])
    (script_with 0 (caller (codes "il!helix!9fs") (codes "one"))
    ∷ script_with 0 (caller (codes "il!helix!7777") (codes "two"))
    ∷ script_with 1 (listener (codes "il!*!9fs") (codes "eno"))
    ∷ script_with 1 (listener (codes "il!*!7777") (codes "owt"))
    ∷ [])
