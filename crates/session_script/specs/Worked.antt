-- A session that opens the clone file of UDP and reads its number: its messages, its steps, the replies to them, and its answers.
use Rattle.std.specs.Prelude.{ℕ, List, [], ◌∷◌, ◌++◌, Some, codes}
use Rattle.net_base.specs.declared.names.Mode.TheVariants as mode
use Rattle.net_base.specs.declared.reply.Reply.{Reply}
use Rattle.net_base.specs.declared.reply.Reply.TheVariants as reply
use Rattle.net_base.specs.declared.world.Step.{Step}
use Rattle.net_base.specs.declared.world.Step.TheVariants as step
use Rattle.net_base.specs.declared.ninep.Tmsg.{Tmsg}
use Rattle.net_base.specs.declared.ninep.Tmsg.TheVariants as t
use Rattle.net_base.specs.SessionScript.{nofid}

abbrev pub messages : List Tmsg
messages =
    t.Version 65535 8216 (codes "9P2000")
    ∷ t.Attach 1 0 nofid [] []
    ∷ t.Walk 1 0 1 (codes "udp" ∷ codes "clone" ∷ [])
    ∷ t.Open 1 1 2
    ∷ t.Read 1 1 0 32
    ∷ []

-- their bytes, in hexadecimal
abbrev pub feed : List ℕ
feed =
    codes "1300000064ffff182000000600395032303030"
    ++ codes "1300000068010000000000ffffffff00000000"
    ++ codes "1d0000006e01000000000001000000020003007564700500636c6f6e65"
    ++ codes "0c0000007001000100000002"
    ++ codes "1700000074010001000000000000000000000020000000"

abbrev pub steps : List Step
steps = step.Open (codes "f1") (codes "/net/udp/clone") (Some mode.Both) ∷ step.Read (codes "f1") 32 ∷ []

abbrev pub worked_replies : List Reply
worked_replies = reply.Slot 0 1 ∷ reply.Bytes (codes "0") ∷ []

-- the answers, in hexadecimal
abbrev pub worked_answers : List (List ℕ)
worked_answers =
    codes "1300000065ffff182000000600395032303030"
    ∷ codes "1400000069010080000000000000000000000000"
    ∷ codes "230000006f010002008000000000030000000000000000000000000500000000000000"
    ∷ codes "180000007101000000000000110200000000000000000000"
    ∷ codes "0c0000007501000100000030"
    ∷ []
