-- The plays that a message stands for.
use Rattle.std.specs.Prelude.{◌≡◌, ℕ, List, if◌then◌else◌}
use Rattle.net_base.specs.declared.reply.Reply.{Reply}
use Rattle.net_base.specs.Exports.{Own, asks_on, by_text, own_of}
use Rattle.net_base.specs.Steps.{Names, bytes_in, Play, is_accepted}
use Rattle.net_import.specs.declared.talk.Talk.{Talk}
use Rattle.net_import.specs.declared.talk.TalkPhase.{TalkPhase}
use Rattle.net_import.specs.declared.talk.TalkPhase.TheVariants as phase

-- its reply is read, and what follows goes by the text
abbrev pub reply_reading : Own → Play → (List ℕ → Play) → Play
reply_reading own refused next = asks_on own.reads (λ (r : Reply). by_text (bytes_in r) refused next)

-- it is written, and its reply is read
abbrev pub writing : Own → List ℕ → Play → (List ℕ → Play) → Play
writing own message refused next = asks_on (own.writes message) (λ (w : Reply). if is_accepted w then reply_reading own refused next else refused)

abbrev pub TalksBy : Own → List ℕ → Play → (List ℕ → Play) → TalkPhase → Play → Type 0
TalksBy own message refused next phase.Write p = p ≡ writing own message refused next
TalksBy own message refused next phase.Read p = p ≡ reply_reading own refused next
TalksBy own message refused next phase.Over p = p ≡ refused

-- on a host, under these names, the message stands for this play
abbrev pub TalksFor : ℕ → Names → Talk → Play → (List ℕ → Play) → Play → Type 0
TalksFor h names t refused next p = TalksBy (own_of h t.call names) t.message refused next t.phase p
