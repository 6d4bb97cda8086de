-- The frames of which copies arrive: of one frame no copy, of another one copy, and of a third one more.
use Rattle.std.specs.Prelude.{ℕ, ◌==◌, ◌&&◌, Bool, true, false, List, [], ◌∷◌, Option, Some, None, codes, is_some}
use Rattle.std.specs.Map.{lookup}
use Rattle.indexmap.specs.IndexMap.{insert_entry}
use Rattle.net_base.specs.declared.actor.ActorName.{ActorName}
use Rattle.net_base.specs.declared.actor.ActorName.TheVariants as name
use Rattle.net_base.specs.declared.history.Entry.{Entry}
use Rattle.net_base.specs.declared.reply.Reply.{Reply}
use Rattle.net_base.specs.declared.reply.Reply.TheVariants as reply

-- both are of one link and have one number
abbrev pub same_frame : ℕ × ℕ → ℕ × ℕ → Bool
same_frame a b = (a.0 == b.0) && (a.1 == b.1)

-- frames by link and number, and whether more than one copy arrived
abbrev pub Copies : Type 0
Copies = List ((ℕ × ℕ) × Bool)

-- the frame of which a link gives a copy
abbrev pub copied : ActorName → Reply → Option (ℕ × ℕ)
copied (name.Medium m) (reply.Copy k) = Some (m, k)
copied _ _ = None

abbrev pub copies_at : Copies → ℕ × ℕ → Option Bool
copies_at copies key = lookup (same_frame key) copies

abbrev pub with_copy : Copies → Option (ℕ × ℕ) → Copies
with_copy copies None = copies
with_copy copies (Some key) = insert_entry same_frame copies key (is_some (copies_at copies key))

abbrev pub copies_from : Copies → List Entry → Copies
copies_from copies [] = copies
copies_from copies (x ∷ xs) = copies_from (with_copy copies (copied x.actor x.reply)) xs

abbrev pub copies_in : List Entry → Copies
copies_in h = copies_from [] h

-- what became of a frame, if not one copy arrived
abbrev pub fate_text : Option Bool → List ℕ
fate_text None = codes ", lost"
fate_text (Some false) = []
fate_text (Some true) = codes ", twice"
