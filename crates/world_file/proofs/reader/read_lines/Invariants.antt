use Rattle.std.proofs.Common.{◌≡◌, ℕ, ◌+◌, ◌≤◌, List, length}
use Rattle.world_text.specs.WorldLines.{opening_draft}
use Rattle.world_text.specs.WorldRefusal.{LeadsToWorld}
use Rattle.world_text.specs.WorldText.{world_reading, reading_from, cuts_of}
use Rattle.world_file.specs.Told.{IsSmallDraft}
use Rattle.world_file.proofs.reader.read_lines.Given as goal

abbrev pub invariant-loop-rest : goal.invariant-loop-rest
invariant-loop-rest l = record {
  led : (lines : List (List ℕ)) × LeadsToWorld opening_draft lines l.draft;
  small : IsSmallDraft l.draft;
  room : l.number + length l.rest ≤ length l.bytes + 1;
  reading : world_reading l.bytes ≡ reading_from l.draft l.number (cuts_of l.rest);
}

abbrev pub decreases-loop-rest : goal.decreases-loop-rest
decreases-loop-rest l = length l.rest
