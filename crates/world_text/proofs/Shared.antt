-- What other crates cite of these proofs.

-- what is read of a line is what it spells
pub use Rattle.world_text.proofs.LineSpelled.{three-is, two-is}
-- lines without a bad one are bundles, and lines that begin versions between them; and back
pub use Rattle.world_text.proofs.VersionCuts.{AreGood, Free, any-free, before-all, before-at, begins-some, bundle-told, free-later, good-more, last-at, last-free, last-more, moved, or_else, own-at, saids, version-bad, version-goes, versions-append}
-- a text without a bad line says its versions, which a world may have; and a text that says versions is read as them
pub use Rattle.world_text.proofs.VersionTexts.{all-good, versions-back, versions-databases, versions-timed}
-- lists whose elements are apart, elements behind one another, and words without a byte
pub use Rattle.world_text.proofs.WorldLists.{apart-map, apart-push, at_last-push, false-of-not, last-push, same-numbers, without-none}
-- the lines of the media behind one another: the world so far is what they say, and each line fits exactly where all of them do
pub use Rattle.world_text.proofs.WorldMedia.{unrefused}
-- texts that say no world, and lines that say nothing
pub use Rattle.world_text.proofs.WorldRefusals.{goes-bad}
-- a world so far is small
pub use Rattle.world_text.proofs.WorldSmall.{led-next, small-led}
-- what is read spells the world
pub use Rattle.world_text.proofs.WorldSound.{Behind, Opening, Stage, read-all}
-- what lines lead to is what all of them say, and a world where none is missing
pub use Rattle.world_text.proofs.WorldStands.{complete}
-- a text by its lines, and what any line makes of the world so far
pub use Rattle.world_text.proofs.WorldTexts.{Ends, First, Good, Passed, Refused, Shape, View, bad-goes, begins-goes, ends, same-goes, shape, view}
