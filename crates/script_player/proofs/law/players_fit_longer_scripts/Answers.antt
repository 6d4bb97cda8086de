use Rattle.script_player.proofs.Played.{fits_longer, next_in_longer}
use Rattle.script_player.proofs.law.players_fit_longer_scripts.Goals as goal

pub returns : goal.returns
returns c = record { at = fits_longer; next = next_in_longer }
