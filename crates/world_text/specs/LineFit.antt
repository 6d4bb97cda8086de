-- The lines whose names, numbers and steps are of their kind.
use Rattle.std.specs.Prelude.{ℕ, Bool, true, ◌&&◌, nat_le}
use Rattle.net_base.specs.World.{is_address, is_moment, is_name, is_nets, is_step, is_within}
use Rattle.world_text.specs.declared.line.Frames.{Frames}
use Rattle.world_text.specs.declared.line.Frames.TheVariants as frames
use Rattle.world_text.specs.declared.line.HostLine.{HostLine}
use Rattle.world_text.specs.declared.line.HostLine.TheVariants as host
use Rattle.world_text.specs.declared.line.MediumLine.{MediumLine}
use Rattle.world_text.specs.declared.line.MediumLine.TheVariants as medium
use Rattle.world_text.specs.declared.line.WorldLine.{WorldLine}
use Rattle.world_text.specs.declared.line.WorldLine.TheVariants as line

abbrev pub is_frame : ℕ → Bool
is_frame n = is_within 1 18446744073709551615 n

abbrev pub fit_frames : Frames → Bool
fit_frames (frames.One n) = is_frame n
fit_frames (frames.Range first last) = is_frame first && (is_frame last && nat_le first last)

abbrev pub is_rate : ℕ → Bool
is_rate n = is_within 0 4294967295 n

abbrev pub fit_medium_line : MediumLine → Bool
fit_medium_line (medium.Medium called mtu) = is_name called && is_within 576 16384 mtu
fit_medium_line (medium.Rates called loss twice later) = is_name called && (is_rate loss && (is_rate twice && is_rate later))
fit_medium_line (medium.Fate called f x) = is_name called && fit_frames f

abbrev pub fit_host_line : HostLine → Bool
fit_host_line (host.If called ip mask) = is_name called && (is_address ip && is_address mask)
fit_host_line (host.Route l) = is_address l.net && (is_address l.mask && is_address l.gateway)
fit_host_line (host.Start start) = is_within 1 4294967295 start

abbrev pub is_fit : WorldLine → Bool
is_fit (line.Networld kind) = true
is_fit (line.End moment) = is_moment moment
is_fit (line.Seed seed) = is_within 0 18446744073709551615 seed
is_fit (line.OfMedium l) = fit_medium_line l
is_fit (line.Host called nets) = is_name called && is_nets nets
is_fit (line.OfHost l) = fit_host_line l
is_fit (line.Script called) = is_name called
is_fit (line.OfScript s) = is_step s
is_fit line.Ndb = true
