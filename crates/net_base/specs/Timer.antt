-- The timer of an IL end. A moment is a number of milliseconds.
use Rattle.std.specs.Prelude.{ℕ, ◌+◌, ◌-◌, ◌*◌, ◌/◌, Bool, true, false, Option, Some, None, nat_lt, nat_le, min, max, if◌then◌else◌}
use Rattle.net_base.specs.declared.timer.Probe.{Probe}
use Rattle.net_base.specs.declared.timer.Tick.{Tick}
use Rattle.net_base.specs.declared.timer.Tick.TheVariants.{NotDue, Again, TimedOut}
use Rattle.net_base.specs.declared.timer.Timers.{Timers}
use Rattle.net_base.specs.declared.timer.Timers.TheVariants.{Fixed, Measured}

pub record Timer : Type 0 where
  -- the moment at which the end asks once more, if it waits for something
  pub due : Option ℕ
  -- how long it waited for that
  pub interval : ℕ
  -- when the other end was last heard
  pub heard : ℕ
  -- whether it follows round trips
  pub timers : Timers
  -- whether a round trip was measured, the mean of those that were, and how far they lie from it
  pub measured : Bool
  pub mean : ℕ
  pub dev : ℕ
  -- the message whose round trip is being measured
  pub probe : Option Probe

-- the timer of an end that never started it
abbrev pub idle_timer : Timers → Timer
idle_timer timers =
    record {
      due = None;
      interval = 0;
      heard = 0;
      timers = timers;
      measured = false;
      mean = 0;
      dev = 0;
      probe = None;
    }

-- The base: how long an end first waits.

-- the mean and four times how far round trips lie from it, but at least 100 and at most 8,000
abbrev pub measured_base : ℕ → ℕ → ℕ
measured_base mean dev = min 8000 (max 100 (mean + 4 * dev))

-- 500 where timers are fixed or nothing was measured
abbrev pub base_by : Timers → Bool → ℕ → ℕ → ℕ
base_by Measured true mean dev = measured_base mean dev
base_by Measured false mean dev = 500
base_by Fixed measured mean dev = 500

abbrev pub base : Timer → ℕ
base t = base_by t.timers t.measured t.mean t.dev

-- Round trips.

-- where timers are measured and there is no probe, the message is it
abbrev pub probe_after : Timers → Option Probe → ℕ → ℕ → Option Probe
probe_after Measured None now k = Some (record { k = k; at = now })
probe_after Measured (Some probe) now k = Some probe
probe_after Fixed probe now k = probe

-- message k is sent for the first time
abbrev pub timer_sends : ℕ → ℕ → Timer → Timer
timer_sends now k t = record t { probe = probe_after t.timers t.probe now k }

-- the time since a moment, at most 1,000,000,000; 0 where that moment is later
abbrev pub round_trip : ℕ → ℕ → ℕ
round_trip now at = min 1000000000 (now - at)

abbrev pub distance : ℕ → ℕ → ℕ
distance m n = (m - n) + (n - m)

-- a round trip was measured; the first one is the mean, and a later one moves it
abbrev pub measures : ℕ → Timer → Timer
measures s t =
    if t.measured
    then record t { mean = (7 * t.mean + s) / 8; dev = (3 * t.dev + distance s t.mean) / 4; probe = None }
    else record t { measured = true; mean = s; dev = s / 2; probe = None }

-- the messages up to k are acknowledged, where this is the probe
abbrev pub acks_probe : Option Probe → ℕ → ℕ → Timer → Timer
acks_probe None now k t = t
acks_probe (Some probe) now k t = if nat_le probe.k k then measures (round_trip now probe.at) t else t

-- the messages up to k are acknowledged: the round trip of the probe is measured, where it is one of them
abbrev pub timer_acks : ℕ → ℕ → Timer → Timer
timer_acks now k t = acks_probe t.probe now k t

-- What starts, moves and stops it.

-- the end begins to wait
abbrev pub timer_starts : ℕ → Timer → Timer
timer_starts now t = record t { due = Some (now + base t); interval = base t; heard = now }

-- a message came
abbrev pub timer_hears : ℕ → Timer → Timer
timer_hears now t = record t { heard = now }

-- the other end acknowledged something, and the end still waits or doesn't
abbrev pub timer_moves : ℕ → Bool → Timer → Timer
timer_moves now waits t = record t { due = (if waits then Some (now + base t) else None); interval = base t }

-- the end waits for nothing
abbrev pub stops : Timer → Timer
stops t = record t { due = None }

-- the moment at which an end that hears nothing gives up
abbrev pub gives_up_at : Timer → ℕ
gives_up_at t = t.heard + 30000

-- the end waits twice as long as before, up to 8 seconds, and no longer than until it gives up
abbrev pub doubles : ℕ → Timer → Timer
doubles now t =
    let interval = min (2 * t.interval) 8000 in
    record t { due = Some (min (now + interval) (gives_up_at t)); interval = interval }

-- what a tick says, and the timer that it leaves
pub record Ticked : Type 0 where
  pub says : Tick
  pub timer : Timer

-- a tick where this moment is due, if any is
abbrev pub ticks_at : Option ℕ → ℕ → Timer → Ticked
ticks_at None now t = record { says = NotDue; timer = t }
ticks_at (Some due) now t =
    if nat_lt now due
    then record { says = NotDue; timer = t }
    else (if nat_le (gives_up_at t) now
    then record { says = TimedOut; timer = stops t }
    else record { says = Again; timer = doubles now t })

abbrev pub timer_ticks : ℕ → Timer → Ticked
timer_ticks now t = ticks_at t.due now t
