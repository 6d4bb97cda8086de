-- The numbers of the causes for which a line of a world is bad.
use Rattle.std.specs.Prelude.{ℕ}
use Rattle.world_text.specs.declared.line.LineCause.{LineCause}
use Rattle.world_text.specs.declared.line.LineCause.TheVariants as cause

abbrev pub cause_number_of : LineCause → ℕ
cause_number_of cause.FirstLine = 11
cause_number_of cause.UnknownWord = 12
cause_number_of cause.WrongArgument = 13
cause_number_of cause.NameTwice = 14
cause_number_of cause.UnknownName = 15
cause_number_of cause.AddressTwice = 16
cause_number_of cause.OverLimit = 17
cause_number_of cause.OutOfOrder = 18
cause_number_of cause.MissingPart = 19
cause_number_of cause.BadMask = 20
cause_number_of cause.RouteTwice = 21
cause_number_of cause.FarGateway = 22
cause_number_of cause.FateClash = 23
cause_number_of cause.EarlyVersion = 24
