-- The codes of the faults of captures: this project's own.
use Rattle.std.specs.Prelude.{ℕ}
use Rattle.packet_capture.specs.declared.fault.CaptureFault.{CaptureFault}
use Rattle.packet_capture.specs.declared.fault.CaptureFault.TheVariants.{NotCapture, UnknownVersion, TooLong, BadByteOrder, BadBlockLength, LengthsDiffer, ShortBlock, UnknownInterface, FramePastBlock, OptionPastBlock, TooManyInterfaces}

-- the code by which logs name a fault
abbrev pub capture_code : CaptureFault → ℕ
capture_code NotCapture = 40
capture_code UnknownVersion = 41
capture_code TooLong = 42
capture_code BadByteOrder = 43
capture_code BadBlockLength = 44
capture_code LengthsDiffer = 45
capture_code ShortBlock = 46
capture_code UnknownInterface = 47
capture_code FramePastBlock = 48
capture_code OptionPastBlock = 49
capture_code TooManyInterfaces = 50
