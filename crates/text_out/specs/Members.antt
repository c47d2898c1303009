-- The members of the devices' traits, each trait's as one word.
use Rattle.text_out.specs.declared.devices.CaptureIn.{Ghosts as CaptureIn}
use Rattle.text_out.specs.declared.devices.TextOut.{Ghosts as TextOut}
use Rattle.text_out.specs.Devices.{Reading, Writing}

-- how a reader goes on
abbrev pub reading_of : {R : Type 0} → CaptureIn R → Reading R
reading_of members = record {
  gives = members.gives;
  ends = members.ends;
  failures = members.failures;
  fails = members.fails;
}

-- how a writer goes on
abbrev pub writing_of : {W : Type 0} → TextOut W → Writing W
writing_of members = record { adds = members.adds; failures = members.failures }
