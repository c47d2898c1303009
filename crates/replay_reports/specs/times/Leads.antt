-- By how much which of two lines is ahead, by the times at which messages came on them. Of a list
-- of arrivals the last one stands first.
use Rattle.std.specs.Prelude.{◌≡◌, ℕ, ◌+◌, ◌-◌, ◌%◌, ◌<◌, ◌==◌, ◌&&◌, ◌||◌, ◌⊎◌, zero, suc, Bool, true, false, not, nat_lt, List, [], ◌∷◌, ◌++◌, length, Option, Some, None, is_some, slice_get, if◌then◌else◌}
use Rattle.feed_types.specs.declared.line.LineId.{LineId}
use Rattle.feed_types.specs.declared.line.LineId.TheVariants.{A, B, Recovery}
use Rattle.line_arbiter.specs.Streams.{is_same_line}
use Rattle.replay_reports.specs.declared.times.line_leads.FirstArrival.{FirstArrival}
use Rattle.replay_reports.specs.declared.times.line_leads.Lead.{Lead}
use Rattle.replay_reports.specs.declared.times.line_leads.LineLeads.{LineLeads}
use Rattle.replay_reports.specs.times.Durations.{AreCounted}

-- a message that came on line A or B: its number, the line, and the time
pub record MessageOn : Type 0 where
  pub line : LineId
  pub number : ℕ
  pub time : ℕ

abbrev pub message_on : LineId → ℕ → ℕ → MessageOn
message_on line number time = record { line = line; number = number; time = time }

-- the first of two, if it is there, else the second
abbrev pub first_of_two : Option ℕ → Option ℕ → Option ℕ
first_of_two (Some time) other = Some time
first_of_two None other = other

-- when a message first came on a line
abbrev pub first_on : LineId → ℕ → List MessageOn → Option ℕ
first_on line number [] = None
first_on line number (last ∷ earlier) = first_of_two (first_on line number earlier)
    (if is_same_line last.line line && last.number == number then Some last.time else None)

-- whether a later message came whose number is a multiple of the window further
abbrev pub is_passed : ℕ → ℕ → List MessageOn → Bool
is_passed window number [] = false
is_passed window number (last ∷ earlier) =
    (nat_lt number last.number && last.number % window == number % window)
    || is_passed window number earlier

-- how far the first line is ahead with a message that the second one brings at this time, for the
-- first time, and that it had brought at an earlier time, or at the same one
abbrev pub lead_between : Option ℕ → Option ℕ → ℕ → List ℕ
lead_between None second time = []
lead_between (Some first) None time = if nat_lt time first then [] else (time - first) ∷ []
lead_between (Some first) (Some second) time = []

-- how far it is ahead with one that it brings itself at this time, and that the second one had
-- brought at a later time
abbrev pub lead_back : Option ℕ → Option ℕ → ℕ → List ℕ
lead_back None first time = []
lead_back (Some second) None time = if nat_lt time second then (second - time) ∷ [] else []
lead_back (Some second) (Some first) time = []

-- the same with a message, by when the lines had brought it before
abbrev pub lead_with : LineId → LineId → MessageOn → Option ℕ → Option ℕ → List ℕ
lead_with first second last first_time second_time =
    if is_same_line last.line second then lead_between first_time second_time last.time
    else (if is_same_line last.line first then lead_back second_time first_time last.time else [])

-- how far the first line is ahead by time, with each message that both lines brought, and that
-- wasn't passed when the second of them came
abbrev pub leads_of : ℕ → LineId → LineId → List MessageOn → List ℕ
leads_of window first second [] = []
leads_of window first second (last ∷ earlier) =
    (if is_passed window last.number earlier then []
    else lead_with first second last (first_on first last.number earlier)
    (first_on second last.number earlier))
    ++ leads_of window first second earlier

-- what came once messages came on a line, from a number on
abbrev pub come_from : LineId → ℕ → ℕ → ℕ → List MessageOn → List MessageOn
come_from line number zero time came = came
come_from line number (suc count) time came =
    message_on line (number + count) time ∷ come_from line number count time came

-- the same; what comes on Recovery doesn't count
abbrev pub come_on : LineId → ℕ → ℕ → ℕ → List MessageOn → List MessageOn
come_on A number count time came = come_from A number count time came
come_on B number count time came = come_from B number count time came
come_on Recovery number count time came = came

-- all numbers of a packet's messages are from 1 to 2^64 - 1
abbrev pub has_numbers : ℕ → ℕ → Bool
has_numbers number count = nat_lt 0 number && nat_lt (number + count) 18446744073709551617

-- what is held at a place after a message of it came
abbrev pub held_after : FirstArrival → MessageOn → FirstArrival
held_after held last =
    if nat_lt held.number last.number then record {
      number = last.number;
      time = last.time;
      line = last.line;
      is_met = false;
    }
    else record held {
      is_met = held.is_met
          || (held.number == last.number && not (is_same_line held.line last.line));
    }

-- which line is ahead by time, and how far: of two that bring a message at the same time the one
-- whose arrival is held
abbrev pub lead_from : FirstArrival → MessageOn → Lead
lead_from held last =
    if nat_lt last.time held.time
    then record { line = last.line; took = held.time - last.time }
    else record { line = held.line; took = last.time - held.time }

-- the same, where the other line now brings the message that is held
abbrev pub lead_by : FirstArrival → MessageOn → Option Lead
lead_by held last =
    if held.number == last.number && not (held.is_met || is_same_line held.line last.line)
    then Some (lead_from held last) else None

-- the message came on the line at the time, and on the other line, too, where `is_met` says so
pub record IsFirstOn (line other : LineId) (came : List MessageOn) (held : FirstArrival)
    : Type 0 where
  pub line_is : held.line ≡ line
  pub first : first_on line held.number came ≡ Some held.time
  pub met : is_some (first_on other held.number came) ≡ held.is_met

-- what is held at a message's place: nothing, where no later one came, and it didn't; its own
-- arrival; or a later one's
pub record HoldsFirst (window : ℕ) (came : List MessageOn) (number : ℕ) (held : FirstArrival)
    : Type 0 where
  pub before : held.number < number
      → (first_on A number came ≡ None) × (first_on B number came ≡ None)
      × (is_passed window number came ≡ false)
  pub at : held.number ≡ number
      → (IsFirstOn A B came held ⊎ IsFirstOn B A came held) × (is_passed window number came ≡ false)
  pub after : number < held.number → is_passed window number came ≡ true

-- What is held after these messages of a session, where sessions before it left these leads, those
-- of A first and those of B first.
pub record AreLeadsOf (window : ℕ) (came : List MessageOn) (before_a before_b : List ℕ)
    (leads : LineLeads) : Type 0 where
  pub some : 0 < window
  pub size : length leads.arrivals.items ≡ window
  pub each : (number : ℕ) (held : FirstArrival) → 0 < number
      → slice_get leads.arrivals.items (number % window) ≡ Some held
      → HoldsFirst window came number held
  pub a : AreCounted (leads_of window A B came ++ before_a) leads.a
  pub b : AreCounted (leads_of window B A came ++ before_b) leads.b
