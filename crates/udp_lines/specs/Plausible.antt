-- Which datagrams of a line are withheld, by their numbers and by the ends that they are.
use Rattle.std.specs.Prelude.{◌≡◌, ◌⊎◌, ◌==◌, ℕ, ◌+◌, ◌-◌, ◌^◌, ◌≤◌, ◌&&◌, ◌||◌, not, nat_le, nat_lt, Bool, true, false, List, length, take, max, min, Option, None, Some, is_some, IsTrue, if◌then◌else◌}
use Rattle.mold_packet.specs.declared.request.Request.{Request}
use Rattle.mold_packet.specs.Request.{SpellsRequest}
use Rattle.run_settings.specs.declared.end_rule.EndRule.{EndRule}
use Rattle.run_settings.specs.declared.end_rule.EndRule.TheVariants.{NoSession}
use Rattle.udp_lines.specs.EndsOfSessions.{SpellsEndOf}
use Rattle.udp_lines.specs.declared.number_check.HeldFor.{HeldFor}
use Rattle.udp_lines.specs.declared.number_check.HeldFor.TheVariants.{Nothing, Number, End, Call}
use Rattle.udp_lines.specs.declared.number_check.NumberCheck.{NumberCheck}
use Rattle.udp_lines.specs.declared.number_check.Row.{Row}
use Rattle.udp_lines.specs.declared.number_check.Verdict.{Verdict}
use Rattle.udp_lines.specs.declared.number_check.Verdict.TheVariants as verdicts
use Rattle.udp_lines.specs.declared.venue_marks.OthersSeen.{OthersSeen}

-- The bytes begin with a packet's header, which is laid out as a request is.
pub record HasHeader (bytes : List ℕ) (header : Request) : Type 0 where
  pub long : 20 ≤ length bytes
  pub from_one : 1 ≤ header.number
  pub spells : SpellsRequest (take 20 bytes) header

-- the number of the last message that a packet of this header announces: its last one, or the one
-- before its number; 2^64 - 1 at most
abbrev pub announced_by : Request → ℕ
announced_by header =
    min (header.number - 1 + (if nat_lt header.count 65535 then header.count else 0)) (2 ^ 64 - 1)

-- the number is more than `most` past the highest one
abbrev pub is_past : ℕ → ℕ → ℕ → Bool
is_past most highest number = nat_lt (highest + most) number

-- The row of numbers too far ahead after one more: it goes on where that is not below the last one
-- and at most `most` past it.
abbrev pub far_row_after : ℕ → Row → ℕ → Row
far_row_after most row number =
    record {
      number = number;
      times =
          if nat_lt 0 row.times
          && (nat_le row.number number && not (is_past most row.number number))
          then min (row.times + 1) 255 else 1;
    }

-- the bytes announce a number of the session that is past the highest one by more than is asked
pub record IsFar (session : List ℕ) (most_ahead : Option ℕ) (highest : ℕ) (bytes : List ℕ)
    : Type 0 where
  pub most : ℕ
  pub asked : most_ahead ≡ Some most
  pub header : Request
  pub has : HasHeader bytes header
  pub of : header.session ≡ session
  pub past : IsTrue (is_past most highest (announced_by header))

-- the highest number covers what the bytes announce, where they are of the session
abbrev pub Covers : (session bytes : List ℕ) → (highest : ℕ) → Type 0
Covers session bytes highest =
    (header : Request) → HasHeader bytes header → header.session ≡ session
    → announced_by header ≤ highest

-- the bytes are an end of some session
abbrev pub IsAnEnd : List ℕ → Type 0
IsAnEnd bytes = (session : List ℕ) × SpellsEndOf session bytes

-- Why a line withholds a datagram that is of one of its senders: what it announces is too far past
-- the highest number that the line itself has handed on; or it is an end of session, and the line
-- hands none on.
abbrev pub IsWithheld : EndRule → Option ℕ → (session : List ℕ) → (highest : ℕ) → List ℕ → Type 0
IsWithheld rule most_ahead session highest bytes =
    IsFar session most_ahead highest bytes ⊎ ((rule ≡ NoSession) × IsAnEnd bytes)

-- Why it holds one: that, or it is an end of the session.
abbrev pub MayBeHeld : Option ℕ → (session : List ℕ) → (highest : ℕ) → List ℕ → Type 0
MayBeHeld most_ahead session highest bytes =
    IsFar session most_ahead highest bytes
    ⊎ (SpellsEndOf session bytes × IsTrue (is_some most_ahead))

-- ---- the verdict on a datagram of the session, by what the line knows and what it sees of others

-- the highest number that a line of the venue has brought; 0 where none has brought any
abbrev pub highest_of : NumberCheck → OthersSeen → ℕ
highest_of check seen = max check.highest seen.highest

-- the number agrees with that of the datagram that is held: it is not below it, and at most `most`
-- past it
abbrev pub agrees : ℕ → HeldFor → ℕ → Bool
agrees most (Number held) number = nat_le held number && not (is_past most held number)
agrees most _ number = false

-- A number too far ahead is withheld twice, and the third one in a row counts. Before any line of
-- the venue has brought a number the first one is held, and comes with the second that agrees.
abbrev pub far_verdict : ℕ → NumberCheck → OthersSeen → ℕ → Verdict
far_verdict most check seen number =
    if nat_lt 0 (highest_of check seen)
    then (if nat_lt (far_row_after most check.far number).times 3 then verdicts.TooFar
    else verdicts.Plausible)
    else (if agrees most check.held_for number then verdicts.Second else verdicts.First)

abbrev pub number_verdict : ℕ → NumberCheck → OthersSeen → ℕ → Verdict
number_verdict most check seen number =
    if is_past most (highest_of check seen) number then far_verdict most check seen number
    else verdicts.Plausible

-- the row of ends after one more, which goes on where it is the same
abbrev pub ends_after : Row → ℕ → Row
ends_after row number =
    record {
      number = number;
      times = if row.number == number then min (row.times + 1) 255 else 1;
    }

-- an end counts once the other line has brought it, or this one three times in a row
abbrev pub counts_as_end : NumberCheck → OthersSeen → ℕ → Bool
counts_as_end check seen number =
    (seen.end == number) || nat_le 3 (ends_after check.ends number).times

abbrev pub end_verdict : NumberCheck → OthersSeen → ℕ → Verdict
end_verdict check seen number =
    if counts_as_end check seen number then verdicts.Plausible else verdicts.Unconfirmed

-- the verdict on a datagram, by that on its number and, where it is an end, that on the end
abbrev pub then_end : Verdict → (is_end : Bool) → Verdict → Verdict
then_end verdicts.Plausible true of_end = of_end
then_end of_number _ _ = of_number

abbrev pub header_verdict : ℕ → NumberCheck → OthersSeen → Request → (is_end : Bool) → Verdict
header_verdict most check seen header is_end =
    then_end (number_verdict most check seen (announced_by header)) is_end
    (end_verdict check seen header.number)

-- ---- what the line knows then

abbrev pub far_row_of : ℕ → NumberCheck → OthersSeen → ℕ → Row
far_row_of most check seen number =
    if nat_lt 0 (highest_of check seen) then far_row_after most check.far number else check.far

abbrev pub held_for_far : ℕ → NumberCheck → OthersSeen → ℕ → HeldFor
held_for_far most check seen number =
    if nat_lt 0 (highest_of check seen) then check.held_for
    else (if agrees most check.held_for number then Call number else Number number)

-- a number that comes in place of one that is held
abbrev pub without_number : HeldFor → HeldFor
without_number (Number held) = Nothing
without_number held_for = held_for

abbrev pub number_checked : ℕ → NumberCheck → OthersSeen → ℕ → NumberCheck
number_checked most check seen number =
    if is_past most (highest_of check seen) number
    then record check {
      far = far_row_of most check seen number;
      held_for = held_for_far most check seen number;
    }
    else record check {
      far = record { number = 0; times = 0 };
      held_for = without_number check.held_for;
    }

abbrev pub end_checked : NumberCheck → OthersSeen → ℕ → NumberCheck
end_checked check seen number =
    record check {
      ends = ends_after check.ends number;
      held_for = if counts_as_end check seen number then check.held_for else End number;
    }

abbrev pub then_end_checked : Verdict → (is_end : Bool) → NumberCheck → OthersSeen → ℕ → NumberCheck
then_end_checked verdicts.Plausible true check seen number = end_checked check seen number
then_end_checked _ _ check seen number = check

abbrev pub header_checked : ℕ → NumberCheck → OthersSeen → Request → (is_end : Bool) → NumberCheck
header_checked most check seen header is_end =
    let number = announced_by header in
    then_end_checked (number_verdict most check seen number) is_end
    (number_checked most check seen number) seen header.number

-- the verdict on a datagram of the session, and what the line knows then but for the highest number
pub record IsJudgedAs (most : ℕ) (check : NumberCheck) (seen : OthersSeen) (header : Request)
    (is_end : Bool) (verdict : Verdict) (after : NumberCheck) : Type 0 where
  pub verdict_is : verdict ≡ header_verdict most check seen header is_end
  pub knows : after
      ≡ record (header_checked most check seen header is_end) { highest = after.highest }

-- So it is of bytes that have such a header, an end where they are an end of the session, unless no
-- end is handed on and they are one.
abbrev pub IsJudged : NumberCheck → List ℕ → Option (List ℕ) → OthersSeen → Verdict → NumberCheck
    → Type 0
IsJudged check bytes ended seen verdict after =
    (most : ℕ) (header : Request) → check.most_ahead ≡ Some most → HasHeader bytes header
    → header.session ≡ check.session
    → (IsTrue (is_some ended) → check.end_rule ≡ NoSession → ⊥)
    → (ended ≡ Some check.session → IsJudgedAs most check seen header true verdict after)
    × ((ended ≡ Some check.session → ⊥)
    → IsJudgedAs most check seen header false verdict after)

-- the datagram that is held is handed on by now
abbrev pub is_confirmed_of : ℕ → HeldFor → (highest : ℕ) → (end : ℕ) → Bool
is_confirmed_of most Nothing highest end = false
is_confirmed_of most (Number number) highest end = not (is_past most highest number)
is_confirmed_of most (End number) highest end = end == number
is_confirmed_of most (Call number) highest end = true

abbrev pub confirmed_if : Option ℕ → HeldFor → (highest : ℕ) → (end : ℕ) → Bool
confirmed_if None held_for highest end = false
confirmed_if (Some most) held_for highest end = is_confirmed_of most held_for highest end

abbrev pub is_confirmed : NumberCheck → OthersSeen → Bool
is_confirmed check seen =
    confirmed_if check.most_ahead check.held_for (highest_of check seen) seen.end
