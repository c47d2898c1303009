-- The gaps of a line that are open, after a packet more.
use Rattle.std.proofs.Common.{◌≡◌, ℕ, ◌+◌, ◌-◌, ◌<◌, ◌≤◌, inl, inr, Bool, true, false, List, [], ◌∷◌, ◌++◌, length, zero, suc, arith, ap, refl, sym, subst, ◌∙◌, max, Option, None, Some}
use Rattle.std.specs.Prelude.{◌&&◌, nat_le, nat_lt, if◌then◌else◌}
use Rattle.std.specs.List.{filter, fold}
use Rattle.std.proofs.lemmas.Bool.{cases_Bool}
use Rattle.std.proofs.lemmas.Bool.Decides.{nat_tests}
use Rattle.event_sinks.specs.SinkEvents.{TimedEvent}
use Rattle.line_gaps.specs.declared.gap_line.GapLine.{GapLine}
use Rattle.line_gaps.specs.declared.heard_packet.TimedPacket.{TimedPacket}
use Rattle.line_gaps.specs.declared.open_gap.OpenGap.{OpenGap}
use Rattle.line_gaps.specs.Ends.{joined_gap, open_gap_of}
use Rattle.line_gaps.specs.Gaps.{counts_on, counts_with, highest_on, highest_with, is_missing, known_number, last_number_told}
use Rattle.line_gaps.specs.LineSteps.{Reaches}
use Rattle.line_gaps.specs.OpenGaps.{add_gap, is_open_after, join_newest, gap_passed}
use Rattle.line_gaps.specs.Runs.{count_below, count_in_run}
use Rattle.line_gaps.specs.VenueFits.{AreStanding, IsStanding}
use Rattle.line_gaps.proofs.LineLemmas.{if_not, if_yes}

-- ---- more numbers

one_grows : (a b : Bool) → (a ≡ true → b ≡ true)
    → (if a then 1 else 0) ≤ (if b then 1 else 0)
one_grows true true f = omega arith
one_grows true false f = cc (f refl)
one_grows false b f = omega arith

set_grows : (p q : ℕ → Bool) (n : ℕ) → ((k : ℕ) → p k ≡ true → q k ≡ true)
    → count_below p n ≤ count_below q n
set_grows p q zero f = omega arith
set_grows p q (suc n) f =
    let rest : count_below p n ≤ count_below q n = set_grows p q n f in
    let this : (if p n then 1 else 0) ≤ (if q n then 1 else 0) = one_grows (p n) (q n) (f n) in
    omega (arith, rest, this)

count_grows : (p : ℕ → Bool) (n k : ℕ) → count_below p n ≤ count_below p (n + k)
count_grows p n zero =
    let same : n + 0 ≡ n = omega arith in
    rw same (omega arith)
count_grows p n (suc k) =
    let rest : count_below p n ≤ count_below p (n + k) = count_grows p n k in
    let same : n + suc k ≡ suc (n + k) = omega arith in
    let this : 0 ≤ (if p (n + k) then 1 else 0) = omega arith in
    rw same (omega (arith, rest, this))

longer_in : (m a b c : ℕ) → b ≤ c → (nat_le a m && nat_le m b) ≡ true
    → (nat_le a m && nat_le m c) ≡ true
longer_in m a b c more e = grind (arith, nat_tests, more, e)

and_more : (a b has : Bool) → (a ≡ true → b ≡ true) → (a && has) ≡ true → (b && has) ≡ true
and_more true b has f e = rw (f refl) e
and_more false b has f e = cc e

-- a run that is longer
run_grows : (has : ℕ → Bool) (a b c : ℕ) → b ≤ c
    → count_in_run has (record { first = a; last = b })
    ≤ count_in_run has (record { first = a; last = c })
run_grows has a b c more =
    let short = λ (m : ℕ). (nat_le a m && nat_le m b) && has m in
    let long = λ (m : ℕ). (nat_le a m && nat_le m c) && has m in
    let sets : count_below short (b + 1) ≤ count_below long (b + 1) =
    set_grows short long (b + 1) (λ m e. and_more (nat_le a m && nat_le m b)
    (nat_le a m && nat_le m c) (has m) (longer_in m a b c more) e) in
    let on : count_below long (b + 1) ≤ count_below long ((b + 1) + (c - b)) =
    count_grows long (b + 1) (c - b) in
    let same : (b + 1) + (c - b) ≡ c + 1 = omega (arith, more) in
    let to : count_below long ((b + 1) + (c - b)) ≡ count_below long (c + 1) =
    ap (λ (k : ℕ). count_below long k) same in
    omega (arith, sets, on, to)

some_more : (m n : ℕ) → m ≤ n → nat_lt 0 m ≡ true → nat_lt 0 n ≡ true
some_more m n more e = grind (arith, nat_tests, more, e)

-- ---- a gap more

abbrev pub AreBelow : ℕ → List OpenGap → Type 0
AreBelow n [] = Unit
AreBelow n (gap ∷ gaps) = (gap.run.last ≤ n) × AreBelow n gaps

joined_stands : (line : GapLine) (events : List TimedEvent) (one gap : OpenGap)
    → IsStanding line events one → IsStanding line events gap → one.run.last ≤ gap.run.last
    → IsStanding line events (joined_gap one gap)
joined_stands line events one gap first next below = record {
  is_open = some_more _ _ (run_grows (is_missing events) one.run.first one.run.last gap.run.last
      below) first.is_open;
  known = next.known;
  passed = next.passed;
}

join_stands : (line : GapLine) (events : List TimedEvent) (gaps : List OpenGap) (gap : OpenGap)
    → AreStanding line events gaps → IsStanding line events gap → AreBelow gap.run.last gaps
    → AreStanding line events (join_newest gaps gap)
join_stands line events [] gap stand is below = (is, tt)
join_stands line events (one ∷ []) gap stand is below =
    (joined_stands line events one gap stand.0 is below.0, tt)
join_stands line events (one ∷ next ∷ more) gap stand is below =
    (stand.0, join_stands line events (next ∷ more) gap stand.1 is below.1)

append_stands : (line : GapLine) (events : List TimedEvent) (gaps : List OpenGap) (gap : OpenGap)
    → AreStanding line events gaps → IsStanding line events gap
    → AreStanding line events (gaps ++ gap ∷ [])
append_stands line events [] gap stand is = (is, tt)
append_stands line events (one ∷ gaps) gap stand is =
    (stand.0, append_stands line events gaps gap stand.1 is)

add_stands : (line : GapLine) (events : List TimedEvent) (gaps : List OpenGap) (gap : OpenGap)
    → AreStanding line events gaps → IsStanding line events gap → AreBelow gap.run.last gaps
    → AreStanding line events (add_gap gaps gap)
add_stands line events gaps gap stand is below =
    elim (cases_Bool (nat_lt (length gaps) 16)) [
      | inl room ↦
          subst (λ (gs : List OpenGap). AreStanding line events gs)
          (sym (if_yes (nat_lt (length gaps) 16) _ _ room))
          (append_stands line events gaps gap stand is)
      | inr full ↦
          subst (λ (gs : List OpenGap). AreStanding line events gs)
          (sym (if_not (nat_lt (length gaps) 16) _ _ full))
          (join_stands line events gaps gap stand is below)
    ]

all_below : (n k : ℕ) (gaps : List OpenGap) → n ≤ k → AreBelow n gaps → AreBelow k gaps
all_below n k [] more below = tt
all_below n k (gap ∷ gaps) more below =
    let last = below.0 in
    (omega (arith, more, last), all_below n k gaps more below.1)

pub stand_below : (line : GapLine) (earlier : List TimedEvent) (gaps : List OpenGap)
    → AreStanding line earlier gaps → AreBelow (highest_on line earlier) gaps
stand_below line earlier [] stand = tt
stand_below line earlier (gap ∷ gaps) stand =
    (stand.0.passed, stand_below line earlier gaps stand.1)

pub filter_below : (n : ℕ) (p : OpenGap → Bool) (gaps : List OpenGap) → AreBelow n gaps
    → AreBelow n (filter p gaps)
filter_below n p [] below = tt
filter_below n p (gap ∷ gaps) below = elim (cases_Bool (p gap)) [
  | inl is ↦
      subst (λ (gs : List OpenGap). AreBelow n gs) (sym (if_yes (p gap) _ _ is))
      (below.0, filter_below n p gaps below.1)
  | inr is ↦
      subst (λ (gs : List OpenGap). AreBelow n gs) (sym (if_not (p gap) _ _ is))
      (filter_below n p gaps below.1)
]

told_within : (base : ℕ) (o : Option TimedPacket) (packet : TimedPacket) → o ≡ Some packet
    → last_number_told packet.number packet.count ≤ highest_with base o
told_within base o packet is =
    let reach : highest_with base o ≡ max base (last_number_told packet.number packet.count) =
    ap (λ (p : Option TimedPacket). highest_with base p) is in
    omega (arith, reach)

below_is : (m n : ℕ) → nat_lt m n ≡ true → m < n
below_is m n e = grind (arith, nat_tests, e)

-- it is this packet, if it is one
abbrev pub IsOneOf : Option TimedPacket → TimedPacket → Type 0
IsOneOf None packet = Unit
IsOneOf (Some p) packet = p ≡ packet

-- what a packet of the line begins
begun_stands : (line : GapLine) (earlier : List TimedEvent) (last : TimedEvent)
    (packet : TimedPacket) (gaps : List OpenGap)
    → counts_with earlier last.time last.event ≡ Some packet
    → counts_on line earlier last ≡ Some packet
    → Reaches (Some packet)
    → AreStanding line (last ∷ earlier) gaps → AreBelow (highest_on line earlier) gaps
    → AreStanding line (last ∷ earlier) (fold add_gap gaps (filter (is_open_after (last ∷ earlier))
    (gap_passed (highest_on line earlier) (Some packet))))
begun_stands line earlier last packet gaps counts own reaches stand below =
    let highest = highest_on line earlier in
    let p = is_open_after (last ∷ earlier) in
    let told = last_number_told packet.number packet.count in
    elim (cases_Bool (nat_lt (highest + 1) packet.number)) [
      | inr within ↦
          subst (λ (gs : List OpenGap). AreStanding line (last ∷ earlier)
          (fold add_gap gaps (filter p gs))) (sym (if_not (nat_lt (highest + 1) packet.number)
          (open_gap_of (record { first = highest + 1; last = packet.number - 1 }) packet.time ∷ [])
          [] within)) stand
      | inl past ↦
          let gap = open_gap_of (record { first = highest + 1; last = packet.number - 1 })
          packet.time in
          let known_is : known_number (last ∷ earlier) ≡ max (known_number earlier) told =
          ap (λ (o : Option TimedPacket). highest_with (known_number earlier) o) counts in
          let high_is : told ≤ highest_on line (last ∷ earlier) =
          told_within _ (counts_on line earlier last) packet own in
          let over : highest + 1 < packet.number = below_is (highest + 1) packet.number past in
          subst (λ (gs : List OpenGap). AreStanding line (last ∷ earlier)
          (fold add_gap gaps (filter p gs))) (sym (if_yes (nat_lt (highest + 1) packet.number)
          (gap ∷ []) [] past))
          (elim (cases_Bool (p gap)) [
            | inl is ↦
                subst (λ (gs : List OpenGap). AreStanding line (last ∷ earlier)
                (fold add_gap gaps gs)) (sym (if_yes (p gap) (gap ∷ []) [] is))
                (add_stands line (last ∷ earlier) gaps gap stand
                (record {
                  is_open = is;
                  known = omega (arith, reaches, known_is);
                  passed = omega (arith, reaches, high_is);
                })
                (all_below highest (packet.number - 1) gaps (omega (arith, over)) below))
            | inr is ↦
                subst (λ (gs : List OpenGap). AreStanding line (last ∷ earlier)
                (fold add_gap gaps gs)) (sym (if_not (p gap) (gap ∷ []) [] is)) stand
          ])
    ]

-- what a packet begins on a line, whether it is of the line or not
pub passed_stands : (line : GapLine) (earlier : List TimedEvent) (last : TimedEvent)
    (packet : TimedPacket) (o : Option TimedPacket) (gaps : List OpenGap)
    → counts_with earlier last.time last.event ≡ Some packet
    → counts_on line earlier last ≡ o → IsOneOf o packet
    → Reaches o
    → AreStanding line (last ∷ earlier) gaps → AreBelow (highest_on line earlier) gaps
    → AreStanding line (last ∷ earlier) (fold add_gap gaps (filter (is_open_after (last ∷ earlier))
    (gap_passed (highest_on line earlier) o)))
passed_stands line earlier last packet None gaps counts own one reaches stand below = stand
passed_stands line earlier last packet (Some p) gaps counts own one reaches stand below =
    begun_stands line earlier last p gaps (counts ∙ ap Some (sym one)) own reaches stand below
