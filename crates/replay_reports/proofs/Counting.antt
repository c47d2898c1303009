-- Counts of events, one event more.
use Rattle.std.proofs.Common.{◌≡◌, ℕ, zero, suc, ◌+◌, ◌<◌, ◌≤◌, ◌==◌, Bool, true, false, cond, List, [], ◌∷◌, Option, Some, None, Result, length, refl, sym, ap, subst, ◌∙◌, arith, eq-eqb}
use Rattle.std.specs.Prelude.{min, slice_index, slice_set, if◌then◌else◌}
use Rattle.std.specs.List.{count_by, filter, sum_by}
use Rattle.std.proofs.lemmas.Bool.{ne_eqb}
use Rattle.std.proofs.lemmas.List.Sums.{sum_by-cons}
use Rattle.feed_types.specs.declared.item.Numbered.{Numbered}
use Rattle.feed_types.specs.declared.journal.Notice.{Notice}
use Rattle.feed_types.specs.declared.line.LineId.{LineId}
use Rattle.feed_types.specs.declared.line.LineId.TheVariants.{A, B, Recovery}
use Rattle.feed_types.specs.declared.national.Best.{Best}
use Rattle.mold_packet.specs.Faults.{code_of}
use Rattle.mold_packet.specs.declared.fault.PacketFault.{PacketFault}
use Rattle.mold_packet.specs.declared.fault.PacketFault.TheVariants.{ShortHeader, TruncatedBlock, ZeroSequence, SequenceOverflow, BufferTooSmall, BadRequestLength}
use Rattle.line_arbiter.specs.Codes.{line_fault_code}
use Rattle.line_arbiter.specs.declared.outcome.LineFault.{LineFault}
use Rattle.line_arbiter.specs.declared.outcome.LineFault.TheVariants.{OtherSession, PastEnd, EndMoved, EndTooEarly, Conflict}
use Rattle.line_arbiter.specs.declared.outcome.Outcome.{Outcome}
use Rattle.event_sinks.specs.SinkEvents.{SinkEvent, told_best, told_item, told_packet, told_refusal}
use Rattle.replay_reports.specs.declared.counts.best_counts.BestCounts.{BestCounts}
use Rattle.replay_reports.specs.declared.counts.best_counts.StateCounts.{StateCounts}
use Rattle.replay_reports.specs.declared.counts.item_counts.ItemCounts.{ItemCounts}
use Rattle.replay_reports.specs.declared.counts.line_counts.LineCounts.{LineCounts}
use Rattle.replay_reports.specs.declared.counts.venue_counts.VenueCounts.{VenueCounts}
use Rattle.report_rows.specs.EventFigures.{bytes_in, is_best_of}
use Rattle.replay_reports.specs.counts.Counts.{best_counts, each_place, is_on_line, is_refused, item_counts, leads_bid, leads_offer, line_counts, state_counts, venue_counts}
use Rattle.replay_reports.specs.times.Figures.{capped}

-- a sum, with one element more
pub summed_more : {X : Type 0} (f : X → ℕ) (x : X) (xs : List X)
    → min (capped (sum_by f xs) + f x) 18446744073709551615 ≡ capped (sum_by f (x ∷ xs))
summed_more f x xs = omega (arith, sum_by-cons f x xs)

-- what stands at a place
pub at_place : (count place i : ℕ) (f : ℕ → ℕ) → i < count
    → slice_index (each_place count place f) i ≡ f (place + i)
unfolding each_place
at_place zero place i f within = absurd (omega (arith, within))
at_place (suc count) place zero f within = ap f (omega arith)
at_place (suc count) place (suc i) f within =
    at_place count (place + 1) i f (omega (arith, within)) ∙ ap f (omega arith)

-- values that are the same at all places
pub same_places : (count place : ℕ) (f g : ℕ → ℕ) → ((k : ℕ) → f k ≡ g k)
    → each_place count place f ≡ each_place count place g
unfolding each_place
same_places zero place f g same = refl
same_places (suc count) place f g same =
    let a = same place in
    let b = same_places count (place + 1) f g same in
    cc

-- values of which one alone is another
pub other_places : (count place : ℕ) (f g : ℕ → ℕ)
    → ((k : ℕ) → place + 0 ≤ k → f k ≡ g k) → each_place count place f ≡ each_place count place g
unfolding each_place
other_places zero place f g same = refl
other_places (suc count) place f g same =
    let a = same place (omega arith) in
    let b = other_places count (place + 1) f g (λ k least. same k (omega (arith, least))) in
    cc

pub one_place_more : (count place i : ℕ) (f g : ℕ → ℕ) (y : ℕ) → i < count → y ≡ g (place + i)
    → ((k : ℕ) → (k ≡ place + i → ⊥) → f k ≡ g k)
    → slice_set (each_place count place f) i y ≡ each_place count place g
unfolding each_place
one_place_more zero place i f g y within is others = absurd (omega (arith, within))
one_place_more (suc count) place zero f g y within is others =
    let here : place + zero ≡ place = omega arith in
    let a : y ≡ g place = is ∙ ap g here in
    let b = other_places count (place + 1) f g
    (λ k least. others k (λ e. absurd (omega (arith, e, least)))) in
    cc
one_place_more (suc count) place (suc i) f g y within is others =
    let next : place + suc i ≡ place + 1 + i = omega arith in
    let a : f place ≡ g place = others place (λ e. absurd (omega (arith, e))) in
    let b = one_place_more count (place + 1) i f g y (omega (arith, within)) (is ∙ ap g next)
    (λ k apart. others k (λ e. apart (e ∙ next))) in
    cc

-- ---- counts at places

counted_in : {X : Type 0} (p : X → Bool) (x : X) (xs : List X) → p x ≡ true
    → min (capped (count_by p xs) + 1) 18446744073709551615 ≡ capped (count_by p (x ∷ xs))
counted_in p x xs is =
    sym (ap (λ (b : Bool). min (capped (count_by p xs) + cond b 1 0) 18446744073709551615) is)
    ∙ summed_more (λ y. cond (p y) 1 0) x xs

counted_out : {X : Type 0} (p : X → Bool) (x : X) (xs : List X) → p x ≡ false
    → capped (count_by p xs) ≡ capped (count_by p (x ∷ xs))
counted_out p x xs is =
    let same : capped (count_by p xs)
    ≡ min (capped (count_by p xs) + 0) 18446744073709551615 = omega arith in
    same
    ∙ sym (ap (λ (b : Bool). min (capped (count_by p xs) + cond b 1 0) 18446744073709551615) is)
    ∙ summed_more (λ y. cond (p y) 1 0) x xs

-- one more at the place to which an element belongs
pub place_counted : {X : Type 0} (count i : ℕ) (p : ℕ → X → Bool) (x : X) (xs : List X)
    → i < count → ((k : ℕ) → p k x ≡ (i == k))
    → slice_set (each_place count 0 (λ k. capped (count_by (p k) xs))) i
    (min (slice_index (each_place count 0 (λ k. capped (count_by (p k) xs))) i + 1)
    18446744073709551615)
    ≡ each_place count 0 (λ k. capped (count_by (p k) (x ∷ xs)))
place_counted count i p x xs within belongs =
    let F : ℕ → ℕ = λ k. capped (count_by (p k) xs) in
    let G : ℕ → ℕ = λ k. capped (count_by (p k) (x ∷ xs)) in
    let here : 0 + i ≡ i = omega arith in
    one_place_more count 0 i F G _ within
    (ap (λ (n : ℕ). min (n + 1) 18446744073709551615) (at_place count 0 i F within ∙ ap F here)
    ∙ counted_in (p i) x xs (belongs i ∙ eq-eqb i i refl) ∙ ap G (sym here))
    (λ k apart. counted_out (p k) x xs
    (belongs k ∙ ne_eqb i k (λ same. apart (sym same ∙ sym here))))

capped_more : (n : ℕ) → min (capped n + 1) 18446744073709551615 ≡ capped (n + 1)
capped_more n = omega arith

more_none : (n : ℕ) → n ≡ n + 0
more_none n = omega arith

count_more : {X : Type 0} (p : X → Bool) (x : X) (xs : List X)
    → capped (count_by p xs + (if p x then 1 else 0)) ≡ capped (count_by p (x ∷ xs))
count_more p x xs = omega (arith, sum_by-cons (λ y. cond (p y) 1 0) x xs)

-- ---- bests at their venues' places

module _ (f : ℕ → ℕ) (old : List ℕ) where
  abbrev Led : Option Best → List ℕ
  Led best = each_place 16 0 (λ venue. capped (f venue + (if is_best_of venue best then 1 else 0)))

  pub led_nowhere : (best : Option Best) → best ≡ None
      → old ≡ each_place 16 0 (λ venue. capped (f venue)) → old ≡ Led best
  led_nowhere best none is =
      subst (λ (b : Option Best). old ≡ Led b) (sym none)
      (is ∙ same_places 16 0 (λ venue. capped (f venue)) (λ venue. capped (f venue + 0))
      (λ k. ap capped (omega arith)))

  pub led_somewhere : (best : Option Best) (b : Best) (place n : ℕ) → best ≡ Some b
      → place ≡ b.venue → place < 16 → n ≡ min (slice_index old place + 1) 18446744073709551615
      → old ≡ each_place 16 0 (λ venue. capped (f venue)) → slice_set old place n ≡ Led best
  led_somewhere best b place n some at within raised is =
      let F : ℕ → ℕ = λ venue. capped (f venue) in
      let G : ℕ → ℕ = λ venue. capped (f venue + (if b.venue == venue then 1 else 0)) in
      let here : 0 + place ≡ place = omega arith in
      let one : n ≡ capped (f place + 1) =
      raised ∙ ap (λ (m : ℕ). min (m + 1) 18446744073709551615)
      (ap (λ (xs : List ℕ). slice_index xs place) is ∙ at_place 16 0 place F within ∙ ap F here)
      ∙ capped_more (f place) in
      subst (λ (o : Option Best). slice_set old place n ≡ Led o) (sym some)
      (ap (λ (xs : List ℕ). slice_set xs place n) is
      ∙ one_place_more 16 0 place F G n within
      (one ∙ ap (λ (x : Bool). capped (f place + (if x then 1 else 0)))
      (sym (eq-eqb b.venue place (sym at))) ∙ ap G (sym here))
      (λ k apart. ap capped (more_none (f k))
      ∙ ap (λ (x : Bool). capped (f k + (if x then 1 else 0)))
      (sym (ne_eqb b.venue k (λ same. apart (sym same ∙ sym at ∙ sym here))))))

-- the counts after a change
pub best_counted : (old : BestCounts) (states : StateCounts) (bids offers : List ℕ)
    (notice : Notice) (before : List SinkEvent) → old ≡ best_counts before
    → states ≡ state_counts (told_best notice ∷ before)
    → bids ≡ each_place 16 0 (λ venue. capped (count_by (leads_bid venue) before
    + (if is_best_of venue notice.national.bid then 1 else 0)))
    → offers ≡ each_place 16 0 (λ venue. capped (count_by (leads_offer venue) before
    + (if is_best_of venue notice.national.offer then 1 else 0)))
    → record { states = states; bids = bids; offers = offers }
    ≡ best_counts (told_best notice ∷ before)
best_counted old states bids offers notice before is a b c =
    let d = b ∙ same_places 16 0 _ (λ venue. capped (count_by (leads_bid venue) (told_best notice
    ∷ before))) (λ k. count_more (leads_bid k) (told_best notice) before) in
    let e = c ∙ same_places 16 0 _ (λ venue. capped (count_by (leads_offer venue) (told_best notice
    ∷ before))) (λ k. count_more (leads_offer k) (told_best notice) before) in
    cc

-- ---- a line

pub line_refused : (old : LineCounts) (before : List SinkEvent) (e : SinkEvent)
    (code packets bytes at : ℕ) → old ≡ line_counts before → code < 12
    → ((k : ℕ) → is_refused k e ≡ (code == k))
    → packets ≡ capped (length (e ∷ before)) → bytes ≡ capped (sum_by bytes_in (e ∷ before))
    → at ≡ min (slice_index old.refused code + 1) 18446744073709551615
    → line_counts (e ∷ before) ≡ record (line_counts before) {
      packets = capped (length (e ∷ before));
      bytes = capped (sum_by bytes_in (e ∷ before));
      refused = each_place 12 0 (λ k. capped (count_by (is_refused k) (e ∷ before)));
    }
    → record old { packets = packets; bytes = bytes; refused = slice_set old.refused code at }
    ≡ line_counts (e ∷ before)
line_refused old before e code packets bytes at is within belongs a b raised same =
    let c : slice_set old.refused code at
    ≡ each_place 12 0 (λ k. capped (count_by (is_refused k) (e ∷ before))) =
    ap (λ (n : ℕ). slice_set old.refused code n) raised
    ∙ ap (λ (o : LineCounts). slice_set o.refused code
    (min (slice_index o.refused code + 1) 18446744073709551615)) is
    ∙ place_counted 12 code (λ k x. is_refused k x) e before within belongs in
    ap (λ (o : LineCounts). record o {
      packets = packets;
      bytes = bytes;
      refused = slice_set old.refused code at;
    }) is
    ∙ ap (λ (n : ℕ). record (line_counts before) {
      packets = n;
      bytes = bytes;
      refused = slice_set old.refused code at;
    }) a
    ∙ ap (λ (n : ℕ). record (line_counts before) {
      packets = capped (length (e ∷ before));
      bytes = n;
      refused = slice_set old.refused code at;
    }) b
    ∙ ap (λ (xs : List ℕ). record (line_counts before) {
      packets = capped (length (e ∷ before));
      bytes = capped (sum_by bytes_in (e ∷ before));
      refused = xs;
    }) c
    ∙ sym same

pub longer : (n m : ℕ) (e : SinkEvent) (before : List SinkEvent)
    → n ≡ capped (length before) → m ≡ min (n + 1) 18446744073709551615
    → m ≡ capped (length (e ∷ before))
longer n m e before is raised = omega (arith, is, raised)

pub fault_codes : (fault : LineFault) → line_fault_code fault < 12
fault_codes OtherSession = omega arith
fault_codes PastEnd = omega arith
fault_codes EndMoved = omega arith
fault_codes EndTooEarly = omega arith
fault_codes Conflict = omega arith

pub packet_codes : (fault : PacketFault) → code_of fault < 12
packet_codes ShortHeader = omega arith
packet_codes TruncatedBlock = omega arith
packet_codes ZeroSequence = omega arith
packet_codes SequenceOverflow = omega arith
packet_codes BufferTooSmall = omega arith
packet_codes BadRequestLength = omega arith

-- ---- a venue

-- a packet on a line
module _ (old : VenueCounts) (venue number count bytes : ℕ) (answer : Result Outcome LineFault)
    (before : List SinkEvent) (l : LineCounts) where
  abbrev ToldPacket : LineId → SinkEvent
  ToldPacket line = told_packet venue line number count bytes answer

  abbrev OnPacket : (LineCounts → VenueCounts) → LineCounts → LineId → Type 0
  OnPacket put was line =
      ((events : List SinkEvent) → was ≡ line_counts events
      → l ≡ line_counts (ToldPacket line ∷ events))
      → put l ≡ venue_counts (ToldPacket line ∷ before)

  pub heard_a : old ≡ venue_counts before → (line : LineId) → line ≡ A
      → OnPacket (λ x. record old { lines = record old.lines { a = x } }) old.lines.a line
  heard_a is line at =
      subst (OnPacket (λ x. record old { lines = record old.lines { a = x } }) old.lines.a)
      (sym at)
      (λ more. ap (λ (o : VenueCounts). record o { lines = record o.lines { a = l } }) is
      ∙ ap (λ (x : LineCounts). record (venue_counts before) {
        lines = record (venue_counts before).lines { a = x };
      }) (more (filter (is_on_line A) before) (ap (λ (o : VenueCounts). o.lines.a) is)))

  pub heard_b : old ≡ venue_counts before → (line : LineId) → line ≡ B
      → OnPacket (λ x. record old { lines = record old.lines { b = x } }) old.lines.b line
  heard_b is line at =
      subst (OnPacket (λ x. record old { lines = record old.lines { b = x } }) old.lines.b)
      (sym at)
      (λ more. ap (λ (o : VenueCounts). record o { lines = record o.lines { b = l } }) is
      ∙ ap (λ (x : LineCounts). record (venue_counts before) {
        lines = record (venue_counts before).lines { b = x };
      }) (more (filter (is_on_line B) before) (ap (λ (o : VenueCounts). o.lines.b) is)))

  pub heard_recovery : old ≡ venue_counts before → (line : LineId) → line ≡ Recovery
      → OnPacket
      (λ x. record old { lines = record old.lines { recovery = x } }) old.lines.recovery line
  heard_recovery is line at =
      subst (OnPacket
      (λ x. record old { lines = record old.lines { recovery = x } }) old.lines.recovery)
      (sym at)
      (λ more. ap (λ (o : VenueCounts). record o { lines = record o.lines { recovery = l } }) is
      ∙ ap (λ (x : LineCounts). record (venue_counts before) {
        lines = record (venue_counts before).lines { recovery = x };
      }) (more (filter (is_on_line Recovery) before) (ap (λ
      (o : VenueCounts). o.lines.recovery) is)))

-- a datagram on a line that is no packet
module _ (old : VenueCounts) (venue : ℕ) (fault : PacketFault)
    (before : List SinkEvent) (l : LineCounts) where
  abbrev ToldRefusal : LineId → SinkEvent
  ToldRefusal line = told_refusal venue line fault

  abbrev OnRefusal : (LineCounts → VenueCounts) → LineCounts → LineId → Type 0
  OnRefusal put was line =
      ((events : List SinkEvent) → was ≡ line_counts events
      → l ≡ line_counts (ToldRefusal line ∷ events))
      → put l ≡ venue_counts (ToldRefusal line ∷ before)

  pub refused_a : old ≡ venue_counts before → (line : LineId) → line ≡ A
      → OnRefusal (λ x. record old { lines = record old.lines { a = x } }) old.lines.a line
  refused_a is line at =
      subst (OnRefusal (λ x. record old { lines = record old.lines { a = x } }) old.lines.a)
      (sym at)
      (λ more. ap (λ (o : VenueCounts). record o { lines = record o.lines { a = l } }) is
      ∙ ap (λ (x : LineCounts). record (venue_counts before) {
        lines = record (venue_counts before).lines { a = x };
      }) (more (filter (is_on_line A) before) (ap (λ (o : VenueCounts). o.lines.a) is)))

  pub refused_b : old ≡ venue_counts before → (line : LineId) → line ≡ B
      → OnRefusal (λ x. record old { lines = record old.lines { b = x } }) old.lines.b line
  refused_b is line at =
      subst (OnRefusal (λ x. record old { lines = record old.lines { b = x } }) old.lines.b)
      (sym at)
      (λ more. ap (λ (o : VenueCounts). record o { lines = record o.lines { b = l } }) is
      ∙ ap (λ (x : LineCounts). record (venue_counts before) {
        lines = record (venue_counts before).lines { b = x };
      }) (more (filter (is_on_line B) before) (ap (λ (o : VenueCounts). o.lines.b) is)))

  pub refused_recovery : old ≡ venue_counts before → (line : LineId) → line ≡ Recovery
      → OnRefusal
      (λ x. record old { lines = record old.lines { recovery = x } }) old.lines.recovery line
  refused_recovery is line at =
      subst (OnRefusal
      (λ x. record old { lines = record old.lines { recovery = x } }) old.lines.recovery)
      (sym at)
      (λ more. ap (λ (o : VenueCounts). record o { lines = record o.lines { recovery = l } }) is
      ∙ ap (λ (x : LineCounts). record (venue_counts before) {
        lines = record (venue_counts before).lines { recovery = x };
      }) (more (filter (is_on_line Recovery) before) (ap (λ
      (o : VenueCounts). o.lines.recovery) is)))

-- an item
pub items_counted : (old : VenueCounts) (items : ItemCounts) (venue : ℕ) (numbered : Numbered)
    (before : List SinkEvent) → old ≡ venue_counts before
    → ((events : List SinkEvent) → old.items ≡ item_counts events
    → items ≡ item_counts (told_item venue numbered ∷ events))
    → record old { items = items } ≡ venue_counts (told_item venue numbered ∷ before)
items_counted old items venue numbered before is more =
    ap (λ (o : VenueCounts). record o { items = items }) is
    ∙ ap (λ (x : ItemCounts). record (venue_counts before) { items = x })
    (more before (ap (λ (o : VenueCounts). o.items) is))
