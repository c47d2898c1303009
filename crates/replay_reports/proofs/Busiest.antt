-- The busiest period, with messages more.
use Rattle.std.proofs.Common.{◌≡◌, ℕ, List, [], ◌∷◌, Option, length, refl, ap, ◌∙◌, arith}
use Rattle.std.specs.Prelude.{max, slice_index_or, slice_set, if◌then◌else◌}
use Rattle.std.specs.List.{refill}
use Rattle.feed_types.specs.FullCounts.{count_after}
use Rattle.report_rows.specs.PeriodLists.{begun, entered, entered_place, is_late}
use Rattle.report_rows.specs.declared.kept_periods.KeptPeriod.{KeptPeriod}
use Rattle.replay_reports.specs.declared.times.busiest_period.BusiestPeriod.{BusiestPeriod}
use Rattle.replay_reports.specs.times.Busiest.{HoldsBusiest, MessagesAt, began_with, begin_of, busiest_began, counts_in, entered_by, late_datagrams, messages_at, most_messages, periods_of, place_in, with_messages}

-- what a slice of the whole list was left as
pub refill_whole : {X : Type 0} (xs ws : List X) → length ws ≡ length xs
    → refill (length xs) xs ws ≡ ws
refill_whole [] [] same = refl
refill_whole [] (w ∷ ws) same = absurd (omega (arith, same))
refill_whole (x ∷ xs) [] same = absurd (omega (arith, same))
refill_whole (x ∷ xs) (w ∷ ws) same =
    ap (λ (rest : List _). w ∷ rest) (refill_whole xs ws (omega (arith, same)))

pub busier : (length time messages begin place : ℕ) (came : List MessagesAt)
    (old new : BusiestPeriod) (now : List (KeptPeriod ℕ)) (period : KeptPeriod ℕ)
    → HoldsBusiest length came old → begin ≡ begin_of length time
    → now ≡ entered begin 0 old.kept.kept.items → place ≡ entered_place begin old.kept.kept.items
    → period ≡ with_messages messages (slice_index_or now place (begun 0 0))
    → new.kept.kept.items ≡ slice_set now place period
    → new.began ≡ began_with old.messages period old.began
    → new.messages ≡ max old.messages period.figures
    → new.kept.late ≡ count_after old.kept.late
    (if is_late begin old.kept.kept.items then 1 else 0)
    → HoldsBusiest length (messages_at time messages ∷ came) new
busier length time messages begin place came old new now period holds begins enters at more put
    began_is most late_is =
    let last = messages_at time messages in
    let ps = periods_of length came in
    let e : now ≡ entered_by length last ps =
    enters ∙ ap (λ (x : ℕ). entered x 0 old.kept.kept.items) begins
    ∙ ap (λ (xs : List (KeptPeriod ℕ)). entered (begin_of length time) 0 xs) holds.kept in
    let p : place ≡ place_in length last ps =
    at ∙ ap (λ (x : ℕ). entered_place x old.kept.kept.items) begins
    ∙ ap (λ (xs : List (KeptPeriod ℕ)). entered_place (begin_of length time) xs) holds.kept in
    let c : period ≡ counts_in length last ps =
    more ∙ ap (λ (xs : List (KeptPeriod ℕ)). with_messages messages
    (slice_index_or xs place (begun 0 0))) e
    ∙ ap (λ (k : ℕ). with_messages messages
    (slice_index_or (entered_by length last ps) k (begun 0 0))) p in
    record {
      kept = put ∙ ap (λ (xs : List (KeptPeriod ℕ)). slice_set xs place period) e
          ∙ ap (λ (k : ℕ). slice_set (entered_by length last ps) k period) p
          ∙ ap (λ (x : KeptPeriod ℕ). slice_set (entered_by length last ps)
          (place_in length last ps) x) c;
      messages = most ∙ ap (λ (n : ℕ). max n period.figures) holds.messages
          ∙ ap (λ (x : KeptPeriod ℕ). max (most_messages length came) x.figures) c;
      began = began_is ∙ ap (λ (n : ℕ). began_with n period old.began) holds.messages
          ∙ ap (λ (x : KeptPeriod ℕ). began_with (most_messages length came) x old.began) c
          ∙ ap (λ (o : Option ℕ). began_with (most_messages length came)
          (counts_in length last ps) o) holds.began;
      late = late_is
          ∙ ap (λ (n : ℕ). count_after n
          (if is_late begin old.kept.kept.items then 1 else 0)) holds.late
          ∙ ap (λ (x : ℕ). count_after (late_datagrams length came)
          (if is_late x old.kept.kept.items then 1 else 0)) begins
          ∙ ap (λ (xs : List (KeptPeriod ℕ)). count_after (late_datagrams length came)
          (if is_late (begin_of length time) xs then 1 else 0)) holds.kept;
    }
