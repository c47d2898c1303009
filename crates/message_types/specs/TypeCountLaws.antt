-- Laws of the counts of messages by type: messages after messages are counted one after the other.
use Rattle.std.proofs.Common.{◌≡◌, ℕ, zero, suc, ◌+◌, List, [], ◌++◌, cond, refl, sym, ap, subst, ◌∙◌, arith}
use Rattle.std.specs.List.{count_by}
use Rattle.std.proofs.lemmas.List.Elements.{filter-append}
use Rattle.std.proofs.lemmas.List.Sums.{sum_by-append}
use Rattle.feed_types.specs.FullCounts.{count_after}
use Rattle.run_settings.specs.declared.time_span.TimeSpan.{TimeSpan}
use Rattle.run_settings.specs.TimeSpans.{is_in_span}
use Rattle.capture_records.specs.Formats.{TimedRecord}
use Rattle.message_types.specs.declared.counts.TypeCounts.{TypeCounts}
use Rattle.message_types.specs.LineMessages.{LineMessages, came_on}
use Rattle.message_types.specs.LineMessageLaws.{brings_more, messages_more}
use Rattle.message_types.specs.TypeCounts.{AddsCounts, CountsMessages, CountsRecords, messages_on, records_in, type_count_at}
use Rattle.message_types.specs.Types.{is_of_type}

-- a count that goes up twice
twice : (count m n : ℕ) → count_after (count_after count m) n ≡ count_after count (m + n)
twice count zero zero = refl
twice count zero (suc n) =
    let same : suc n ≡ zero + suc n = omega arith in ap (count_after count) same
twice count (suc m) zero =
    let same : suc m ≡ suc m + zero = omega arith in ap (count_after count) same
twice count (suc m) (suc n) =
    let sum : suc m + suc n ≡ suc (m + suc n) = omega arith in
    let one : count_after (count_after count (suc m)) (suc n) ≡ count_after count
    (suc (m + suc n)) = omega arith in
    one ∙ ap (count_after count) (sym sum)

counted_both : (place count : ℕ) (some others : List (List ℕ))
    → count_after (count_after count (count_by (is_of_type place) some))
    (count_by (is_of_type place) others)
    ≡ count_after count (count_by (is_of_type place) (some ++ others))
counted_both place count some others =
    twice count (count_by (is_of_type place) some) (count_by (is_of_type place) others)
    ∙ ap (count_after count)
    (sym (sum_by-append (λ (m : List ℕ). cond (is_of_type place m) 1 0) some others))

pub type_adds_none : (counts : TypeCounts) → AddsCounts counts [] counts
type_adds_none counts = λ venue line place few less. refl

pub type_adds_more : (a b c : TypeCounts) (some others : List LineMessages) → AddsCounts a some b
    → AddsCounts b others c → AddsCounts a (some ++ others) c
type_adds_more a b c some others x y = λ venue line place few less.
    let first = messages_on venue line some in
    let next = messages_on venue line others in
    y venue line place few less
    ∙ ap (λ (n : ℕ). count_after n (count_by (is_of_type place) next))
    (x venue line place few less)
    ∙ counted_both place (type_count_at a venue line place) first next
    ∙ ap (λ (ms : List (List ℕ)). count_after (type_count_at a venue line place)
    (count_by (is_of_type place) ms)) (sym (messages_more (came_on venue line) some others))

-- no record
pub type_counts_none : (counts : TypeCounts) → CountsMessages counts [] counts
type_counts_none counts = record { shown = []; shows = tt; are = type_adds_none counts }

-- some records, and then others
counts_both : (a b c : TypeCounts) (rs qs : List TimedRecord) → CountsMessages a rs b
    → CountsMessages b qs c → CountsMessages a (rs ++ qs) c
counts_both a b c rs qs x y = record {
  shown = x.shown ++ y.shown;
  shows = brings_more rs qs x.shown y.shown x.shows y.shows;
  are = type_adds_more a b c x.shown y.shown x.are y.are;
}

pub type_counts_more : (span : TimeSpan) (a b c : TypeCounts) (rs qs : List TimedRecord)
    → CountsRecords span a rs b → CountsRecords span b qs c → CountsRecords span a (rs ++ qs) c
type_counts_more span a b c rs qs x y =
    subst (λ (records : List TimedRecord). CountsMessages a records c)
    (sym (filter-append (λ (r : TimedRecord). is_in_span span r.time) rs qs))
    (counts_both a b c (records_in span rs) (records_in span qs) x y)
