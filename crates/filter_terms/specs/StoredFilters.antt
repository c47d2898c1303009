-- What a filter's closure may answer.
use Rattle.std.specs.Prelude.{◌≡◌, Bool}
use Rattle.std.specs.Borrow.{Bor}
use Rattle.feed_types.specs.declared.journal.Notice.{Notice}
use Rattle.filter_terms.specs.declared.terms.Terms.{Terms}
use Rattle.filter_terms.specs.declared.stored_filter.StoredFilter.{StoredFilter}
use Rattle.filter_terms.specs.Boxes.{in_box}
use Rattle.filter_terms.specs.Terms.{meets}

-- the closure may answer so
abbrev pub MayAnswer : {g F m : _} → StoredFilter g F m → Bor Notice → Bool → Type 0
MayAnswer {g} {F} {m} stored notice answer =
    (in_box m).post stored.answers (notice, tt) answer

-- whatever it answers to a notice is whether that meets the terms
abbrev pub AnswersFor : {g F m : _} → Terms → StoredFilter g F m → Type 0
AnswersFor terms stored =
    (notice : Bor Notice) (answer : Bool) → MayAnswer stored notice answer
    → answer ≡ meets terms notice.now
