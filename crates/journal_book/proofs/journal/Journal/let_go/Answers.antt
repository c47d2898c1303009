use Rattle.std.proofs.Common.{◌≡◌, ◌≤◌, ◌<◌, ◌+◌, ◌∙◌, Option, Some, ℕ, List, subst, refl, length, arith}
use Rattle.std.specs.Vec.{vec_capacity}
use Rattle.feed_types.specs.declared.journal.Notice.{Notice}
use Rattle.journal_book.specs.Changes.{changes_of}
use Rattle.journal_book.specs.Keeping.{Keeps}
use Rattle.journal_book.specs.Slowest.{slowest}
use Rattle.journal_book.proofs.CursorMoving.{slowest_within}
use Rattle.journal_book.proofs.LettingGo.{few_enough, lets_go, is_behind}
use Rattle.journal_book.proofs.journal.Journal.let_go.Goals.{After-slowest-first}
use Rattle.journal_book.proofs.journal.Journal.let_go.Goals as goal

abbrev all : After-slowest-first → List Notice
all c = changes_of c.self.inside.numbered.symbols c.self.inside.numbered.entries

-- how many changes the slowest subscriber has looked at
now_is : (c : After-slowest-first) → c.slowest-first.result ≡ slowest (length (all c))
    c.self.inside.cursors.items
now_is c = c.slowest-first.ensures
    ∙ (λ i. slowest (c.change_count-end.ensures.value i) (c.as_slice.ensures.value i))

few : (c : After-slowest-first) → c.self.inside.most ≡ Some c.args.kept
few c = rw (← c.self.view_is) at c.requires.few

keeps : (c : After-slowest-first) → Keeps c.self.inside.numbered c.self.inside.counted
    (Some c.args.kept) c.self.inside.entries.items (vec_capacity c.self.inside.entries)
    c.self.inside.first c.self.inside.notices.items (vec_capacity c.self.inside.notices)
    c.self.inside.cursors.items
keeps c = subst (λ (o : Option ℕ). Keeps c.self.inside.numbered c.self.inside.counted o
    c.self.inside.entries.items (vec_capacity c.self.inside.entries)
    c.self.inside.first c.self.inside.notices.items (vec_capacity c.self.inside.notices)
    c.self.inside.cursors.items) (few c) c.self.invariant

pub overflow_sub-end : goal.overflow_sub-end
overflow_sub-end c =
    let within : slowest (length (all c)) c.self.inside.cursors.items ≤ length (all c) =
    slowest_within (length (all c)) c.self.inside.cursors.items in
    let is : c.slowest-first.result ≡ slowest (length (all c)) c.self.inside.cursors.items =
    now_is c in
    omega (arith, c.change_count-end.ensures.value)

pub returns-then-end-first : goal.returns-then-end-first
returns-then-end-first c =
    let d = (goal.at.returns-then-end-first c).After-slowest-first in
    let is : c.slowest-first.result ≡ slowest (length (all d)) c.self.inside.cursors.items =
    now_is d in
    let within : slowest (length (all d)) c.self.inside.cursors.items ≤ length (all d) =
    slowest_within (length (all d)) c.self.inside.cursors.items in
    let low : slowest (length (all d)) c.self.inside.cursors.items + c.args.kept < length (all d) =
    omega (arith, c.change_count-end.ensures.value, c.if-end-first.true) in (
      c.requires.more,
      refl,
      is_behind c.args.self.now c.args.kept c.requires.few
          (rw (← c.self.view_is) low),
      c.requires.full,
    )

pub drop_front-requires : goal.drop_front-requires
drop_front-requires c =
    let d = (goal.at.drop_front-requires c).After-slowest-first in
    let old = c.self.inside in
    let is : c.slowest-first.result ≡ slowest (length (all d)) old.cursors.items = now_is d in
    let enough : slowest (length (all d)) old.cursors.items ≤ old.first + length old.notices.items =
    few_enough old.numbered old.counted c.args.kept old.first old.entries.items
    (vec_capacity old.entries) old.notices.items (vec_capacity old.notices)
    old.cursors.items (keeps d) in
    omega (arith, old.notices.ok.0)

pub invariant_of-self : goal.invariant_of-self
invariant_of-self c =
    let d = (goal.at.invariant_of-self c).After-slowest-first in
    let old = c.self.inside in
    rw (few d, c.drop_front.ensures.items, c.drop_front.ensures.capacity, now_is d)
    (lets_go old.numbered old.counted c.args.kept old.first old.entries.items
    (vec_capacity old.entries) old.notices.items (vec_capacity old.notices)
    old.cursors.items (keeps d))
