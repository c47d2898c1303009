use Rattle.std.proofs.Common.{◌≡◌, ◌*◌, ◌-◌, replicate, arith, refl}
use Rattle.itch_book.proofs.Stored.{free_slot, stored_none}
use Rattle.itch_book.proofs.buckets.Buckets.new.Goals as goal

pub returns-clause-stored : goal.returns-clause-stored
unfolding free_slot
returns-clause-stored c =
    let b = c.bucket_count-buckets.result in
    let all : c.in_ok-vec.field-0.items ≡ replicate (b * 4) free_slot =
    c.in_ok-vec.ensures.items_if_clones_equal (λ y same. same) in
    rw (all, c.in_ok-new.ensures) (stored_none (b - 1) (b * 4) free_slot refl refl
    (omega (arith, c.bucket_count-buckets.ensures.some))).0

pub returns-clause-none : goal.returns-clause-none
unfolding free_slot
returns-clause-none c =
    let b = c.bucket_count-buckets.result in
    let all : c.in_ok-vec.field-0.items ≡ replicate (b * 4) free_slot =
    c.in_ok-vec.ensures.items_if_clones_equal (λ y same. same) in
    rw (all, c.in_ok-new.ensures) (stored_none (b - 1) (b * 4) free_slot refl refl
    (omega (arith, c.bucket_count-buckets.ensures.some))).1
