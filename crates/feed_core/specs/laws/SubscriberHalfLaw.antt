-- The subscriber half: what each subscriber keeps through a run.
use Rattle.std.proofs.Common.{◌≡◌, ℕ, List, [], ◌∷◌, ◌++◌, Some, refl, subst, sym}
use Rattle.std.specs.Prelude.{slice_get}
use Rattle.feed_types.specs.declared.journal.Notice.{Notice}
use Rattle.feed_types.specs.Prefix.{IsPrefix}
use Rattle.journal_book.specs.Wanted.{wanted_of}
use Rattle.journal_book.specs.Changes.{RisesPast}
use Rattle.feed_steps.specs.declared.event.Event.{Event}
use Rattle.feed_steps.specs.declared.event.Done.{Done}
use Rattle.feed_core.specs.Worlds.{Subscriber, World, Setting, new_world}
use Rattle.feed_core.specs.Runs.{IsRun}
use Rattle.feed_core.specs.SubscriberHalf.{SubscriberHalf}
use Rattle.journal_book.specs.Prefixes.{wanted_begin}
use Rattle.journal_book.specs.Rising.{wanted_rise}
use Rattle.feed_steps.specs.laws.Lists.{begins_self, begins_then, begins_drop}
use Rattle.feed_core.specs.laws.Lanes.{Serves, serve_in, serve_out, serve_more}
use Rattle.feed_core.specs.laws.KeptSubscribers.{run_keeps}

rise_front : (n : ℕ) (xs ys : List Notice) → RisesPast n (xs ++ ys) → RisesPast n xs
rise_front n [] ys h = tt
rise_front n (x ∷ xs) ys h = (h.0, rise_front x.number xs ys h.1)

pub subscriber_half : (s : Setting) (events : List Event) (ds : List Done) (w : World)
    → IsRun s (new_world s) events ds w → (id : ℕ) (x : Subscriber)
    → slice_get w.subscribers id ≡ Some x → SubscriberHalf s.symbols w.entries x
subscriber_half s events ds w run id x at =
    let serves = run_keeps s (λ E y. Serves y.lane (wanted_of s.symbols y.terms E)) (record {
      grow =
          λ E e y k. serve_more y.lane (wanted_of s.symbols y.terms E) _
          (wanted_begin s.symbols y.terms E (e ∷ [])) k;
      new =
          λ E terms. record {
            sent =
                record { rest = wanted_of s.symbols terms E; is = refl };
            received = begins_self [];
          };
      offer = λ E y n e k. serve_in y.lane _ n k e;
      dequeue = λ E y n e k. serve_out y.lane _ n k e;
    }) (new_world s) events ds w (λ i y e. absurd cc) run id x at in
    let both : x.lane.received ++ _ ≡ x.lane.sent = begins_drop serves.received in
    let rise = wanted_rise s.symbols x.terms w.entries in
    record {
      dequeued = begins_then serves.received serves.sent;
      queued =
          subst (λ (l : List Notice). IsPrefix l (wanted_of s.symbols x.terms w.entries)) (sym both)
          serves.sent;
      once =
          subst (λ (l : List Notice). RisesPast 0 l) (sym both)
          (rise_front 0 x.lane.sent serves.sent.rest
          (subst (λ (l : List Notice). RisesPast 0 l) serves.sent.is rise));
    }
